-- Rows of which no rowid comes twice.
use Rattle.std.proofs.Common.{◌≡◌, inl, inr, List, [], ◌∷◌, filter, Bool, true, false}
use Rattle.std.proofs.Common.{Ordering, Less, Equal, Greater, is_eq, IsTrue, refl, sym, ap, ◌∙◌}
use Rattle.std.proofs.lemmas.Bool.{or_parts}
use Rattle.std.proofs.lemmas.Cmp.{tied_back}
use Rattle.std.specs.List.{AllByRecursion}
use Rattle.sqlite_value.specs.Order.{Row, value_cmp}
use Rattle.sqlite_value.proofs.OrderLemmas.{value_cmp_total}
use Rattle.sqlite_trees.specs.Tree.{rowid, put_row, IsAscending}
use Rattle.sqlite_trees.specs.View.{is_int}
use Rattle.sqlite_trees.proofs.ListLemmas.{all-filter, ascending-filter}
use Rattle.sqlite_trees.proofs.TreeLemmas.{all-put_row}
use Rattle.sqlite_rules.specs.Edit.{is_taken}
use Rattle.sqlite_rules.specs.Lists.{Has}
use Rattle.sqlite_rules.proofs.ListLemmas.{all_has}
use Rattle.sql_tables.specs.Keyed.{IsStored}
use Rattle.sql_tables.proofs.Ties.{equal_is}

abbrev apart : Row → Row → Bool
apart a b = is_eq (value_cmp (rowid a) (rowid b))

apart_back : (a b : Row) → apart a b ≡ false → apart b a ≡ false
apart_back a b h = go (apart b a) refl
  where
    go : (c : Bool) → apart b a ≡ c → apart b a ≡ false
    go false e = e
    go true e = absurd (let back : apart a b ≡ true =
        ap is_eq (tied_back value_cmp_total (rowid b) (rowid a)
        (equal_is _ e)) in let e' : true ≡ false = sym back ∙ h in cc)

pub stored_filter : (p : Row → Bool) (rows : List Row) → IsStored rows → IsStored (filter p rows)
stored_filter p rows h = (ascending-filter _ p rows h.0, all-filter _ p rows h.1)

distinct_put : (new : Row) (rows : List Row) → is_taken rows new ≡ false →
    IsAscending (λ a b. apart a b ≡ false)
    rows → IsAscending (λ a b. apart a b ≡ false) (put_row new rows)
distinct_put new [] free h = (tt, tt)
distinct_put new (r ∷ rows) free h = go (value_cmp (rowid r) (rowid new)) refl
    (distinct_put new rows (or_parts _ _ free).1 h.1)
  where
    all_apart : (xs : List Row) → is_taken xs new ≡ false →
        AllByRecursion (λ x. apart new x ≡ false) xs
    all_apart [] f = tt
    all_apart (x ∷ xs) f = (apart_back x new (or_parts _ _ f).0, all_apart xs (or_parts _ _ f).1)

    go : (o : Ordering) → value_cmp (rowid r) (rowid new) ≡ o →
        IsAscending (λ a b. apart a b ≡ false)
        (put_row new rows) → IsAscending (λ a b. apart a b ≡ false) (put_row new (r ∷ rows))
    go Less e later = rw e (all-put_row _ new rows (ap is_eq e) h.0, later)
    go Equal e later =
        absurd (let taken : true ≡ false = sym (ap is_eq e) ∙ (or_parts _ _ free).0 in cc)
    go Greater e later =
        rw e ((apart_back r new (ap is_eq e), all_apart rows (or_parts _ _ free).1), h)

pub stored_put : (new : Row) (rows : List Row) → IsTrue (is_int (rowid new)) →
    is_taken rows new ≡ false → IsStored rows → IsStored (put_row new rows)
stored_put new rows int free h = (distinct_put new rows free h.0, all-put_row _ new rows int h.1)

pub same_row : (rows : List Row) (a b : Row) → IsAscending (λ a b. apart a b ≡ false) rows
    → Has rows a → Has rows b → apart a b ≡ true → a ≡ b
same_row [] a b up h k tie = absurd h
same_row (r ∷ rows) a b up (inl h) (inl k) tie = h ∙ sym k
same_row (r ∷ rows) a b up (inl h) (inr k) tie =
    absurd (let e : true ≡ false = sym tie ∙ ap (λ x. apart x b) h ∙
    all_has _ rows b up.0 k in cc)
same_row (r ∷ rows) a b up (inr h) (inl k) tie =
    absurd (let e : true ≡ false = sym tie ∙ ap (apart a) k ∙
    apart_back r a (all_has _ rows a up.0 h) in cc)
same_row (r ∷ rows) a b up (inr h) (inr k) tie = same_row rows a b up.1 h k tie
