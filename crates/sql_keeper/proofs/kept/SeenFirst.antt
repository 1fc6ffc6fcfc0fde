-- What the first selection of a load gave, as it is remembered.
use Rattle.std.proofs.Common.{◌≡◌, ℕ, Bool, true, false, List, Option, Some, None, refl, sym, subst}
use Rattle.std.proofs.Common.{◌∙◌}
use Rattle.std.specs.Prelude.{◌==◌, ◌&&◌, ◌||◌, not, IfSome}
use Rattle.sqlite_trees.specs.Tree.{Trees}
use Rattle.reserving.proofs.Keys.{first_true, same_number, second_true}
use Rattle.reserving.proofs.Lists.{no_some, not_both}
use Rattle.reserving.specs.declared.session.Counter.{Counter}
use Rattle.sql_tables.specs.Keyed.{same_name}
use Rattle.sql_rows.specs.Content.{TableRows, rows_in}
use Rattle.sql_rows.specs.Lists.{AreCountersIn}
use Rattle.sql_rows.specs.declared.head_counter_rows.HeadCycles.{HeadCycles}
use Rattle.sql_keeper.specs.Seen.{IsFirstAlone, IsSeen, IsSeenFirst, Sees}
use Rattle.sql_keeper.specs.SeenFirst.{are_covered, IsCopied, IsFirstRead}
use Rattle.sql_keeper.specs.declared.seen.SeenAccount.{SeenAccount}
use Rattle.sql_keeper.specs.declared.seen_first.AskedCycles.{AskedCycles}
use Rattle.sql_keeper.specs.declared.seen_first.SeenFirst.{SeenFirst}
use Rattle.sql_keeper.proofs.puts.Overlays.{name_from}

-- ---- what was read is what is asked for

-- counters of one cycle are those of another that is the same
same_cycle : (r : TableRows) (was k : ℕ) (xs : List Counter) → was ≡ k → AreCountersIn was r xs
    → AreCountersIn k r xs
same_cycle r was k xs e = subst (λ n. AreCountersIn n r xs) e

-- those of the day and of the month are the same
abbrev are_dated : AskedCycles → AskedCycles → Bool
are_dated was k = was.day == k.day && was.month == k.month

abbrev has_dates_of : AskedCycles → AskedCycles → Bool
has_dates_of was k = was.has_dates && are_dated was k

-- where these are asked for, they were
dates_covered : (was k : AskedCycles) → k.has_dates ≡ true
    → (not k.has_dates || has_dates_of was k) ≡ true → has_dates_of was k ≡ true
dates_covered was k asked e = go k.has_dates asked e
  where
    go : (t : Bool) → t ≡ true → (not t || has_dates_of was k) ≡ true → has_dates_of was k ≡ true
    go true f h = h
    go false f h = absurd (not_both f)

-- rule: database-loads.first
pub covered : (was k : AskedCycles) (r : TableRows) (x : HeadCycles) → are_covered was k ≡ true
    → IsFirstRead was r x → IsFirstRead k r x
covered was k r x e read = record {
  head = read.head;
  never = same_cycle r was.never k.never x.never.items (same_number was.never k.never
      (first_true (was.never == k.never) (not k.has_dates || has_dates_of was k) e)) read.never;
  daily = λ asked. same_cycle r was.day k.day x.daily.items (same_number was.day k.day
      (first_true (was.day == k.day) (was.month == k.month) (same asked))) (read.daily (had asked));
  monthly = λ asked. same_cycle r was.month k.month x.monthly.items
      (same_number was.month k.month
      (second_true (was.day == k.day) (was.month == k.month) (same asked)))
      (read.monthly (had asked));
}
  where
    these : k.has_dates ≡ true → has_dates_of was k ≡ true
    these asked = dates_covered was k asked
        (second_true (was.never == k.never) (not k.has_dates || has_dates_of was k) e)

    same : k.has_dates ≡ true → are_dated was k ≡ true
    same asked = second_true was.has_dates (are_dated was k) (these asked)

    had : k.has_dates ≡ true → was.has_dates ≡ true
    had asked = first_true was.has_dates (are_dated was k) (these asked)

-- so is a copy of it
pub first_copied : (k : AskedCycles) (r : TableRows) (x y : HeadCycles) → IsCopied x y
    → IsFirstRead k r x → IsFirstRead k r y
first_copied k r x y same read = record {
  head = same.head ∙ read.head;
  never = subst (AreCountersIn k.never r) (sym same.never) read.never;
  daily = λ asked. subst (AreCountersIn k.day r) (sym same.daily) (read.daily asked);
  monthly = λ asked. subst (AreCountersIn k.month r) (sym same.monthly) (read.monthly asked);
}

pub copy_covered : (was k : AskedCycles) (r : TableRows) (x : HeadCycles) (o : Option HeadCycles)
    → true ≡ are_covered was k → IfSome o (IsCopied x) → IsFirstRead was r x
    → IfSome o (IsFirstRead k r)
copy_covered was k r x None e same read = tt
copy_covered was k r x (Some y) e same read =
    first_copied k r x y same (covered was k r x (sym e) read)

-- of counters that never begin again alone
pub never_read : (k : AskedCycles) (r : TableRows) (x : HeadCycles) → k.has_dates ≡ false
    → (x.head ≡ r.head) × AreCountersIn k.never r x.never.items → IsFirstRead k r x
never_read k r x none read = record {
  head = read.0;
  never = read.1;
  daily = λ asked. absurd (not_both (sym none ∙ asked));
  monthly = λ asked. absurd (not_both (sym none ∙ asked));
}

-- ---- what is seen with it

-- rule: database-loads.first
pub first_held : (r : TableRows) (x : SeenAccount) (f : SeenFirst) → x.first ≡ Some f
    → IsFirstRead f.asked r f.read
    → IfSome x.first (λ (y : SeenFirst). IsFirstRead y.asked r y.read)
first_held r x f e read =
    subst (λ o. IfSome o (λ (y : SeenFirst). IsFirstRead y.asked r y.read)) (sym e) read

-- of an account of which nothing else is seen
pub first_alone : (a : List ℕ) (f : SeenFirst) (o : Option SeenAccount)
    → IfSome o (IsFirstAlone a f) → (trees : Trees) → IsFirstRead f.asked (rows_in trees a) f.read
    → Sees o trees
first_alone a f None h trees read = tt
first_alone a f (Some x) h trees read =
    subst (λ b. IsSeen (rows_in trees b) x) (sym h.account) (record {
      head = λ k e. absurd (no_some k (sym h.head ∙ e));
      live = λ z e. absurd (no_some z (sym h.live ∙ e));
      grant = λ z y e g. absurd (no_some y (sym h.grant ∙ g));
      unknown = λ z e. absurd (no_some z (sym h.unknown ∙ e));
      first = first_held (rows_in trees a) x f h.first read;
    })

-- beside what else is seen of the account
pub first_beside : (x y : SeenAccount) (a : List ℕ) (f : SeenFirst) → IsSeenFirst f x y
    → true ≡ same_name x.account a → (trees : Trees) → IsSeen (rows_in trees x.account) x
    → IsFirstRead f.asked (rows_in trees a) f.read → IsSeen (rows_in trees y.account) y
first_beside x y a f w same trees seen read =
    let here : x.account ≡ a = name_from x.account a (sym same) in
    subst (λ b. IsSeen (rows_in trees b) y) (sym w.account) (record {
      head = λ k e. seen.head k (sym w.head ∙ e);
      live = λ z e. seen.live z (sym w.live ∙ e);
      grant = λ z v e g. seen.grant z v (sym w.live ∙ e) (sym w.grant ∙ g);
      unknown = λ z e. seen.unknown z (sym w.unknown ∙ e);
      first = first_held (rows_in trees x.account) y f w.first
          (subst (λ b. IsFirstRead f.asked (rows_in trees b) f.read) (sym here) read);
    })
