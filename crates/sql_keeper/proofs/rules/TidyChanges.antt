-- What a change, a voucher and a book more leave of tables in which no row is without a meaning.
use Rattle.std.proofs.Common.{◌≡◌, inl, inr, ◌∙◌, ◌++◌, ℕ, zero, suc, Bool, true, false, List, []}
use Rattle.std.proofs.Common.{◌∷◌, Option, Some, None, refl, sym, ap}
use Rattle.std.specs.Prelude.{is_some, nat_le, slice_get, unwrap_or}
use Rattle.std.proofs.lemmas.Bool.{and_parts}
use Rattle.tariffs.specs.Names.{period_named}
use Rattle.voucher_rules.specs.declared.terms.VoucherTerms.{VoucherTerms}
use Rattle.reserving.specs.Left.{first_of, is_open_row}
use Rattle.reserving.specs.Sessions.{session_in}
use Rattle.reserving.specs.Stored.{StoredRows}
use Rattle.keepers.specs.declared.loaded.Change.{Change}
use Rattle.keepers.specs.Naming.{IsNamed}
use Rattle.sql_rows.specs.Values.{Group, Kept, Meta, PeriodNames}
use Rattle.sql_rows.specs.Content.{TablesContent, TableRows}
use Rattle.sql_keeper.specs.AddsBook.{with_dated}
use Rattle.sql_keeper.specs.Additions.{with_addition}
use Rattle.sql_keeper.specs.Content.{Names, book_in, is_reserved, names_numbered}
use Rattle.sql_keeper.specs.RuledRows.{are_timely_charges, are_timely_rows, are_timely_sessions}
use Rattle.sql_keeper.specs.RuledRows.{is_ruled_change, is_timely_change}
use Rattle.sql_keeper.specs.Tests.{AreSettled, MayBeMade}
use Rattle.sql_keeper.specs.Tidy.{AreTidyRows, EndsTidy, IsTidy, are_terms}
use Rattle.sql_keeper.specs.Tidy.{has_terms}
use Rattle.sql_keeper.specs.Writes.{AreTexts, meta_at, with_change}
use Rattle.sql_keeper.proofs.commits.Changed.{keyed_named, open_named, settled_each}
use Rattle.sql_keeper.proofs.puts.Overlays.{not_both}
use Rattle.sql_keeper.proofs.rules.Tidy.{AreAllBeside, beside_written, may_be_over, tidy_meta}
use Rattle.sql_keeper.proofs.rules.Tidy.{tidy_written}

-- ---- a change

-- of a session that is ended each group is written that has a reservation
pub ends_settled : (w : StoredRows) (r : TableRows) → AreSettled w.sessions w.groups r →
    EndsTidy w r
ends_settled w r settled s g none = at (r.groups s g) refl
  where
    at : (o : Option Group) → r.groups s g ≡ o → is_reserved o ≡ true
        → is_open_row (r.sessions s) ≡ true
        → is_open_row (first_of (session_in s w.sessions) (r.sessions s)) ≡ true
    at None e reserved on = not_both (sym reserved)
    at (Some y) e reserved on = elim (settled s g y e none) [
      | inl same ↦ same ∙ on
      | inr free ↦ not_both (sym reserved ∙ ap is_some free)
    ]

-- no session that is named was touched after the account's moment
pub timely_named : (names : Names) (change : Change) → is_ruled_change names change ≡ true →
    are_timely_sessions change.rows.as_of change.rows.sessions ≡ true
timely_named names change rule =
    let times = and_parts (are_timely_rows change.moment change.rows)
    (are_timely_charges change.rows.as_of change.charges.items)
    (and_parts _ (is_timely_change change) rule).1 in
    (and_parts (nat_le change.rows.as_of change.moment)
    (are_timely_sessions change.rows.as_of change.rows.sessions) times.0).1

-- rule: tidy-rows
pub tidy_change : (names : Names) (m : Meta) (change : Change) (texts : Option Kept)
    (c : TablesContent)
    → IsNamed change.rows → MayBeMade names change (c.rows change.number)
    → AreTexts change.number change.kept texts → IsTidy names c
    → IsTidy names (with_change names m change texts c)
tidy_change names m change texts c named may told t =
    tidy_written names change.number change.rows change.charges.items change.kept texts
    change.redeemed m c change.rows.sessions (keyed_named change.rows named) may.reservations
    may.numbers told
    (ends_settled change.rows (c.rows change.number)
    (settled_each change.rows.sessions change.rows.groups (c.rows change.number) may.settled))
    (may_be_over names change.number change.rows change.charges.items change.kept texts
    change.redeemed m c change.rows.sessions (keyed_named change.rows named) may.reservations
    may.numbers told may.buckets may.moment (timely_named names change may.ruled)
    (open_named change.rows.sessions (c.rows change.number))) t

-- rule: rows-ruled.beside
pub beside_change : (names : Names) (m : Meta) (change : Change) (texts : Option Kept)
    (c : TablesContent)
    → IsNamed change.rows → MayBeMade names change (c.rows change.number)
    → AreTexts change.number change.kept texts → AreAllBeside c
    → AreAllBeside (with_change names m change texts c)
beside_change names m change texts c named may told t =
    beside_written names change.number change.rows change.charges.items change.kept texts
    change.redeemed m c change.rows.sessions (keyed_named change.rows named) may.reservations
    may.numbers told
    (ends_settled change.rows (c.rows change.number)
    (settled_each change.rows.sessions change.rows.groups (c.rows change.number) may.settled))
    (may_be_over names change.number change.rows change.charges.items change.kept texts
    change.redeemed m c change.rows.sessions (keyed_named change.rows named) may.reservations
    may.numbers told may.buckets may.moment (timely_named names change may.ruled)
    (open_named change.rows.sessions (c.rows change.number))) t

-- ---- a voucher

-- rule: tidy-rows
pub tidy_addition : (names : Names) (text code : List ℕ) (terms : VoucherTerms) (t : ℕ)
    (c : TablesContent) → IsTidy names c → IsTidy names (with_addition text code terms t c)
tidy_addition names text code terms t c tidy =
    let m = tidy_meta names (meta_at text t) c tidy in
    record { there = m.there; once = m.once; rows = m.rows }

-- ---- a book more

-- what holds of the names of a book holds of them once there is a book more
still_named : (f : List (List ℕ) → Bool) → f [] ≡ false → (names : Names) (more : List (List ℕ))
    (n : ℕ) → f (names_numbered names n) ≡ true
    → f (names_numbered (names ++ more ∷ []) n) ≡ true
still_named f none names more zero k = not_both (sym k ∙ none)
still_named f none names more (suc i) k = at names i k
  where
    at : (xs : Names) (i : ℕ) → f (unwrap_or (slice_get xs i) []) ≡ true →
        f (unwrap_or (slice_get (xs ++ more ∷ []) i) []) ≡ true
    at [] zero k = not_both (sym k ∙ none)
    at [] (suc i) k = not_both (sym k ∙ none)
    at (x ∷ xs) zero k = k
    at (x ∷ xs) (suc i) k = at xs i k

terms_still : (names : Names) (more : List (List ℕ)) (book : Option ℕ) (o : Option Group)
    → has_terms names book o ≡ true → has_terms (names ++ more ∷ []) book o ≡ true
terms_still names more book None k = refl
terms_still names more book (Some x) k = at x.periods k
  where
    named : (p : List ℕ)
        → is_some (period_named (names_numbered names (book_in book)) p) ≡ true
        → is_some (period_named (names_numbered (names ++ more ∷ []) (book_in book)) p) ≡ true
    named p = still_named (λ q. is_some (period_named q p)) refl names more (book_in book)

    at : (o : Option PeriodNames) → are_terms names book o ≡ true →
        are_terms (names ++ more ∷ []) book o ≡ true
    at None k = refl
    at (Some p) k =
        let own = names_numbered names (book_in book) in
        let parts =
        and_parts (is_some (period_named own p.before)) (is_some (period_named own p.after)) k in
        rw (named p.before parts.0, named p.after parts.1) refl

-- rule: tidy-rows
pub tidy_dated : (names : Names) (more : List (List ℕ)) (n from : ℕ) (text : List ℕ)
    (c : TablesContent)
    → IsTidy names c → IsTidy (names ++ more ∷ []) (with_dated n from text c)
tidy_dated names more n from text c t = record {
  there = t.there;
  once = t.once;
  rows = λ a.
      let own : AreTidyRows names a (c.rows a) = t.rows a in
      record {
        beside = own.beside;
        terms = λ s g. terms_still names more ((c.rows a).grant_books s g) ((c.rows a).groups s g)
            (own.terms s g);
        books = own.books;
        holds = own.holds;
        kinds = own.kinds;
        covered = own.covered;
        texts = own.texts;
      };
}
