-- The rows of one part of a selection, among those of all its parts.
use Rattle.std.proofs.Common.{◌≡◌, ℕ, List, map, filter, Bool, true, sym, ap, subst, ◌∙◌}
use Rattle.sqlite_value.specs.Order.{Row}
use Rattle.sqlite_rules.specs.Lists.{Has}
use Rattle.sqlite_rules.proofs.ListLemmas.{has_filtered, has_kept}
use Rattle.sql_tables.proofs.Selected.{AreAnswered}
use Rattle.sql_tables.proofs.Steps.{mapped_from, mapped_to}
use Rattle.sql_rows.specs.Lists.{of_part}

-- what is answered with the number of a part is of rows that pass, and each of them is there
pub record AreNumbered (part : ℕ) (test : Row → Bool) (shown : Row → Row) (stored out : List Row)
    : Type 0 where
  pub from : (v : Row) → Has out v → of_part part v ≡ true →
      (r : Row) × Has stored r × (test r ≡ true) × (v ≡ shown r)
  pub to : (r : Row) → Has stored r → test r ≡ true → Has out (shown r)

-- what is behind the number
module _ {X : Type 0} (part : ℕ) (test : Row → Bool) (columns shown : Row → Row)
    (cells behind : X → Row) (cut : Row → Row) (cuts : (x : X) → cut (behind x) ≡ cells x)
    (cuts_shown : (r : Row) → cut (shown r) ≡ columns r)
    (numbered : (r : Row) → of_part part (shown r) ≡ true) (stored out : List Row)
    (p : AreNumbered part test shown stored out) (xs : List X)
    (is : map behind xs ≡ filter (of_part part) out) where
  pub part_answered : AreAnswered test columns stored (map cells xs)
  part_answered = record {
    from = λ v h.
        let it = mapped_from cells xs v h in
        let among = has_filtered (of_part part) out (behind it.0)
        (subst (λ l. Has l (behind it.0)) is (mapped_to behind xs it.0 it.1)) in
        let x = p.from (behind it.0) among.0 among.1 in
        (x.0, x.1, x.2, it.2 ∙ sym (cuts it.0) ∙ ap cut x.3 ∙ cuts_shown x.0);
    to = λ r h e.
        let it = mapped_from behind xs (shown r) (subst (λ l. Has l (shown r)) (sym is)
        (has_kept (of_part part) out (shown r) (p.to r h e) (numbered r))) in
        subst (Has (map cells xs)) (sym (cuts it.0) ∙ ap cut (sym it.2) ∙ cuts_shown r)
        (mapped_to cells xs it.0 it.1);
  }
