use Rattle.std.proofs.Common.{◌≡◌, [], ◌∷◌, ◌++◌, length, sym, ap, ◌∙◌, Some, None}
use Rattle.std.proofs.Common.{rules}
use Rattle.std.specs.Prelude.{position, if◌then◌else◌}
use Rattle.identifiers.specs.Texts.{same_name}
use Rattle.keepers.specs.Change.{kept_after, over}
use Rattle.keepers.specs.Memory.{is_entry, entry_in, rows_of_entry, answer_of_entry}
use Rattle.keepers.specs.Memory.{charges_of_entry}
use Rattle.keepers.proofs.Placed.{place_added, seen_added, count_added}
use Rattle.keepers.proofs.entries.add_entry.Goals as goal

none_there : (c : goal.After-push_reserved) →
    position (is_entry c.args.number) c.args.entries.now.items ≡ None
none_there c = sym (c.requires.placed c.args.number) ∙ c.requires.none

added : (c : goal.After-push_reserved) →
    c.push_reserved.new.self.items ≡ c.args.entries.now.items ++ c.in_ok-entry.entry ∷ []
added c = c.push_reserved.ensures.items
    ∙ ap (λ xs. xs ++ c.in_ok-entry.entry ∷ []) c.in_ok-reserve.ensures.items

pub returns-clause-done : goal.returns-clause-done
returns-clause-done c = record {
  rows = λ a. ap (λ xs. rows_of_entry (entry_in a xs)) (added c)
      ∙ seen_added c.args.number c.args.entries.now.items _
      (none_there c) c.in_ok-entry.ensures.number rows_of_entry
      (over c.args.rows) a c.in_ok-entry.ensures.rows;
  answers = λ a k. ap (λ xs. answer_of_entry k (entry_in a xs)) (added c)
      ∙ seen_added c.args.number c.args.entries.now.items _
      (none_there c) c.in_ok-entry.ensures.number (answer_of_entry k) (kept_after c.args.kept.now k)
      a (c.in_ok-entry.ensures.answers k);
  charges = λ a. ap (λ xs. charges_of_entry (entry_in a xs)) (added c)
      ∙ seen_added c.args.number c.args.entries.now.items _
      (none_there c) c.in_ok-entry.ensures.number charges_of_entry
      (λ rows. rows ++ c.args.charges.now.items) a c.in_ok-entry.ensures.charges;
  count = ap length (added c)
      ∙ count_added c.args.number c.args.entries.now.items _
      (none_there c) c.in_ok-entry.ensures.number;
}

pub returns-clause-places : goal.returns-clause-places
returns-clause-places c = λ a.
    let same : c.in_ok-key.key ≡ c.args.number = search rules in
    let last : c.len.result ≡ length c.args.entries.now.items = search rules in
    c.in_ok-put_place.ensures.done a
    ∙ (λ i. if same_name (same i) a then Some (last i) else c.requires.placed a i)
    ∙ place_added c.args.number a c.args.entries.now.items c.in_ok-entry.entry
    (none_there c) c.in_ok-entry.ensures.number
    ∙ ap (position (is_entry a)) (sym (added c))
