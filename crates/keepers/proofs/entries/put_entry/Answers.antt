use Rattle.std.proofs.Common.{◌≡◌, ◌++◌, sym, ap, ◌∙◌, Some}
use Rattle.std.specs.Prelude.{position}
use Rattle.std.proofs.lemmas.List.{length-set}
use Rattle.keepers.specs.Change.{kept_after, over}
use Rattle.keepers.specs.Parts.{rows_of_parts}
use Rattle.keepers.specs.Memory.{is_entry, rows_of_entry, answer_of_entry, charges_of_entry}
use Rattle.keepers.proofs.Placed.{on_err, seen_written, seen_left, count_written}
use Rattle.keepers.proofs.entries.put_entry.Goals as goal

pub returns-in_err-write_entry-clause-err : goal.returns-in_err-write_entry-clause-err
returns-in_err-write_entry-clause-err c =
    let at : position (is_entry c.args.number) c.args.entries.now.items ≡ Some c.in-Some.place =
    sym (c.requires c.args.number) ∙ sym c.place_of.ensures ∙ c.in-Some.is in
    on_err c.from_residual.result (record {
      rows = λ a. seen_left rows_of_entry c.args.number c.in-Some.place c.args.entries.now.items
          c.index_mut.result.now c.write_entry.new.entry at c.index_mut.ensures.value
          c.write_entry.ensures.number a (ap rows_of_parts c.in_err-write_entry.ensures.err_rows);
      answers = λ a k. seen_left (answer_of_entry k) c.args.number c.in-Some.place
          c.args.entries.now.items c.index_mut.result.now c.write_entry.new.entry at
          c.index_mut.ensures.value c.write_entry.ensures.number a
          (c.in_err-write_entry.ensures.err_answers k);
      charges = λ a. seen_left charges_of_entry c.args.number c.in-Some.place
          c.args.entries.now.items c.index_mut.result.now c.write_entry.new.entry at
          c.index_mut.ensures.value c.write_entry.ensures.number a
          c.in_err-write_entry.ensures.err_charges;
      count = length-set c.args.entries.now.items c.in-Some.place c.write_entry.new.entry;
    })

pub returns-in-Some-clause-done : goal.returns-in-Some-clause-done
returns-in-Some-clause-done c =
    let at : position (is_entry c.args.number) c.args.entries.now.items ≡ Some c.in-Some.place =
    sym (c.requires c.args.number) ∙ sym c.place_of.ensures ∙ c.in-Some.is in
    record {
      rows = λ a. seen_written rows_of_entry c.args.number c.in-Some.place
          c.args.entries.now.items c.index_mut.result.now c.write_entry.new.entry at
          c.index_mut.ensures.value c.write_entry.ensures.number (over c.args.rows) a
          c.in_ok-write_entry.ensures.rows;
      answers = λ a k. seen_written (answer_of_entry k) c.args.number c.in-Some.place
          c.args.entries.now.items c.index_mut.result.now c.write_entry.new.entry at
          c.index_mut.ensures.value c.write_entry.ensures.number (kept_after c.args.kept.now k) a
          (c.in_ok-write_entry.ensures.answers k);
      charges = λ a. seen_written charges_of_entry c.args.number c.in-Some.place
          c.args.entries.now.items c.index_mut.result.now c.write_entry.new.entry at
          c.index_mut.ensures.value c.write_entry.ensures.number
          (λ rows. rows ++ c.args.charges.now.items) a c.in_ok-write_entry.ensures.charges;
      count = count_written c.args.number c.in-Some.place c.args.entries.now.items
          c.write_entry.new.entry at;
    }
