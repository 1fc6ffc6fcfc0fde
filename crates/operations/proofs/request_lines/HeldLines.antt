-- What a stop leaves of lines that are answered: tables of a beginning of the commands.
use Rattle.std.proofs.Common.{◌≡◌, ◌+◌, ◌≤◌, ℕ, zero, suc, List, [], ◌∷◌, ◌++◌, length, take}
use Rattle.std.proofs.Common.{refl, sym, ap, subst, ◌∙◌, arith, Option, Some, None, IfSome, map}
use Rattle.std.proofs.lemmas.List.{length-append, take-append-le}
use Rattle.std.proofs.Math.Seq.{take-length, take-append-add}
use Rattle.texts.specs.Lines.{lines_of}
use Rattle.commands.specs.declared.answer.Answer.{Answer}
use Rattle.shelves.specs.Shelves.{Shelf}
use Rattle.keepers.specs.Tables.{Tables}
use Rattle.charging.specs.Accepted.{Accepted, IsInTime}
use Rattle.charging.specs.Runs.{AreHeld, IsHeld, IsRun, Runs, after_commands}
use Rattle.charging.specs.Served.{AreTables}
use Rattle.charging.specs.declared.running.DatedCommand.{DatedCommand}
use Rattle.charging.proofs.runs.RunLemmas.{commands_after}
use Rattle.operations.specs.Imports.{HoldsBeginning, IsBeginningHeld}
use Rattle.operations.specs.declared.line_input.Input.{Input}
use Rattle.operations.specs.LineInput.{IsInput}
use Rattle.operations.specs.Lines.{line_request}
use Rattle.operations.specs.LinesServed.{commands_of, opening_for}

-- so many of them, or all
taken : (n : ℕ) (ds : List DatedCommand) → (k : ℕ) × (k ≤ length ds) × (take n ds ≡ take k ds)
taken zero ds = (0, omega arith, refl)
taken (suc n) [] = (0, omega arith, refl)
taken (suc n) (d ∷ ds) =
    let k = taken n ds in
    (suc k.0, omega (arith, k.1), ap (λ (l : List DatedCommand). d ∷ l) k.2)

module _ (b : Shelf) (old held : Tables) where
  held-some : (commands : List DatedCommand) (given : List Answer) →
      AreHeld b commands old given held → HoldsBeginning b commands old held
  held-some commands given holds = λ list time is.
      let at : IsHeld b list commands given held = holds list time is in
      let k = taken at.count commands in
      record {
        count = k.0;
        few = k.1;
        tables = subst (λ (ds : List DatedCommand). AreTables b (after_commands b list ds) held)
            k.2 at.tables;
      }

  -- it stopped before the requests
  pub held-opening : (opening requests : List DatedCommand) (given : List Answer) →
      AreHeld b opening old given held → HoldsBeginning b (opening ++ requests) old held
  held-opening opening requests given holds = λ list time is.
      let at : IsBeginningHeld b list opening held = held-some opening given holds list time is in
      record {
        count = at.count;
        few = omega (arith, at.few, length-append opening requests);
        tables = subst (λ (ds : List DatedCommand). AreTables b (after_commands b list ds) held)
            (sym (take-append-le at.count opening requests at.few)) at.tables;
      }

  -- it came to the requests
  pub held-requests : (mid : Tables) (opening requests : List DatedCommand)
      (before given : List Answer) → length before ≡ length opening →
      Runs b opening old mid before → AreHeld b requests mid given held →
      HoldsBeginning b (opening ++ requests) old held
  held-requests mid opening requests before given all runs holds = λ list time is.
      let run : IsRun b list opening mid before = runs list time is in
      let opened : take (length before) opening ≡ opening = ap (λ n. take n opening) all
      ∙ take-length opening in
      let after : List Accepted = after_commands b list opening in
      let at : IsHeld b after requests given held =
      holds after
      (subst (λ (cs : List DatedCommand). IsInTime (after_commands b list cs)) opened run.time)
      (subst (λ (cs : List DatedCommand). AreTables b (after_commands b list cs) mid) opened
      run.tables) in
      let k = taken at.count requests in
      let begun : take (length opening + k.0) (opening ++ requests) ≡ opening ++ take k.0 requests =
      take-append-add opening requests k.0 in
      let list_is : after_commands b list (take (length opening + k.0) (opening ++ requests))
      ≡ after_commands b after (take k.0 requests) =
      ap (after_commands b list) begun ∙ commands_after b list opening (take k.0 requests) in
      record {
        count = length opening + k.0;
        few = omega (arith, k.1, length-append opening requests);
        tables = subst (λ (l : List Accepted). AreTables b l held) (sym list_is)
            (subst (λ (ds : List DatedCommand). AreTables b (after_commands b after ds) held) k.2
            at.tables);
      }

  -- the commands are a stream's
  pub held-stream : (amount : Option ℕ) (input : Input) (opening : List DatedCommand)
      (r : Option (List ℕ)) →
      IfSome r (λ stream. IsInput (map line_request (lines_of stream)) input) →
      opening ≡ opening_for amount input.requests.items →
      HoldsBeginning b (opening ++ input.requests.items) old held →
      IfSome r (λ stream. HoldsBeginning b (commands_of amount stream) old held)
  held-stream amount input opening None h opened holds = tt
  held-stream amount input opening (Some stream) h opened holds =
      subst (λ (rs : List DatedCommand).
      HoldsBeginning b (opening_for amount rs ++ rs) old held) h.requests
      (subst (λ (os : List DatedCommand).
      HoldsBeginning b (os ++ input.requests.items) old held) opened holds)
