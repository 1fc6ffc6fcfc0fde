-- What a run of a stream's commands leaves, and what is written of it.
use Rattle.std.proofs.Common.{◌≡◌, ℕ, zero, suc, List, [], ◌∷◌, ◌++◌, map, length, take, drop, refl}
use Rattle.std.proofs.Common.{sym, ap, subst, ◌∙◌, Option, Some, None, IfSome, IfNone, ◌+◌, ◌<◌}
use Rattle.std.proofs.Common.{◌≤◌, arith}
use Rattle.std.proofs.lemmas.List.{drop_all, length-append, take-append-le}
use Rattle.std.proofs.lemmas.Bool.{false≢true}
use Rattle.std.proofs.lemmas.Option.{none-some}
use Rattle.std.proofs.Math.Seq.{take-length, take-append-add, drop-append_seam}
use Rattle.std.specs.Prelude.{true, false, is_some}
use Rattle.std.specs.Io.KnownBytes.{Appends}
use Rattle.texts.specs.Lines.{lines_of}
use Rattle.commands.specs.declared.answer.Answer.{Answer}
use Rattle.shelves.specs.Shelves.{Shelf}
use Rattle.keepers.specs.Tables.{Tables}
use Rattle.charging.specs.Accepted.{Accepted, IsInTime}
use Rattle.charging.specs.Continued.{ForEachList, IsContinued}
use Rattle.charging.specs.declared.running.DatedCommand.{DatedCommand}
use Rattle.charging.specs.Served.{AreTables, answer_to, moment_of}
use Rattle.charging.specs.Runs.{after_command, answers_to, after_commands, IsRun, Runs}
use Rattle.charging.proofs.runs.RunLemmas.{commands_after}
use Rattle.operations.specs.declared.line_input.Input.{Input}
use Rattle.operations.specs.Lines.{line_request}
use Rattle.operations.specs.LinesServed.{requests_in, opening_for, opening_in, commands_of}
use Rattle.operations.specs.LinesServed.{faults_in, answer_texts, lines_text, lines_text_to}
use Rattle.operations.specs.LinesServed.{AreLinesAnswered, AreLinesStopped, AreLinesBegun}
use Rattle.operations.specs.LinesServed.{IsRunOpened, AreLinesUntold}
use Rattle.operations.specs.LineInput.{kept_fault, IsInput}
use Rattle.operations.specs.Written.{WritesBeginning}
use Rattle.operations.proofs.Beginnings.{nothing_written, beginning_before}
use Rattle.operations.proofs.request_lines.Texts.{texts_taken}

-- ---- commands one after another

answers_after : (b : Shelf) (list : List Accepted) (xs ys : List DatedCommand) →
    answers_to b list (xs ++ ys)
    ≡ answers_to b list xs ++ answers_to b (after_commands b list xs) ys
answers_after b list [] ys = refl
answers_after b list (x ∷ xs) ys =
    ap (λ (l : List Answer). answer_to b list x.command (moment_of list x.moment) ∷ l)
    (answers_after b (after_command b list x) xs ys)

answers_count : (b : Shelf) (list : List Accepted) (ds : List DatedCommand) →
    length (answers_to b list ds) ≡ length ds
answers_count b list [] = refl
answers_count b list (d ∷ ds) = ap suc (answers_count b (after_command b list d) ds)

-- the answers to a beginning of the commands are a beginning of the answers
answers_taken : (b : Shelf) (list : List Accepted) (ds : List DatedCommand) (n : ℕ) →
    answers_to b list (take n ds) ≡ take n (answers_to b list ds)
answers_taken b list ds zero = refl
answers_taken b list [] (suc n) = refl
answers_taken b list (d ∷ ds) (suc n) =
    ap (λ (l : List Answer). answer_to b list d.command (moment_of list d.moment) ∷ l)
    (answers_taken b (after_command b list d) ds n)

-- ---- what opens an account, and then requests

pub no_none : {F : Type 0} (P : Type 0) (fault : Option F) → is_some fault ≡ true → IfNone fault P
no_none P (Some f) some = tt
no_none P None some = absurd (false≢true some)

pub where_none : {F : Type 0} (P : Type 0) (fault : Option F) → is_some fault ≡ false →
    IfNone fault P → P
where_none P (Some f) none h = absurd (false≢true (sym none))
where_none P None none h = h

stopped_before : {F : Type 0} (fault : Option F) (opening requests : List DatedCommand) (n : ℕ) →
    IfSome fault (λ _. n < length opening) → IfSome fault (λ _. n < length (opening ++ requests))
stopped_before None opening requests n lt = tt
stopped_before (Some f) opening requests n lt =
    let long : length (opening ++ requests) ≡ length opening + length requests =
    length-append opening requests in
    omega (arith, long, lt)

stopped_within : {F : Type 0} (fault : Option F) (opening requests : List DatedCommand) (n : ℕ) →
    IfSome fault (λ _. n < length requests) →
    IfSome fault (λ _. length opening + n < length (opening ++ requests))
stopped_within None opening requests n lt = tt
stopped_within (Some f) opening requests n lt =
    let long : length (opening ++ requests) ≡ length opening + length requests =
    length-append opening requests in
    omega (arith, long, lt)

module _ (b : Shelf) (opening requests : List DatedCommand) where
  -- the run stopped before the requests
  pub opening-stopped : {F : Type 0} (fault : Option F) (given : List Answer) (old new : Tables) →
      is_some fault ≡ true → length given ≤ length opening →
      IfSome fault (λ _. length given < length opening) → Runs b opening old new given →
      ForEachList b old (IsRunOpened b opening requests new [] fault)
  opening-stopped fault given old new some few stopped runs = λ list time tables.
      let run : IsRun b list opening new given = runs list time tables in
      let n = length given in
      let begun : take n (opening ++ requests) ≡ take n opening =
      take-append-le n opening requests few in
      let told : length (answers_to b list (take n opening)) ≤ length opening =
      subst (λ (l : List Answer). length l ≤ length opening) run.answers few in
      record {
        count = n;
        tables = subst (λ (cs : List DatedCommand). AreTables b (after_commands b list cs) new)
            (sym begun) run.tables;
        time = subst (λ (cs : List DatedCommand). IsInTime (after_commands b list cs))
            (sym begun) run.time;
        answers =
            sym (ap (λ (cs : List DatedCommand). drop (length opening) (answers_to b list cs)) begun
            ∙ drop_all (length opening) (answers_to b list (take n opening)) told);
        whole = no_none _ fault some;
        few = stopped_before fault opening requests n stopped;
      }

  all_taken : {F : Type 0} (fault : Option F) (given : List Answer) →
      IfNone fault (length given ≡ length requests) →
      IfNone fault
      (take (length opening + length given) (opening ++ requests) ≡ opening ++ requests)
  all_taken (Some f) given all = tt
  all_taken None given all =
      take-append-add opening requests (length given)
      ∙ ap (λ n. opening ++ take n requests) all
      ∙ ap (λ (l : List DatedCommand). opening ++ l) (take-length requests)

  -- it came to the requests
  pub requests-run : {F : Type 0} (fault : Option F) (before given : List Answer)
      (old mid new : Tables) → length before ≡ length opening → Runs b opening old mid before →
      Runs b requests mid new given → IfNone fault (length given ≡ length requests) →
      IfSome fault (λ _. length given < length requests) →
      ForEachList b old (IsRunOpened b opening requests new given fault)
  requests-run fault before given old mid new all runs later whole stopped = λ list time tables.
      let run : IsRun b list opening mid before = runs list time tables in
      let opened : take (length before) opening ≡ opening = ap (λ n. take n opening) all
      ∙ take-length opening in
      let after : List Accepted = after_commands b list opening in
      let rest : IsRun b after requests new given =
      later after
      (subst (λ (cs : List DatedCommand). IsInTime (after_commands b list cs)) opened run.time)
      (subst (λ (cs : List DatedCommand). AreTables b (after_commands b list cs) mid) opened
      run.tables) in
      let n = length given in
      let begun : take (length opening + n) (opening ++ requests) ≡ opening ++ take n requests =
      take-append-add opening requests n in
      let list_is : after_commands b list (take (length opening + n) (opening ++ requests))
      ≡ after_commands b after (take n requests) =
      ap (after_commands b list) begun ∙ commands_after b list opening (take n requests) in
      let ahead : List Answer = answers_to b list opening in
      let follow : List Answer = answers_to b after (take n requests) in
      let told : drop (length opening)
      (answers_to b list (take (length opening + n) (opening ++ requests))) ≡ follow =
      ap (λ (cs : List DatedCommand). drop (length opening) (answers_to b list cs)) begun
      ∙ ap (drop (length opening)) (answers_after b list opening (take n requests))
      ∙ ap (λ k. drop k (ahead ++ follow)) (sym (answers_count b list opening))
      ∙ drop-append_seam ahead follow in
      record {
        count = length opening + n;
        tables = subst (λ (l : List Accepted). AreTables b l new) (sym list_is) rest.tables;
        time = subst IsInTime (sym list_is) rest.time;
        answers = rest.answers ∙ sym told;
        whole = all_taken fault given whole;
        few = stopped_within fault opening requests n stopped;
      }

-- ---- the list goes on

pub continued-same : (b : Shelf) (tables : Tables) → ForEachList b tables (IsContinued b tables)
continued-same b tables = λ list time h. record { commands = []; tables = h; time = time }

pub continued-run : {F : Type 0} (b : Shelf) (opening requests : List DatedCommand)
    (old new : Tables) (given : List Answer) (fault : Option F) →
    ForEachList b old (IsRunOpened b opening requests new given fault) →
    ForEachList b old (IsContinued b new)
continued-run b opening requests old new given fault runs = λ list time tables.
    let run : IsRunOpened b opening requests new given fault list = runs list time tables in
    record { commands = take run.count (opening ++ requests); tables = run.tables; time = run.time }

-- ---- a stream

module _ (b : Shelf) (amount : Option ℕ) (w0 w1 : Option (List ℕ)) where
  -- before the lines are read
  pub begun-none : (r : Option (List ℕ)) (tables : Tables) →
      IfSome r (λ stream. ForEachList b tables (AreLinesBegun b amount stream w0 w0 tables))
  begun-none None tables = tt
  begun-none (Some stream) tables = λ list time h. record {
    count = 0;
    tables = h;
    written = nothing_written w0 (lines_text_to 0 b list amount stream);
  }

  module _ {F : Type 0} (input : Input) (opening : List DatedCommand) (given : List Answer)
      (fault : Option F) (old new : Tables) where
    -- the commands of the stream were run
    run_in : (stream : List ℕ) → IsInput (map line_request (lines_of stream)) input →
        opening ≡ opening_for amount input.requests.items →
        ForEachList b old (IsRunOpened b opening input.requests.items new given fault) →
        ForEachList b old
        (IsRunOpened b (opening_in amount stream) (requests_in stream) new given fault)
    run_in stream h opened runs = λ list time tables.
        subst (λ (rs : List DatedCommand).
        IsRunOpened b (opening_for amount rs) rs new given fault list) h.requests
        (subst (λ (os : List DatedCommand).
        IsRunOpened b os input.requests.items new given fault list) opened (runs list time tables))

    text_is : (stream : List ℕ) (list : List Accepted) →
        IsInput (map line_request (lines_of stream)) input →
        (run : IsRunOpened b (opening_in amount stream) (requests_in stream) new given fault list) →
        answer_texts (map kept_fault input.lines.items) given ≡
        lines_text_to run.count b list amount stream
    text_is stream list h run = λ i. answer_texts (h.lines i) (run.answers i)

    -- what is answered isn't written whole
    pub begun-run : (r : Option (List ℕ)) →
        IfSome r (λ stream. IsInput (map line_request (lines_of stream)) input) →
        opening ≡ opening_for amount input.requests.items →
        ForEachList b old (IsRunOpened b opening input.requests.items new given fault) →
        WritesBeginning w0 w1 (answer_texts (map kept_fault input.lines.items) given) →
        IfSome r (λ stream. ForEachList b old (AreLinesBegun b amount stream w0 w1 new))
    begun-run None h opened runs written = tt
    begun-run (Some stream) h opened runs written = λ list time tables.
        let run : IsRunOpened b (opening_in amount stream)
        (requests_in stream) new given fault list = run_in stream h opened runs list time tables in
        record {
          count = run.count;
          tables = run.tables;
          written = subst (WritesBeginning w0 w1) (text_is stream list h run) written;
        }

  -- the commands were run up to a fault
  pub short-run : {F : Type 0} (Writes : List ℕ → Type 0) (input : Input)
      (opening : List DatedCommand) (given : List Answer) (old new : Tables) (f : F)
      (r : Option (List ℕ)) →
      IfSome r (λ stream. IsInput (map line_request (lines_of stream)) input) →
      opening ≡ opening_for amount input.requests.items →
      ForEachList b old (IsRunOpened b opening input.requests.items new given (Some f)) →
      Writes (answer_texts (map kept_fault input.lines.items) given) →
      IfSome r (λ stream. ForEachList b old (AreLinesStopped b amount stream Writes new))
  short-run Writes input opening given old new f None h opened runs written = tt
  short-run {F = F} Writes input opening given old new f (Some stream) h opened runs written =
      λ list time tables.
      let fault : Option F = Some f in
      let run : IsRunOpened b (opening_in amount stream) (requests_in stream) new given fault list =
      run_in input opening given fault old new stream h opened runs list time tables in
      record {
        count = run.count;
        few = run.few;
        tables = run.tables;
        written =
            subst Writes (text_is input opening given fault old new stream list h run) written;
      }

  -- all commands were run, and what is answered isn't written whole
  pub untold-run : {F : Type 0} (input : Input) (opening : List DatedCommand)
      (given : List Answer) (fault : Option F) (old new : Tables) (r : Option (List ℕ)) →
      fault ≡ None →
      IfSome r (λ stream. IsInput (map line_request (lines_of stream)) input) →
      opening ≡ opening_for amount input.requests.items →
      ForEachList b old (IsRunOpened b opening input.requests.items new given fault) →
      WritesBeginning w0 w1 (answer_texts (map kept_fault input.lines.items) given) →
      IfSome r (λ stream. ForEachList b old (AreLinesUntold b amount stream w0 w1 new))
  untold-run input opening given (Some f) old new r none h opened runs written =
      absurd (none-some f (sym none))
  untold-run input opening given None old new None none h opened runs written = tt
  untold-run {F = F} input opening given None old new (Some stream) none h opened runs written =
      λ list time tables.
      let fault : Option F = None in
      let run : IsRunOpened b (opening_in amount stream) (requests_in stream) new given fault list =
      run_in input opening given fault old new stream h opened runs list time tables in
      record {
        tables = subst (λ (cs : List DatedCommand). AreTables b (after_commands b list cs) new)
            run.whole run.tables;
        written = subst (WritesBeginning w0 w1)
            (λ i. answer_texts (h.lines i) ((run.answers ∙ ap (λ (cs : List DatedCommand).
            drop (length (opening_in amount stream)) (answers_to b list cs)) run.whole) i)) written;
      }

  -- all is
  pub answered-run : {F : Type 0} (input : Input) (opening : List DatedCommand)
      (given : List Answer) (fault : Option F) (old new : Tables) (r : Option (List ℕ)) →
      fault ≡ None →
      IfSome r (λ stream. IsInput (map line_request (lines_of stream)) input) →
      opening ≡ opening_for amount input.requests.items →
      ForEachList b old (IsRunOpened b opening input.requests.items new given fault) →
      Appends w0 w1 (answer_texts (map kept_fault input.lines.items) given) →
      IfSome r (λ stream. ForEachList b old (AreLinesAnswered b amount stream w0 w1 new))
  answered-run input opening given (Some f) old new r none h opened runs written =
      absurd (none-some f (sym none))
  answered-run input opening given None old new None none h opened runs written = tt
  answered-run {F = F} input opening given None old new (Some stream) none h opened runs written =
      λ list time tables.
      let fault : Option F = None in
      let run : IsRunOpened b (opening_in amount stream) (requests_in stream) new given fault list =
      run_in input opening given fault old new stream h opened runs list time tables in
      record {
        written = subst (Appends w0 w1)
            (λ i. answer_texts (h.lines i) ((run.answers ∙ ap (λ (cs : List DatedCommand).
            drop (length (opening_in amount stream)) (answers_to b list cs)) run.whole) i)) written;
        tables = subst (λ (cs : List DatedCommand). AreTables b (after_commands b list cs) new)
            run.whole run.tables;
      }

-- a beginning of what is answered is a beginning of the stream's text
pub begins : (b : Shelf) (list : List Accepted) (amount : Option ℕ) (stream : List ℕ) (count : ℕ)
    (w0 w1 : Option (List ℕ)) → WritesBeginning w0 w1 (lines_text_to count b list amount stream) →
    WritesBeginning w0 w1 (lines_text b list amount stream)
begins b list amount stream count w0 w1 h =
    let all : List Answer = answers_to b list (commands_of amount stream) in
    let k = length (opening_in amount stream) in
    let rest = texts_taken (faults_in stream) k count all in
    subst (WritesBeginning w0 w1) (sym rest.1)
    (beginning_before w0 w1 _ rest.0 (subst (λ (answers : List Answer).
    WritesBeginning w0 w1 (answer_texts (faults_in stream) (drop k answers)))
    (answers_taken b list (commands_of amount stream) count) h))
