-- What answering lines ends with, by the keeper's fault and by what became of writing the answers.
use Rattle.std.proofs.Common.{◌≡◌, ℕ, List, map, refl, sym, ap, subst, ◌∙◌, Option, Some, None}
use Rattle.std.proofs.Common.{IfSome, Result, Ok, Err, length, []}
use Rattle.std.proofs.lemmas.Option.{none-some}
use Rattle.std.specs.Prelude.{IfErr, IfNone, OnOk, OnErr}
use Rattle.std.specs.Io.KnownBytes.{Appends}
use Rattle.texts.specs.Lines.{lines_of}
use Rattle.texts.specs.declared.streams.StreamFault.{StreamFault}
use Rattle.commands.specs.declared.answer.Answer.{Answer}
use Rattle.shelves.specs.Shelves.{Shelf}
use Rattle.keepers.specs.Seen.{Seen}
use Rattle.keepers.specs.Tables.{Tables}
use Rattle.keepers.specs.declared.fault.StoreFault.{StoreFault}
use Rattle.charging.specs.Continued.{ForEachList}
use Rattle.charging.specs.declared.running.DatedCommand.{DatedCommand}
use Rattle.operations.specs.Written.{WritesBeginning}
use Rattle.operations.proofs.Beginnings.{nothing_written, on_err, whole_or_begun}
use Rattle.operations.specs.declared.lines_fault.LinesFault.{LinesFault}
use Rattle.operations.specs.declared.lines_fault.LinesFault.TheVariants.{Read, Store, Both, Write}
use Rattle.operations.specs.declared.line_input.Input.{Input}
use Rattle.operations.specs.LinesFaults.{ended_as}
use Rattle.operations.specs.LineInput.{kept_fault, IsInput}
use Rattle.operations.specs.Lines.{line_request}
use Rattle.operations.specs.LinesServed.{opening_for, answer_texts, faults_in, AnswersLines}
use Rattle.operations.specs.LinesServed.{AreLinesAnswered}
use Rattle.operations.specs.LinesServed.{BeginsLines, AreLinesBegun, AreLinesStopped, TellsLines}
use Rattle.operations.specs.LinesServed.{IsRunOpened, AreLinesUntold}
use Rattle.operations.proofs.request_lines.Answered.{answered-run, begun-none, begun-run}
use Rattle.operations.proofs.request_lines.Answered.{continued-same, short-run, untold-run}
use Rattle.operations.proofs.request_lines.Carried.{carried-none}

-- ---- which fault it is

abbrev IsRead : {A : Type 0} → Result A LinesFault → Type 0
IsRead (Ok x) = ⊥
IsRead (Err (Read f)) = Unit {0}
IsRead (Err (Store f)) = ⊥
IsRead (Err (Both f)) = ⊥
IsRead (Err (Write f)) = ⊥

abbrev IsWrite : {A : Type 0} → Result A LinesFault → Type 0
IsWrite (Ok x) = ⊥
IsWrite (Err (Read f)) = ⊥
IsWrite (Err (Store f)) = ⊥
IsWrite (Err (Both f)) = ⊥
IsWrite (Err (Write f)) = Unit {0}

store_in : {A : Type 0} → Result A LinesFault → Option StoreFault
store_in (Ok x) = None
store_in (Err (Read f)) = None
store_in (Err (Store f)) = Some f
store_in (Err (Both f)) = None
store_in (Err (Write f)) = None

both_in : {A : Type 0} → Result A LinesFault → Option StoreFault
both_in (Ok x) = None
both_in (Err (Read f)) = None
both_in (Err (Store f)) = None
both_in (Err (Both f)) = Some f
both_in (Err (Write f)) = None

no_read : {A : Type 0} (fault : Option StoreFault) (written : Result A StreamFault) →
    IsRead (ended_as fault written) → ⊥
no_read None (Ok x) read = read
no_read None (Err g) read = read
no_read (Some f) (Ok x) read = read
no_read (Some f) (Err g) read = read

-- it is none of reading the lines
pub ended-read : {A : Type 0} (fault : Option StoreFault) (written : Result A StreamFault)
    (result : Result A LinesFault) (f : StreamFault) → result ≡ ended_as fault written →
    result ≡ Err (Read f) → ⊥
ended-read fault written result f e k =
    no_read fault written (subst IsRead (sym k ∙ e) tt)

-- ---- what is left

-- a stream's commands were run, and what they are answered was written, or a beginning
pub record IsWritten {A : Type 0} (b : Shelf) (amount : Option ℕ) (w0 w1 r : Option (List ℕ))
    (old new : Tables) (fault : Option StoreFault) (written : Result A StreamFault) : Type 0 where
  pub input : Input
  pub opening : List DatedCommand
  pub given : List Answer
  pub read : IfSome r (λ stream. IsInput (map line_request (lines_of stream)) input)
  pub opened : opening ≡ opening_for amount input.requests.items
  pub runs : ForEachList b old (IsRunOpened b opening input.requests.items new given fault)
  pub whole : OnOk written (Appends w0 w1 (answer_texts (map kept_fault input.lines.items) given))
  pub part : OnErr written
      (WritesBeginning w0 w1 (answer_texts (map kept_fault input.lines.items) given))

module _ {A : Type 0} (b : Shelf) (amount : Option ℕ) (w0 w1 r : Option (List ℕ))
    (old new : Tables) where
  answered : (fault : Option StoreFault) (written : Result A StreamFault) →
      IsWritten b amount w0 w1 r old new fault written → OnOk (ended_as fault written)
      (IfSome r (λ stream. ForEachList b old (AreLinesAnswered b amount stream w0 w1 new)))
  answered None (Ok x) h =
      answered-run b amount w0 w1 h.input h.opening h.given None old new r refl h.read h.opened
      h.runs h.whole
  answered None (Err g) h = tt
  answered (Some f) (Ok x) h = tt
  answered (Some f) (Err g) h = tt

  pub ended-answered : (fault : Option StoreFault) (written : Result A StreamFault)
      (result : Result A LinesFault) → result ≡ ended_as fault written →
      IsWritten b amount w0 w1 r old new fault written → OnOk result
      (IfSome r (λ stream. ForEachList b old (AreLinesAnswered b amount stream w0 w1 new)))
  ended-answered fault written result e h =
      subst (λ (res : Result A LinesFault). OnOk res
      (IfSome r (λ stream. ForEachList b old (AreLinesAnswered b amount stream w0 w1 new))))
      (sym e) (answered fault written h)

  pub ended-begun : (fault : Option StoreFault) (written : Result A StreamFault) →
      IsWritten b amount w0 w1 r old new fault written →
      IfSome r (λ stream. ForEachList b old (AreLinesBegun b amount stream w0 w1 new))
  ended-begun fault written h =
      begun-run b amount w0 w1 h.input h.opening h.given fault old new r h.read h.opened h.runs
      (whole_or_begun written w0 w1 (answer_texts (map kept_fault h.input.lines.items) h.given)
      h.whole h.part)

  stopped : (fault : Option StoreFault) (written : Result A StreamFault) (f : StoreFault) →
      store_in (ended_as fault written) ≡ Some f →
      IsWritten b amount w0 w1 r old new fault written →
      IfSome r (λ stream. ForEachList b old (AreLinesStopped b amount stream (Appends w0 w1) new))
  unfolding store_in
  stopped None (Ok x) f k h = absurd (none-some f k)
  stopped None (Err g) f k h = absurd (none-some f k)
  stopped (Some n) (Ok x) f k h =
      short-run b amount w0 w1 (Appends w0 w1) h.input h.opening h.given old new n r h.read
      h.opened h.runs h.whole
  stopped (Some n) (Err g) f k h = absurd (none-some f k)

  pub ended-stopped : (fault : Option StoreFault) (written : Result A StreamFault)
      (result : Result A LinesFault) (f : StoreFault) → result ≡ ended_as fault written →
      result ≡ Err (Store f) → IsWritten b amount w0 w1 r old new fault written →
      IfSome r (λ stream. ForEachList b old (AreLinesStopped b amount stream (Appends w0 w1) new))
  unfolding store_in
  ended-stopped fault written result f e k h =
      stopped fault written f (ap store_in (sym e ∙ k)) h

  cut : (fault : Option StoreFault) (written : Result A StreamFault) (f : StoreFault) →
      both_in (ended_as fault written) ≡ Some f →
      IsWritten b amount w0 w1 r old new fault written →
      IfSome r (λ stream. ForEachList b old
      (AreLinesStopped b amount stream (WritesBeginning w0 w1) new))
  unfolding both_in
  cut None (Ok x) f k h = absurd (none-some f k)
  cut None (Err g) f k h = absurd (none-some f k)
  cut (Some n) (Ok x) f k h = absurd (none-some f k)
  cut (Some n) (Err g) f k h =
      short-run b amount w0 w1 (WritesBeginning w0 w1) h.input h.opening h.given old new n r
      h.read h.opened h.runs h.part

  pub ended-cut : (fault : Option StoreFault) (written : Result A StreamFault)
      (result : Result A LinesFault) (f : StoreFault) → result ≡ ended_as fault written →
      result ≡ Err (Both f) → IsWritten b amount w0 w1 r old new fault written →
      IfSome r (λ stream. ForEachList b old
      (AreLinesStopped b amount stream (WritesBeginning w0 w1) new))
  unfolding both_in
  ended-cut fault written result f e k h = cut fault written f (ap both_in (sym e ∙ k)) h

  untold : (fault : Option StoreFault) (written : Result A StreamFault) →
      IsWrite (ended_as fault written) → IsWritten b amount w0 w1 r old new fault written →
      IfSome r (λ stream. ForEachList b old (AreLinesUntold b amount stream w0 w1 new))
  untold None (Ok x) k h = absurd k
  untold None (Err g) k h =
      untold-run b amount w0 w1 h.input h.opening h.given None old new r refl h.read h.opened
      h.runs h.part
  untold (Some n) (Ok x) k h = absurd k
  untold (Some n) (Err g) k h = absurd k

  pub ended-untold : (fault : Option StoreFault) (written : Result A StreamFault)
      (result : Result A LinesFault) (f : StreamFault) → result ≡ ended_as fault written →
      result ≡ Err (Write f) → IsWritten b amount w0 w1 r old new fault written →
      IfSome r (λ stream. ForEachList b old (AreLinesUntold b amount stream w0 w1 new))
  ended-untold fault written result f e k h =
      untold fault written (subst IsWrite (sym k ∙ e) tt) h

-- what is so of what writing failed by is so of the fault
write_told : {A : Type 0} (P : StreamFault → Type 0) (fault : Option StoreFault)
    (written : Result A StreamFault) (f : StreamFault) → ended_as fault written ≡ Err (Write f) →
    IfErr written P → P f
write_told P None (Ok x) f k h = absurd (cc)
write_told P None (Err g) f k h =
    let same : g ≡ f = cc in
    subst P same h
write_told P (Some n) (Ok x) f k h = absurd (cc)
write_told P (Some n) (Err g) f k h = absurd (cc)

pub ended-write : {A : Type 0} (P : StreamFault → Type 0) (fault : Option StoreFault)
    (written : Result A StreamFault) (result : Result A LinesFault) (f : StreamFault) →
    result ≡ ended_as fault written → result ≡ Err (Write f) → IfErr written P → P f
ended-write P fault written result f e k h = write_told P fault written f (sym e ∙ k) h

-- ---- what is answered, whatever the keeper holds

module _ (w0 w1 : Option (List ℕ)) (input : Input) (given : List Answer) where
  told_in : (r : Option (List ℕ)) →
      IfSome r (λ stream. IsInput (map line_request (lines_of stream)) input) →
      length given ≡ length input.requests.items →
      Appends w0 w1 (answer_texts (map kept_fault input.lines.items) given) →
      IfSome r (TellsLines w0 w1)
  told_in None read all written = tt
  told_in (Some stream) read all written = record {
    answers = given;
    all = all ∙ ap length read.requests;
    written = subst (λ faults. Appends w0 w1 (answer_texts faults given)) read.lines written;
  }

  pub begun_in : (r : Option (List ℕ)) →
      IfSome r (λ stream. IsInput (map line_request (lines_of stream)) input) →
      WritesBeginning w0 w1 (answer_texts (map kept_fault input.lines.items) given) →
      IfSome r (BeginsLines w0 w1)
  begun_in None read written = tt
  begun_in (Some stream) read written = record {
    answers = given;
    written = subst (λ faults. WritesBeginning w0 w1 (answer_texts faults given)) read.lines
        written;
  }

  told : {A : Type 0} (fault : Option StoreFault) (written : Result A StreamFault)
      (r : Option (List ℕ)) →
      IfSome r (λ stream. IsInput (map line_request (lines_of stream)) input) →
      IfNone fault (length given ≡ length input.requests.items) →
      OnOk written (Appends w0 w1 (answer_texts (map kept_fault input.lines.items) given)) →
      OnOk (ended_as fault written) (IfSome r (TellsLines w0 w1))
  told None (Ok x) r read all whole = told_in r read all whole
  told None (Err g) r read all whole = tt
  told (Some f) (Ok x) r read all whole = tt
  told (Some f) (Err g) r read all whole = tt

  pub ended-told : {A : Type 0} (fault : Option StoreFault) (written : Result A StreamFault)
      (result : Result A LinesFault) (r : Option (List ℕ)) → result ≡ ended_as fault written →
      IfSome r (λ stream. IsInput (map line_request (lines_of stream)) input) →
      IfNone fault (length given ≡ length input.requests.items) →
      OnOk written (Appends w0 w1 (answer_texts (map kept_fault input.lines.items) given)) →
      OnOk result (IfSome r (TellsLines w0 w1))
  ended-told {A = A} fault written result r e read all whole =
      subst (λ (res : Result A LinesFault). OnOk res (IfSome r (TellsLines w0 w1))) (sym e)
      (told fault written r read all whole)

-- ---- before the lines are read

pub none_begun : (w r : Option (List ℕ)) → IfSome r (BeginsLines w w)
none_begun w None = tt
none_begun w (Some stream) =
    record { answers = []; written = nothing_written w (answer_texts (faults_in stream) []) }

-- then it isn't one of writing
pub not_written : {A : Type 0} (result : Result A LinesFault) (f g : StreamFault) →
    result ≡ Err (Read f) → result ≡ Err (Write g) → ⊥
not_written {A = A} result f g is told =
    subst (λ (res : Result A LinesFault). IsRead res) (sym is ∙ told) tt

-- nothing was run and nothing was written
pub none_answered : {A : Type 0} (b : Shelf) (amount : Option ℕ) (r w : Option (List ℕ))
    (keeper : Seen) (result : Result A LinesFault) (f : StreamFault) → result ≡ Err (Read f) →
    AnswersLines b amount r w w keeper keeper result
none_answered {A = A} b amount r w keeper result f is = record {
  answered = λ whole. subst (λ (res : Result A LinesFault).
      OnOk res (IfSome r (λ stream. ForEachList b keeper.tables
      (AreLinesAnswered b amount stream w w keeper.tables)))) (sym is) tt;
  begun = λ whole. on_err result (begun-none b amount w w r keeper.tables);
  stopped = λ fault no whole. absurd (subst IsRead (sym is ∙ no) tt);
  both = λ fault no whole. absurd (subst IsRead (sym is ∙ no) tt);
  untold = λ fault no whole. absurd (subst IsRead (sym is ∙ no) tt);
  continued = λ whole. continued-same b keeper.tables;
  keeper = carried-none keeper result f is;
}
