-- How the program ends, by what its words say and by why they weren't read.
use Rattle.std.proofs.Common.{◌≡◌, ℕ, ◌++◌, ◌∷◌, ◌⊎◌, Bool, true, false, List, []}
use Rattle.std.proofs.Common.{sym, ap, subst, ◌∙◌, refl, inl, inr, Option, Some, None, Result, Ok}
use Rattle.std.proofs.Common.{Err}
use Rattle.std.specs.Prelude.{IfErr, IfSome, OnErr}
use Rattle.std.specs.Io.KnownBytes.{Appends, Keeps}
use Rattle.std.proofs.KnownBytes.{Keeps-refl}
use Rattle.texts.specs.declared.streams.StreamFault.{StreamFault}
use Rattle.texts.specs.declared.streams.StreamFault.TheVariants as stream
use Rattle.clap.specs.Values.{kind_of}
use Rattle.clap.specs.Words.{IsAmong, Kinds, Text, fault_of}
use Rattle.clap.specs.declared.error.kind.ErrorKind.{ErrorKind}
use Rattle.commands.specs.declared.answer.Answer.{Answer}
use Rattle.commands.specs.declared.answer.Answer.TheVariants as answer
use Rattle.operations.specs.Months.{unknown_line}
use Rattle.operations.specs.Printed.{IsEnded, PrintsAnswer}
use Rattle.operations.specs.Told.{status_of}
use Rattle.operations.specs.Written.{WritesBeginning}
use Rattle.operations.proofs.Beginnings.{all_written, nothing_written}
use Rattle.operations.specs.declared.status.Status.{Status}
use Rattle.operations.specs.declared.status.Status.TheVariants.{Done, Failed, Unread}
use Rattle.operator.specs.Arguments.{argument_line}
use Rattle.operator.specs.Program.{program_app}
use Rattle.operator.specs.Read.{IsInvalid, IsSaid, IsUnread}
use Rattle.operator.specs.declared.argument_names.Argument.{Argument}
use Rattle.operator.specs.declared.fault.WordsFault.{WordsFault}
use Rattle.operator.specs.declared.fault.WordsFault.TheVariants as fault
use Rattle.operator.specs.declared.parsed.OnceWords.{OnceWords}
use Rattle.operator.specs.declared.parsed.ProgramWords.{ProgramWords}
use Rattle.operator.specs.declared.parsed.ProgramWords.TheVariants as words
use Rattle.operator.proofs.ProgramLemmas.{one_invalid}
use Rattle.service.specs.declared.fault.DatabaseFault.{DatabaseFault}
use Rattle.ocs.specs.Ends.{HasPrinted, IfOnce, IsEnd, IsEndBy, IsEndOf, IsMemory, PrintsRefusal}
use Rattle.ocs.specs.Ends.{HasBegun}
use Rattle.ocs.specs.Faults.{IsFaultIn, IsFaultOf, IsMemoryFault}
use Rattle.ocs.specs.Faults.{IsWriteFault, OnlyDone}
use Rattle.tariffs.specs.OnceBook.{once_book}
use Rattle.ocs.specs.Runs.{PrintsSaid}
use Rattle.ocs.specs.Told.{IsTextTold, IsTold}
use Rattle.ocs.specs.Told.{IsToldAtEnd, IsToldBy, IsToldOf, LeavesOutput, ReportsConnections}
use Rattle.ocs.specs.Told.{ReportsFault, fault_line, done_line}
use Rattle.operations.specs.Once.{BeginsOnce, once_text}
use Rattle.ocs.specs.declared.fault.ProgramFault.{ProgramFault}
use Rattle.ocs.specs.declared.fault.ProgramFault.TheVariants as program

-- ---- faults

pub tells_from : (O P S T : ProgramFault → Type 0) (old new : Option (List ℕ)) →
    ((f : ProgramFault) → O f → P f) → ((f : ProgramFault) → S f → T f) →
    ReportsFault O S old new → ReportsFault P T old new
tells_from O P S T old new h k t = record {
  fault = t.fault;
  reached = h t.fault t.reached;
  silent = k t.fault t.silent;
  written = t.written;
}

-- a writer that fails reports no fault but its own
stream_of : {A : Type 0} → StreamFault → Result A StreamFault → StreamFault
stream_of other (Ok x) = other
stream_of other (Err f) = f

pub writer_failed : {A : Type 0} (r : Result A StreamFault) (f : StreamFault) → r ≡ Err f →
    OnErr r (r ≡ Err stream.Write) → IsWriteFault (program.Stream f)
unfolding stream_of
writer_failed r f is fails = ap program.Stream (ap (stream_of f)
    (subst (λ r. OnErr r (r ≡ Err stream.Write)) is fails))

-- all was done but for the line that says it
pub write_done : {A : Type 0} (r : Result A ProgramFault) (P : DatabaseFault → Type 0) →
    IfErr r IsWriteFault → IfErr r (OnlyDone P)
write_done (Ok x) P h = tt
write_done (Err f) P h = subst (λ (g : ProgramFault). OnlyDone P g) (sym h) refl

-- ---- words that are read

ok_in : {E : Type 0} → Result ProgramWords E → ProgramWords → ProgramWords
ok_in (Ok said) other = said
ok_in (Err f) other = other

same_said : (texts : List Text) (a b : ProgramWords) → IsSaid texts a → IsSaid texts b → a ≡ b
unfolding ok_in
same_said texts a b h k = ap (λ r. ok_in r a) (sym h.means ∙ k.means)

-- rule: exit-status
pub end_said : (texts : List Text) (said : ProgramWords) (status : Status) → IsSaid texts said →
    IsEndBy status → IsEnd texts status
end_said texts said Done h end = inl (record { said = said; says = h })
end_said texts said Failed h end = tt
end_said texts said Unread h end = absurd end

keeps_of : (old new : Option (List ℕ)) → new ≡ old → Keeps old new
keeps_of old new e = subst (Keeps old) (sym e) (Keeps-refl old)

-- nothing is printed of what is done, but the faults of connections
done_said : (texts : List Text) (said : ProgramWords) (old new : Option (List ℕ)) →
    IsSaid texts said → IsToldAtEnd said old new → Keeps old new ⊎ ReportsConnections texts old new
done_said texts (words.Serve serve) old new h told =
    inr (record { serve = serve; says = h; told = told })
done_said texts _ old new h told = inl (keeps_of old new told)

told_in : (texts : List Text) (said : ProgramWords) → IsSaid texts said → (f : ProgramFault) →
    IsFaultOf said f → IsFaultIn texts f
told_in texts said h f of = inl (record { said = said; says = h; is = of })

pub told_said : (texts : List Text) (said : ProgramWords) (before after : Option (List ℕ))
    (status : Status) (old new : Option (List ℕ)) → IsSaid texts said →
    IsToldBy said before after status old new → IsTold texts before after status old new
told_said texts said before after Done old new h told = done_said texts said old new h told
told_said texts said before after Failed old new h (inl told) =
    inl (tells_from (IsFaultOf said) (IsFaultIn texts) (LeavesOutput said before after)
    (λ f. (other : ProgramWords) → IsSaid texts other → LeavesOutput other before after f) old new
    (told_in texts said h)
    (λ f leaves other k. subst (λ (s : ProgramWords). LeavesOutput s before after f)
    (same_said texts said other h k) leaves) told)
told_said texts said before after Failed old new h (inr refused) =
    inr (record { said = said; says = h; is = refused.0 }, refused.1)
told_said texts said before after Unread old new h told = absurd told

pub not_once : (texts : List Text) (said : ProgramWords) → IsSaid texts said →
    ((once : OnceWords) → IsSaid texts (words.Once once) → ⊥) → IfOnce said (λ _. ⊥)
not_once texts (words.Once once) h other = other once h
not_once texts _ h other = tt

pub fails_undone : (status : Status) → status ≡ Failed → status ≡ Done → ⊥
fails_undone status failed done = let no : Failed ≡ Done = sym failed ∙ done in cc

pub ends_read : (status : Status) → IsEndBy status → status ≡ Unread → ⊥
ends_read status end e = subst IsEndBy e end

-- ---- what is done

refused_told : (said : ProgramWords) (before after old new : Option (List ℕ)) →
    PrintsRefusal said before after → IsToldAtEnd said old new → Keeps old new
refused_told (words.Office office) before after old new refused told = keeps_of old new told
refused_told (words.Statement statement) before after old new refused told = keeps_of old new told
refused_told _ before after old new refused told = absurd refused

-- what ends by itself
pub ended_told : (said : ProgramWords) (before after : Option (List ℕ)) (status : Status)
    (old new : Option (List ℕ)) → IsEnded (PrintsRefusal said before after) status →
    IsToldAtEnd said old new → IsToldBy said before after status old new
ended_told said before after Done old new ended told = told
ended_told said before after Failed old new ended told =
    inr (ended, refused_told said before after old new ended told)
ended_told said before after Unread old new ended told = absurd ended

-- what has printed as it ended
pub printed_done : {F : Type 0} (bytes : F → Option (List ℕ)) (said : ProgramWords)
    (before after : Option (List ℕ)) (status : Status) →
    HasPrinted bytes said before after status → status ≡ Done →
    HasPrinted bytes said before after Done
printed_done bytes said before after status printed done =
    subst (HasPrinted bytes said before after) done printed

-- what is refused has begun with its line
-- rule: exit-status
pub refused_begun : {F : Type 0} (bytes : F → Option (List ℕ)) (said : ProgramWords)
    (before after : Option (List ℕ)) (status : Status) →
    IsEnded (PrintsRefusal said before after) status → status ≡ Failed →
    HasBegun bytes said before after
refused_begun bytes (words.Statement statement) before after status ended failed =
    inr (all_written before after unknown_line
    (subst (IsEnded (Appends before after unknown_line)) failed ended))
refused_begun bytes (words.Clock clock) before after status ended failed =
    absurd (subst (IsEnded ⊥) failed ended)
refused_begun bytes (words.Replay replay) before after status ended failed =
    absurd (subst (IsEnded ⊥) failed ended)
refused_begun bytes _ before after status ended failed = tt

-- nothing has, too
nothing_started : {F : Type 0} (bytes : F → Option (List ℕ)) (said : ProgramWords)
    (before after : Option (List ℕ)) → after ≡ before → HasBegun bytes said before after
nothing_started bytes (words.Statement statement) before after same =
    inr (subst (λ (w : Option (List ℕ)). WritesBeginning before w unknown_line) (sym same)
    (nothing_written before unknown_line))
nothing_started bytes (words.Clock clock) before after same = inr same
nothing_started bytes (words.Replay replay) before after same = inr same
nothing_started bytes _ before after same = tt

abbrev IsRead : Status → Type 0
IsRead Done = Unit {0}
IsRead Failed = Unit {0}
IsRead Unread = ⊥

is_read : (a : Answer) → IsRead (status_of a)
is_read (answer.Request given) = tt
is_read answer.Done = tt
is_read (answer.Bucket number) = tt
is_read (answer.Swept count) = tt
is_read (answer.Balance balance) = tt
is_read (answer.Refused refusal) = tt

-- an answer is printed: it is a refusal, or all is done
-- rule: exit-status
pub answered_ends : (status : Status) (old new : Option (List ℕ)) → PrintsAnswer status old new →
    IsEnded (PrintsAnswer Failed old new) status
answered_ends Done old new printed = tt
answered_ends Failed old new printed = printed
answered_ends Unread old new printed = subst IsRead (sym printed.is) (is_read printed.answer)

-- a fault is reported by its line
pub fault_told : (said : ProgramWords) (before after : Option (List ℕ)) (f : ProgramFault)
    (status : Status) (old mid new : Option (List ℕ)) → status ≡ Failed →
    IsFaultOf said f → LeavesOutput said before after f → mid ≡ old →
    WritesBeginning mid new (fault_line f ++ 10 ∷ []) → IsToldBy said before after status old new
fault_told said before after f status old mid new is reached leaves same told =
    subst (λ (s : Status). IsToldBy said before after s old new) (sym is)
    (inl (record {
      fault = f;
      reached = reached;
      silent = leaves;
      written = subst (λ (w : Option (List ℕ)). WritesBeginning w new (fault_line f ++ 10 ∷ []))
          same told;
    }))

pub fault_end : (status : Status) → status ≡ Failed → IsEndBy status
fault_end status is = subst IsEndBy (sym is) tt

pub ended_end : (Refused : Type 0) (status : Status) → IsEnded Refused status → IsEndBy status
ended_end Refused Done ended = tt
ended_end Refused Failed ended = tt
ended_end Refused Unread ended = absurd ended

-- the lines of `once` are never refused
pub once_ends : (said : ProgramWords) (before after : Option (List ℕ))
    (status : Status) (P : OnceWords → Type 0) → IsEnded (PrintsRefusal said before after) status →
    status ≡ Failed → IfOnce said P
once_ends (words.Once once) before after status P ended failed =
    absurd (subst (IsEnded ⊥) failed ended)
once_ends _ before after status P ended failed = tt

-- words that print one line are never refused
pub line_ends : (said : ProgramWords) (before after : Option (List ℕ)) (status : Status)
    (P : List ℕ → Type 0) → IsEnded (PrintsRefusal said before after) status → status ≡ Failed →
    IfSome (done_line said) P
line_ends (words.Init init) before after status P ended failed =
    absurd (subst (IsEnded ⊥) failed ended)
line_ends (words.Migrate migrate) before after status P ended failed =
    absurd (subst (IsEnded ⊥) failed ended)
line_ends (words.Book book) before after status P ended failed =
    absurd (subst (IsEnded ⊥) failed ended)
line_ends (words.Serve serve) before after status P ended failed =
    absurd (subst (IsEnded ⊥) failed ended)
line_ends _ before after status P ended failed = tt

-- ---- words that aren't read

not_among : (k : ErrorKind) (kinds : Kinds) → kinds ≡ [] → IsAmong k kinds → ⊥
not_among k kinds e among = subst (IsAmong k) e among

is_ok : {E : Type 0} → Result ProgramWords E → Bool
is_ok (Ok said) = true
is_ok (Err f) = false

true_false : true ≡ false → ⊥
true_false e = subst (λ (b : Bool). if_true b) e tt
  where
    if_true : Bool → Type 0
    if_true true = Unit {0}
    if_true false = ⊥

not_said : (texts : List Text) (said : ProgramWords) (argument : Argument) → IsSaid texts said →
    IsInvalid texts argument → ⊥
unfolding is_ok
not_said texts said argument h k = true_false (ap is_ok (sym h.means ∙ k.means))

-- rule: exit-status
pub end_unread : (texts : List Text) (f : WordsFault) (status : Status) → IsUnread texts f →
    IsEndOf f status → IsEnd texts status
end_unread texts (fault.Unread error) Done unread end =
    inr (record { kind = kind_of error; among = unread; is = end })
end_unread texts (fault.Unread error) Failed unread end = tt
end_unread texts (fault.Unread error) Unread unread end =
    inr (record { kind = kind_of error; among = unread; is = end })
end_unread texts (fault.Invalid argument) Done unread end = absurd end
end_unread texts (fault.Invalid argument) Failed unread end = tt
end_unread texts (fault.Invalid argument) Unread unread end = inl (argument, unread)
end_unread texts fault.Memory Done unread end = absurd end
end_unread texts fault.Memory Failed unread end = tt
end_unread texts fault.Memory Unread unread end = absurd end

none_tells : (texts : List Text) (before after : Option (List ℕ)) (old new : Option (List ℕ))
    (Reached : ProgramFault → Type 0) → ((f : ProgramFault) → Reached f → IsFaultIn texts f) →
    ((said : ProgramWords) → IsSaid texts said → after ≡ before) →
    ReportsFault Reached (λ _. Unit {0}) old new → IsTold texts before after Failed old new
none_tells texts before after old new Reached into same t =
    inl (tells_from Reached (IsFaultIn texts) (λ _. Unit {0})
    (λ f. (said : ProgramWords) → IsSaid texts said → LeavesOutput said before after f) old new
    into (λ f any said says silent. same said says) t)

-- the text of words that say no command wasn't written
text_in : (texts : List Text) → ((said : ProgramWords) → ¬ IsSaid texts said) →
    (f : ProgramFault) → IsMemoryFault f ⊎ IsWriteFault f → IsFaultIn texts f
text_in texts none f (inl memory) = inr (inl memory)
text_in texts none f (inr written) = inr (inr (none, written))

told_of : (texts : List Text) (before after : Option (List ℕ)) (f : WordsFault)
    (status : Status) (old new : Option (List ℕ)) → IsUnread texts f → IsEndOf f status →
    ((said : ProgramWords) → IsSaid texts said → after ≡ before) →
    IsToldOf f status old new → IsTold texts before after status old new
told_of texts before after (fault.Unread error) Done old new unread end same told = inl told
told_of texts before after (fault.Unread error) Failed old new unread end same told =
    none_tells texts before after old new (λ f. IsMemoryFault f ⊎ IsWriteFault f)
    (text_in texts (λ said h. not_among (kind_of error) (fault_of program_app texts) h.taken unread))
    same told
told_of texts before after (fault.Unread error) Unread old new unread end same told =
    λ argument invalid.
    absurd (not_among (kind_of error) (fault_of program_app texts) invalid.taken unread)
told_of texts before after (fault.Invalid argument) Done old new unread end same told = absurd end
told_of texts before after (fault.Invalid argument) Failed old new unread end same told = absurd end
told_of texts before after (fault.Invalid argument) Unread old new unread end same told =
    λ other invalid. subst (λ (a : Argument). WritesBeginning old new (argument_line a ++ 10 ∷ []))
    (one_invalid texts argument other unread invalid) told
told_of texts before after fault.Memory Done old new unread end same told = absurd end
told_of texts before after fault.Memory Failed old new unread end same told =
    none_tells texts before after old new IsMemoryFault (λ f memory. inr (inl memory)) same told
told_of texts before after fault.Memory Unread old new unread end same told = absurd end

-- words that say something weren't read only for lack of memory
pub memory_alone : (texts : List Text) (f : WordsFault) (said : ProgramWords) → IsUnread texts f →
    IsSaid texts said → IsMemory f
memory_alone texts (fault.Unread error) said unread h =
    absurd (not_among (kind_of error) (fault_of program_app texts) h.taken unread)
memory_alone texts (fault.Invalid argument) said unread h =
    absurd (not_said texts said argument h unread)
memory_alone texts fault.Memory said unread h = tt

pub told_unread : (texts : List Text) (before after : Option (List ℕ)) (f : WordsFault)
    (status : Status) (old new : Option (List ℕ)) → IsUnread texts f → IsEndOf f status →
    (IsMemory f → after ≡ before) → IsToldOf f status old new →
    IsTold texts before after status old new
told_unread texts before after f status old new unread end same told =
    told_of texts before after f status old new unread end
    (λ said says. same (memory_alone texts f said unread says)) told

-- and then nothing is done
pub not_done : (f : WordsFault) (status : Status) → IsMemory f → IsEndOf f status →
    status ≡ Done → ⊥
not_done (fault.Unread error) status memory end e = memory
not_done (fault.Invalid argument) status memory end e = memory
not_done fault.Memory status memory end e = subst (IsEndOf fault.Memory) e end

-- ---- lines

-- nothing is a beginning of each text
unwritten_begins : (r old new : Option (List ℕ)) (text : List ℕ → List ℕ) → new ≡ old →
    IfSome r (λ stream. WritesBeginning old new (text stream))
unwritten_begins None old new text same = tt
unwritten_begins (Some stream) old new text same = subst (λ (w : Option (List ℕ)).
    WritesBeginning old w (text stream)) (sym same) (nothing_written old (text stream))

nothing_begun : (said : ProgramWords) (stream old new : Option (List ℕ)) → new ≡ old →
    IfOnce said (λ once.
    BeginsOnce (once_book once.price once.block) once.credit stream old new)
nothing_begun (words.Once once) stream old new same =
    unwritten_begins stream old new
    (λ given. once_text (once_book once.price once.block) once.credit given) same
nothing_begun _ stream old new same = tt

unwritten_line : (line old new : Option (List ℕ)) → new ≡ old →
    IfSome line (WritesBeginning old new)
unwritten_line None old new same = tt
unwritten_line (Some text) old new same = subst (λ (w : Option (List ℕ)).
    WritesBeginning old w text) (sym same) (nothing_written old text)

-- what is so of one said of all that the words say
pub prints_said : {F : Type 0} (bytes : F → Option (List ℕ)) (texts : List Text)
    (said other : ProgramWords) (stream old new : Option (List ℕ)) (status : Status) →
    IsSaid texts said → IsSaid texts other → PrintsSaid bytes said stream old new status →
    PrintsSaid bytes other stream old new status
prints_said bytes texts said other stream old new status h k prints =
    subst (λ (s : ProgramWords). PrintsSaid bytes s stream old new status)
    (same_said texts said other h k) prints

-- where nothing is done or written
pub nothing_prints : {F : Type 0} (bytes : F → Option (List ℕ)) (said : ProgramWords)
    (stream old new : Option (List ℕ)) (status : Status) → new ≡ old → (status ≡ Done → ⊥) →
    PrintsSaid bytes said stream old new status
nothing_prints bytes said stream old new status same undone = record {
  printed = λ done. absurd (undone done);
  begun = λ failed. unwritten_line (done_line said) old new same;
  answered = λ done. absurd (undone done);
  started = λ failed. nothing_started bytes said old new same;
  done = λ done. absurd (undone done);
  fault = λ failed. nothing_begun said stream old new same;
}

-- ---- lack of memory, and streams

pub told_stream : (f : StreamFault) (status : Status) (old new : Option (List ℕ)) →
    IsMemoryFault (program.Stream f) ⊎ IsWriteFault (program.Stream f) →
    status ≡ Failed → WritesBeginning old new (fault_line (program.Stream f) ++ 10 ∷ []) →
    IsTextTold status old new
told_stream f status old new reached is written =
    subst (λ (s : Status). IsTextTold s old new) (sym is)
    (record { fault = program.Stream f; reached = reached; silent = tt; written = written })

pub told_memory : (f : WordsFault) (status : Status) (old new : Option (List ℕ)) →
    f ≡ fault.Memory → status ≡ Failed →
    WritesBeginning old new (fault_line (program.Stream stream.Memory) ++ 10 ∷ []) →
    IsToldOf f status old new
told_memory f status old new memory is written =
    subst (λ (x : WordsFault). IsToldOf x status old new) (sym memory)
    (record {
      fault = program.Stream stream.Memory;
      reached = refl;
      silent = tt;
      written = written;
    })
