-- What `once` writes: lines before any command, over a store in memory.
use Rattle.std.proofs.Common.{◌≡◌, ℕ, List, [], sym, subst, Option, Some, None, IfSome, Result, Ok}
use Rattle.std.proofs.Common.{Err}
use Rattle.std.specs.Prelude.{OnOk, OnErr}
use Rattle.std.specs.Io.KnownBytes.{Appends}
use Rattle.tariffs.specs.Books.{Book}
use Rattle.shelves.specs.Shelves.{Shelf, one_book}
use Rattle.keepers.specs.Tables.{Tables, no_tables}
use Rattle.charging.proofs.runs.AcceptedTables.{tables_none}
use Rattle.charging.specs.Outcomes.{book_days, outcome}
use Rattle.charging.specs.Continued.{ForEachList}
use Rattle.charging.specs.Served.{AreTables}
use Rattle.operations.specs.Written.{WritesBeginning}
use Rattle.operations.specs.LinesServed.{AreLinesAnswered, AreLinesBegun, lines_text}
use Rattle.operations.proofs.request_lines.Answered.{begins}
use Rattle.operations.specs.Once.{once_text}

-- rule: once
pub once-answered : {A E : Type 0} (result : Result A E) (b : Shelf) (c : Book) (credit : ℕ)
    (r w0 w1 : Option (List ℕ)) (old new : Tables) → b ≡ one_book c → old ≡ no_tables →
    OnOk result
    (IfSome r (λ stream. ForEachList b old (AreLinesAnswered b (Some credit) stream w0 w1 new))) →
    OnOk result (IfSome r (λ stream. Appends w0 w1 (once_text c credit stream)))
once-answered (Err e) b c credit r w0 w1 old new same none h = tt
once-answered (Ok x) b c credit None w0 w1 old new same none h = tt
once-answered (Ok x) b c credit (Some stream) w0 w1 old new same none h =
    subst (λ (shelf : Shelf). Appends w0 w1 (lines_text shelf [] (Some credit) stream)) same
    (h [] tt (subst (AreTables b []) (sym none) (tables_none (book_days b) (outcome b) b))).written

-- rule: once
pub once-begun : {A E : Type 0} (result : Result A E) (b : Shelf) (c : Book) (credit : ℕ)
    (r w0 w1 : Option (List ℕ)) (old new : Tables) → b ≡ one_book c → old ≡ no_tables →
    OnErr result
    (IfSome r (λ stream. ForEachList b old (AreLinesBegun b (Some credit) stream w0 w1 new))) →
    OnErr result (IfSome r (λ stream. WritesBeginning w0 w1 (once_text c credit stream)))
once-begun (Ok x) b c credit r w0 w1 old new same none h = tt
once-begun (Err e) b c credit None w0 w1 old new same none h = tt
once-begun (Err e) b c credit (Some stream) w0 w1 old new same none h =
    let begun : AreLinesBegun b (Some credit) stream w0 w1 new [] =
    h [] tt (subst (AreTables b []) (sym none) (tables_none (book_days b) (outcome b) b)) in
    subst (λ (shelf : Shelf). WritesBeginning w0 w1 (lines_text shelf [] (Some credit) stream)) same
    (begins b [] (Some credit) stream begun.count w0 w1 begun.written)
