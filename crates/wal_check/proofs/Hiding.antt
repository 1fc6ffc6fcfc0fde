-- A search behind a gate that looks shut, as far as it has come.
use Rattle.std.proofs.Common.{IsTrue, Bool, false, ◌↔◌, ◌≡◌, ◌≢◌, ℕ, ◌+◌, ◌<◌, ◌≤◌, List, sym, ◌∙◌, ap, arith, inl, inr}
use Rattle.std.proofs.lemmas.Bool.{cases_eq, cases_lt, false≢true}
use Rattle.sqlite_wal.specs.Format.{commit_size}
use Rattle.sqlite_wal.specs.Recovery.{frame, Passes}
use Rattle.wal_check.specs.declared.frames.Place.{Place}
use Rattle.wal_check.specs.declared.frames.Frame.{Frame}
use Rattle.wal_check.specs.Frames.{spill_pages, PassesOpened, GoOnBehindGate, HidesCommit}
use Rattle.wal_check.proofs.Reading.{next_at}
use Rattle.wal_check.specs.Walks.{IsFramePlace, IsFrameOf}

-- the frames from n up to that before `next` go on, and `read` is the last of them
pub record Searched (page_size : ℕ) (log : List ℕ) (n : ℕ) (next : Place) (read : Frame) : Type 0 where
  pub last : ℕ
  pub number : next.frame ≡ last + 1
  pub at : IsFramePlace page_size log next
  pub goes_on : GoOnBehindGate page_size log n last
  pub says : IsFrameOf read (frame page_size log last)

module _ (page_size : ℕ) (log : List ℕ) (n last : ℕ)
    (on : GoOnBehindGate page_size log n last) where
  -- nothing is hidden where the next frame doesn't pass
  -- rule: stop-log
  pub not_hidden : ¬ Passes page_size log (last + 1) → ¬ HidesCommit page_size log n
  not_hidden ends (other, h) = elim (cases_lt other last) [
    | inl before ↦ h.commits (on.quiet other h.goes_on.order before)
    | inr from ↦ elim (cases_eq other last) [
      | inl same ↦ ends (rw (← same) h.behind)
      | inr apart ↦ ends (h.goes_on.inner (last + 1) (omega (arith, on.order)) (omega arith))
    ]
  ]

  pub is_hidden : commit_size (frame page_size log last) ≢ 0 → Passes page_size log (last + 1) → last + 1 < n + spill_pages → HidesCommit page_size log n
  is_hidden commits behind few = (last, record { goes_on = on; commits = commits; behind = behind; few = few })

  one_on : commit_size (frame page_size log last) ≡ 0 → Passes page_size log (last + 1) → GoOnBehindGate page_size log n (last + 1)
  one_on quiet behind = record {
    order = omega (arith, on.order);
    first = on.first;
    inner = λ i past low. elim (cases_eq i (last + 1)) [ inl same ↦ rw same behind | inr apart ↦ on.inner i past (omega arith) ];
    quiet = λ i from low. elim (cases_eq i last) [ inl same ↦ rw same quiet | inr apart ↦ on.quiet i from (omega arith) ];
  }

  -- nothing is hidden where so many frames went on
  pub too_many : n + spill_pages ≤ last + 1 → ¬ HidesCommit page_size log n
  too_many many (other, h) = h.commits (on.quiet other h.goes_on.order (omega (arith, h.few)))

-- with the gate of frame n taken as open it doesn't pass
pub not_opened : (page_size : ℕ) (log : List ℕ) (n : ℕ) → ¬ PassesOpened page_size log n → ¬ HidesCommit page_size log n
not_opened page_size log n shut (last, h) = shut h.goes_on.first

pub begun : (page_size : ℕ) (log : List ℕ) (place next : Place) (read : Frame) → IsFramePlace page_size log place
    → PassesOpened page_size log place.frame → IsFrameOf read (frame page_size log place.frame)
    → next.frame ≡ place.frame + 1 → next.at ≡ place.at + (24 + page_size) → next.sum ≡ read.sum
    → Searched page_size log place.frame next read
begun page_size log place next read at passes says number moved sum = record {
  last = place.frame;
  number = number;
  at = next_at page_size log place next read at says number moved sum;
  goes_on = record {
    order = omega arith;
    first = passes;
    inner = λ i past low. absurd (omega arith);
    quiet = λ i from low. absurd (omega arith);
  };
  says = says;
}

-- a frame that doesn't commit has the size 0
not_sized : (size : ℕ) (commits : Bool) → (IsTrue commits ↔ size ≢ 0) → commits ≡ false → size ≡ 0
not_sized size commits says denied = elim (cases_eq size 0) [ inl is ↦ is | inr some ↦ absurd (false≢true (sym denied ∙ says.1 some)) ]

pub gone_on : (page_size : ℕ) (log : List ℕ) (n : ℕ) (place next : Place) (read found : Frame) (commits : Bool)
    → Searched page_size log n place read → (IsTrue commits ↔ read.size ≢ 0) → commits ≡ false
    → Passes page_size log place.frame → IsFrameOf found (frame page_size log place.frame)
    → next.frame ≡ place.frame + 1 → next.at ≡ place.at + (24 + page_size) → next.sum ≡ found.sum
    → Searched page_size log n next found
gone_on page_size log n place next read found commits s sized denied passes says number moved sum = record {
  last = s.last + 1;
  number = number ∙ ap (λ (k : ℕ). k + 1) s.number;
  at = next_at page_size log place next found s.at says number moved sum;
  goes_on = one_on page_size log n s.last s.goes_on (sym s.says.size ∙ not_sized read.size commits sized denied) (rw (← s.number) passes);
  says = rw (← s.number) says;
}
