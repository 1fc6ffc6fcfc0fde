-- How the frames of a log end, and what its header says of it.
use Rattle.std.proofs.Common.{◌≡◌, ◌≢◌, ◌↔◌, ℕ, ◌+◌, ◌<◌, ◌≤◌, List, length, slice_index, slice_set, Bool, IsTrue, true, false, not, refl, sym, ◌∙◌, ap, subst, arith, inl, inr, get_or-set_other}
use Rattle.std.proofs.lemmas.Bool.{cases_eq, cases_lt, false≢true}
use Rattle.sqlite_wal.specs.Format.{be32, IsHeader}
use Rattle.sqlite_wal.specs.PageSize.{IsPageSize}
use Rattle.sqlite_wal.specs.Recovery.{header}
use Rattle.sqlite_wal.proofs.PartLemmas.{same_be32}
use Rattle.wal_check.specs.Frames.{ArePassingFrames, EndsInCommit, IsShutAt, HidesCommit, AreInFile}
use Rattle.wal_check.specs.Sound.{size_named, opened_header, EndsSound, IsWritten, IsWrittenBack}
use Rattle.wal_check.specs.Sound.{IsLogLeft}

module _ (page_size : ℕ) (log : List ℕ) where
  -- only one number of frames passes
  pub one_number : (n m : ℕ) → ArePassingFrames page_size log n → ArePassingFrames page_size log m
      → n ≡ m
  one_number n m a b = elim (cases_eq n m) [
    | inl same ↦ same
    | inr apart ↦ elim (cases_lt n m) [ inl less ↦ absurd (a.last (b.each n less)) | inr more ↦ absurd (b.last (a.each m (omega arith))) ]
  ]

  module _ (n : ℕ) (all : ArePassingFrames page_size log n) where
    pub ends : EndsInCommit page_size log n → IsShutAt page_size log n → ¬ HidesCommit page_size log n → (m : ℕ) × EndsSound page_size log m
    ends commits shut bare = (n, record { all = all; commits = commits; shut = shut; bare = bare })

    end_at : (m : ℕ) → EndsSound page_size log m → EndsSound page_size log n
    end_at m e = subst (EndsSound page_size log) (one_number m n e.all all) e

    pub no_commit : ¬ EndsInCommit page_size log n → ¬ ((m : ℕ) × EndsSound page_size log m)
    no_commit none (m, e) = none (end_at m e).commits

    pub not_shut : ¬ IsShutAt page_size log n → ¬ ((m : ℕ) × EndsSound page_size log m)
    not_shut missing (m, e) = missing (end_at m e).shut

    pub hides : HidesCommit page_size log n → ¬ ((m : ℕ) × EndsSound page_size log m)
    hides hidden (m, e) = (end_at m e).bare hidden

    -- the frames end sound if nothing is hidden behind them
    -- rule: stop-log
    pub ended : EndsInCommit page_size log n → IsShutAt page_size log n → (hidden : Bool) → (IsTrue hidden ↔ HidesCommit page_size log n)
        → (IsTrue (not hidden) ↔ ((m : ℕ) × EndsSound page_size log m))
    ended commits shut true says = (λ f. absurd (false≢true f), λ e. absurd (hides (says.0 refl) e))
    ended commits shut false says = (λ _. ends commits shut (λ h. false≢true (says.1 h)), λ _. refl)

    -- what holds of these frames holds of all that pass
    pub for_all : (db : List ℕ) (b : Bool) → (IsTrue b ↔ AreInFile page_size log db n)
        → (IsTrue b ↔ ((m : ℕ) → ArePassingFrames page_size log m → AreInFile page_size log db m))
    for_all db b says = (
      λ yes m every. subst (AreInFile page_size log db) (one_number n m all every) (says.0 yes),
      λ kept. says.1 (kept n all),
    )

-- a header that passes, and the frames that end so
-- rule: stop-log
pub written_ends : (log head : List ℕ) (size : ℕ) (b : Bool) → header log ≡ head → size ≡ be32 head 8 → IsPageSize size → IsHeader size head
    → (IsTrue b ↔ ((n : ℕ) × EndsSound size log n)) → (IsTrue b ↔ IsWritten log)
written_ends log head size b is named sized heads says =
    let same : size ≡ size_named log = named ∙ ap (λ (h : List ℕ). be32 h 8) (sym is) in (
      λ yes. record {
        size = subst IsPageSize same sized;
        head = subst (λ (n : ℕ). IsHeader n (header log)) same (subst (IsHeader size) (sym is) heads);
        frames = (says.0 yes).0;
        ends = subst (λ (n : ℕ). EndsSound n log (says.0 yes).0) same (says.0 yes).1;
      },
      λ w. says.1 (w.frames, subst (λ (n : ℕ). EndsSound n log w.frames) (sym same) w.ends),
    )

pub not_written : (log head : List ℕ) → header log ≡ head → (IsPageSize (be32 head 8) → ¬ IsHeader (be32 head 8) head) → ¬ IsWritten log
not_written log head is none w =
    none (subst (λ (h : List ℕ). IsPageSize (be32 h 8)) is w.size) (subst (λ (h : List ℕ). IsHeader (be32 h 8) h) is w.head)

-- a header of a log that is emptied names the size that it named
pub opened_size : (head : List ℕ) (byte : ℕ) → be32 (slice_set head 0 byte) 8 ≡ be32 head 8
opened_size head byte = same_be32 (slice_set head 0 byte) head 8 8 (λ i low. let ne : 8 + i ≢ 0 = omega arith in rw get_or-set_other refl)

-- rule: stop-log
pub back_ends : (log db head : List ℕ) (size : ℕ) (b : Bool) → header log ≡ head → size ≡ be32 (slice_set head 0 0x37) 8 → IsPageSize size
    → IsHeader size (slice_set head 0 0x37) → 32 ≤ length log
    → (IsTrue b ↔ ((n : ℕ) → ArePassingFrames size log n → AreInFile size log db n)) → (IsTrue b ↔ IsWrittenBack log db)
back_ends log db head size b is named sized heads long says =
    let same : size ≡ size_named log = named ∙ opened_size head 0x37 ∙ ap (λ (h : List ℕ). be32 h 8) (sym is) in (
      λ yes _ _ _. subst (λ (m : ℕ). (n : ℕ) → ArePassingFrames m log n → AreInFile m log db n) same (says.0 yes),
      λ back. says.1 (subst (λ (m : ℕ). (n : ℕ) → ArePassingFrames m log n → AreInFile m log db n)
          (sym same)
          (back long (subst IsPageSize same sized)
          (subst (λ (m : ℕ). IsHeader m (opened_header log)) same (subst (λ (h : List ℕ). IsHeader size (slice_set h 0 0x37)) (sym is) heads)))),
    )

pub nothing_back : (log db head : List ℕ) → header log ≡ head
    → (IsPageSize (be32 (slice_set head 0 0x37) 8) → ¬ IsHeader (be32 (slice_set head 0 0x37) 8) (slice_set head 0 0x37)) → IsWrittenBack log db
nothing_back log db head is none long sized heads =
    let same : be32 (slice_set head 0 0x37) 8 ≡ size_named log = opened_size head 0x37 ∙ ap (λ (h : List ℕ). be32 h 8) (sym is) in
    absurd (none (subst IsPageSize (sym same) sized)
    (subst (λ (m : ℕ). IsHeader m (slice_set head 0 0x37)) (sym same) (subst (λ (h : List ℕ). IsHeader (size_named log) (slice_set h 0 0x37)) is heads)))

-- the first byte says how the log was left
pub left_written : (log db : List ℕ) (b : Bool) → 0 < length db → 1 < length log → slice_index log 0 ≡ 0x37 → (IsTrue b ↔ IsWritten log)
    → (IsTrue b ↔ (0 < length db → 1 < length log → IsLogLeft log db))
left_written log db b some long first says = (
  λ yes _ _. record { written = λ _. says.0 yes; emptied = λ other. absurd (other first) },
  λ left. says.1 ((left some long).written first),
)

pub left_emptied : (log db : List ℕ) (b : Bool) → 0 < length db → 1 < length log → slice_index log 0 ≢ 0x37 → (IsTrue b ↔ IsWrittenBack log db)
    → (IsTrue b ↔ (0 < length db → 1 < length log → IsLogLeft log db))
left_emptied log db b some long first says = (
  λ yes _ _. record { written = λ is. absurd (first is); emptied = λ _. says.0 yes },
  λ left. says.1 ((left some long).emptied first),
)

-- the same, as the pages of all frames were read
pub for_pages : (page_size room n : ℕ) (log db numbers given : List ℕ) (b : Bool) → ArePassingFrames page_size log n → n ≡ length numbers → given ≡ numbers
    → room ≡ page_size → (IsTrue b ↔ AreInFile room log db (length given))
    → (IsTrue b ↔ ((m : ℕ) → ArePassingFrames page_size log m → AreInFile page_size log db m))
for_pages page_size room n log db numbers given b all count same sized says =
    for_all page_size log n all db b (rw (← sized, count, ← same) says)
