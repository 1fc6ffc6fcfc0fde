-- Pages of the file.
use Rattle.std.proofs.Common.{◌≡◌, ◌≢◌, ◌↔◌, ℕ, ◌+◌, ◌-◌, ◌*◌, ◌<◌, ◌≤◌, List, length, slice_index, Bool, IsTrue, sym, ◌∙◌, ap, arith, add-one, below_more}
use Rattle.std.specs.Cmp.Lexicographic.{pointwise, bytes_decides}
use Rattle.std.proofs.Math.Dec.{eqb}
use Rattle.sqlite_disk.specs.Disk.{Holds}
use Rattle.sqlite_wal.specs.Format.{part, page_number, content}
use Rattle.sqlite_wal.specs.Recovery.{frame, frame_at, file_page}
use Rattle.sqlite_wal.proofs.FileLemmas.{content-frame}
use Rattle.sqlite_wal.proofs.PartLemmas.{held_is_part, part_within, frames_len-lt, frames_len-suc}
use Rattle.wal_check.specs.Frames.{ArePassingFrames, IsNewest, IsPageInFile}
use Rattle.wal_check.specs.Walks.{AreNumbers}

-- the file ends before the page
pub page_lacking : (db page : List ℕ) (number from : ℕ) {len : ℕ} → len ≡ length db → from ≡ (number - 1) * length page → 0 < length page
    → len < from + length page → file_page (length page) db number ≢ page
page_lacking db page number from size place some short is =
    let within = part_within db ((number - 1) * length page) (length page) some (ap length is) in
    absurd (omega (arith, within))

-- the file has the page, where it was read and found to be the same
pub page_there : (db page copy : List ℕ) (number from : ℕ) (same : Bool) → from ≡ (number - 1) * length page → Holds db from copy
    → length copy ≡ length page → same ≡ pointwise eqb copy page
    → (IsTrue same ↔ file_page (length page) db number ≡ page)
page_there db page copy number from same place held len is =
    let read : file_page (length page) db number ≡ copy =
    ap (λ (at : ℕ). part db at (length page)) (sym place) ∙ held_is_part db copy from (length page) held len in (
      λ yes. read ∙ (bytes_decides copy page).0 (sym is ∙ yes),
      λ there. is ∙ (bytes_decides copy page).1 (sym read ∙ there),
    )

-- no later number is this one, as no later frame is for its page
pub newest : (page_size : ℕ) (log numbers : List ℕ) (i number : ℕ) → AreNumbers page_size log numbers → i < length numbers
    → number ≡ slice_index numbers i
    → (((j : ℕ) → i < j → j < length numbers → slice_index numbers j ≢ number) ↔ IsNewest page_size log (length numbers) i)
newest page_size log numbers i number are low is =
    let same : number ≡ page_number (frame page_size log i) = is ∙ are i low in (
      λ none j past before there. none j past before (are j before ∙ there ∙ sym same),
      λ alone j past before there. alone j past before (sym (are j before) ∙ there ∙ same),
    )

-- what the file has is what the frame has
pub frame_there : (page_size : ℕ) (log db : List ℕ) (i number at : ℕ) → number ≡ page_number (frame page_size log i)
    → at ≡ frame_at page_size i
    → (file_page page_size db number ≡ part log (at + 24) page_size
    ↔ file_page page_size db (page_number (frame page_size log i)) ≡ content (frame page_size log i))
frame_there page_size log db i number at is begins =
    let of_page = ap (λ (n : ℕ). file_page page_size db n) is in
    let of_part = content-frame page_size log i ∙ ap (λ (x : ℕ). part log (x + 24) page_size) (sym begins) in (
      λ has. sym of_page ∙ has ∙ sym of_part,
      λ has. of_page ∙ has ∙ of_part,
    )

-- the frame is kept, if it is the newest and the file has it
pub kept_there : (page_size : ℕ) (log db numbers : List ℕ) (i number at : ℕ) (has : Bool) → AreNumbers page_size log numbers → i < length numbers
    → number ≡ slice_index numbers i → at ≡ frame_at page_size i
    → ((j : ℕ) → i < j → j < length numbers → slice_index numbers j ≢ number)
    → (IsTrue has ↔ file_page page_size db number ≡ part log (at + 24) page_size)
    → (IsTrue has ↔ IsPageInFile page_size log db (length numbers) i)
kept_there page_size log db numbers i number at has are low is begins alone says =
    let there = frame_there page_size log db i number at (is ∙ are i low) begins in
    let first = (newest page_size log numbers i number are low is).0 alone in (
      λ yes _. there.0 (says.0 yes),
      λ kept. says.1 (there.1 (kept first)),
    )

-- the frame is kept, if it isn't the newest
pub kept_older : (page_size : ℕ) (log db numbers : List ℕ) (i number : ℕ) → AreNumbers page_size log numbers → i < length numbers
    → number ≡ slice_index numbers i
    → ¬ ((j : ℕ) → i < j → j < length numbers → slice_index numbers j ≢ number)
    → IsPageInFile page_size log db (length numbers) i
kept_older page_size log db numbers i number are low is older first =
    absurd (older ((newest page_size log numbers i number are low is).1 first))

-- where the frame behind one of the first n begins, whose ends are below a number
pub place_within : (page_size given i n at most : ℕ) → page_size ≡ given → i < n → at ≡ frame_at page_size i → frame_at given n < most
    → at + (24 + page_size) < most
place_within page_size given i n at most same low begins below =
    let ends : frame_at page_size n < most = rw same below in
    omega (arith, frames_len-lt page_size i n low, ends)

-- the end of a frame, where the pages have the same size
pub end_within : (page_size given i at most : ℕ) → page_size ≡ given → at ≡ frame_at page_size i → frame_at given i + (24 + given) ≤ most
    → at + (24 + page_size) ≤ most
end_within page_size given i at most same begins fits =
    let ends : frame_at page_size i + (24 + page_size) ≤ most = rw same fits in
    omega (arith, ends)

-- each frame that passes is whole
pub all_within : (page_size given n : ℕ) (log seen numbers listed : List ℕ) → given ≡ page_size → seen ≡ log → ArePassingFrames page_size log n
    → n ≡ length listed → numbers ≡ listed
    → (i : ℕ) → i < length numbers → frame_at given i + (24 + given) ≤ length seen
all_within page_size given n log seen numbers listed size same all count is i low =
    rw (size, same) (all.each i (omega (arith, ap length is, count, low))).within

-- where the frame behind one begins
pub place_after : (page_size kept i at : ℕ) → kept ≡ page_size → at ≡ frame_at page_size i → at + (24 + kept) ≡ frame_at kept (i + 1)
place_after page_size kept i at same begins = rw (same, add-one i) (omega (arith, frames_len-suc page_size i))

-- one page more is kept
pub kept_more : (page_size kept : ℕ) (log db : List ℕ) (n k : ℕ) → kept ≡ page_size
    → ((i : ℕ) → i < k → IsPageInFile page_size log db n i) → IsPageInFile page_size log db n k
    → (i : ℕ) → i < k + 1 → IsPageInFile kept log db n i
kept_more page_size kept log db n k same before here = rw same (below_more _ _ before here)
