-- A walk along the frames, as far as it has come.
use Rattle.std.proofs.Common.{◌≡◌, ◌≢◌, ◌↔◌, ℕ, suc, ◌+◌, ◌<◌, ◌++◌, ◌∷◌, [], List, length, slice_index, IsTrue, Bool, true, refl, ◌∙◌, ap, arith, add-one, inl, inr}
use Rattle.std.proofs.lemmas.Bool.{cases_eq}
use Rattle.std.proofs.lemmas.List.{get_or_append_left, get_or_push, length_push}
use Rattle.sqlite_wal.specs.Format.{page_number, stored_sum}
use Rattle.sqlite_wal.specs.Recovery.{frame_at, frame, header, Passes}
use Rattle.sqlite_wal.proofs.PartLemmas.{frames_len-zero, frames_len-suc}
use Rattle.wal_check.specs.declared.frames.Place.{Place}
use Rattle.wal_check.specs.declared.frames.Frame.{Frame}
use Rattle.wal_check.specs.Frames.{EndsInCommit}
use Rattle.wal_check.specs.Walks.{IsFramePlace, IsFrameOf, AreNumbers}

-- all frames before the place pass, and these are their pages
pub record SoFar (page_size : ℕ) (log numbers : List ℕ) (place : Place) (commits : Bool) : Type 0 where
  pub count : place.frame ≡ length numbers
  pub at : IsFramePlace page_size log place
  pub each : (i : ℕ) → i < place.frame → Passes page_size log i
  pub pages : AreNumbers page_size log numbers
  pub last : IsTrue commits ↔ EndsInCommit page_size log place.frame

-- where the frame behind one begins
pub place_behind : (page_size k next at moved : ℕ) → next ≡ k + 1 → moved ≡ at + (24 + page_size) → at ≡ frame_at page_size k
    → moved ≡ frame_at page_size next
place_behind page_size k next at moved number is begins = rw (number ∙ add-one k) (omega (arith, frames_len-suc page_size k))

-- the place behind a frame that was read
pub next_at : (page_size : ℕ) (log : List ℕ) (place next : Place) (read : Frame)
    → IsFramePlace page_size log place → IsFrameOf read (frame page_size log place.frame)
    → next.frame ≡ place.frame + 1 → next.at ≡ place.at + (24 + page_size) → next.sum ≡ read.sum
    → IsFramePlace page_size log next
next_at page_size log place next read at says number moved sum =
    let k : next.frame ≡ suc place.frame = number ∙ add-one place.frame in
    record {
      at = rw k (omega (arith, frames_len-suc page_size place.frame, at.at));
      sum = rw k (sum ∙ says.sum);
    }

pub none_so_far : (page_size : ℕ) (log numbers : List ℕ) (sum : ℕ × ℕ) → numbers ≡ [] → sum ≡ stored_sum (header log) 24
    → SoFar page_size log numbers (record { frame = 0; at = 32; sum = sum }) true
none_so_far page_size log numbers sum empty first = record {
  count = rw empty refl;
  at = record { at = omega (arith, frames_len-zero page_size); sum = first };
  each = λ i low. absurd (omega arith);
  pages = rw empty (λ i low. absurd (omega arith));
  last = (λ _ i none. absurd (omega arith), λ _. refl);
}

module _ (page_size : ℕ) (log numbers : List ℕ) (place next : Place) (commits now : Bool) (read : Frame)
    (s : SoFar page_size log numbers place commits) (passes : Passes page_size log place.frame)
    (says : IsFrameOf read (frame page_size log place.frame)) where
  each_more : (i : ℕ) → i < place.frame + 1 → Passes page_size log i
  each_more i low = elim (cases_eq i place.frame) [ inl last ↦ rw last passes | inr earlier ↦ s.each i (omega arith) ]

  pages_more : (i : ℕ) → i < suc (length numbers) → slice_index (numbers ++ read.page ∷ []) i ≡ page_number (frame page_size log i)
  pages_more i low = elim (cases_eq i (length numbers)) [
    | inl last ↦ rw last (get_or_push numbers _ 0 _ refl ∙ says.page ∙ ap (λ (n : ℕ). page_number (frame page_size log n)) s.count)
    | inr earlier ↦ get_or_append_left numbers _ 0 i (omega arith) ∙ s.pages i (omega arith)
  ]

  pub one_more : (pushed : List ℕ) → pushed ≡ numbers ++ read.page ∷ [] → (IsTrue now ↔ read.size ≢ 0)
      → next.frame ≡ place.frame + 1 → next.at ≡ place.at + (24 + page_size) → next.sum ≡ read.sum
      → SoFar page_size log pushed next now
  one_more pushed is commits_now number moved sum =
      let len : length (numbers ++ read.page ∷ []) ≡ suc (length numbers) = length_push numbers read.page ∙ add-one (length numbers) in
      rw is (record {
        count = omega (arith, len, s.count);
        at = next_at page_size log place next read s.at says number moved sum;
        each = λ i low. each_more i (omega arith);
        pages = λ i low. pages_more i (omega (arith, len));
        last = (
          λ yes i end. let same : i ≡ place.frame = omega arith in rw (same, ← says.size) (commits_now.0 yes),
          λ ends. commits_now.1 (rw says.size (ends place.frame (omega arith))),
        );
      })
