-- What a walk along the frames of a log has read.
use Rattle.std.specs.Prelude.{◌≡◌, ◌↔◌, ℕ, ◌<◌, List, length, slice_index, IsTrue}
use Rattle.sqlite_wal.specs.Format.{page_number, commit_size, stored_sum}
use Rattle.sqlite_wal.specs.Recovery.{frame_at, header, frame, sum_before}
use Rattle.wal_check.specs.declared.frames.Frame.{Frame}
use Rattle.wal_check.specs.declared.frames.Frames.{Frames}
use Rattle.wal_check.specs.declared.frames.Place.{Place}
use Rattle.wal_check.specs.declared.frames.Shape.{Shape}
use Rattle.wal_check.specs.Frames.{ArePassingFrames, EndsInCommit}

-- the log's length and header
pub record IsShapeOf (shape : Shape) (log : List ℕ) : Type 0 where
  pub len : shape.len ≡ length log
  pub head : shape.head ≡ header log

-- where a frame begins, and what its checksum goes on from
pub record IsFramePlace (page_size : ℕ) (log : List ℕ) (place : Place) : Type 0 where
  pub at : place.at ≡ frame_at page_size place.frame
  pub sum : place.sum ≡ sum_before page_size log place.frame

-- what is read of a frame is what its bytes say
pub record IsFrameOf (read : Frame) (bytes : List ℕ) : Type 0 where
  pub page : read.page ≡ page_number bytes
  pub size : read.size ≡ commit_size bytes
  pub sum : read.sum ≡ stored_sum bytes 16

-- each number is the page of its frame
abbrev pub AreNumbers : (page_size : ℕ) (log numbers : List ℕ) → Type 0
AreNumbers page_size log numbers =
    (i : ℕ) → i < length numbers → slice_index numbers i ≡ page_number (frame page_size log i)

-- all frames that pass were read
pub record AreRead (page_size : ℕ) (log : List ℕ) (frames : Frames) : Type 0 where
  pub count : frames.end.frame ≡ length frames.numbers.items
  pub end : IsFramePlace page_size log frames.end
  pub all : ArePassingFrames page_size log frames.end.frame
  pub numbers : AreNumbers page_size log frames.numbers.items
  pub commits : IsTrue frames.commits ↔ EndsInCommit page_size log frames.end.frame
