-- A buffer that was made over a reader.
use Rattle.std.proofs.Common.{◌≡◌, ◌==◌, ℕ, List, [], ap, ◌∙◌, if◌then◌else◌, Option, None}
use Rattle.std.specs.declared.io.buffered.BufReader.{BufReader}
use Rattle.std.specs.Io.Buffered.{reader_remaining, reader_capacity, reader_buffer, reader_inner}
use Rattle.std.specs.Io.KnownBytes.{prepend_known}
use Rattle.std.proofs.KnownBytes.{prepend_known-nil}

-- a new one has what its reader has
pub buffer_unread : {T A : Type 0} (r : BufReader T A) (inner : T)
    (remaining : T → Option (List ℕ)) → reader_capacity r ≡ 8192 → reader_buffer r ≡ [] →
    reader_inner r ≡ inner → reader_remaining remaining r ≡ remaining inner
buffer_unread r inner remaining capacity empty is =
    ap (λ (n : ℕ). if n == 0 then None else prepend_known (reader_buffer r) (remaining r.inner))
    capacity
    ∙ ap (λ (b : List ℕ). prepend_known b (remaining r.inner)) empty
    ∙ prepend_known-nil (remaining r.inner)
    ∙ ap remaining is
