-- A grant of a session's group that may have an open one: what it holds is held beside what the group
-- holds already. A request whose services name a group twice would come to that; no type of a request
-- lets it.
use Rattle.std.proofs.Common.{◌≡◌, ℕ, ◌+◌, true, List, sym, ap, subst}
use Rattle.buckets.specs.declared.holds.HeldAmount.{HeldAmount}
use Rattle.buckets.specs.Row.{BucketRow, eligible_amount}
use Rattle.buckets.specs.Share.{share, parts}
use Rattle.buckets.specs.Spend.{Each, IsSound}
use Rattle.buckets.proofs.Parts.{sum_at, sum_at-parts}
use Rattle.buckets.specs.declared.kind.Due.{Due}
use Rattle.ledger.specs.Ledger.{Ledger, held, only, is_live}
use Rattle.ledger.specs.Pricing.{validity_of}
use Rattle.ledger.specs.Balance.{buckets_at}
use Rattle.ledger.specs.Reservation.{reserved}
use Rattle.reserving.specs.Changes.{reserved_in}
use Rattle.reserving.specs.Rows.{AccountRows, IsAccount, IsRowsOf}
use Rattle.reserving.proofs.LeftMerged.{each_map}
use Rattle.reserving.proofs.rows.Complete.{reserved_in_is}
use Rattle.reserving.proofs.rows.Reserved.{each_own, holding_account, IsRowsOf-holding}
use Rattle.reserving.proofs.rows.Reserved.{IsAccount-holding}

-- what the group holds: what it held, and its shares of what is due
abbrev held_again : AccountRows → Ledger → List ℕ → ℕ → Due → List BucketRow → BucketRow → ℕ
held_again a ledger session group due rows b =
    held (only session group) b.number ledger + share (eligible_amount group a.as_of) rows due b

abbrev pub again_account : List ℕ → ℕ → Due → Ledger → AccountRows → AccountRows
again_account session group due ledger a = holding_account session group due
    (parts (held_again a ledger session group due a.buckets) a.buckets) a

pub IsRowsOf-again : (ledger : Ledger) (a : AccountRows) (session : List ℕ)
    (group units : ℕ) (due : Due) →
    IsAccount a → IsRowsOf ledger a → is_live (validity_of a.shelf) a.as_of ledger session ≡ true →
    IsRowsOf (reserved a.shelf a.as_of session group units due ledger)
    (again_account session group due ledger a)
IsRowsOf-again ledger a session group units due account rows live =
    let now : List BucketRow = buckets_at (validity_of a.shelf) a.as_of ledger in
    let sound : IsSound now = subst IsSound rows.buckets account.sound in
    let G : BucketRow → ℕ = share (eligible_amount group a.as_of) now due in
    IsRowsOf-holding ledger a session group units due
    (parts (held_again a ledger session group due a.buckets) a.buckets)
    (held_again a ledger session group due now) account rows live
    (each_own a.shelf a.as_of session group units due ledger G now
    (sum_at-parts G now sound.distinct))
    (ap (λ xs. parts (held_again a ledger session group due xs) xs) rows.buckets)

each_before : (ledger : Ledger) (a : AccountRows) (session : List ℕ) (group : ℕ) → IsAccount a →
    IsRowsOf ledger a → is_live (validity_of a.shelf) a.as_of ledger session ≡ true →
    Each (λ b. sum_at b.number (reserved_in session group a.groups)
    ≡ held (only session group) b.number ledger) a.buckets
each_before ledger a session group account rows live =
    let now : List BucketRow = buckets_at (validity_of a.shelf) a.as_of ledger in
    let sound : IsSound now = subst IsSound rows.buckets account.sound in
    subst (λ (xs : List BucketRow). Each (λ b. sum_at b.number (reserved_in session group a.groups)
    ≡ held (only session group) b.number ledger) xs) (sym rows.buckets)
    (subst (λ (hs : List HeldAmount). Each (λ b. sum_at b.number hs
    ≡ held (only session group) b.number ledger) now)
    (sym (reserved_in_is ledger a session group account rows live))
    (sum_at-parts (λ b. held (only session group) b.number ledger) now sound.distinct))

pub IsAccount-again : (ledger : Ledger) (a : AccountRows) (session : List ℕ) (group : ℕ)
    (due : Due) → IsAccount a → IsRowsOf ledger a →
    is_live (validity_of a.shelf) a.as_of ledger session ≡ true →
    IsAccount (again_account session group due ledger a)
IsAccount-again ledger a session group due h rows live =
    let G : BucketRow → ℕ = share (eligible_amount group a.as_of) a.buckets due in
    IsAccount-holding a session group due (held_again a ledger session group due a.buckets)
    (each_map (λ b. sum_at b.number (reserved_in session group a.groups)
    ≡ held (only session group) b.number ledger)
    (λ b. sum_at b.number (reserved_in session group a.groups) + G b
    ≡ held (only session group) b.number ledger + G b) a.buckets (λ b e. ap (λ n. n + G b) e)
    (each_before ledger a session group h rows live)) h
