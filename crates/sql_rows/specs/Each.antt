-- Rows of one kind, put one after another.
-- Source: profile.
use Rattle.std.specs.Prelude.{List, [], ◌∷◌}
use Rattle.units.specs.Words.{GroupId}
use Rattle.identifiers.specs.Words.{SessionName, AccountName}
use Rattle.buckets.specs.Row.{BucketRow}
use Rattle.buckets.specs.declared.holds.HeldAmount.{HeldAmount}
use Rattle.reserving.specs.declared.session.Session.{Session}
use Rattle.reserving.specs.declared.session.Counter.{Counter}
use Rattle.ledger.specs.declared.charge.ChargeRow.{ChargeRow}
use Rattle.sql_rows.specs.Content.{TablesContent, with_rows, with_bucket, with_session_row}
use Rattle.sql_rows.specs.Content.{with_charge_row}
use Rattle.sql_rows.specs.Content.{with_counter_row, with_hold_row}
use Rattle.sql_rows.specs.Values.{plain_bucket, plain_charge}

abbrev pub with_each : {X : Type 0} → (X → TablesContent → TablesContent) → List X → TablesContent →
    TablesContent
with_each change [] c = c
with_each change (x ∷ xs) c = with_each change xs (change x c)

abbrev pub with_buckets : AccountName → List BucketRow → TablesContent → TablesContent
with_buckets a = with_each (λ x. with_rows a (with_bucket (plain_bucket x)))

abbrev pub with_sessions : AccountName → List Session → TablesContent → TablesContent
with_sessions a = with_each (λ x. with_rows a (with_session_row x))

abbrev pub with_charges : AccountName → List ChargeRow → TablesContent → TablesContent
with_charges a = with_each (λ x. with_rows a (with_charge_row (plain_charge x)))

abbrev pub with_counters : AccountName → List Counter → TablesContent → TablesContent
with_counters a = with_each (λ x. with_rows a (with_counter_row x))

-- what a session's reservation in a rating group holds
abbrev pub with_holds : AccountName → SessionName → GroupId → List HeldAmount → TablesContent →
    TablesContent
with_holds a s g = with_each (λ x. with_rows a (with_hold_row s g x.bucket x.amount))
