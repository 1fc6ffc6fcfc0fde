-- The limits of a connection.
-- Source: profile.
use Rattle.std.specs.Prelude.{ℕ}

-- the most requests that are answered
abbrev pub most_requests : ℕ
most_requests = 1000

-- the most bytes that wait to be written together
abbrev pub most_waiting : ℕ
most_waiting = 8192

-- the most seconds that a read or a write of a socket takes
-- rule: http-waiting: how long a read or a write of a socket may take, of what is left for all
--   those of a connection, and what is left after it
abbrev pub socket_seconds : ℕ
socket_seconds = 30
