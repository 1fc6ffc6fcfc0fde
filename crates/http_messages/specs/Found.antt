-- The fields of a name, as they are found.
use Rattle.std.specs.Prelude.{◌≡◌, ◌≤◌, ℕ, List, [], ◌∷◌, length}
use Rattle.texts.specs.StreamWords.{Bytes}
use Rattle.httparse.specs.Spans.{IsWithin, span_bytes}
use Rattle.http_messages.specs.declared.fields.Found.{Found}
use Rattle.http_messages.specs.declared.fields.Found.TheVariants.{None, One, Many}

-- the place of a single value lies in so many bytes
abbrev pub FoundWithin : ℕ → Found → Type 0
FoundWithin n None = Unit {0}
FoundWithin n (One span) = IsWithin n span
FoundWithin n Many = Unit {0}

-- none, one or more of these values
abbrev pub AreValuesFound : Bytes → List Bytes → Found → Type 0
AreValuesFound part values None = values ≡ []
AreValuesFound part values (One span) = values ≡ span_bytes part span ∷ []
AreValuesFound part values Many = 2 ≤ length values
