-- The tokens that a writer adds for a value, a member or the items of an array.
use Rattle.std.specs.Prelude.{◌≡◌, List, [], ◌∷◌, ◌++◌, ℕ, Option, Some, None, OnOk, Result}
use Rattle.json.specs.Token.{Token, key}
use Rattle.json.specs.Tree.{json_tokens}
use Rattle.json.specs.Written.{Written}
use Rattle.serde_json.specs.Data.{Data, Items, no_items, item}
use Rattle.serde_json.specs.Written.{outline}

abbrev pub tokens_of : Data → List Token
tokens_of d = json_tokens (outline d)

abbrev pub member_tokens : List ℕ → Data → List Token
member_tokens k d = key k ∷ tokens_of d

abbrev pub perhaps_tokens : List ℕ → Option Data → List Token
perhaps_tokens k None = []
perhaps_tokens k (Some d) = member_tokens k d

-- members, each a name and its value
abbrev pub named_tokens : List (List ℕ × Data) → List Token
named_tokens [] = []
named_tokens ((k, d) ∷ named) = member_tokens k d ++ named_tokens named

-- the items of an array without its brackets
abbrev pub item_tokens : Items → List Token
item_tokens no_items = []
item_tokens (item d ds) = tokens_of d ++ item_tokens ds

-- the tokens are added at the end
abbrev pub Adds : {E : Type 0} → Result (Unit {0}) E → Written → Written → List Token → Type 0
Adds r old new ts = OnOk r ((new.tokens ≡ old.tokens ++ ts) × (new.before ≡ old.before))
