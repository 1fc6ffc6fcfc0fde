-- The tokens of members and items, and what is printed for them.
use Rattle.std.proofs.Common.{◌≡◌, ℕ, List, [], ◌∷◌, ◌++◌, Option, Some, None, Result, refl, sym}
use Rattle.std.proofs.Common.{ap, ◌∙◌, subst, append_assoc, append-nil}
use Rattle.json.specs.Token.{Token, end_array}
use Rattle.json.specs.Tree.{members_tokens, items_tokens}
use Rattle.json.specs.Print.{print}
use Rattle.json.specs.Written.{Written}
use Rattle.serde_json.specs.Data.{Data, Members, Items, no_items, item}
use Rattle.serde_json.specs.Written.{members_outline, items_outline, compact_text}
use Rattle.serde_json.proofs.Texts.{print-outline}
use Rattle.json_fields.specs.Spelling.{perhaps, with_members}
use Rattle.json_fields.specs.Tokens.{Adds, tokens_of, member_tokens, perhaps_tokens, named_tokens}
use Rattle.json_fields.specs.Tokens.{item_tokens}

pub perhaps_front : (k : List ℕ) (o : Option Data) (ms : Members) →
    members_tokens (members_outline (perhaps k o ms))
    ≡ perhaps_tokens k o ++ members_tokens (members_outline ms)
perhaps_front k None ms = refl
perhaps_front k (Some d) ms = refl

pub named_front : (named : List (List ℕ × Data)) (ms : Members) →
    members_tokens (members_outline (with_members named ms))
    ≡ named_tokens named ++ members_tokens (members_outline ms)
named_front [] ms = refl
named_front ((k, d) ∷ named) ms = ap (λ ts. member_tokens k d ++ ts) (named_front named ms) ∙ sym
    (append_assoc (member_tokens k d) (named_tokens named) (members_tokens (members_outline ms)))

-- a member that is written is a list of one
pub one_named : {E : Type 0} (r : Result (Unit {0}) E) (old new : Written) (k : List ℕ) (d : Data) →
    Adds r old new (member_tokens k d) → Adds r old new (named_tokens ((k, d) ∷ []))
one_named r old new k d h = subst (λ ts. Adds r old new ts) (sym (append-nil (member_tokens k d))) h

-- rule: answers, fault-answers
pub printed : (d : Data) (ts : List Token) → ts ≡ [] ++ tokens_of d → print ts ≡ compact_text d
printed d ts e = ap print e ∙ print-outline d

pub items_front : (ds : Items) → items_tokens (items_outline ds) ≡ item_tokens ds ++ end_array ∷ []
items_front no_items = refl
items_front (item d ds) = ap (λ ts. tokens_of d ++ ts) (items_front ds)
    ∙ sym (append_assoc (tokens_of d) (item_tokens ds) (end_array ∷ []))
