-- What is asked of each command that is kept: its account, and the key of its answer.
-- Source: profile; a request's key is its Session-Id (RFC 6733 section 8.8) and CC-Request-Number
-- (RFC 8506 section 8.2).
use Rattle.std.specs.Prelude.{◌≡◌, ℕ, ◌&&◌, ◌++◌, Bool, true, false, List, nat_eq}
use Rattle.std.specs.Bool.{Decides}
use Rattle.std.specs.Cmp.{unsigned_Decides}
use Rattle.std.specs.Cmp.Lexicographic.{bytes_decides}
use Rattle.std.specs.Hash as fed
use Rattle.std.proofs.Common.{refl, sym, ap, subst, true≢false}
use Rattle.std.proofs.lemmas.Bool.{and_parts}
use Rattle.identifiers.specs.Texts.{same_name}
use Rattle.identifiers.specs.Words.{AccountName}
use Rattle.commands.specs.declared.command.Content.{Content}
use Rattle.commands.specs.declared.command.Content.TheVariants as content
use Rattle.commands.specs.declared.key.Key.{Key}
use Rattle.commands.specs.declared.key.Key.TheVariants.{Request, Reference}
use Rattle.commands.specs.declared.key.KeyRef.{KeyRef}
use Rattle.commands.specs.declared.key.KeyRef.TheVariants as lent

-- the account of a command with this content
-- rule: database-reads
abbrev pub account_of : Content → AccountName
account_of (content.Request r) = r.account
account_of (content.Credit c) = c.account
account_of (content.Allow a) = a.account
account_of (content.Redeem r) = r.account

-- its key
-- rule: database-reads
abbrev pub key_of : Content → Key
key_of (content.Request r) = Request r.session r.number
key_of (content.Credit c) = Reference c.reference
key_of (content.Allow a) = Reference a.reference
key_of (content.Redeem r) = Reference r.reference

-- the key that a borrowed one is
abbrev pub lent_key : KeyRef → Key
lent_key (lent.Request s n) = Request s.now n
lent_key (lent.Reference r) = Reference r.now

-- two are the same
-- rule: database-reads
abbrev pub same_key : Key → Key → Bool
same_key (Request s n) (Request t m) = same_name s t && nat_eq n m
same_key (Reference r) (Reference q) = same_name r q
same_key x y = false

no : {X : Type 0} → false ≡ true → X
no e = absurd (true≢false (sym e))

both : (a b : Bool) → a ≡ true → b ≡ true → (a && b) ≡ true
both true b p q = q
both false b p q = no p

key_sound : (x y : Key) → same_key x y ≡ true → x ≡ y
key_sound (Request s n) (Request t m) e =
    let parts = and_parts (same_name s t) (nat_eq n m) e in
    λ i. Request ((bytes_decides s t).0 parts.0 i) ((unsigned_Decides n m).0 parts.1 i)
key_sound (Request s n) (Reference q) e = no e
key_sound (Reference r) (Request t m) e = no e
key_sound (Reference r) (Reference q) e = ap Reference ((bytes_decides r q).0 e)

key_itself : (x : Key) → same_key x x ≡ true
key_itself (Request s n) =
    both (same_name s s) (nat_eq n n) ((bytes_decides s s).1 refl) ((unsigned_Decides n n).1 refl)
key_itself (Reference r) = (bytes_decides r r).1 refl

-- the test knows equal keys
pub key_decides : (x y : Key) → Decides (same_key x y) (x ≡ y)
key_decides x y = (key_sound x y, λ e. subst (λ k. same_key x k ≡ true) e (key_itself x))

-- what a hash of a key is made of
abbrev pub key_writes : Key → List (List ℕ)
key_writes (Request s n) = fed.str s ++ fed.u32 n
key_writes (Reference r) = fed.str r
