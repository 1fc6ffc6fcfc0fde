-- What the readers of members give where the member is known.
use Rattle.std.proofs.Common.{◌≡◌, ℕ, ◌≤◌, List, true, false, ◌&&◌, Option}
use Rattle.std.proofs.Common.{Some, None, option_map, IfSome, Ok, refl}
use Rattle.std.proofs.Common.{arith, le-leb, nat_le}
use Rattle.std.specs.Ordering.{nat_cmp, match_ordering, is_eq}
use Rattle.std.specs.declared.cmp.Ordering.{Ordering}
use Rattle.std.specs.declared.cmp.Ordering.TheVariants.{Less, Equal, Greater}
use Rattle.std.specs.Cmp.Lexicographic.{slice_cmp}
use Rattle.serde_json.specs.Data.{Data, string, object, Members}
use Rattle.serde_json.specs.Find.{get, get_member}
use Rattle.units.specs.declared.blocks.UnitKind.{UnitKind}
use Rattle.commands.specs.declared.avp.Avp.{Avp}
use Rattle.commands.specs.Names.{name_of}
use Rattle.commands.specs.Quantities.{most_units}
use Rattle.json_fields.specs.declared.fault.WireFault.{WireFault}
use Rattle.json_fields.specs.Gives.{where_holds}
use Rattle.json_fields.specs.Spelling.{whole, perhaps}
use Rattle.json_fields.specs.Fields.{member_at, number_at, optional_in, optional_at, text_at}
use Rattle.json_fields.specs.Fields.{object_at}
use Rattle.json_fields.specs.Unit.{name_of_unit, lacks_others, units_at}

skip : {X : Type 0} (o : Ordering) (a b : X) → is_eq o ≡ false → match_ordering o a b a ≡ a
skip Less a b e = refl
skip Equal a b e = absurd (cc)
skip Greater a b e = refl

-- another member
pub get_skip : (q k : List ℕ) (o : Option Data) (ms : Members) →
    is_eq (slice_cmp nat_cmp q k) ≡ false → get_member q (perhaps k o ms) ≡ get_member q ms
get_skip q k None ms e = refl
get_skip q k (Some d) ms e = skip (slice_cmp nat_cmp q k) _ _ e

-- this member
pub get_here : (k : List ℕ) (o : Option Data) (ms : Members) → slice_cmp nat_cmp k k ≡ Equal →
    get_member k ms ≡ None → get_member k (perhaps k o ms) ≡ o
get_here k None ms same none = none
get_here k (Some d) ms same none = rw same refl

in_range : (low high n : ℕ) (e : WireFault) → low ≤ n → n ≤ high →
    where_holds (nat_le low n && nat_le n high) e n ≡ Ok n
in_range low high n e a b = rw (le-leb low n a, le-leb n high b) refl

pub number_found : (a : Avp) (low high : ℕ) (d : Data) (n : ℕ) →
    get (name_of a) d ≡ Some (whole n) → low ≤ n → n ≤ high → number_at a low high d ≡ Ok n
unfolding number_at member_at
number_found a low high d n e l h = rw e (in_range low high n _ l h)

-- what has no least number begins at 0
pub from_zero : (most : ℕ) (o : Option ℕ) → IfSome o (λ n. n ≤ most) →
    IfSome o (λ n. (0 ≤ n) × (n ≤ most))
from_zero most None h = tt
from_zero most (Some n) h = (omega arith, h)

pub optional_in_found : (name : List ℕ) (fault : WireFault) (low high : ℕ) (d : Data)
    (o : Option ℕ) → get name d ≡ option_map whole o → IfSome o (λ n. (low ≤ n) × (n ≤ high)) →
    optional_in name fault low high d ≡ Ok o
unfolding optional_in
optional_in_found name fault low high d None e h = rw e refl
optional_in_found name fault low high d (Some n) e h =
    rw (e, le-leb low n h.0, le-leb n high h.1) refl

pub optional_found : (a : Avp) (low high : ℕ) (d : Data) (o : Option ℕ) → get (name_of a) d
    ≡ option_map whole o → IfSome o (λ n. (low ≤ n) × (n ≤ high)) → optional_at a low high d ≡ Ok o
optional_found a low high d o e h = optional_in_found (name_of a) _ low high d o e h

pub text_found : (a : Avp) (d : Data) (s : List ℕ) → get (name_of a) d ≡ Some (string s) →
    text_at a d ≡ Ok s
unfolding text_at member_at
text_found a d s e = rw e refl

pub object_found : (a : Avp) (d : Data) (ms : Members) → get (name_of a) d ≡ Some (object ms) →
    object_at a d ≡ Ok (object ms)
unfolding object_at member_at
object_found a d ms e = rw e refl

pub units_found : (fault : WireFault) (low : ℕ) (kind : UnitKind) (d : Data) (n : ℕ) →
    get (name_of_unit kind) d ≡ Some (whole n) → lacks_others kind d ≡ true → low ≤ n →
    n ≤ most_units kind → units_at fault low kind d ≡ Ok n
unfolding units_at
units_found fault low kind d n e alone l h =
    rw (e, le-leb low n l, le-leb n (most_units kind) h, alone) refl
