-- Each period is priced by exactly one entry.
use Rattle.std.proofs.Common.{◌≡◌, ◌≢◌, ℕ, ◌<◌, ◌≤◌, ◌==◌, Bool, true, false, not, List, [], ◌∷◌}
use Rattle.std.proofs.Common.{◌++◌, length, get_or, set, zero, suc, replicate, Option, Some, None}
use Rattle.std.proofs.Common.{Result, Ok, slice_get, refl, sym, ap, ◌∙◌, subst, true≢false, ◌⊎◌}
use Rattle.std.proofs.Common.{inl, inr, arith, length-set, append-nil, append_assoc}
use Rattle.std.specs.Prelude.{if◌then◌else◌, nat_le, option_and_then, codes, slice_set}
use Rattle.std.specs.Prelude.{slice_index_or}
use Rattle.std.specs.List.{filter, list_all}
use Rattle.std.specs.Option.{option_eq}
use Rattle.std.proofs.lemmas.Bool.{and_parts, leb-true, not-true}
use Rattle.std.proofs.lemmas.Bool.Decides.{nat_tests}
use Rattle.std.proofs.lemmas.List.{get_or-set_same, get_or-set_other, get_or-replicate}
use Rattle.std.proofs.lemmas.List.{length-replicate}
use Rattle.std.proofs.lemmas.List.Elements.{filter-append}
use Rattle.toml.specs.Data.{Data, Items, no_items, item, Members, get_member, as_str, as_table}
use Rattle.calendar.specs.declared.week.Period.{Period}
use Rattle.texts.specs.Steps as steps
use Rattle.texts.proofs.Steps.{same_value, bind_ok, where_ok, counted}
use Rattle.tariffs.specs.declared.fault.BookFault.{BookFault}
use Rattle.tariffs.specs.declared.fault.BookFault.TheVariants.{Missing, WrongKind, OutOfRange}
use Rattle.tariffs.specs.declared.fault.BookFault.TheVariants.{UnknownPeriod}
use Rattle.tariffs.specs.Faults.{◌>>=◌, or_fault, where_holds}
use Rattle.tariffs.specs.Fields.{member_of, text_of, array_of, filled_array_of, item_count}
use Rattle.tariffs.specs.Fields.{item_list, table_at, each}
use Rattle.tariffs.specs.declared.tiers.Tier.{Tier}
use Rattle.tariffs.specs.Prices.{has_tiers}
use Rattle.tariffs.specs.Names.{same_text, period_of, period_named, AreDistinct}
use Rattle.tariffs.specs.PriceFields.{next_tier, tiers_of, price_of, with_price, prices_of}
use Rattle.tariffs.specs.PricedOnce.{period_text, names_period, entry_tiers, IsPricedOnce}
use Rattle.tariffs.specs.PricedOnce.{PricesAreOnce}
use Rattle.tariffs.proofs.NameFacts.{same_itself, same_is, named_back}

or_found : {A : Type 0} (e : BookFault) (o : Option A) (v : A) → or_fault e o ≡ Ok v → o ≡ Some v
or_found e None v h = absurd (cc)
or_found e (Some x) v h = ap Some (same_value x v h)

get_lt : (xs : List (List ℕ)) (i : ℕ) (x : List ℕ) → slice_get xs i ≡ Some x → i < length xs
get_lt [] i x h = absurd (cc)
get_lt (y ∷ xs) zero x h = omega arith
get_lt (y ∷ xs) (suc i) x h = omega (arith, get_lt xs i x h)

-- ---- tiers

items_counted : (ds : Items) → length (item_list ds) ≡ item_count ds
items_counted no_items = refl
items_counted (item d ds) = ap suc (items_counted ds)

filled : (tiers : List Tier) → 1 ≤ length tiers → has_tiers tiers ≡ true
filled tiers h =
    let none : (length tiers == 0) ≡ false = grind (arith, nat_tests, h) in
    rw none refl

some_tiers : (t : Members) (tiers : List Tier) → tiers_of t ≡ Ok tiers → has_tiers tiers ≡ true
unfolding tiers_of filled_array_of
some_tiers t tiers h =
    let ds = bind_ok (filled_array_of (codes "tiers") 8 t) _ tiers h in
    let all = bind_ok (array_of (codes "tiers") 8 t) _ ds.0 ds.1 in
    let some = where_ok (nat_le 1 (item_count all.0)) OutOfRange all.0 ds.0 all.2 in
    let one : 1 ≤ item_count ds.0 =
    subst (λ (xs : Items). 1 ≤ item_count xs) some.1 (leb-true 1 (item_count all.0) some.0) in
    filled tiers
    (omega (
      arith,
      one,
      items_counted ds.0,
      counted (next_tier (item_count ds.0)) (item_list ds.0) [] tiers ds.2,
    ))

-- ---- an entry

-- what an entry that is read says
record IsPrice (names : List (List ℕ)) (prices : List (List Tier)) (d : Data)
    (after : List (List Tier)) : Type 0 where
  period : Period
  text : List ℕ
  tiers : List Tier
  told : period_text d ≡ Some text
  named : period_named names text ≡ Some period
  free : has_tiers (get_or prices period.0 []) ≡ false
  tiers_are : entry_tiers d ≡ Ok tiers
  some : has_tiers tiers ≡ true
  is : after ≡ set prices period.0 tiers

text_stands : (t : Members) (text : List ℕ) → text_of (codes "period") t ≡ Ok text →
    option_and_then as_str (get_member (codes "period") t) ≡ Some text
unfolding text_of
text_stands t text h =
    let d = bind_ok (member_of (codes "period") t) _ text h in
    ap (option_and_then as_str) (or_found Missing (get_member (codes "period") t) d.0 d.1)
    ∙ or_found WrongKind (as_str d.0) text d.2

price_said : (names : List (List ℕ)) (prices : List (List Tier)) (d : Data)
    (after : List (List Tier)) → with_price names prices d ≡ Ok after → IsPrice names prices d after
unfolding price_of period_of
price_said names prices d after h =
    let p = bind_ok (price_of names prices d) _ after h in
    let t = bind_ok (table_at d) _ p.0 p.1 in
    let period = bind_ok (period_of names t.0) _ p.0 t.2 in
    let text = bind_ok (text_of (codes "period") t.0) _ period.0 period.1 in
    let free =
    bind_ok (where_holds (not (has_tiers (slice_index_or prices period.0.0 []))) OutOfRange
    period.0) _ p.0 period.2 in
    let test =
    where_ok (not (has_tiers (slice_index_or prices period.0.0 []))) OutOfRange period.0 free.0
    free.1 in
    let tiers = bind_ok (tiers_of t.0) _ p.0 free.2 in
    let pair : (free.0, tiers.0) ≡ p.0 = same_value (free.0, tiers.0) p.0 tiers.2 in
    let table : as_table d ≡ Some t.0 = or_found WrongKind (as_table d) t.0 t.1 in
    record {
      period = period.0;
      text = text.0;
      tiers = tiers.0;
      told = ap (λ o. option_and_then as_str (option_and_then (get_member (codes "period")) o))
          table ∙ text_stands t.0 text.0 text.1;
      named = or_found UnknownPeriod (period_named names text.0) period.0 text.2;
      free = not-true (has_tiers (slice_index_or prices period.0.0 [])) test.0;
      tiers_are = ap (λ (r : Result Members BookFault). r >>= tiers_of) t.1 ∙ tiers.1;
      some = some_tiers t.0 tiers.0 tiers.1;
      is = sym (same_value (slice_set prices p.0.0.0 p.0.1) after p.2)
          ∙ ap (λ (q : Period × List Tier). set prices q.0.0 q.1) (sym pair)
          ∙ ap (λ (q : Period). set prices q.0 tiers.0) (sym test.1);
    }

-- ---- all entries

-- at a place: no entry yet, or one
abbrev AtPlace : List ℕ → List Data → List Tier → Type 0
AtPlace name pre tiers =
    ((has_tiers tiers ≡ false) × (filter (names_period name) pre ≡ [])) ⊎
    ((has_tiers tiers ≡ true) × IsPricedOnce name pre tiers)

record AreRead (names : List (List ℕ)) (pre : List Data) (prices : List (List Tier)) : Type 0 where
  count : length prices ≡ length names
  places : (place : ℕ) (name : List ℕ) → slice_get names place ≡ Some name →
      AtPlace name pre (get_or prices place [])

more_if : (p : Data → Bool) (pre : List Data) (d : Data) (b : Bool) → p d ≡ b →
    filter p (pre ++ d ∷ []) ≡ filter p pre ++ (if b then d ∷ [] else [])
more_if p pre d b is =
    filter-append p pre (d ∷ []) ∙ ap (λ (x : Bool). filter p pre ++ (if x then d ∷ [] else [])) is

-- the entry names the period at this place
here : (name : List ℕ) (pre : List Data) (d : Data) (old tiers : List Tier) →
    names_period name d ≡ true → has_tiers old ≡ false → entry_tiers d ≡ Ok tiers →
    has_tiers tiers ≡ true → AtPlace name pre old → AtPlace name (pre ++ d ∷ []) tiers
here name pre d old tiers named free are some (inl none) =
    inr (
      some,
      record {
        entry = d;
        only = more_if (names_period name) pre d true named
            ∙ ap (λ (xs : List Data). xs ++ d ∷ []) none.1;
        tiers_are = are;
      },
    )
here name pre d old tiers named free are some (inr one) = absurd (true≢false (sym one.0 ∙ free))

-- it names another
there : (name : List ℕ) (pre : List Data) (d : Data) (tiers : List Tier) →
    names_period name d ≡ false → AtPlace name pre tiers → AtPlace name (pre ++ d ∷ []) tiers
there name pre d tiers other (inl none) =
    inl (
      none.0,
      more_if (names_period name) pre d false other
          ∙ append-nil (filter (names_period name) pre) ∙ none.1,
    )
there name pre d tiers other (inr one) = inr (
  one.0,
  record {
    entry = one.1.entry;
    only = more_if (names_period name) pre d false other
        ∙ append-nil (filter (names_period name) pre) ∙ one.1.only;
    tiers_are = one.1.tiers_are;
  },
)

named_by : (d : Data) (text name : List ℕ) → period_text d ≡ Some text →
    names_period name d ≡ same_text text name
named_by d text name told = ap (λ (o : Option (List ℕ)). option_eq same_text o (Some name)) told

place_of : (p q : Period) → Some p ≡ Some q → p.0 ≡ q.0
place_of p q e = ap (λ (o : Option Period). (elim o as (λ _. ℕ) [ None ↦ 0 | Some x ↦ x.0 ])) e

text_of_some : (a b : List ℕ) → Some a ≡ Some b → a ≡ b
text_of_some a b e =
    ap (λ (o : Option (List ℕ)). (elim o as (λ _. List ℕ) [ None ↦ [] | Some x ↦ x ])) e

-- rule: tiers
one_more : (names : List (List ℕ)) (pre : List Data) (prices : List (List Tier)) (d : Data)
    (after : List (List Tier)) → AreDistinct names → AreRead names pre prices →
    with_price names prices d ≡ Ok after → AreRead names (pre ++ d ∷ []) after
one_more names pre prices d after distinct so_far h = record {
  count = ap length price.is ∙ rw length-set so_far.count;
  places = λ place name at. subst
      (λ (xs : List (List Tier)). AtPlace name (pre ++ d ∷ []) (get_or xs place [])) (sym price.is)
      (by place name at (same_text price.text name) refl);
}
  where
    price : IsPrice names prices d after
    price = price_said names prices d after h

    back : slice_get names price.period.0 ≡ Some price.text
    back = named_back names price.text (Some price.period) (sym price.named)

    by : (place : ℕ) (name : List ℕ) → slice_get names place ≡ Some name → (b : Bool) →
        same_text price.text name ≡ b →
        AtPlace name (pre ++ d ∷ []) (get_or (set prices price.period.0 price.tiers) place [])
    by place name at true same =
        let is : price.text ≡ name = same_is price.text name same in
        let e : price.period.0 ≡ place =
        place_of price.period (record { 0 = place })
        (sym price.named ∙ ap (period_named names) is ∙ distinct place name at) in
        let lt : price.period.0 < length prices =
        subst (λ n. price.period.0 < n) (sym so_far.count)
        (get_lt names price.period.0 price.text back) in
        let new : get_or (set prices price.period.0 price.tiers) place [] ≡ price.tiers =
        ap (λ i. get_or (set prices price.period.0 price.tiers) i []) (sym e)
        ∙ get_or-set_same prices price.period.0 price.tiers [] lt in
        subst (AtPlace name (pre ++ d ∷ [])) (sym new)
        (here name pre d (get_or prices place []) price.tiers
        (named_by d price.text name price.told ∙ same)
        (ap (λ i. has_tiers (get_or prices i [])) (sym e) ∙ price.free) price.tiers_are
        price.some (so_far.places place name at))
    by place name at false same =
        let apart : place ≢ price.period.0 =
        λ e. true≢false
        (sym (subst (λ (x : List ℕ). same_text price.text x ≡ true)
        (text_of_some price.text name (sym back ∙ ap (slice_get names) (sym e) ∙ at))
        (same_itself price.text)) ∙ same) in
        subst (AtPlace name (pre ++ d ∷ []))
        (sym (get_or-set_other prices price.period.0 place price.tiers [] apart))
        (there name pre d (get_or prices place []) (named_by d price.text name price.told ∙ same)
        (so_far.places place name at))

each_ok : (names : List (List ℕ)) (prices : List (List Tier)) (d : Data) (ds : List Data)
    (out : List (List Tier)) → steps.each (with_price names) prices (d ∷ ds) ≡ Ok out →
    (next : List (List Tier)) × (with_price names prices d ≡ Ok next) ×
    (steps.each (with_price names) next ds ≡ Ok out)
unfolding steps.each
each_ok names prices d ds out h = bind_ok (with_price names prices d) _ out h

no_more : (names : List (List ℕ)) (prices out : List (List Tier)) →
    steps.each (with_price names) prices [] ≡ Ok out → prices ≡ out
unfolding steps.each
no_more names prices out h = same_value prices out h

all_read : (names : List (List ℕ)) → AreDistinct names →
    (ds pre : List Data) (prices out : List (List Tier)) → AreRead names pre prices →
    steps.each (with_price names) prices ds ≡ Ok out → AreRead names (pre ++ ds) out
all_read names distinct [] pre prices out so_far h =
    subst (λ (xs : List Data). AreRead names xs out) (sym (append-nil pre))
    (subst (AreRead names pre) (no_more names prices out h) so_far)
all_read names distinct (d ∷ ds) pre prices out so_far h =
    let one = each_ok names prices d ds out h in
    subst (λ (xs : List Data). AreRead names xs out) (append_assoc pre (d ∷ []) ds)
    (all_read names distinct ds (pre ++ d ∷ []) one.0 out
    (one_more names pre prices d one.0 distinct so_far one.1) one.2)

none_read : (names : List (List ℕ)) → AreRead names [] (replicate (length names) [])
none_read names = record {
  count = length-replicate (length names) [];
  places = λ place name at. inl (
    ap has_tiers (get_or-replicate (length names) place [] [] (get_lt names place name at)),
    refl,
  );
}

all_have : (prices : List (List Tier)) (place : ℕ) → list_all has_tiers prices ≡ true →
    place < length prices → has_tiers (get_or prices place []) ≡ true
all_have [] place all lt = absurd (omega (arith, lt))
all_have (p ∷ ps) zero all lt = (and_parts (has_tiers p) (list_all has_tiers ps) all).0
all_have (p ∷ ps) (suc place) all lt =
    all_have ps place (and_parts (has_tiers p) (list_all has_tiers ps) all).1 (omega (arith, lt))

priced : (name : List ℕ) (pre : List Data) (tiers : List Tier) → has_tiers tiers ≡ true →
    AtPlace name pre tiers → IsPricedOnce name pre tiers
priced name pre tiers has (inl none) = absurd (true≢false (sym has ∙ none.0))
priced name pre tiers has (inr one) = one.1

-- rule: tiers
pub prices_are_once : PricesAreOnce
unfolding prices_of
prices_are_once names t prices distinct h entries told place name at =
    let ds = bind_ok (array_of (codes "price") 8 t) _ prices h in
    let same : entries ≡ ds.0 = same_value entries ds.0 (sym told ∙ ds.1) in
    let all = bind_ok (each (with_price names) (replicate (length names) []) ds.0) _ prices ds.2 in
    let whole = where_ok (list_all has_tiers all.0) Missing all.0 prices all.2 in
    let read : AreRead names (item_list ds.0) all.0 =
    all_read names distinct (item_list ds.0) [] (replicate (length names) []) all.0
    (none_read names) all.1 in
    let lt : place < length all.0 =
    subst (λ n. place < n) (sym read.count) (get_lt names place name at) in
    subst (λ (ps : List (List Tier)). IsPricedOnce name (item_list entries) (get_or ps place []))
    whole.1
    (subst (λ (xs : Items). IsPricedOnce name (item_list xs) (get_or all.0 place [])) (sym same)
    (priced name (item_list ds.0) (get_or all.0 place []) (all_have all.0 place whole.0 lt)
    (read.places place name at)))
