-- Values that are written and read again: no float, rising names, not too deep.
use Rattle.std.proofs.Common.{◌≡◌, ℕ, suc, ◌≤◌, ◌<◌, List, [], ◌∷◌, Bool, true}
use Rattle.std.proofs.Common.{Option, Some, None, option_map, IfSome, Ok, negsuc, refl}
use Rattle.std.proofs.Common.{arith, lit<, lt-ltb}
use Rattle.std.specs.List.{list_all}
use Rattle.std.specs.Ordering.{nat_cmp}
use Rattle.std.specs.declared.cmp.Ordering.TheVariants.{Greater}
use Rattle.std.specs.Cmp.Lexicographic.{slice_cmp}
use Rattle.std.specs.Str.{IsUtf8}
use Rattle.std.proofs.lemmas.Bool.{and_parts}
use Rattle.json.proofs.Printed.Utf8.{are_ascii, IsUtf8-are_ascii}
use Rattle.serde_json.specs.Data.{Data, number, negative, string, array, object, Items, no_items}
use Rattle.serde_json.specs.Data.{item, Members, no_members, member, depth, items_depth}
use Rattle.serde_json.specs.Data.{members_depth}
use Rattle.serde_json.specs.Written.{compact_text}
use Rattle.commands.specs.declared.avp.Avp.TheVariants as avp
use Rattle.commands.specs.Names.{name_of}
use Rattle.json_fields.specs.Spelling.{whole, perhaps, value_data, money_data}
use Rattle.json_fields.specs.Fields.{document_at}
use Rattle.json_fields.proofs.Documents.{json_found}
use Rattle.json_fields.proofs.Compact.{Above, IsTidy, AreTidy, AreTidyMembers, read-compact_text}
use Rattle.json_fields.proofs.Compact.{IsUtf8-compact_text}

-- a value that is nested at most so deep
pub record Fit (n : ℕ) (d : Data) : Type 0 where
  pub tidy : IsTidy d
  pub deep : depth d ≤ n

pub record FitItems (n : ℕ) (ds : Items) : Type 0 where
  pub tidy : AreTidy ds
  pub deep : items_depth ds ≤ n

pub record FitMembers (n : ℕ) (ms : Members) : Type 0 where
  pub tidy : AreTidyMembers ms
  pub deep : members_depth ms ≤ n

pub fit_whole : (n k : ℕ) → k ≤ 18446744073709551615 → Fit n (whole k)
fit_whole n k h = record { tidy = omega arith; deep = omega arith }

pub fit_text : (n : ℕ) (s : List ℕ) → IsUtf8 s → Fit n (string s)
fit_text n s h = record { tidy = h; deep = omega arith }

pub fit_object : (n : ℕ) (ms : Members) → FitMembers n ms → Fit (suc n) (object ms)
fit_object n ms h = record { tidy = h.tidy; deep = omega (arith, h.deep) }

pub fit_array : (n : ℕ) (ds : Items) → FitItems n ds → Fit (suc n) (array ds)
fit_array n ds h = record { tidy = h.tidy; deep = omega (arith, h.deep) }

pub fit_no_items : (n : ℕ) → FitItems n no_items
fit_no_items n = record { tidy = tt; deep = omega arith }

pub fit_item : (n : ℕ) (d : Data) (ds : Items) → Fit n d → FitItems n ds → FitItems n (item d ds)
fit_item n d ds h t = record { tidy = (h.tidy, t.tidy); deep = omega (arith, h.deep, t.deep) }

pub fit_none : (n : ℕ) → FitMembers n no_members
fit_none n = record { tidy = tt; deep = omega arith }

pub fit_member : (n : ℕ) (k : List ℕ) (d : Data) (ms : Members) → are_ascii k ≡ true → Fit n d →
    Above k ms → FitMembers n ms → FitMembers n (member k d ms)
fit_member n k d ms a h above t = record {
  tidy = (IsUtf8-are_ascii k a, h.tidy, above, t.tidy);
  deep = omega (arith, h.deep, t.deep);
}

pub fit_perhaps : (n : ℕ) (k : List ℕ) (o : Option Data) (ms : Members) → are_ascii k ≡ true →
    IfSome o (Fit n) → Above k ms → FitMembers n ms → FitMembers n (perhaps k o ms)
fit_perhaps n k None ms a h above t = t
fit_perhaps n k (Some d) ms a h above t = fit_member n k d ms a h above t

pub above_perhaps : (k l : List ℕ) (o : Option Data) (ms : Members) →
    slice_cmp nat_cmp l k ≡ Greater → Above k ms → Above k (perhaps l o ms)
above_perhaps k l None ms g h = h
above_perhaps k l (Some d) ms g h = (g, h)

-- a number where there is one
pub fit_optional : (n most : ℕ) (o : Option ℕ) → most ≤ 18446744073709551615 →
    IfSome o (λ m. m ≤ most) → IfSome (option_map whole o) (Fit n)
fit_optional n most None l h = tt
fit_optional n most (Some m) l h = fit_whole n m (omega arith)

pub fit_deeper : (m n : ℕ) (d : Data) → m ≤ n → Fit m d → Fit n d
fit_deeper m n d le h = record { tidy = h.tidy; deep = omega (arith, h.deep) }

-- an object that is written is read again
pub document_again : (ms : Members) → Fit 127 (object ms) →
    document_at (compact_text (object ms)) ≡ Ok (object ms)
unfolding document_at
document_again ms h =
    let d = object ms in
    rw (json_found (compact_text d) d (IsUtf8-compact_text d h.tidy)
    (read-compact_text d h.tidy h.deep)) refl

-- a text of bytes below 128
pub ascii_text : (test : ℕ → Bool) → ((b : ℕ) → test b ≡ true → b < 128) → (s : List ℕ) →
    list_all test s ≡ true → are_ascii s ≡ true
ascii_text test small [] h = refl
ascii_text test small (x ∷ xs) h =
    let p = and_parts (test x) (list_all test xs) h in
    rw (lt-ltb x 128 (small x p.0)) (ascii_text test small xs p.1)

fit_value : (n micros : ℕ) → micros ≤ 18446744073709551615 → Fit (suc n) (value_data micros)
unfolding value_data
fit_value n micros h =
    let exponent : Fit n (number (negative (negsuc 5))) =
    record { tidy = lit< tt; deep = omega arith } in
    let digits : FitMembers n (member (name_of avp.ValueDigits) (whole micros) no_members) =
    fit_member n _ (whole micros) no_members refl (fit_whole n micros h) tt (fit_none n) in
    fit_object n _ (fit_member n _ _ _ refl exponent (refl, tt) digits)

pub fit_money : (n micros currency : ℕ) → micros ≤ 18446744073709551615 → currency ≤ 65535 →
    Fit (suc (suc n)) (money_data micros currency)
unfolding money_data
fit_money n micros currency h k =
    let value : FitMembers (suc n) (member (name_of avp.UnitValue) (value_data micros) no_members) =
    fit_member (suc n) _ _ no_members refl (fit_value n micros h) tt (fit_none (suc n)) in
    fit_object (suc n) _
    (fit_member (suc n) _ _ _ refl (fit_whole (suc n) currency (omega arith)) (refl, tt) value)
