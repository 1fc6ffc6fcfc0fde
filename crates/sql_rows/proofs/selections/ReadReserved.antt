-- What the text of `read_reserved_within` answers.
use Rattle.std.specs.Prelude.{codes, negsuc, option_map, is_some, if◌then◌else◌}
use Rattle.std.proofs.Common.{◌≡◌, inl, inr, ℕ, pos, List, [], ◌∷◌, map, drop, Bool, true}
use Rattle.std.proofs.Common.{false, ◌&&◌, Some, None, Option, is_eq, nat_eq, refl, sym, ap, ap₂}
use Rattle.std.proofs.Common.{subst, ◌∙◌, eqb-true}
use Rattle.sqlite_value.specs.declared.value.Value.{Value}
use Rattle.sqlite_value.specs.declared.value.Value.TheVariants.{Null, Int, Real, Text, Blob}
use Rattle.sqlite_value.specs.declared.keys.Collation.TheVariants.{Binary}
use Rattle.sqlite_value.specs.Order.{Row, column, value_cmp}
use Rattle.sqlite_sql.specs.declared.ops.BinaryOp.TheVariants.{Compare}
use Rattle.sqlite_sql.specs.declared.ops.CompareOp.TheVariants.{Eq}
use Rattle.sqlite_sql.specs.Term.{Term, lit, col, op2}
use Rattle.sqlite_schema.specs.declared.command.Command.TheVariants.{Select}
use Rattle.sqlite_schema.specs.Rules.{equal}
use Rattle.sqlite_tied.specs.Compute.{everything}
use Rattle.sqlite.specs.Given.{IsPlain}
use Rattle.sqlite.specs.Listing.{understood, reads_listing}
use Rattle.sqlite.specs.State.{State}
use Rattle.sqlite.proofs.Callers.{command_of}
use Rattle.sql_tables.specs.Keyed.{look, same_name}
use Rattle.sql_tables.specs.Schema.{session_groups, our_schema}
use Rattle.sql_tables.specs.Selects.{Selects, passing}
use Rattle.sql_tables.specs.Statements.{Answers}
use Rattle.sql_tables.proofs.ByKey.{listed_told}
use Rattle.sql_tables.proofs.Keys.{keys_split, int_tie, text_tie}
use Rattle.sql_tables.proofs.Selected.{select_from, told}
use Rattle.sql_tables.proofs.Selections.{meets}
use Rattle.sql_tables.proofs.Steps.{and_true}
use Rattle.sql_tables.proofs.Ties.{equal_present}
use Rattle.sql_rows.specs.Values.{nat, nat_in, text_in, flag_in, flag_number, group_key}
use Rattle.sql_rows.specs.Values.{group_in_row}
use Rattle.sql_rows.specs.Values.{PeriodNames}
use Rattle.sql_rows.specs.Content.{tables_content}
use Rattle.sql_rows.specs.Lists.{ReservedAt, reserved_cells, has_reservation, AreReserved}

-- a stored row as one of the list
abbrev pub at_in : Row → ReservedAt
at_in v = record {
  account = text_in (column v 0);
  session = text_in (column v 1);
  group = nat_in (column v 2);
  reserved = flag_in (column v 4);
}

-- the columns that are read as one of the list
abbrev from_cells : Row → ReservedAt
from_cells w = record {
  account = text_in (column w 0);
  session = text_in (column w 1);
  group = nat_in (column w 2);
  reserved = flag_in (column w 3);
}

abbrev project : List Term
project = col 1 1 ∷ col 1 2 ∷ col 1 3 ∷ col 1 5 ∷ []

abbrev names : List (List ℕ)
names = codes "account" ∷ codes "session" ∷ codes "rating_group" ∷ codes "reserved" ∷ []

abbrev pub columns : Row → Row
columns r = column r 1 ∷ column r 2 ∷ column r 3 ∷ column r 5 ∷ []

same_columns : (r : Row) → at_in (drop 1 r) ≡ from_cells (columns r)
same_columns [] = refl
same_columns (v ∷ vs) = refl

flag_told : (b : Bool) → flag_in (nat (flag_number b)) ≡ b
flag_told true = refl
flag_told false = refl

back : (x : ReservedAt) (r : Row) → reserved_cells x ≡ columns r → at_in (drop 1 r) ≡ x
back x r is = same_columns r ∙ ap from_cells (sym is)
    ∙ (λ i. record x { reserved = flag_told x.reserved i })

abbrev pub read_reserved_text : List ℕ
read_reserved_text =
    codes "SELECT account, session, rating_group, reserved FROM session_groups WHERE reserved = 1"

abbrev terms : List Term
terms = op2 (Compare Eq Binary) (col 1 5) (lit (Int (pos 1))) ∷ []

text_is : (command_of (understood our_schema read_reserved_text)
    ≡ Select (record { lets = []; body = select_from 10 terms project [] }) names) ×
    (reads_listing our_schema read_reserved_text ≡ false)
unfolding understood everything
text_is = (refl, refl)

pub read_reserved_plain : IsPlain (understood our_schema read_reserved_text)
unfolding understood everything
read_reserved_plain = (refl, refl)

-- ---- the flag

flag_tested : (v : Value) → flag_in v ≡ true → equal Binary v (nat 1) ≡ true
flag_tested (Int (pos n)) h = ap (λ k. equal Binary (nat k) (nat 1)) (eqb-true n 1 h)
    ∙ equal_present (nat 1) (nat 1) refl ∙ int_tie 1 1
flag_tested Null h = absurd (cc)
flag_tested (Int (negsuc n)) h = absurd (cc)
flag_tested (Real x) h = absurd (cc)
flag_tested (Text t) h = absurd (cc)
flag_tested (Blob b) h = absurd (cc)

tested_flag : (b : Bool) → equal Binary (nat (flag_number b)) (nat 1) ≡ true → b ≡ true
tested_flag true h = refl
tested_flag false h =
    absurd (let e : false ≡ true = sym (equal_present (nat 0) (nat 1) refl ∙ int_tie 1 0) ∙ h in cc)

same_flag : {A B : Type 0} (b : Bool) (x : A) (y : B)
    → is_some (if b then Some x else None) ≡ is_some (if b then Some y else None)
same_flag true x y = refl
same_flag false x y = refl

reserved_is : (o : Option Row)
    → is_some (passing (λ (x : ReservedAt). x.reserved) (option_map at_in o))
    ≡ has_reservation (option_map group_in_row o)
reserved_is None = refl
reserved_is (Some v) =
    let periods : PeriodNames =
    record { before = text_in (column v 5); after = text_in (column v 6) } in
    same_flag (flag_in (column v 4)) (at_in v) periods

-- ---- the rows

abbrev pub rest : List ℕ → List ℕ → ℕ → Row → Bool
rest a s g r = is_eq (value_cmp (Text a) (column r 1))
    && (is_eq (value_cmp (Text s) (column r 2)) && is_eq (value_cmp (nat g) (column r 3)))

abbrev pub extra : Row → Bool
extra r = equal Binary (column r 5) (nat 1)

pub splits : (a s : List ℕ) (g : ℕ) (r : Row) →
    meets (1 ∷ 2 ∷ 3 ∷ []) (group_key a s g) r ≡ rest a s g r
splits a s g r =
    keys_split (Text a) (column r 1) (Text s ∷ nat g ∷ []) (column r 2 ∷ column r 3 ∷ [])
    ∙ ap (λ t. is_eq (value_cmp (Text a) (column r 1)) && t)
    (keys_split (Text s) (column r 2) (nat g ∷ []) (column r 3 ∷ [])
    ∙ ap (λ t. is_eq (value_cmp (Text s) (column r 2)) && t)
    (keys_split (nat g) (column r 3) [] [] ∙ and_true _))

wanted : (a s : List ℕ) (g : ℕ) (x : ReservedAt) (r : Row) → reserved_cells x ≡ columns r →
    rest a s g r ≡ (same_name x.account a && (same_name x.session s && nat_eq x.group g))
wanted a s g x r is =
    ap₂ ◌&&◌ (ap (λ (w : Row). is_eq (value_cmp (Text a) (column w 0))) (sym is)
    ∙ text_tie x.account a)
    (ap₂ ◌&&◌ (ap (λ (w : Row). is_eq (value_cmp (Text s) (column w 1))) (sym is)
    ∙ text_tie x.session s)
    (ap (λ (w : Row). is_eq (value_cmp (nat g) (column w 2))) (sym is) ∙ int_tie x.group g))

lives : (r : Row) → (at_in (drop 1 r)).reserved ≡ true → extra r ≡ true
lives [] h = absurd (cc)
lives (v ∷ vs) h = flag_tested (column vs 4) h

pub flag_read : (x : ReservedAt) (r : Row) → extra r ≡ true → reserved_cells x ≡ columns r →
    x.reserved ≡ true
flag_read x r e is =
    tested_flag x.reserved (ap (λ (w : Row). equal Binary (column w 3) (nat 1)) is ∙ e)

pub reserved_selected : (old new : State) (rows : List Row)
    → Answers read_reserved_text [] old new rows → Selects extra columns (old.now.trees 10) rows
reserved_selected old new rows got =
    told read_reserved_text names 10 terms project [] text_is read_reserved_plain []
    extra columns (λ r. and_true (extra r)) (λ r. refl) old new rows got

pub reserved_read : (old new : State) (rows : List Row) (xs : List ReservedAt)
    → Answers read_reserved_text [] old new rows
    → map reserved_cells xs ≡ rows → AreReserved (tables_content old.now.trees) xs
reserved_read old new rows xs got is a s g =
    ap is_some
    (listed_told session_groups (inr (inr (inr (inr (inr (inl refl))))))
    (inr (inr (inr (inr (inr (inl refl)))))) refl old.now.trees got.fits
    (got.book.stored.1.1.1.1.1.0) at_in reserved_cells columns extra
    (group_key a s g) (refl, (refl, (refl, tt))) (λ x r m. back x r)
    (λ x. same_name x.account a && (same_name x.session s && nat_eq x.group g))
    (λ x. x.reserved) (λ r. true) (rest a s g) extra (λ r. refl) (splits a s g) (wanted a s g)
    (λ r m. lives r) flag_read xs
    (subst (Selects extra columns (old.now.trees 10)) (sym is)
    (reserved_selected old new rows got)))
    ∙ reserved_is (look session_groups old.now.trees (group_key a s g))
