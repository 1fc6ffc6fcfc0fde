-- Reservations as they are read: where each is in its rules, no fault of the rules is reported.
use Rattle.std.proofs.Common.{◌≡◌, inl, inr, ℕ, List, [], ◌∷◌, map, drop, true, false, ◌&&◌}
use Rattle.std.proofs.Common.{Some, None, is_eq, refl, sym, ap, ap₂, subst, ◌∙◌, eqb-true}
use Rattle.std.proofs.Common.{nat_eq}
use Rattle.std.proofs.lemmas.Bool.{and_parts, and_from}
use Rattle.std.proofs.lemmas.Cmp.{tied_itself}
use Rattle.std.specs.Prelude.{option_map, is_some, if◌then◌else◌}
use Rattle.std.specs.List.{AllByRecursion}
use Rattle.std.specs.FinMap.{get-from_entries}
use Rattle.sqlite_value.specs.declared.value.Value.{Value}
use Rattle.sqlite_value.specs.declared.value.Value.TheVariants.{Text}
use Rattle.sqlite_value.specs.declared.keys.Collation.TheVariants.{Binary}
use Rattle.sqlite_value.specs.Order.{Row, column, value_cmp}
use Rattle.sqlite_value.proofs.OrderLemmas.{row_cmp_total, value_cmp_total}
use Rattle.sqlite_schema.specs.declared.schema.Kind.TheVariants as kind
use Rattle.sqlite_schema.specs.declared.schema.Constraint.TheVariants.{Datatype, NotNull, Check}
use Rattle.sqlite_schema.specs.Rules.{Fits, are_present, are_typed, equal, is_of, passes_checks}
use Rattle.sqlite_trees.specs.Tree.{Trees}
use Rattle.sqlite_rules.specs.Lists.{Has}
use Rattle.sqlite_rules.proofs.ListLemmas.{all_has}
use Rattle.sqlite.specs.State.{State}
use Rattle.sql_tables.specs.Keyed.{IsStored, entries_of, look}
use Rattle.sql_tables.specs.Schema.{our_schema, key_index, session_groups}
use Rattle.sql_tables.specs.Statements.{Answers}
use Rattle.sql_tables.proofs.Keys.{int_tie}
use Rattle.sql_tables.proofs.Selected.{selected_from}
use Rattle.sql_tables.proofs.Selections.{full_key, meets, met_has, met_some, one_row}
use Rattle.sql_tables.proofs.Ties.{equal_present}
use Rattle.sql_rows.specs.Values.{PeriodNames, flag_in, flag_number, group_in_row, group_key, nat}
use Rattle.sql_rows.specs.Values.{nat_in, text_in}
use Rattle.sql_rows.specs.Content.{tables_content}
use Rattle.sql_rows.specs.Lists.{ReservedAt, has_reservation, reserved_cells}
use Rattle.sql_rows.specs.Ruled.{AreRuledReserved, IsRuledReserved}
use Rattle.sql_rows.proofs.rules.MetaRules.{full_at, right_at, text_of, whole_in}
use Rattle.sql_rows.proofs.selections.ReadReserved.{at_in, columns, extra, flag_read}
use Rattle.sql_rows.proofs.selections.ReadReserved.{read_reserved_text, reserved_selected, splits}
use Rattle.sql_rows.proofs.rules.RowRules.{IsRowOf, listed}

-- ---- a stored row

record IsFull (row : Row) : Type 0 where
  account : full_at row 1 ≡ true
  session : full_at row 2 ≡ true
  group : full_at row 3 ≡ true
  reserved : full_at row 5 ≡ true

full : (row : Row) → are_present None 0 session_groups.columns row ≡ true → IsFull row
full row p =
    let one = and_parts (full_at row 1) (full_at row 2 && (full_at row 3 && (full_at row 4
    && (full_at row 5 && true)))) p in
    let two = and_parts (full_at row 2) (full_at row 3
    && (full_at row 4 && (full_at row 5 && true))) one.1 in
    let three = and_parts (full_at row 3) (full_at row 4 && (full_at row 5 && true)) two.1 in
    let four = and_parts (full_at row 4) (full_at row 5 && true) three.1 in
    let five = and_parts (full_at row 5) true four.1 in
    record { account = one.0; session = two.0; group = three.0; reserved = five.0 }

right : (row : Row) → passes_checks session_groups row ≡ true →
    (right_at row 3 ≡ true) × (right_at row 5 ≡ true)
right row p =
    let one = and_parts (right_at row 3) (right_at row 4 && (right_at row 5 && true)) p in
    let two = and_parts (right_at row 4) (right_at row 5 && true) one.1 in
    let three = and_parts (right_at row 5) true two.1 in
    (one.0, three.0)

-- a number that is 1 is the flag that is set
set : (v : Value) → v ≡ nat (nat_in v) → equal Binary v (nat 1) ≡ true
    → v ≡ nat (flag_number (flag_in v))
set v is one =
    let n : ℕ = nat_in v in
    let tested : equal Binary (nat n) (nat 1) ≡ true =
    subst (λ w. equal Binary w (nat 1) ≡ true) is one in
    let same : nat_eq 1 n ≡ true =
    sym (equal_present (nat n) (nat 1) refl ∙ int_tie 1 n) ∙ tested in
    let first : v ≡ nat 1 = is ∙ ap nat (sym (eqb-true 1 n same)) in
    subst (λ w. w ≡ nat (flag_number (flag_in w))) (sym first) refl

typed : (x : Value) (vs : Row) → are_typed None 0 session_groups.columns vs ≡ true
    → IsFull (x ∷ vs) → (right_at (x ∷ vs) 3 ≡ true) × (right_at (x ∷ vs) 5 ≡ true)
    → extra (x ∷ vs) ≡ true → columns (x ∷ vs) ≡ reserved_cells (at_in vs)
typed x [] kinds full rules one = absurd (let no : false ≡ true = full.reserved in cc)
typed x (a ∷ []) kinds full rules one = absurd (let no : false ≡ true = full.reserved in cc)
typed x (a ∷ b ∷ []) kinds full rules one = absurd (let no : false ≡ true = full.reserved in cc)
typed x (a ∷ b ∷ c ∷ []) kinds full rules one =
    absurd (let no : false ≡ true = full.reserved in cc)
typed x (a ∷ b ∷ c ∷ d ∷ []) kinds full rules one =
    absurd (let no : false ≡ true = full.reserved in cc)
typed x (a ∷ b ∷ c ∷ d ∷ e ∷ more) kinds full rules one =
    let rest = are_typed None 5 (drop 5 session_groups.columns) more in
    let first = and_parts (is_of kind.Text a) (is_of kind.Text b && (is_of kind.Integer c
    && (is_of kind.Integer d && (is_of kind.Integer e && rest)))) kinds in
    let second = and_parts (is_of kind.Text b) (is_of kind.Integer c
    && (is_of kind.Integer d && (is_of kind.Integer e && rest))) first.1 in
    let third = and_parts (is_of kind.Integer c)
    (is_of kind.Integer d && (is_of kind.Integer e && rest)) second.1 in
    let fourth = and_parts (is_of kind.Integer d) (is_of kind.Integer e && rest) third.1 in
    let fifth = and_parts (is_of kind.Integer e) rest fourth.1 in
    ap₂ ◌∷◌ (text_of a first.0 full.account) (ap₂ ◌∷◌ (text_of b second.0 full.session)
    (ap₂ ◌∷◌ (whole_in c third.0 full.group rules.0)
    (ap (λ v. v ∷ []) (set e (whole_in e fifth.0 full.reserved rules.1) one))))

row_in : (row : Row) → are_typed None 0 session_groups.columns (drop 1 row) ≡ true
    → are_present None 0 session_groups.columns row ≡ true
    → passes_checks session_groups row ≡ true → extra row ≡ true
    → columns row ≡ reserved_cells (at_in (drop 1 row))
row_in [] kinds there rules one =
    absurd (let no : false ≡ true = (full [] there).reserved in cc)
row_in (x ∷ vs) kinds there rules one =
    typed x vs kinds (full (x ∷ vs) there) (right (x ∷ vs) rules) one

fitting : (trees : Trees) → Fits our_schema trees → (row : Row) → Has (trees 10) row
    → extra row ≡ true → columns row ≡ reserved_cells (at_in (drop 1 row))
fitting trees fits row has one =
    row_in row
    (and_parts (are_typed None 0 session_groups.columns (drop 1 row)) true
    (all_has _ (trees 10) row (fits.rules Datatype (λ e. cc)).1.1.1.1.1.0 has)).0
    (all_has _ (trees 10) row (fits.rules NotNull (λ e. cc)).1.1.1.1.1.0 has)
    (all_has _ (trees 10) row (fits.rules Check (λ e. cc)).1.1.1.1.1.0 has)
    one

-- it is the row under its key
tied : (v w : Value) → w ≡ v → is_eq (value_cmp v w) ≡ true
tied v w is = ap (λ x. is_eq (value_cmp v x)) is ∙ ap is_eq (tied_itself value_cmp_total v)

under_key : (trees : Trees) → Fits our_schema trees → IsStored (trees 10) → (r : Row)
    → Has (trees 10) r → (a s : List ℕ) (g : ℕ) → column r 1 ≡ Text a → column r 2 ≡ Text s
    → column r 3 ≡ nat g → look session_groups trees (group_key a s g) ≡ Some (drop 1 r)
under_key trees fits stored r h a s g of_account of_session of_group =
    let key = group_key a s g in
    let met : meets (1 ∷ 2 ∷ 3 ∷ []) key r ≡ true =
    splits a s g r
    ∙ and_from _ _ (tied (Text a) (column r 1) of_account)
    (and_from _ _ (tied (Text s) (column r 2) of_session) (tied (nat g) (column r 3) of_group)) in
    let it = met_has (1 ∷ 2 ∷ 3 ∷ []) key (trees 10) r h met in
    let back = met_some (1 ∷ 2 ∷ 3 ∷ []) key it.0 (trees 10) it.1 in
    get-from_entries row_cmp_total (entries_of (1 ∷ 2 ∷ 3 ∷ []) (trees 10)) key
    ∙ it.1
    ∙ ap Some (back.3 ∙ ap (drop 1) (one_row (1 ∷ 2 ∷ 3 ∷ []) our_schema session_groups
    (inr (inr (inr (inr (inr (inl refl)))))) (key_index session_groups)
    (inr (inr (inr (inr (inr (inl refl)))))) refl refl refl
    trees fits stored key (λ x m. full_key (1 ∷ 2 ∷ 3 ∷ []) key x (refl, (refl, (refl, tt))) m)
    back.0 r back.1 h back.2 met))

-- ---- the rows that are read

-- the reservation is in the tables
record StandsIn (trees : Trees) (x : ReservedAt) : Type 0 where
  there : has_reservation (((tables_content trees).rows x.account).groups x.session x.group) ≡ true
  reserved : x.reserved ≡ true

flag_at : (r : Row) → (at_in (drop 1 r)).reserved ≡ true → flag_in (column (drop 1 r) 4) ≡ true
flag_at r h = h

reserved_row : (trees : Trees) → Fits our_schema trees → IsStored (trees 10) → (r : Row)
    → Has (trees 10) r → extra r ≡ true → (w : Row) → w ≡ columns r
    → IsRowOf reserved_cells (StandsIn trees) w
reserved_row trees fits stored r h one w same =
    let x = at_in (drop 1 r) in
    let is = fitting trees fits r h one in
    let flag : x.reserved ≡ true = flag_read x r one (sym is) in
    let names : PeriodNames = record {
      before = text_in (column (drop 1 r) 5);
      after = text_in (column (drop 1 r) 6);
    } in
    record {
      at = x;
      is = same ∙ is;
      stands = record {
        there = ap (λ o. has_reservation (option_map group_in_row o))
            (under_key trees fits stored r h x.account x.session x.group
            (ap (λ (v : Row). column v 0) is) (ap (λ (v : Row). column v 1) is)
            (ap (λ (v : Row). column v 2) is))
            ∙ ap (λ b. is_some (if b then Some names else None)) (flag_at r flag);
        reserved = flag;
      };
    }

all_ruled : (trees : Trees) → AreRuledReserved (tables_content trees) → (xs : List ReservedAt)
    → AllByRecursion (StandsIn trees) xs → AllByRecursion IsRuledReserved xs
all_ruled trees ruled [] h = tt
all_ruled trees ruled (x ∷ xs) h =
    let it = ruled x.account x.session x.group h.0.there in (
      record { account = it.0; session = it.1; group = it.2; is_reserved = h.0.reserved },
      all_ruled trees ruled xs h.1,
    )

-- what was refused of the rows that were read is refused of the tables
-- rule: database-migrated.ruled-version
pub all_refused : (old new : State) (rows : List Row) → Answers read_reserved_text [] old new rows
    → ((xs : List ReservedAt) → rows ≡ map reserved_cells xs
    → ¬ AllByRecursion IsRuledReserved xs) → ¬ AreRuledReserved (tables_content old.now.trees)
all_refused old new rows got refused ruled =
    let stored = got.book.stored.1.1.1.1.1.0 in
    let selects = reserved_selected old new rows got in
    let it = listed reserved_cells (StandsIn old.now.trees) rows (λ w h.
    let from = selected_from extra columns (old.now.trees 10) rows selects w h in
    reserved_row old.now.trees got.fits stored from.0 from.1 from.2 w from.3) in
    refused it.xs it.are (all_ruled old.now.trees ruled it.xs it.stand)

-- ---- texts of bytes below 128 are texts of characters
