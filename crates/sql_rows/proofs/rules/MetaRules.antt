-- What is kept once, as it is read: where it is in its rules, no fault of the rules is reported.
use Rattle.std.proofs.Common.{◌≡◌, inl, inr, ℕ, pos, negsuc, List, [], ◌∷◌, map, drop, Bool}
use Rattle.std.proofs.Common.{true, false, not, ◌&&◌, Some, None, Option, refl, sym, ap, ap₂, subst}
use Rattle.std.proofs.Common.{◌∙◌}
use Rattle.std.specs.Prelude.{slice_index_or, Result, Ok, Err, IfErr, IfOk, MatchResult}
use Rattle.std.proofs.lemmas.Bool.{and_parts}
use Rattle.std.specs.Ordering.{eq_by_cmp, is_ge}
use Rattle.sqlite_value.specs.declared.value.Value.{Value}
use Rattle.sqlite_value.specs.declared.value.Value.TheVariants.{Null, Int, Real, Text, Blob}
use Rattle.sqlite_value.specs.declared.keys.Collation.TheVariants.{Binary}
use Rattle.sqlite_value.specs.Order.{Row, column, row_cmp}
use Rattle.sqlite_value.proofs.OrderLemmas.{value_cmp-Int}
use Rattle.sqlite_sql.specs.declared.ops.BinaryOp.TheVariants.{Compare}
use Rattle.sqlite_sql.specs.declared.ops.CompareOp.TheVariants.{Ge}
use Rattle.sqlite_sql.specs.Ops.{binary, from_truth, is_false, is_null}
use Rattle.sqlite_schema.specs.declared.schema.Kind.TheVariants as kind
use Rattle.sqlite_schema.specs.declared.schema.Constraint.TheVariants.{Datatype, NotNull, Check}
use Rattle.sqlite_schema.specs.Rules.{Fits, are_present, are_typed, is_of, passes_checks}
use Rattle.sqlite_trees.specs.Tree.{Trees}
use Rattle.sqlite_rules.specs.Lists.{Has}
use Rattle.sqlite_rules.proofs.ListLemmas.{all_has}
use Rattle.sqlite.specs.State.{State}
use Rattle.sql_tables.specs.Keyed.{key_of}
use Rattle.sql_tables.specs.Schema.{meta, our_schema}
use Rattle.sql_tables.specs.Selects.{one_or_none}
use Rattle.sql_tables.specs.Statements.{Answers}
use Rattle.sql_tables.proofs.Single.{one_selected}
use Rattle.sql_rows.specs.Values.{nat, nat_in, text_in, Meta, meta_key, meta_in, meta_cells}
use Rattle.sql_rows.specs.Content.{tables_content}
use Rattle.sql_rows.specs.Ruled.{IsMetaRead, IsRefusedMeta}
use Rattle.sql_rows.specs.declared.meta_rows.MetaColumns.{MetaColumns}
use Rattle.sql_tables.specs.declared.reading.ReadFault.{ReadFault}
use Rattle.sql_tables.specs.declared.reading.ReadFault.TheVariants.{Rules}
use Rattle.sql_rows.proofs.selections.ReadMeta.{read_meta_text, columns, meta_read, meta_selected}

-- ---- values of their kind

below_zero : (n : ℕ) → is_false (binary (Compare Ge Binary) (Int (negsuc n)) (Int (pos 0))) ≡ true
unfolding binary
below_zero n = ap (λ o. is_false (from_truth (Some (is_ge o)))) (value_cmp-Int (negsuc n) (pos 0))

pub whole_in : (v : Value) → is_of kind.Integer v ≡ true → not (is_null v) ≡ true
    → not (is_false (binary (Compare Ge Binary) v (Int (pos 0)))) ≡ true → v ≡ nat (nat_in v)
whole_in Null kinds full rule = absurd (cc)
whole_in (Int (pos n)) kinds full rule = refl
whole_in (Int (negsuc n)) kinds full rule =
    absurd (let no : false ≡ true = sym (ap not (below_zero n)) ∙ rule in cc)
whole_in (Real x) kinds full rule = absurd (cc)
whole_in (Text t) kinds full rule = absurd (cc)
whole_in (Blob b) kinds full rule = absurd (cc)

pub text_of : (v : Value) → is_of kind.Text v ≡ true → not (is_null v) ≡ true → v ≡ Text (text_in v)
text_of Null kinds full = absurd (cc)
text_of (Int n) kinds full = absurd (cc)
text_of (Real x) kinds full = absurd (cc)
text_of (Text t) kinds full = refl
text_of (Blob b) kinds full = absurd (cc)

-- ---- the row

abbrev pub full_at : Row → ℕ → Bool
full_at row at = not (is_null (column row at))

abbrev pub right_at : Row → ℕ → Bool
right_at row at = not (is_false (binary (Compare Ge Binary) (column row at) (Int (pos 0))))

abbrev AreFull : Row → Type 0
AreFull row = (full_at row 2 ≡ true) × (full_at row 3 ≡ true) × (full_at row 4 ≡ true)

full : (row : Row) → are_present None 0 meta.columns row ≡ true → AreFull row
full row p =
    let one =
    and_parts (full_at row 1) (full_at row 2 && (full_at row 3 && (full_at row 4 && true))) p in
    let two = and_parts (full_at row 2) (full_at row 3 && (full_at row 4 && true)) one.1 in
    let three = and_parts (full_at row 3) (full_at row 4 && true) two.1 in
    let four = and_parts (full_at row 4) true three.1 in
    (two.0, three.0, four.0)

right : (row : Row) → passes_checks meta row ≡ true →
    (right_at row 2 ≡ true) × (right_at row 4 ≡ true)
right row p =
    let one = and_parts (right_at row 1) (right_at row 2 && (right_at row 4 && true)) p in
    let two = and_parts (right_at row 2) (right_at row 4 && true) one.1 in
    let three = and_parts (right_at row 4) true two.1 in
    (two.0, three.0)

typed : (x : Value) (vs : Row) → are_typed None 0 meta.columns vs ≡ true → AreFull (x ∷ vs)
    → (right_at (x ∷ vs) 2 ≡ true) × (right_at (x ∷ vs) 4 ≡ true)
    → columns (x ∷ vs) ≡ meta_cells (meta_in vs)
typed x [] kinds fulls rules = absurd (let no : false ≡ true = fulls.0 in cc)
typed x (a ∷ []) kinds fulls rules = absurd (let no : false ≡ true = fulls.0 in cc)
typed x (a ∷ b ∷ []) kinds fulls rules = absurd (let no : false ≡ true = fulls.1 in cc)
typed x (a ∷ b ∷ c ∷ []) kinds fulls rules = absurd (let no : false ≡ true = fulls.2 in cc)
typed x (a ∷ b ∷ c ∷ d ∷ more) kinds fulls rules =
    let rest = are_typed None 4 [] more in
    let one = and_parts (is_of kind.Integer a)
    (is_of kind.Integer b && (is_of kind.Text c && (is_of kind.Integer d && rest)))
    kinds in
    let two =
    and_parts (is_of kind.Integer b) (is_of kind.Text c && (is_of kind.Integer d && rest)) one.1 in
    let three = and_parts (is_of kind.Text c) (is_of kind.Integer d && rest) two.1 in
    let four = and_parts (is_of kind.Integer d) rest three.1 in
    ap₂ ◌∷◌ (whole_in b two.0 fulls.0 rules.0) (ap₂ ◌∷◌ (text_of c three.0 fulls.1)
    (ap (λ v. v ∷ []) (whole_in d four.0 fulls.2 rules.1)))

row_in : (row : Row) → are_typed None 0 meta.columns (drop 1 row) ≡ true
    → are_present None 0 meta.columns row ≡ true
    → passes_checks meta row ≡ true → columns row ≡ meta_cells (meta_in (drop 1 row))
row_in [] kinds there rules = absurd (let no : false ≡ true = (full [] there).0 in cc)
row_in (x ∷ vs) kinds there rules = typed x vs kinds (full (x ∷ vs) there) (right (x ∷ vs) rules)

pub fitting : (trees : Trees) → Fits our_schema trees → (row : Row) → Has (trees 0) row
    → columns row ≡ meta_cells (meta_in (drop 1 row))
fitting trees fits row has =
    row_in row
    (and_parts (are_typed None 0 meta.columns (drop 1 row)) true
    (all_has _ (trees 0) row (fits.rules Datatype (λ e. cc)).0 has)).0
    (all_has _ (trees 0) row (fits.rules NotNull (λ e. cc)).0 has)
    (all_has _ (trees 0) row (fits.rules Check (λ e. cc)).0 has)

-- the key is a number
key_in : (row : Row) → are_typed None 0 meta.columns (drop 1 row) ≡ true → full_at row 1 ≡ true
    → right_at row 1 ≡ true → column row 1 ≡ nat (nat_in (column row 1))
key_in [] kinds there rule = absurd (let no : false ≡ true = there in cc)
key_in (x ∷ []) kinds there rule = absurd (let no : false ≡ true = there in cc)
key_in (x ∷ a ∷ more) kinds there rule =
    whole_in a
    (and_parts (is_of kind.Integer a) (are_typed None 1 (drop 1 meta.columns) more) kinds).0
    there rule

pub number_there : (trees : Trees) → Fits our_schema trees → (row : Row) → Has (trees 0) row
    → column row 1 ≡ nat (nat_in (column row 1))
number_there trees fits row has =
    key_in row
    (and_parts (are_typed None 0 meta.columns (drop 1 row)) true
    (all_has _ (trees 0) row (fits.rules Datatype (λ e. cc)).0 has)).0
    (and_parts (full_at row 1) (full_at row 2 && (full_at row 3 && (full_at row 4 && true)))
    (all_has _ (trees 0) row (fits.rules NotNull (λ e. cc)).0 has)).0
    (and_parts (right_at row 1) (right_at row 2 && (right_at row 4 && true))
    (all_has _ (trees 0) row (fits.rules Check (λ e. cc)).0 has)).0

-- ---- what is read

-- none, or one row that is in the order of its columns
there : (old new : State) (rows : List Row) → Answers read_meta_text [] old new rows
    → (o : Option Meta) × (rows ≡ map meta_cells (one_or_none o))
there old new rows got =
    elim (one_selected meta (inl refl)
    (inl refl) refl old.now.trees got.fits got.book.stored.0 columns
    (λ r. eq_by_cmp row_cmp (key_of meta.primary r) meta_key) meta_key (refl, tt) (λ r. refl) rows
    (meta_selected old new rows got)) [
      | inl none ↦ (None, none)
      | inr one ↦ (
        Some (meta_in (drop 1 one.0)),
        one.3 ∙ ap (λ v. v ∷ []) (fitting old.now.trees got.fits one.0 one.1),
      )
    ]

-- what is said of the one row that was read
of_one : (P : Option Meta → Type 0) (rows : List Row) (row : Row) → rows ≡ row ∷ []
    → ((m : Meta) → row ≡ meta_cells m → P (Some m))
    → (o : Option Meta) → rows ≡ map meta_cells (one_or_none o) → P o
of_one P rows row is says None none = absurd (let no : row ∷ [] ≡ [] = sym is ∙ none in cc)
of_one P rows row is says (Some m) some =
    says m (ap (λ (l : List Row). slice_index_or l 0 row) (sym is ∙ some))

-- rule: database-migrated.older
pub one_read : (v : ℕ) (rows : List Row) (row : Row) → rows ≡ row ∷ []
    → (r : Result (Option MetaColumns) ReadFault)
    → MatchResult r (λ o. (kept : Meta) → row ≡ meta_cells kept → IsMetaRead v o (Some kept))
    (λ e. e ≡ Rules → (kept : Meta) → row ≡ meta_cells kept → IsRefusedMeta v (Some kept))
    → MatchResult r (λ o. (kept : Option Meta) → rows ≡ map meta_cells (one_or_none kept)
    → IsMetaRead v o kept)
    (λ e. e ≡ Rules → (kept : Option Meta) → rows ≡ map meta_cells (one_or_none kept)
    → IsRefusedMeta v kept)
one_read v rows row is (Ok o) says = of_one (IsMetaRead v o) rows row is says
one_read v rows row is (Err e) says = λ rule. of_one (IsRefusedMeta v) rows row is (says rule)

-- none is there
pub none_refused : (v : ℕ) (rows : List Row) → rows ≡ [] → (o : Option Meta)
    → rows ≡ map meta_cells (one_or_none o) → IsRefusedMeta v o
none_refused v rows empty None none = tt
none_refused v rows empty (Some m) some =
    absurd (let no : meta_cells m ∷ [] ≡ [] = sym some ∙ empty in cc)

-- several are none's
pub several_refused : (v : ℕ) (rows : List Row) → ((o : Option Row) → ¬ (rows ≡ one_or_none o))
    → (o : Option Meta) → rows ≡ map meta_cells (one_or_none o) → IsRefusedMeta v o
several_refused v rows several None none = absurd (several None none)
several_refused v rows several (Some m) some = absurd (several (Some (meta_cells m)) some)

-- what is said of the rows that were read is said of the tables
pub meta_told : (P : Option Meta → Type 0) (old new : State) (rows : List Row)
    → Answers read_meta_text [] old new rows
    → ((o : Option Meta) → rows ≡ map meta_cells (one_or_none o) → P o)
    → P (tables_content old.now.trees).meta
meta_told P old new rows got says =
    let it = there old new rows got in
    subst P (meta_read old new rows it.0 got it.1) (says it.0 it.1)

-- ---- the version of a row

-- the row of some cells is one
same_cells : (m k : Meta) → meta_cells m ≡ meta_cells k → m ≡ k
same_cells m k is = ap (λ w. meta_in (Null ∷ w)) is

pub same_row : (row : Row) (m k : Meta) → row ≡ meta_cells m → row ≡ meta_cells k → Some k ≡ Some m
same_row row m k one two = ap Some (same_cells k m (sym two ∙ one))

version_at : (row : Row) (m : Meta) → row ≡ meta_cells m → column row 0 ≡ nat m.version
version_at row m is = ap (λ w. column w 0) is

pub other_version : (row : Row) (v : ℕ) (t : Bool) → (column row 0 ≡ nat v → t ≡ true) → t ≡ false
    → (m : Meta) → row ≡ meta_cells m → ¬ (m.version ≡ v)
other_version row v t says other m is same =
    let no : true ≡ false = sym (says (version_at row m is ∙ ap nat same)) ∙ other in cc

pub own_version : (row : Row) (v : ℕ) → column row 0 ≡ nat v → (m : Meta) → row ≡ meta_cells m
    → m.version ≡ v
own_version row v at m is = ap nat_in (sym (version_at row m is) ∙ at)

-- ---- one end of a clause of both

pub at_ok : {T E : Type 0} (P : T → Type 0) (Q : E → Type 0) (r : Result T E) →
    MatchResult r P Q → IfOk r P
at_ok P Q (Ok x) h = h
at_ok P Q (Err e) h = tt

pub at_err : {T E : Type 0} (P : T → Type 0) (Q : E → Type 0) (R : E → Type 0) (r : Result T E)
    → ((e : E) → Q e → R e) → MatchResult r P Q → IfErr r R
at_err P Q R (Ok x) to h = tt
at_err P Q R (Err e) to h = to e h
