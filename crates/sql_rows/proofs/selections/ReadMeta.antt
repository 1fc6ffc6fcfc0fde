-- What the text of `read_meta` answers.
use Rattle.std.specs.Prelude.{codes}
use Rattle.std.proofs.Common.{◌≡◌, inl, ℕ, pos, List, [], ◌∷◌, map, drop}
use Rattle.std.proofs.Common.{false, Option, Equal, refl, sym, ap, subst, ◌∙◌}
use Rattle.std.specs.List.{list_all}
use Rattle.std.specs.Ordering.{eq_by_cmp}
use Rattle.sqlite_value.specs.declared.value.Value.TheVariants.{Null, Int}
use Rattle.sqlite_value.specs.declared.keys.Collation.TheVariants.{Binary}
use Rattle.sqlite_value.specs.Keys.{first_key}
use Rattle.sqlite_value.specs.Order.{Row, column, row_cmp, value_cmp}
use Rattle.sqlite_sql.specs.declared.ops.BinaryOp.TheVariants.{Compare}
use Rattle.sqlite_sql.specs.declared.ops.CompareOp.TheVariants.{Eq}
use Rattle.sqlite_sql.specs.Term.{Term, lit, col, op2, holds as holds_in}
use Rattle.sqlite_schema.specs.declared.command.Command.TheVariants.{Select}
use Rattle.sqlite_schema.specs.Rules.{equal}
use Rattle.sqlite_tied.specs.Compute.{everything}
use Rattle.sqlite.specs.Given.{IsPlain}
use Rattle.sqlite.specs.Listing.{understood, reads_listing}
use Rattle.sqlite.specs.State.{State}
use Rattle.sqlite.proofs.Callers.{command_of}
use Rattle.sql_tables.specs.Keyed.{key_of}
use Rattle.sql_tables.specs.Schema.{meta, our_schema}
use Rattle.sql_tables.specs.Selects.{Selects, one_or_none}
use Rattle.sql_tables.specs.Statements.{Answers}
use Rattle.sql_tables.proofs.ByKey.{one_told}
use Rattle.sql_tables.proofs.Selected.{select_from, told}
use Rattle.sql_tables.proofs.Steps.{and_true}
use Rattle.sql_tables.proofs.Ties.{equal_present, tie_parts}
use Rattle.sql_rows.specs.Values.{nat, Meta, meta_key, meta_in, meta_cells}
use Rattle.sql_rows.specs.Content.{tables_content}

abbrev pub read_meta_text : List ℕ
read_meta_text = codes "SELECT version, book, last_moment FROM meta WHERE id = 1"

abbrev terms : List Term
terms =
    op2 (Compare Eq Binary) (col 1 1) (lit (Int (pos 1))) ∷ []

abbrev project : List Term
project = col 1 2 ∷ col 1 3 ∷ col 1 4 ∷ []

abbrev names : List (List ℕ)
names = codes "version" ∷ codes "book" ∷ codes "last_moment" ∷ []

abbrev places : List ℕ
places = 1 ∷ []

text_is : (command_of (understood our_schema read_meta_text)
    ≡ Select (record { lets = []; body = select_from 0 terms project [] }) names) ×
    (reads_listing our_schema read_meta_text ≡ false)
unfolding understood everything
text_is = (refl, refl)

pub read_meta_plain : IsPlain (understood our_schema read_meta_text)
unfolding understood everything
read_meta_plain = (refl, refl)

abbrev pub columns : Row → Row
columns r = column r 2 ∷ column r 3 ∷ column r 4 ∷ []

same_columns : (r : Row) → meta_in (drop 1 r) ≡ meta_in (Null ∷ columns r)
same_columns [] = refl
same_columns (v ∷ vs) = refl

back : (x : Meta) (r : Row) → meta_cells x ≡ columns r → meta_in (drop 1 r) ≡ x
back x r is = same_columns r ∙ ap (λ w. meta_in (Null ∷ w)) (sym is) ∙ refl

means : (r : Row) →
    list_all (holds_in ([] ∷ r ∷ [])) terms ≡ eq_by_cmp row_cmp (key_of places r) (meta_key)
unfolding first_key
means r = and_true (equal Binary (column r 1) (nat 1))
    ∙ equal_present (column r 1) (nat 1) refl
    ∙ sym (and_true _)
    ∙ tie_parts (value_cmp (column r 1) (nat 1)) Equal

pub meta_selected : (old new : State) (rows : List Row) → Answers read_meta_text [] old new rows
    → Selects (λ r. eq_by_cmp row_cmp (key_of places r) (meta_key)) columns (old.now.trees 0) rows
meta_selected old new rows got =
    told read_meta_text names 0 terms project [] text_is read_meta_plain []
    (λ r. eq_by_cmp row_cmp (key_of places r) (meta_key)) columns means (λ r. refl) old new rows got

pub meta_read : (old new : State) (rows : List Row) (o : Option Meta)
    → Answers read_meta_text [] old new rows
    → rows ≡ map meta_cells (one_or_none o) → o ≡ (tables_content old.now.trees).meta
meta_read old new rows o got is =
    one_told meta (inl refl) (inl refl) refl old.now.trees got.fits
    (got.book.stored.0) meta_in meta_cells columns
    (λ r. eq_by_cmp row_cmp (key_of places r) (meta_key)) (meta_key) (refl, tt)
    (λ x r m. back x r) (λ r. refl) o
    (subst (Selects (λ r. eq_by_cmp row_cmp (key_of places r) (meta_key)) columns (old.now.trees 0))
    is (meta_selected old new rows got))
