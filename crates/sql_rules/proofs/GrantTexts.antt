-- The text that selects reservations, each with the row of its book, over the schema of each version
-- that has such rows.
use Rattle.std.proofs.Common.{◌≡◌, ◌++◌, refl, codes, ℕ, zero, suc, ◌≤◌, List, [], ◌∷◌, arith, pos}
use Rattle.std.proofs.Common.{negsuc, None, false}
use Rattle.sqlite_value.specs.declared.value.Value.TheVariants.{Int}
use Rattle.sqlite_value.specs.declared.keys.Collation.TheVariants.{Binary}
use Rattle.sqlite_sql.specs.declared.ops.BinaryOp.TheVariants.{Compare}
use Rattle.sqlite_sql.specs.declared.ops.CompareOp.TheVariants.{Eq}
use Rattle.sqlite_sql.specs.Term.{Term, lit, col, op2}
use Rattle.sqlite_sql.specs.Query.{Query, inner, left, end}
use Rattle.sqlite_schema.specs.declared.command.Command.TheVariants.{Select}
use Rattle.sqlite_tied.specs.Compute.{everything}
use Rattle.sqlite.specs.Given.{IsPlain}
use Rattle.sqlite.specs.Listing.{understood, reads_listing}
use Rattle.sqlite.proofs.Callers.{command_of}
use Rattle.sql_tables.specs.Opens.{IsVersion}
use Rattle.sql_tables.specs.Schema.{grant_books, schema_at, session_groups}

-- ---- the query

abbrev pub held_terms : List Term
held_terms = op2 (Compare Eq Binary) (col 1 5) (lit (Int (pos 1))) ∷ []

abbrev pub grant_terms : List Term
grant_terms =
    op2 (Compare Eq Binary) (col 2 1) (col 1 1) ∷ op2 (Compare Eq Binary) (col 2 2) (col 1 2)
    ∷ op2 (Compare Eq Binary) (col 2 3) (col 1 3) ∷ []

abbrev pub grant_query : Query
grant_query = record {
  from = inner session_groups.tree (left grant_books.tree grant_terms end);
  filter = held_terms;
  group = None;
  project = col 2 4 ∷ col 1 6 ∷ col 1 7 ∷ [];
  distinct = false;
  collations = [];
  order = [];
  limit = lit (Int (negsuc 0));
  offset = lit (Int (pos 0));
}

-- over the schema of a version the text is that query
pub record IsGrants (v : ℕ) (text : List ℕ) : Type 0 where
  pub names : List (List ℕ)
  pub command : command_of (understood (schema_at v) text)
      ≡ Select (record { lets = []; body = grant_query }) names
  pub listing : reads_listing (schema_at v) text ≡ false
  pub plain : IsPlain (understood (schema_at v) text)

-- ---- the text

abbrev pub grants_text : List ℕ
grants_text =
    codes "SELECT grant_books.book, session_groups.period_before, session_groups.period_after "
    ++ codes "FROM session_groups LEFT JOIN grant_books "
    ++ codes "ON grant_books.account = session_groups.account "
    ++ codes "AND grant_books.session = session_groups.session "
    ++ codes "AND grant_books.rating_group = session_groups.rating_group "
    ++ codes "WHERE session_groups.reserved = 1"

abbrev shown_names : List (List ℕ)
shown_names = codes "book" ∷ codes "period_before" ∷ codes "period_after" ∷ []

grants_at_2 : IsGrants 2 grants_text
unfolding understood everything
grants_at_2 = record { names = shown_names; command = refl; listing = refl; plain = (refl, refl) }

grants_at_3 : IsGrants 3 grants_text
unfolding understood everything
grants_at_3 = record { names = shown_names; command = refl; listing = refl; plain = (refl, refl) }

pub grants_at : (v : ℕ) → IsVersion v → 2 ≤ v → IsGrants v grants_text
grants_at zero known late = absurd (omega (arith, known.0))
grants_at (suc zero) known late = absurd (omega (arith, late))
grants_at (suc (suc zero)) known late = grants_at_2
grants_at (suc (suc (suc zero))) known late = grants_at_3
grants_at (suc (suc (suc (suc n)))) known late =
    let high : suc (suc (suc (suc n))) ≤ 3 = known.1 in absurd (omega (arith, high))
