-- The texts that select what is wrong beside a row of another table, over the schema of each version.
use Rattle.std.proofs.Common.{◌≡◌, ◌++◌, refl, codes, ℕ, zero, suc, ◌≤◌, List, [], ◌∷◌, arith, pos}
use Rattle.std.proofs.Common.{None, false}
use Rattle.sqlite_value.specs.declared.value.Value.TheVariants.{Int}
use Rattle.sqlite_value.specs.declared.keys.Collation.TheVariants.{Binary}
use Rattle.sqlite_sql.specs.declared.ops.BinaryOp.TheVariants.{Compare}
use Rattle.sqlite_sql.specs.declared.ops.CompareOp.TheVariants.{Eq, Ge, Gt, Ne}
use Rattle.sqlite_sql.specs.Term.{Term, lit, col, op2}
use Rattle.sqlite_sql.specs.Query.{Query, inner, end}
use Rattle.sqlite_schema.specs.declared.command.Command.TheVariants.{Select}
use Rattle.sqlite_schema.specs.declared.schema.Table.{Table}
use Rattle.sqlite_tied.specs.Compute.{everything}
use Rattle.sqlite.specs.Given.{IsPlain}
use Rattle.sqlite.specs.Listing.{understood, reads_listing}
use Rattle.sqlite.proofs.Callers.{command_of}
use Rattle.sql_tables.specs.Opens.{IsVersion}
use Rattle.sql_tables.specs.Schema.{accounts, buckets, charges, schema_at, session_groups, sessions}

-- ---- the queries

abbrev pub ahead_terms : List Term
ahead_terms =
    op2 (Compare Eq Binary) (col 2 1) (col 1 1) ∷ op2 (Compare Ge Binary) (col 2 2) (col 1 5) ∷ []

abbrev pub bucket_ahead_terms : List Term
bucket_ahead_terms =
    op2 (Compare Eq Binary) (col 2 1) (col 1 1) ∷ op2 (Compare Ge Binary) (col 2 2) (col 1 4) ∷ []

abbrev pub touched_terms : List Term
touched_terms =
    op2 (Compare Eq Binary) (col 2 1) (col 1 1)
    ∷ op2 (Compare Eq Binary) (col 2 5) (lit (Int (pos 1)))
    ∷ op2 (Compare Gt Binary) (col 2 4) (col 1 3) ∷ []

abbrev pub over_terms : List Term
over_terms =
    op2 (Compare Eq Binary) (col 1 5) (lit (Int (pos 1)))
    ∷ op2 (Compare Eq Binary) (col 2 1) (col 1 1)
    ∷ op2 (Compare Eq Binary) (col 2 2) (col 1 2)
    ∷ op2 (Compare Ne Binary) (col 2 5) (lit (Int (pos 1))) ∷ []

-- whether any row of the one table passes with one of the other
abbrev pub pair_query : ℕ → ℕ → List Term → Query
pair_query first second terms = record {
  from = inner first (inner second end);
  filter = terms;
  group = None;
  project = lit (Int (pos 1)) ∷ [];
  distinct = false;
  collations = [];
  order = [];
  limit = lit (Int (pos 1));
  offset = lit (Int (pos 0));
}

-- over the schema of a version the text is that query
pub record IsPair (v : ℕ) (text : List ℕ) (first second : Table) (terms : List Term) : Type 0 where
  pub names : List (List ℕ)
  pub command : command_of (understood (schema_at v) text)
      ≡ Select (record { lets = []; body = pair_query first.tree second.tree terms }) names
  pub listing : reads_listing (schema_at v) text ≡ false
  pub plain : IsPlain (understood (schema_at v) text)

-- ---- the texts

abbrev pub ahead_text : List ℕ
ahead_text =
    codes "SELECT 1 FROM accounts, charges WHERE charges.account = accounts.account "
    ++ codes "AND charges.number >= accounts.next_charge LIMIT 1"

abbrev pub bucket_ahead_text : List ℕ
bucket_ahead_text =
    codes "SELECT 1 FROM accounts, buckets WHERE buckets.account = accounts.account "
    ++ codes "AND buckets.number >= accounts.next_bucket LIMIT 1"

abbrev pub touched_text : List ℕ
touched_text =
    codes "SELECT 1 FROM accounts, sessions WHERE sessions.account = accounts.account "
    ++ codes "AND sessions.state = 1 AND sessions.touched > accounts.as_of LIMIT 1"

abbrev pub over_text : List ℕ
over_text =
    codes "SELECT 1 FROM session_groups, sessions WHERE session_groups.reserved = 1 "
    ++ codes "AND sessions.account = session_groups.account "
    ++ codes "AND sessions.session = session_groups.session AND sessions.state <> 1 LIMIT 1"

ahead_at_1 : IsPair 1 ahead_text accounts charges ahead_terms
unfolding understood everything
ahead_at_1 = record { names = codes "1" ∷ []; command = refl; listing = refl; plain = (refl, refl) }

ahead_at_2 : IsPair 2 ahead_text accounts charges ahead_terms
unfolding understood everything
ahead_at_2 = record { names = codes "1" ∷ []; command = refl; listing = refl; plain = (refl, refl) }

ahead_at_3 : IsPair 3 ahead_text accounts charges ahead_terms
unfolding understood everything
ahead_at_3 = record { names = codes "1" ∷ []; command = refl; listing = refl; plain = (refl, refl) }

bucket_ahead_at_1 : IsPair 1 bucket_ahead_text accounts buckets bucket_ahead_terms
unfolding understood everything
bucket_ahead_at_1 =
    record { names = codes "1" ∷ []; command = refl; listing = refl; plain = (refl, refl) }

bucket_ahead_at_2 : IsPair 2 bucket_ahead_text accounts buckets bucket_ahead_terms
unfolding understood everything
bucket_ahead_at_2 =
    record { names = codes "1" ∷ []; command = refl; listing = refl; plain = (refl, refl) }

bucket_ahead_at_3 : IsPair 3 bucket_ahead_text accounts buckets bucket_ahead_terms
unfolding understood everything
bucket_ahead_at_3 =
    record { names = codes "1" ∷ []; command = refl; listing = refl; plain = (refl, refl) }

touched_at_1 : IsPair 1 touched_text accounts sessions touched_terms
unfolding understood everything
touched_at_1 =
    record { names = codes "1" ∷ []; command = refl; listing = refl; plain = (refl, refl) }

touched_at_2 : IsPair 2 touched_text accounts sessions touched_terms
unfolding understood everything
touched_at_2 =
    record { names = codes "1" ∷ []; command = refl; listing = refl; plain = (refl, refl) }

touched_at_3 : IsPair 3 touched_text accounts sessions touched_terms
unfolding understood everything
touched_at_3 =
    record { names = codes "1" ∷ []; command = refl; listing = refl; plain = (refl, refl) }

over_at_1 : IsPair 1 over_text session_groups sessions over_terms
unfolding understood everything
over_at_1 = record { names = codes "1" ∷ []; command = refl; listing = refl; plain = (refl, refl) }

over_at_2 : IsPair 2 over_text session_groups sessions over_terms
unfolding understood everything
over_at_2 = record { names = codes "1" ∷ []; command = refl; listing = refl; plain = (refl, refl) }

over_at_3 : IsPair 3 over_text session_groups sessions over_terms
unfolding understood everything
over_at_3 = record { names = codes "1" ∷ []; command = refl; listing = refl; plain = (refl, refl) }

pub ahead_at : (v : ℕ) → IsVersion v → IsPair v ahead_text accounts charges ahead_terms
ahead_at zero known = absurd (omega (arith, known.0))
ahead_at (suc zero) known = ahead_at_1
ahead_at (suc (suc zero)) known = ahead_at_2
ahead_at (suc (suc (suc zero))) known = ahead_at_3
ahead_at (suc (suc (suc (suc n)))) known =
    let high : suc (suc (suc (suc n))) ≤ 3 = known.1 in absurd (omega (arith, high))

pub bucket_ahead_at : (v : ℕ) → IsVersion v
    → IsPair v bucket_ahead_text accounts buckets bucket_ahead_terms
bucket_ahead_at zero known = absurd (omega (arith, known.0))
bucket_ahead_at (suc zero) known = bucket_ahead_at_1
bucket_ahead_at (suc (suc zero)) known = bucket_ahead_at_2
bucket_ahead_at (suc (suc (suc zero))) known = bucket_ahead_at_3
bucket_ahead_at (suc (suc (suc (suc n)))) known =
    let high : suc (suc (suc (suc n))) ≤ 3 = known.1 in absurd (omega (arith, high))

pub touched_at : (v : ℕ) → IsVersion v → IsPair v touched_text accounts sessions touched_terms
touched_at zero known = absurd (omega (arith, known.0))
touched_at (suc zero) known = touched_at_1
touched_at (suc (suc zero)) known = touched_at_2
touched_at (suc (suc (suc zero))) known = touched_at_3
touched_at (suc (suc (suc (suc n)))) known =
    let high : suc (suc (suc (suc n))) ≤ 3 = known.1 in absurd (omega (arith, high))

pub over_at : (v : ℕ) → IsVersion v → IsPair v over_text session_groups sessions over_terms
over_at zero known = absurd (omega (arith, known.0))
over_at (suc zero) known = over_at_1
over_at (suc (suc zero)) known = over_at_2
over_at (suc (suc (suc zero))) known = over_at_3
over_at (suc (suc (suc (suc n)))) known =
    let high : suc (suc (suc (suc n))) ≤ 3 = known.1 in absurd (omega (arith, high))
