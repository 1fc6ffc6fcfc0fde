-- The texts that select all rows of each table, over the schema of each version.
use Rattle.std.proofs.Common.{◌≡◌, refl, codes, ℕ, zero, suc, ◌<◌, ◌≤◌, List, [], ◌∷◌, length}
use Rattle.std.proofs.Common.{slice_index_or, subst, sym, arith}
use Rattle.sqlite_tied.specs.Compute.{everything}
use Rattle.sqlite.specs.Listing.{understood}
use Rattle.sql_tables.specs.Schema.{schema_at}
use Rattle.sql_tables.specs.Opens.{IsVersion}
use Rattle.sql_tables.specs.Texts.{rows_texts}
use Rattle.sql_rules.specs.Tables.{IsTable}

meta_at_1 : IsTable 1 (slice_index_or rows_texts 0 []) 0
unfolding understood everything
meta_at_1 = record {
  names = codes "rowid" ∷ codes "id" ∷ codes "version" ∷ codes "book" ∷ codes "last_moment" ∷ [];
  command = refl;
  listing = refl;
  plain = (refl, refl);
}

meta_at_2 : IsTable 2 (slice_index_or rows_texts 0 []) 0
unfolding understood everything
meta_at_2 = record {
  names = codes "rowid" ∷ codes "id" ∷ codes "version" ∷ codes "book" ∷ codes "last_moment" ∷ [];
  command = refl;
  listing = refl;
  plain = (refl, refl);
}

meta_at_3 : IsTable 3 (slice_index_or rows_texts 0 []) 0
unfolding understood everything
meta_at_3 = record {
  names = codes "rowid" ∷ codes "id" ∷ codes "version" ∷ codes "book" ∷ codes "last_moment" ∷ [];
  command = refl;
  listing = refl;
  plain = (refl, refl);
}

accounts_at_1 : IsTable 1 (slice_index_or rows_texts 1 []) 1
unfolding understood everything
accounts_at_1 = record {
  names = codes "rowid" ∷ codes "account" ∷ codes "barred" ∷ codes "as_of" ∷ codes "next_bucket"
      ∷ codes "next_charge" ∷ [];
  command = refl;
  listing = refl;
  plain = (refl, refl);
}

accounts_at_2 : IsTable 2 (slice_index_or rows_texts 1 []) 1
unfolding understood everything
accounts_at_2 = record {
  names = codes "rowid" ∷ codes "account" ∷ codes "barred" ∷ codes "as_of" ∷ codes "next_bucket"
      ∷ codes "next_charge" ∷ [];
  command = refl;
  listing = refl;
  plain = (refl, refl);
}

accounts_at_3 : IsTable 3 (slice_index_or rows_texts 1 []) 1
unfolding understood everything
accounts_at_3 = record {
  names = codes "rowid" ∷ codes "account" ∷ codes "barred" ∷ codes "as_of" ∷ codes "next_bucket"
      ∷ codes "next_charge" ∷ [];
  command = refl;
  listing = refl;
  plain = (refl, refl);
}

buckets_at_1 : IsTable 1 (slice_index_or rows_texts 2 []) 2
unfolding understood everything
buckets_at_1 = record {
  names = codes "rowid" ∷ codes "account" ∷ codes "number" ∷ codes "starts" ∷ codes "ends"
      ∷ codes "scope" ∷ codes "credited" ∷ codes "available" ∷ codes "reserved" ∷ codes "charged"
      ∷ codes "expired" ∷ [];
  command = refl;
  listing = refl;
  plain = (refl, refl);
}

buckets_at_2 : IsTable 2 (slice_index_or rows_texts 2 []) 2
unfolding understood everything
buckets_at_2 = record {
  names = codes "rowid" ∷ codes "account" ∷ codes "number" ∷ codes "starts" ∷ codes "ends"
      ∷ codes "scope" ∷ codes "credited" ∷ codes "available" ∷ codes "reserved" ∷ codes "charged"
      ∷ codes "expired" ∷ [];
  command = refl;
  listing = refl;
  plain = (refl, refl);
}

buckets_at_3 : IsTable 3 (slice_index_or rows_texts 2 []) 2
unfolding understood everything
buckets_at_3 = record {
  names = codes "rowid" ∷ codes "account" ∷ codes "number" ∷ codes "starts" ∷ codes "ends"
      ∷ codes "scope" ∷ codes "credited" ∷ codes "available" ∷ codes "reserved" ∷ codes "charged"
      ∷ codes "expired" ∷ [];
  command = refl;
  listing = refl;
  plain = (refl, refl);
}

counters_at_1 : IsTable 1 (slice_index_or rows_texts 3 []) 3
unfolding understood everything
counters_at_1 = record {
  names = codes "rowid" ∷ codes "account" ∷ codes "rating_group" ∷ codes "cycle" ∷ codes "blocks"
      ∷ [];
  command = refl;
  listing = refl;
  plain = (refl, refl);
}

counters_at_2 : IsTable 2 (slice_index_or rows_texts 3 []) 3
unfolding understood everything
counters_at_2 = record {
  names = codes "rowid" ∷ codes "account" ∷ codes "rating_group" ∷ codes "cycle" ∷ codes "blocks"
      ∷ [];
  command = refl;
  listing = refl;
  plain = (refl, refl);
}

counters_at_3 : IsTable 3 (slice_index_or rows_texts 3 []) 3
unfolding understood everything
counters_at_3 = record {
  names = codes "rowid" ∷ codes "account" ∷ codes "rating_group" ∷ codes "cycle" ∷ codes "blocks"
      ∷ [];
  command = refl;
  listing = refl;
  plain = (refl, refl);
}

sessions_at_1 : IsTable 1 (slice_index_or rows_texts 4 []) 4
unfolding understood everything
sessions_at_1 = record {
  names = codes "rowid" ∷ codes "account" ∷ codes "session" ∷ codes "last_number"
      ∷ codes "touched" ∷ codes "state" ∷ [];
  command = refl;
  listing = refl;
  plain = (refl, refl);
}

sessions_at_2 : IsTable 2 (slice_index_or rows_texts 4 []) 4
unfolding understood everything
sessions_at_2 = record {
  names = codes "rowid" ∷ codes "account" ∷ codes "session" ∷ codes "last_number"
      ∷ codes "touched" ∷ codes "state" ∷ [];
  command = refl;
  listing = refl;
  plain = (refl, refl);
}

sessions_at_3 : IsTable 3 (slice_index_or rows_texts 4 []) 4
unfolding understood everything
sessions_at_3 = record {
  names = codes "rowid" ∷ codes "account" ∷ codes "session" ∷ codes "last_number"
      ∷ codes "touched" ∷ codes "state" ∷ [];
  command = refl;
  listing = refl;
  plain = (refl, refl);
}

session_groups_at_1 : IsTable 1 (slice_index_or rows_texts 5 []) 5
unfolding understood everything
session_groups_at_1 = record {
  names = codes "rowid" ∷ codes "account" ∷ codes "session" ∷ codes "rating_group" ∷ codes "used"
      ∷ codes "reserved" ∷ codes "period_before" ∷ codes "period_after" ∷ [];
  command = refl;
  listing = refl;
  plain = (refl, refl);
}

session_groups_at_2 : IsTable 2 (slice_index_or rows_texts 5 []) 5
unfolding understood everything
session_groups_at_2 = record {
  names = codes "rowid" ∷ codes "account" ∷ codes "session" ∷ codes "rating_group" ∷ codes "used"
      ∷ codes "reserved" ∷ codes "period_before" ∷ codes "period_after" ∷ [];
  command = refl;
  listing = refl;
  plain = (refl, refl);
}

session_groups_at_3 : IsTable 3 (slice_index_or rows_texts 5 []) 5
unfolding understood everything
session_groups_at_3 = record {
  names = codes "rowid" ∷ codes "account" ∷ codes "session" ∷ codes "rating_group" ∷ codes "used"
      ∷ codes "reserved" ∷ codes "period_before" ∷ codes "period_after" ∷ [];
  command = refl;
  listing = refl;
  plain = (refl, refl);
}

holds_at_1 : IsTable 1 (slice_index_or rows_texts 6 []) 6
unfolding understood everything
holds_at_1 = record {
  names = codes "rowid" ∷ codes "account" ∷ codes "session" ∷ codes "rating_group"
      ∷ codes "bucket" ∷ codes "amount" ∷ [];
  command = refl;
  listing = refl;
  plain = (refl, refl);
}

holds_at_2 : IsTable 2 (slice_index_or rows_texts 6 []) 6
unfolding understood everything
holds_at_2 = record {
  names = codes "rowid" ∷ codes "account" ∷ codes "session" ∷ codes "rating_group"
      ∷ codes "bucket" ∷ codes "amount" ∷ [];
  command = refl;
  listing = refl;
  plain = (refl, refl);
}

holds_at_3 : IsTable 3 (slice_index_or rows_texts 6 []) 6
unfolding understood everything
holds_at_3 = record {
  names = codes "rowid" ∷ codes "account" ∷ codes "session" ∷ codes "rating_group"
      ∷ codes "bucket" ∷ codes "amount" ∷ [];
  command = refl;
  listing = refl;
  plain = (refl, refl);
}

answers_at_1 : IsTable 1 (slice_index_or rows_texts 7 []) 7
unfolding understood everything
answers_at_1 = record {
  names = codes "rowid" ∷ codes "account" ∷ codes "kind" ∷ codes "name" ∷ codes "number"
      ∷ codes "content" ∷ codes "answer" ∷ [];
  command = refl;
  listing = refl;
  plain = (refl, refl);
}

answers_at_2 : IsTable 2 (slice_index_or rows_texts 7 []) 7
unfolding understood everything
answers_at_2 = record {
  names = codes "rowid" ∷ codes "account" ∷ codes "kind" ∷ codes "name" ∷ codes "number"
      ∷ codes "content" ∷ codes "answer" ∷ [];
  command = refl;
  listing = refl;
  plain = (refl, refl);
}

answers_at_3 : IsTable 3 (slice_index_or rows_texts 7 []) 7
unfolding understood everything
answers_at_3 = record {
  names = codes "rowid" ∷ codes "account" ∷ codes "kind" ∷ codes "name" ∷ codes "number"
      ∷ codes "content" ∷ codes "answer" ∷ [];
  command = refl;
  listing = refl;
  plain = (refl, refl);
}

vouchers_at_1 : IsTable 1 (slice_index_or rows_texts 8 []) 8
unfolding understood everything
vouchers_at_1 = record {
  names = codes "rowid" ∷ codes "code" ∷ codes "amount" ∷ codes "days" ∷ codes "scope"
      ∷ codes "account" ∷ [];
  command = refl;
  listing = refl;
  plain = (refl, refl);
}

vouchers_at_2 : IsTable 2 (slice_index_or rows_texts 8 []) 8
unfolding understood everything
vouchers_at_2 = record {
  names = codes "rowid" ∷ codes "code" ∷ codes "amount" ∷ codes "days" ∷ codes "scope"
      ∷ codes "account" ∷ [];
  command = refl;
  listing = refl;
  plain = (refl, refl);
}

vouchers_at_3 : IsTable 3 (slice_index_or rows_texts 8 []) 8
unfolding understood everything
vouchers_at_3 = record {
  names = codes "rowid" ∷ codes "code" ∷ codes "amount" ∷ codes "days" ∷ codes "scope"
      ∷ codes "account" ∷ [];
  command = refl;
  listing = refl;
  plain = (refl, refl);
}

charges_at_1 : IsTable 1 (slice_index_or rows_texts 9 []) 9
unfolding understood everything
charges_at_1 = record {
  names = codes "rowid" ∷ codes "account" ∷ codes "number" ∷ codes "moment" ∷ codes "session"
      ∷ codes "rating_group" ∷ codes "blocks" ∷ codes "rated" ∷ codes "collected"
      ∷ codes "uncollected" ∷ [];
  command = refl;
  listing = refl;
  plain = (refl, refl);
}

charges_at_2 : IsTable 2 (slice_index_or rows_texts 9 []) 9
unfolding understood everything
charges_at_2 = record {
  names = codes "rowid" ∷ codes "account" ∷ codes "number" ∷ codes "moment" ∷ codes "session"
      ∷ codes "rating_group" ∷ codes "blocks" ∷ codes "rated" ∷ codes "collected"
      ∷ codes "uncollected" ∷ [];
  command = refl;
  listing = refl;
  plain = (refl, refl);
}

charges_at_3 : IsTable 3 (slice_index_or rows_texts 9 []) 9
unfolding understood everything
charges_at_3 = record {
  names = codes "rowid" ∷ codes "account" ∷ codes "number" ∷ codes "moment" ∷ codes "session"
      ∷ codes "rating_group" ∷ codes "blocks" ∷ codes "rated" ∷ codes "collected"
      ∷ codes "uncollected" ∷ [];
  command = refl;
  listing = refl;
  plain = (refl, refl);
}

books_at_2 : IsTable 2 (slice_index_or rows_texts 10 []) 10
unfolding understood everything
books_at_2 = record {
  names = codes "rowid" ∷ codes "number" ∷ codes "starts" ∷ codes "content" ∷ [];
  command = refl;
  listing = refl;
  plain = (refl, refl);
}

books_at_3 : IsTable 3 (slice_index_or rows_texts 10 []) 10
unfolding understood everything
books_at_3 = record {
  names = codes "rowid" ∷ codes "number" ∷ codes "starts" ∷ codes "content" ∷ [];
  command = refl;
  listing = refl;
  plain = (refl, refl);
}

grant_books_at_2 : IsTable 2 (slice_index_or rows_texts 11 []) 11
unfolding understood everything
grant_books_at_2 = record {
  names = codes "rowid" ∷ codes "account" ∷ codes "session" ∷ codes "rating_group" ∷ codes "book"
      ∷ [];
  command = refl;
  listing = refl;
  plain = (refl, refl);
}

grant_books_at_3 : IsTable 3 (slice_index_or rows_texts 11 []) 11
unfolding understood everything
grant_books_at_3 = record {
  names = codes "rowid" ∷ codes "account" ∷ codes "session" ∷ codes "rating_group" ∷ codes "book"
      ∷ [];
  command = refl;
  listing = refl;
  plain = (refl, refl);
}

allowance_buckets_at_3 : IsTable 3 (slice_index_or rows_texts 12 []) 12
unfolding understood everything
allowance_buckets_at_3 = record {
  names = codes "rowid" ∷ codes "account" ∷ codes "number" ∷ [];
  command = refl;
  listing = refl;
  plain = (refl, refl);
}

covered_at_3 : IsTable 3 (slice_index_or rows_texts 13 []) 13
unfolding understood everything
covered_at_3 = record {
  names = codes "rowid" ∷ codes "account" ∷ codes "number" ∷ codes "blocks" ∷ [];
  command = refl;
  listing = refl;
  plain = (refl, refl);
}

texts_at_1 : (at : ℕ) → at < 10 → IsTable 1 (slice_index_or rows_texts at []) at
texts_at_1 zero low = meta_at_1
texts_at_1 (suc zero) low = accounts_at_1
texts_at_1 (suc (suc zero)) low = buckets_at_1
texts_at_1 (suc (suc (suc zero))) low = counters_at_1
texts_at_1 (suc (suc (suc (suc zero)))) low = sessions_at_1
texts_at_1 (suc (suc (suc (suc (suc zero))))) low = session_groups_at_1
texts_at_1 (suc (suc (suc (suc (suc (suc zero)))))) low = holds_at_1
texts_at_1 (suc (suc (suc (suc (suc (suc (suc zero))))))) low = answers_at_1
texts_at_1 (suc (suc (suc (suc (suc (suc (suc (suc zero)))))))) low = vouchers_at_1
texts_at_1 (suc (suc (suc (suc (suc (suc (suc (suc (suc zero))))))))) low = charges_at_1
texts_at_1 (suc (suc (suc (suc (suc (suc (suc (suc (suc (suc n)))))))))) low =
    absurd (omega (arith, low))

texts_at_2 : (at : ℕ) → at < 12 → IsTable 2 (slice_index_or rows_texts at []) at
texts_at_2 zero low = meta_at_2
texts_at_2 (suc zero) low = accounts_at_2
texts_at_2 (suc (suc zero)) low = buckets_at_2
texts_at_2 (suc (suc (suc zero))) low = counters_at_2
texts_at_2 (suc (suc (suc (suc zero)))) low = sessions_at_2
texts_at_2 (suc (suc (suc (suc (suc zero))))) low = session_groups_at_2
texts_at_2 (suc (suc (suc (suc (suc (suc zero)))))) low = holds_at_2
texts_at_2 (suc (suc (suc (suc (suc (suc (suc zero))))))) low = answers_at_2
texts_at_2 (suc (suc (suc (suc (suc (suc (suc (suc zero)))))))) low = vouchers_at_2
texts_at_2 (suc (suc (suc (suc (suc (suc (suc (suc (suc zero))))))))) low = charges_at_2
texts_at_2 (suc (suc (suc (suc (suc (suc (suc (suc (suc (suc zero)))))))))) low = books_at_2
texts_at_2 (suc (suc (suc (suc (suc (suc (suc (suc (suc (suc (suc zero))))))))))) low =
    grant_books_at_2
texts_at_2 (suc (suc (suc (suc (suc (suc (suc (suc (suc (suc (suc (suc n)))))))))))) low =
    absurd (omega (arith, low))

texts_at_3 : (at : ℕ) → at < 14 → IsTable 3 (slice_index_or rows_texts at []) at
texts_at_3 zero low = meta_at_3
texts_at_3 (suc zero) low = accounts_at_3
texts_at_3 (suc (suc zero)) low = buckets_at_3
texts_at_3 (suc (suc (suc zero))) low = counters_at_3
texts_at_3 (suc (suc (suc (suc zero)))) low = sessions_at_3
texts_at_3 (suc (suc (suc (suc (suc zero))))) low = session_groups_at_3
texts_at_3 (suc (suc (suc (suc (suc (suc zero)))))) low = holds_at_3
texts_at_3 (suc (suc (suc (suc (suc (suc (suc zero))))))) low = answers_at_3
texts_at_3 (suc (suc (suc (suc (suc (suc (suc (suc zero)))))))) low = vouchers_at_3
texts_at_3 (suc (suc (suc (suc (suc (suc (suc (suc (suc zero))))))))) low = charges_at_3
texts_at_3 (suc (suc (suc (suc (suc (suc (suc (suc (suc (suc zero)))))))))) low = books_at_3
texts_at_3 (suc (suc (suc (suc (suc (suc (suc (suc (suc (suc (suc zero))))))))))) low =
    grant_books_at_3
texts_at_3 (suc (suc (suc (suc (suc (suc (suc (suc (suc (suc (suc (suc zero)))))))))))) low =
    allowance_buckets_at_3
texts_at_3 (suc (suc (suc (suc (suc (suc (suc (suc (suc (suc (suc (suc (suc zero))))))))))))) low =
    covered_at_3
texts_at_3 (suc (suc (suc (suc (suc (suc (suc (suc (suc (suc (suc (suc (suc (suc n))))))))))))))
    low = absurd (omega (arith, low))

texts_at : (v at : ℕ) → IsVersion v → at < length (schema_at v).tables
    → IsTable v (slice_index_or rows_texts at []) at
texts_at zero at known low = absurd (omega (arith, known.0))
texts_at (suc zero) at known low = texts_at_1 at low
texts_at (suc (suc zero)) at known low = texts_at_2 at low
texts_at (suc (suc (suc zero))) at known low = texts_at_3 at low
texts_at (suc (suc (suc (suc n)))) at known low =
    let high : suc (suc (suc (suc n))) ≤ 3 = known.1 in absurd (omega (arith, high))

-- the text at a place
pub text_at : (v at : ℕ) (text : List ℕ) → IsVersion v → at < length (schema_at v).tables
    → text ≡ slice_index_or rows_texts at [] → IsTable v text at
text_at v at text known low is = subst (λ t. IsTable v t at) (sym is) (texts_at v at known low)
