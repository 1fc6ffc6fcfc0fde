-- The texts that select the rowids of each table, over the schema of each version.
use Rattle.std.proofs.Common.{◌≡◌, refl, codes, ℕ, zero, suc, ◌+◌, ◌<◌, ◌≤◌, List, [], ◌∷◌}
use Rattle.std.proofs.Common.{length, slice_index_or, subst, sym, arith}
use Rattle.std.specs.Prelude.{⊤, drop}
use Rattle.sqlite_tied.specs.Compute.{everything}
use Rattle.sqlite.specs.Listing.{understood}
use Rattle.sql_tables.specs.Schema.{meta, accounts, buckets, counters, sessions, session_groups}
use Rattle.sql_tables.specs.Schema.{holds, answers, vouchers, charges, books, grant_books}
use Rattle.sql_tables.specs.Schema.{allowance_buckets, covered, schema_at}
use Rattle.sql_tables.specs.Opens.{IsNext, IsRowids, IsVersion}
use Rattle.sql_tables.specs.Texts.{rowids_texts}

abbrev pub AreNext : ℕ → ℕ → List (List ℕ) → Type 0
AreNext v k [] = ⊤
AreNext v k (text ∷ texts) =
    (k < length (schema_at v).tables → IsNext v text k) × AreNext v (suc k) texts

meta_at_1 : IsRowids 1 (codes "SELECT rowid FROM meta ORDER BY rowid") meta
unfolding understood everything
meta_at_1 = record { command = refl; listing = refl; plain = (refl, refl) }

accounts_at_1 : IsRowids 1 (codes "SELECT rowid FROM accounts ORDER BY rowid") accounts
unfolding understood everything
accounts_at_1 = record { command = refl; listing = refl; plain = (refl, refl) }

buckets_at_1 : IsRowids 1 (codes "SELECT rowid FROM buckets ORDER BY rowid") buckets
unfolding understood everything
buckets_at_1 = record { command = refl; listing = refl; plain = (refl, refl) }

counters_at_1 : IsRowids 1 (codes "SELECT rowid FROM counters ORDER BY rowid") counters
unfolding understood everything
counters_at_1 = record { command = refl; listing = refl; plain = (refl, refl) }

sessions_at_1 : IsRowids 1 (codes "SELECT rowid FROM sessions ORDER BY rowid") sessions
unfolding understood everything
sessions_at_1 = record { command = refl; listing = refl; plain = (refl, refl) }

session_groups_at_1 : IsRowids 1 (codes "SELECT rowid FROM session_groups ORDER BY rowid")
    session_groups
unfolding understood everything
session_groups_at_1 = record { command = refl; listing = refl; plain = (refl, refl) }

holds_at_1 : IsRowids 1 (codes "SELECT rowid FROM holds ORDER BY rowid") holds
unfolding understood everything
holds_at_1 = record { command = refl; listing = refl; plain = (refl, refl) }

answers_at_1 : IsRowids 1 (codes "SELECT rowid FROM answers ORDER BY rowid") answers
unfolding understood everything
answers_at_1 = record { command = refl; listing = refl; plain = (refl, refl) }

vouchers_at_1 : IsRowids 1 (codes "SELECT rowid FROM vouchers ORDER BY rowid") vouchers
unfolding understood everything
vouchers_at_1 = record { command = refl; listing = refl; plain = (refl, refl) }

charges_at_1 : IsRowids 1 (codes "SELECT rowid FROM charges ORDER BY rowid") charges
unfolding understood everything
charges_at_1 = record { command = refl; listing = refl; plain = (refl, refl) }

are_next_1 : AreNext 1 0 rowids_texts
are_next_1 = (
  (λ low. record {
    table = meta;
    rest = drop 1 (schema_at 1).tables;
    all = refl;
    next = refl;
    rowids = meta_at_1;
  }),
  (
    (λ low. record {
      table = accounts;
      rest = drop 2 (schema_at 1).tables;
      all = refl;
      next = refl;
      rowids = accounts_at_1;
    }),
    (
      (λ low. record {
        table = buckets;
        rest = drop 3 (schema_at 1).tables;
        all = refl;
        next = refl;
        rowids = buckets_at_1;
      }),
      (
        (λ low. record {
          table = counters;
          rest = drop 4 (schema_at 1).tables;
          all = refl;
          next = refl;
          rowids = counters_at_1;
        }),
        (
          (λ low. record {
            table = sessions;
            rest = drop 5 (schema_at 1).tables;
            all = refl;
            next = refl;
            rowids = sessions_at_1;
          }),
          (
            (λ low. record {
              table = session_groups;
              rest = drop 6 (schema_at 1).tables;
              all = refl;
              next = refl;
              rowids = session_groups_at_1;
            }),
            (
              (λ low. record {
                table = holds;
                rest = drop 7 (schema_at 1).tables;
                all = refl;
                next = refl;
                rowids = holds_at_1;
              }),
              (
                (λ low. record {
                  table = answers;
                  rest = drop 8 (schema_at 1).tables;
                  all = refl;
                  next = refl;
                  rowids = answers_at_1;
                }),
                (
                  (λ low. record {
                    table = vouchers;
                    rest = drop 9 (schema_at 1).tables;
                    all = refl;
                    next = refl;
                    rowids = vouchers_at_1;
                  }),
                  (
                    (λ low. record {
                      table = charges;
                      rest = drop 10 (schema_at 1).tables;
                      all = refl;
                      next = refl;
                      rowids = charges_at_1;
                    }),
                    (
                      (λ low. let no' : 10 < 10 = low in absurd (omega (arith, no'))),
                      (
                        (λ low. let no' : 11 < 10 = low in absurd (omega (arith, no'))),
                        (
                          (λ low. let no' : 12 < 10 = low in absurd (omega (arith, no'))),
                          (
                            (λ low. let no' : 13 < 10 = low in absurd (omega (arith, no'))),
                            tt,
                          ),
                        ),
                      ),
                    ),
                  ),
                ),
              ),
            ),
          ),
        ),
      ),
    ),
  ),
)

meta_at_2 : IsRowids 2 (codes "SELECT rowid FROM meta ORDER BY rowid") meta
unfolding understood everything
meta_at_2 = record { command = refl; listing = refl; plain = (refl, refl) }

accounts_at_2 : IsRowids 2 (codes "SELECT rowid FROM accounts ORDER BY rowid") accounts
unfolding understood everything
accounts_at_2 = record { command = refl; listing = refl; plain = (refl, refl) }

buckets_at_2 : IsRowids 2 (codes "SELECT rowid FROM buckets ORDER BY rowid") buckets
unfolding understood everything
buckets_at_2 = record { command = refl; listing = refl; plain = (refl, refl) }

counters_at_2 : IsRowids 2 (codes "SELECT rowid FROM counters ORDER BY rowid") counters
unfolding understood everything
counters_at_2 = record { command = refl; listing = refl; plain = (refl, refl) }

sessions_at_2 : IsRowids 2 (codes "SELECT rowid FROM sessions ORDER BY rowid") sessions
unfolding understood everything
sessions_at_2 = record { command = refl; listing = refl; plain = (refl, refl) }

session_groups_at_2 : IsRowids 2 (codes "SELECT rowid FROM session_groups ORDER BY rowid")
    session_groups
unfolding understood everything
session_groups_at_2 = record { command = refl; listing = refl; plain = (refl, refl) }

holds_at_2 : IsRowids 2 (codes "SELECT rowid FROM holds ORDER BY rowid") holds
unfolding understood everything
holds_at_2 = record { command = refl; listing = refl; plain = (refl, refl) }

answers_at_2 : IsRowids 2 (codes "SELECT rowid FROM answers ORDER BY rowid") answers
unfolding understood everything
answers_at_2 = record { command = refl; listing = refl; plain = (refl, refl) }

vouchers_at_2 : IsRowids 2 (codes "SELECT rowid FROM vouchers ORDER BY rowid") vouchers
unfolding understood everything
vouchers_at_2 = record { command = refl; listing = refl; plain = (refl, refl) }

charges_at_2 : IsRowids 2 (codes "SELECT rowid FROM charges ORDER BY rowid") charges
unfolding understood everything
charges_at_2 = record { command = refl; listing = refl; plain = (refl, refl) }

books_at_2 : IsRowids 2 (codes "SELECT rowid FROM books ORDER BY rowid") books
unfolding understood everything
books_at_2 = record { command = refl; listing = refl; plain = (refl, refl) }

grant_books_at_2 : IsRowids 2 (codes "SELECT rowid FROM grant_books ORDER BY rowid") grant_books
unfolding understood everything
grant_books_at_2 = record { command = refl; listing = refl; plain = (refl, refl) }

are_next_2 : AreNext 2 0 rowids_texts
are_next_2 = (
  (λ low. record {
    table = meta;
    rest = drop 1 (schema_at 2).tables;
    all = refl;
    next = refl;
    rowids = meta_at_2;
  }),
  (
    (λ low. record {
      table = accounts;
      rest = drop 2 (schema_at 2).tables;
      all = refl;
      next = refl;
      rowids = accounts_at_2;
    }),
    (
      (λ low. record {
        table = buckets;
        rest = drop 3 (schema_at 2).tables;
        all = refl;
        next = refl;
        rowids = buckets_at_2;
      }),
      (
        (λ low. record {
          table = counters;
          rest = drop 4 (schema_at 2).tables;
          all = refl;
          next = refl;
          rowids = counters_at_2;
        }),
        (
          (λ low. record {
            table = sessions;
            rest = drop 5 (schema_at 2).tables;
            all = refl;
            next = refl;
            rowids = sessions_at_2;
          }),
          (
            (λ low. record {
              table = session_groups;
              rest = drop 6 (schema_at 2).tables;
              all = refl;
              next = refl;
              rowids = session_groups_at_2;
            }),
            (
              (λ low. record {
                table = holds;
                rest = drop 7 (schema_at 2).tables;
                all = refl;
                next = refl;
                rowids = holds_at_2;
              }),
              (
                (λ low. record {
                  table = answers;
                  rest = drop 8 (schema_at 2).tables;
                  all = refl;
                  next = refl;
                  rowids = answers_at_2;
                }),
                (
                  (λ low. record {
                    table = vouchers;
                    rest = drop 9 (schema_at 2).tables;
                    all = refl;
                    next = refl;
                    rowids = vouchers_at_2;
                  }),
                  (
                    (λ low. record {
                      table = charges;
                      rest = drop 10 (schema_at 2).tables;
                      all = refl;
                      next = refl;
                      rowids = charges_at_2;
                    }),
                    (
                      (λ low. record {
                        table = books;
                        rest = drop 11 (schema_at 2).tables;
                        all = refl;
                        next = refl;
                        rowids = books_at_2;
                      }),
                      (
                        (λ low. record {
                          table = grant_books;
                          rest = drop 12 (schema_at 2).tables;
                          all = refl;
                          next = refl;
                          rowids = grant_books_at_2;
                        }),
                        (
                          (λ low. let no' : 12 < 12 = low in absurd (omega (arith, no'))),
                          (
                            (λ low. let no' : 13 < 12 = low in absurd (omega (arith, no'))),
                            tt,
                          ),
                        ),
                      ),
                    ),
                  ),
                ),
              ),
            ),
          ),
        ),
      ),
    ),
  ),
)

meta_at_3 : IsRowids 3 (codes "SELECT rowid FROM meta ORDER BY rowid") meta
unfolding understood everything
meta_at_3 = record { command = refl; listing = refl; plain = (refl, refl) }

accounts_at_3 : IsRowids 3 (codes "SELECT rowid FROM accounts ORDER BY rowid") accounts
unfolding understood everything
accounts_at_3 = record { command = refl; listing = refl; plain = (refl, refl) }

buckets_at_3 : IsRowids 3 (codes "SELECT rowid FROM buckets ORDER BY rowid") buckets
unfolding understood everything
buckets_at_3 = record { command = refl; listing = refl; plain = (refl, refl) }

counters_at_3 : IsRowids 3 (codes "SELECT rowid FROM counters ORDER BY rowid") counters
unfolding understood everything
counters_at_3 = record { command = refl; listing = refl; plain = (refl, refl) }

sessions_at_3 : IsRowids 3 (codes "SELECT rowid FROM sessions ORDER BY rowid") sessions
unfolding understood everything
sessions_at_3 = record { command = refl; listing = refl; plain = (refl, refl) }

session_groups_at_3 : IsRowids 3 (codes "SELECT rowid FROM session_groups ORDER BY rowid")
    session_groups
unfolding understood everything
session_groups_at_3 = record { command = refl; listing = refl; plain = (refl, refl) }

holds_at_3 : IsRowids 3 (codes "SELECT rowid FROM holds ORDER BY rowid") holds
unfolding understood everything
holds_at_3 = record { command = refl; listing = refl; plain = (refl, refl) }

answers_at_3 : IsRowids 3 (codes "SELECT rowid FROM answers ORDER BY rowid") answers
unfolding understood everything
answers_at_3 = record { command = refl; listing = refl; plain = (refl, refl) }

vouchers_at_3 : IsRowids 3 (codes "SELECT rowid FROM vouchers ORDER BY rowid") vouchers
unfolding understood everything
vouchers_at_3 = record { command = refl; listing = refl; plain = (refl, refl) }

charges_at_3 : IsRowids 3 (codes "SELECT rowid FROM charges ORDER BY rowid") charges
unfolding understood everything
charges_at_3 = record { command = refl; listing = refl; plain = (refl, refl) }

books_at_3 : IsRowids 3 (codes "SELECT rowid FROM books ORDER BY rowid") books
unfolding understood everything
books_at_3 = record { command = refl; listing = refl; plain = (refl, refl) }

grant_books_at_3 : IsRowids 3 (codes "SELECT rowid FROM grant_books ORDER BY rowid") grant_books
unfolding understood everything
grant_books_at_3 = record { command = refl; listing = refl; plain = (refl, refl) }

allowance_buckets_at_3 : IsRowids 3 (codes "SELECT rowid FROM allowance_buckets ORDER BY rowid")
    allowance_buckets
unfolding understood everything
allowance_buckets_at_3 = record { command = refl; listing = refl; plain = (refl, refl) }

covered_at_3 : IsRowids 3 (codes "SELECT rowid FROM covered ORDER BY rowid") covered
unfolding understood everything
covered_at_3 = record { command = refl; listing = refl; plain = (refl, refl) }

are_next_3 : AreNext 3 0 rowids_texts
are_next_3 = (
  (λ low. record {
    table = meta;
    rest = drop 1 (schema_at 3).tables;
    all = refl;
    next = refl;
    rowids = meta_at_3;
  }),
  (
    (λ low. record {
      table = accounts;
      rest = drop 2 (schema_at 3).tables;
      all = refl;
      next = refl;
      rowids = accounts_at_3;
    }),
    (
      (λ low. record {
        table = buckets;
        rest = drop 3 (schema_at 3).tables;
        all = refl;
        next = refl;
        rowids = buckets_at_3;
      }),
      (
        (λ low. record {
          table = counters;
          rest = drop 4 (schema_at 3).tables;
          all = refl;
          next = refl;
          rowids = counters_at_3;
        }),
        (
          (λ low. record {
            table = sessions;
            rest = drop 5 (schema_at 3).tables;
            all = refl;
            next = refl;
            rowids = sessions_at_3;
          }),
          (
            (λ low. record {
              table = session_groups;
              rest = drop 6 (schema_at 3).tables;
              all = refl;
              next = refl;
              rowids = session_groups_at_3;
            }),
            (
              (λ low. record {
                table = holds;
                rest = drop 7 (schema_at 3).tables;
                all = refl;
                next = refl;
                rowids = holds_at_3;
              }),
              (
                (λ low. record {
                  table = answers;
                  rest = drop 8 (schema_at 3).tables;
                  all = refl;
                  next = refl;
                  rowids = answers_at_3;
                }),
                (
                  (λ low. record {
                    table = vouchers;
                    rest = drop 9 (schema_at 3).tables;
                    all = refl;
                    next = refl;
                    rowids = vouchers_at_3;
                  }),
                  (
                    (λ low. record {
                      table = charges;
                      rest = drop 10 (schema_at 3).tables;
                      all = refl;
                      next = refl;
                      rowids = charges_at_3;
                    }),
                    (
                      (λ low. record {
                        table = books;
                        rest = drop 11 (schema_at 3).tables;
                        all = refl;
                        next = refl;
                        rowids = books_at_3;
                      }),
                      (
                        (λ low. record {
                          table = grant_books;
                          rest = drop 12 (schema_at 3).tables;
                          all = refl;
                          next = refl;
                          rowids = grant_books_at_3;
                        }),
                        (
                          (λ low. record {
                            table = allowance_buckets;
                            rest = drop 13 (schema_at 3).tables;
                            all = refl;
                            next = refl;
                            rowids = allowance_buckets_at_3;
                          }),
                          (
                            (λ low. record {
                              table = covered;
                              rest = drop 14 (schema_at 3).tables;
                              all = refl;
                              next = refl;
                              rowids = covered_at_3;
                            }),
                            tt,
                          ),
                        ),
                      ),
                    ),
                  ),
                ),
              ),
            ),
          ),
        ),
      ),
    ),
  ),
)

next_in : (v k : ℕ) (texts : List (List ℕ)) → AreNext v k texts → (i : ℕ) → i < length texts
    → k + i < length (schema_at v).tables → IsNext v (slice_index_or texts i []) (k + i)
next_in v k [] are i low in' = absurd (omega (arith, low))
next_in v k (text ∷ texts) are zero low in' =
    let same : k ≡ k + 0 = omega arith in
    subst (IsNext v text) same
    (are.0 (subst (λ n. n < length (schema_at v).tables) (omega arith) in'))
next_in v k (text ∷ texts) are (suc i) low in' =
    let same : suc k + i ≡ k + suc i = omega arith in
    subst (IsNext v (slice_index_or texts i [])) same
    (next_in v (suc k) texts are.1 i (omega (arith, low))
    (subst (λ n. n < length (schema_at v).tables) (omega arith) in'))

are_next : (v : ℕ) → IsVersion v → AreNext v 0 rowids_texts
are_next zero known = absurd (omega (arith, known.0))
are_next (suc zero) known = are_next_1
are_next (suc (suc zero)) known = are_next_2
are_next (suc (suc (suc zero))) known = are_next_3
are_next (suc (suc (suc (suc n)))) known =
    let high : suc (suc (suc (suc n))) ≤ 3 = known.1 in absurd (omega (arith, high))

-- no version has more tables than there are texts
pub at_most : (v : ℕ) → IsVersion v → length (schema_at v).tables ≤ 14
at_most zero known = absurd (omega (arith, known.0))
at_most (suc zero) known = let n : 10 ≤ 14 = omega arith in n
at_most (suc (suc zero)) known = let n : 12 ≤ 14 = omega arith in n
at_most (suc (suc (suc zero))) known = let n : 14 ≤ 14 = omega arith in n
at_most (suc (suc (suc (suc n)))) known =
    let high : suc (suc (suc (suc n))) ≤ 3 = known.1 in absurd (omega (arith, high))

-- each version has tables
pub at_least : (v : ℕ) → IsVersion v → 1 ≤ length (schema_at v).tables
at_least zero known = absurd (omega (arith, known.0))
at_least (suc zero) known = let n : 1 ≤ 10 = omega arith in n
at_least (suc (suc zero)) known = let n : 1 ≤ 12 = omega arith in n
at_least (suc (suc (suc zero))) known = let n : 1 ≤ 14 = omega arith in n
at_least (suc (suc (suc (suc n)))) known =
    let high : suc (suc (suc (suc n))) ≤ 3 = known.1 in absurd (omega (arith, high))

next_at : (v at : ℕ) → IsVersion v → at < length (schema_at v).tables
    → IsNext v (slice_index_or rowids_texts at []) at
next_at v at known low =
    let most = at_most v known in
    let wide : at < length rowids_texts = let n : at < 14 = omega (arith, low, most) in n in
    let same : at ≡ 0 + at = omega arith in
    subst (IsNext v (slice_index_or rowids_texts at [])) (sym same)
    (next_in v 0 rowids_texts (are_next v known) at wide
    (subst (λ n. n < length (schema_at v).tables) same low))

-- the text at a place
pub text_at : (v at : ℕ) (text : List ℕ) → IsVersion v → at < length (schema_at v).tables
    → text ≡ slice_index_or rowids_texts at [] → IsNext v text at
text_at v at text known low is =
    subst (λ t. IsNext v t at) (sym is) (next_at v at known low)
