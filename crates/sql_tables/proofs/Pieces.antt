-- Each text makes the piece at its place.
use Rattle.std.proofs.Common.{◌≡◌, ◌<◌, ◌+◌, ℕ, zero, suc, List, [], ◌∷◌, Result, length, refl}
use Rattle.std.proofs.Common.{slice_index_or, subst, sym, arith}
use Rattle.sqlite.specs.declared.error.Error.{Error}
use Rattle.sqlite.specs.State.{State, ExecutesInside}
use Rattle.sql_tables.specs.Schema.{meta, accounts, buckets, counters, sessions, session_groups}
use Rattle.sql_tables.specs.Schema.{holds, answers, vouchers, charges, books, grant_books}
use Rattle.sql_tables.specs.Schema.{allowance_buckets, covered}
use Rattle.sql_tables.specs.Stages.{Adds, HasStage}
use Rattle.sql_tables.specs.Statements.{Attempts}
use Rattle.sql_tables.specs.Texts.{all_texts, meta_text, accounts_text, buckets_text, counters_text}
use Rattle.sql_tables.specs.Texts.{sessions_text, session_groups_text, holds_text, answers_text}
use Rattle.sql_tables.specs.Texts.{vouchers_text, charges_text, books_text, grant_books_text}
use Rattle.sql_tables.specs.Texts.{allowance_buckets_text, covered_text}
use Rattle.sql_tables.proofs.Creates.{meta_is, meta_next, accounts_is, accounts_next, buckets_is}
use Rattle.sql_tables.proofs.Creates.{buckets_next, counters_is, counters_next, sessions_is}
use Rattle.sql_tables.proofs.Creates.{sessions_next, session_groups_is, session_groups_next}
use Rattle.sql_tables.proofs.Creates.{holds_is, holds_next, answers_is, answers_next, vouchers_is}
use Rattle.sql_tables.proofs.Creates.{vouchers_next, charges_is, charges_next, books_is, books_next}
use Rattle.sql_tables.proofs.Creates.{grant_books_is, grant_books_next, allowance_buckets_is}
use Rattle.sql_tables.proofs.Creates.{allowance_buckets_next, covered_is, covered_next}
use Rattle.sql_tables.proofs.Stages.{makes_stage, makes_first, makes_second, makes_third}

-- a text makes the piece at a place
abbrev IsMade : ℕ → List ℕ → Type 1
IsMade k text = (old new : State) (r : Result ℕ Error) → HasStage k old →
    Attempts (λ old new. ExecutesInside 0 text [] old new r) old new r →
    Attempts (Adds k (suc k)) old new r

abbrev AreMade : ℕ → List (List ℕ) → Type 1
AreMade k [] = Unit {1}
AreMade k (text ∷ texts) = IsMade k text × AreMade (suc k) texts

all_made : AreMade 0 all_texts
all_made = (
  makes_stage 0 meta meta_text meta_is meta_next refl refl,
  (
    makes_stage 1 accounts accounts_text accounts_is accounts_next refl refl,
    (
      makes_stage 2 buckets buckets_text buckets_is buckets_next refl refl,
      (
        makes_stage 3 counters counters_text counters_is counters_next refl refl,
        (
          makes_stage 4 sessions sessions_text sessions_is sessions_next refl refl,
          (
            makes_stage 5 session_groups session_groups_text session_groups_is session_groups_next refl refl,
            (
              makes_stage 6 holds holds_text holds_is holds_next refl refl,
              (
                makes_stage 7 answers answers_text answers_is answers_next refl refl,
                (
                  makes_stage 8 vouchers vouchers_text vouchers_is vouchers_next refl refl,
                  (
                    makes_stage 9 charges charges_text charges_is charges_next refl refl,
                    (
                      makes_first,
                      (
                        makes_second,
                        (
                          makes_stage 12 books books_text books_is books_next refl refl,
                          (
                            makes_stage 13 grant_books grant_books_text grant_books_is grant_books_next refl refl,
                            (
                              makes_third,
                              (
                                makes_stage 15 allowance_buckets allowance_buckets_text allowance_buckets_is allowance_buckets_next refl refl,
                                (
                                  makes_stage 16 covered covered_text covered_is covered_next refl refl,
                                  tt,
                                ),
                              ),
                            ),
                          ),
                        ),
                      ),
                    ),
                  ),
                ),
              ),
            ),
          ),
        ),
      ),
    ),
  ),
)

made_in : (k : ℕ) (texts : List (List ℕ)) → AreMade k texts → (i : ℕ) → i < length texts →
    IsMade (k + i) (slice_index_or texts i [])
made_in k [] are i low = absurd (omega (arith, low))
made_in k (text ∷ texts) are zero low =
    let same : k ≡ k + 0 = omega arith in subst (λ n. IsMade n text) same are.0
made_in k (text ∷ texts) are (suc i) low =
    let same : suc k + i ≡ k + suc i = omega arith in
    subst (λ n. IsMade n (slice_index_or texts i [])) same
    (made_in (suc k) texts are.1 i (omega (arith, low)))

made_here : (k : ℕ) → k < 17 → IsMade k (slice_index_or all_texts k [])
made_here k low =
    let wide : k < length all_texts = low in
    let same : 0 + k ≡ k = omega arith in
    subst (λ n. IsMade n (slice_index_or all_texts k [])) same (made_in 0 all_texts all_made k wide)

pub made_at : (k : ℕ) (text : List ℕ) → k < 17 → text ≡ slice_index_or all_texts k [] →
    (old new : State) (r : Result ℕ Error) → HasStage k old →
    Attempts (λ old new. ExecutesInside 0 text [] old new r) old new r →
    Attempts (Adds k (k + 1)) old new r
made_at k text low is old new r has runs =
    let next : suc k ≡ k + 1 = omega arith in
    subst (λ n. Attempts (Adds k n) old new r) next
    (subst (IsMade k) (sym is) (made_here k low) old new r has runs)
