-- Puts one after another.
use Rattle.std.proofs.Common.{◌≡◌, ◌∙◌, ap, refl, subst, ℕ, List, arith, Ok, Err, Result, IsErr}
use Rattle.std.proofs.Common.{Bool, sym, true≢false, ◌≤◌, drop, length}
use Rattle.std.specs.Prelude.{Option}
use Rattle.std.specs.Borrow.{MutBor}
use Rattle.std.proofs.lemmas.Result.{on_err_weaker, on_ok_weaker}
use Rattle.sqlite.specs.Effect.{Database}
use Rattle.sqlite.specs.Held.{Held, state}
use Rattle.sqlite.specs.State.{State, HasCleanDisk, IsUnchanged, KeepsCommit, Survives}
use Rattle.sqlite.proofs.StateLemmas.{survives_then}
use Rattle.sqlite_trees.specs.declared.store.Store.{Ghosts}
use Rattle.sql_tables.specs.Statements.{AttemptsOver}
use Rattle.buckets.specs.Row.{BucketRow}
use Rattle.reserving.specs.Stored.{StoredRows}
use Rattle.ledger.specs.declared.charge.ChargeRow.{ChargeRow}
use Rattle.reserving.specs.declared.session.Counter.{Counter}
use Rattle.reserving.specs.declared.session.Session.{Session}
use Rattle.reserving.specs.declared.session.SessionGroup.{SessionGroup}
use Rattle.voucher_rules.specs.Standing.{unspent}
use Rattle.voucher_rules.specs.declared.terms.VoucherTerms.{VoucherTerms}
use Rattle.sql_rows.specs.declared.head.HeadColumns.{HeadColumns}
use Rattle.sql_rows.specs.Content.{TablesContent, with_account, with_voucher_row}
use Rattle.sql_rows.specs.Each.{with_counters, with_each, with_sessions}
use Rattle.sql_rows.specs.Makes.{Makes, MakesIfOpen, Turns}
use Rattle.sql_rows.specs.declared.voucher_rows.VoucherColumns.{VoucherColumns}
use Rattle.sql_rows.proofs.puts.Each.{HasPut, put_all}
use Rattle.sql_keeper.specs.Additions.{with_addition_put}
use Rattle.sql_keeper.specs.Content.{Names}
use Rattle.sql_keeper.specs.Writes.{head_columns_of, voucher_row, with_all_charged}
use Rattle.sql_keeper.specs.Writes.{with_all_counted, with_all_counted_over}
use Rattle.sql_keeper.specs.Writes.{with_groups, with_money, with_moment_put}
use Rattle.sql_keeper.specs.declared.kept_rows.KeptRows.{KeptRows}

pub made_then : (f g : TablesContent → TablesContent) (a b c : State) → Makes f a b → Makes g b c →
    Makes (λ x. g (f x)) a c
made_then f g a b c one two = record {
  turns = record {
    content = two.turns.content ∙ ap g one.turns.content;
    catalog = two.turns.catalog ∙ one.turns.catalog;
    stored = two.turns.stored;
    plain = λ p. two.turns.plain (one.turns.plain p);
  };
  book = two.book;
  shows = record {
    was_open = one.shows.was_open;
    is_open = two.shows.is_open;
    now_is = refl;
    committed_is = two.shows.committed_is ∙ one.shows.committed_is;
    mode = two.shows.mode;
  };
}

-- what is made after what was only read
pub made_since : (f : TablesContent → TablesContent) (a b c : State) → IsUnchanged a b →
    Makes f b c →
    Makes f a c
made_since f a b c same m = record {
  turns = subst (λ (d : Database). Turns f d.trees c.now.trees) same.0.now_is m.turns;
  book = m.book;
  shows = record {
    was_open = same.0.was_open;
    is_open = m.shows.is_open;
    now_is = refl;
    committed_is = m.shows.committed_is ∙ same.0.committed_is;
    mode = m.shows.mode;
  };
}

-- ---- over a connection that stays the same one

-- an error after what was made keeps what was committed
kept_then : {f : TablesContent → TablesContent} {a b c : State} → Makes f a b → KeepsCommit b c →
    KeepsCommit a c
kept_then one two = record {
  was_open = λ on. one.shows.was_open;
  committed = λ on. two.committed on ∙ one.shows.committed_is;
}

-- so does one after those of a list
kept_if_open : {f : TablesContent → TablesContent} {a b c : State} → MakesIfOpen f a b →
    KeepsCommit b c →
    KeepsCommit a c
kept_if_open one two = record {
  was_open = λ on. one.was_open (two.was_open on);
  committed = λ on.
      let m = one.made (one.was_open (two.was_open on)) in
      two.committed on ∙ m.shows.committed_is;
}

was_clean : (b c : State) → Survives b c (λ _. ⊥) → HasCleanDisk c → HasCleanDisk b
was_clean b c h clean = omega (arith, h.clean, clean)

survived : (a b c : State) → Survives a b (λ _. ⊥) → Survives b c (λ _. ⊥) → Survives a c (λ _. ⊥)
survived a b c =
    survives_then a b c (λ _. ⊥) (λ _. ⊥) (λ _. ⊥) (λ clean db no. no) (λ clean db no. no)

module _ {A B E F S : Type 0} {k : Ghosts S} {P Q R : State → State → Type 0}
    {a b c : MutBor (Held S)} {u : A}
    (kept : P (state k a.now) (state k b.now) → KeepsCommit (state k b.now) (state k c.now)
    → KeepsCommit (state k a.now) (state k c.now))
    (one : AttemptsOver {A = A} {E = E} k P a b (Ok u)) where
  -- what answered, and what follows
  then_over : {r : Result B F} → (P (state k a.now) (state k b.now)
      → Q (state k b.now) (state k c.now) → R (state k a.now) (state k c.now))
      → AttemptsOver {A = B} {E = F} k Q b c r → AttemptsOver {A = B} {E = F} k R a c r
  then_over {r} both two =
      let before = was_clean (state k b.now) (state k c.now) two.makes.survives in
      record {
        same_reference = two.same_reference ∙ one.same_reference;
        makes = record {
          done = λ clean. on_ok_weaker r (both (one.makes.done (before clean)))
              (two.makes.done clean);
          kept = λ clean. on_err_weaker r (kept (one.makes.done (before clean)))
              (two.makes.kept clean);
          survives = survived _ (state k b.now) _ one.makes.survives two.makes.survives;
        };
      }

  -- and what follows failed
  failed_over : {C G : Type 0} {e : F} (r : Result C G) → IsErr r
      → AttemptsOver {A = B} {E = F} k Q b c (Err e) → AttemptsOver {A = C} {E = G} k R a c r
  failed_over (Ok x) failed two = absurd (true≢false (sym failed))
  failed_over (Err d) failed two =
      let before = was_clean (state k b.now) (state k c.now) two.makes.survives in
      record {
        same_reference = two.same_reference ∙ one.same_reference;
        makes = record {
          done = λ clean. tt;
          kept = λ clean. kept (one.makes.done (before clean)) (two.makes.kept clean);
          survives = survived _ (state k b.now) _ one.makes.survives two.makes.survives;
        };
      }

module _ {A B E F S : Type 0} {k : Ghosts S} {f g : TablesContent → TablesContent}
    {a b c : MutBor (Held S)} {u : A} {r : Result B F} where
  -- one statement, then another
  pub makes_then : AttemptsOver {A = A} {E = E} k (Makes f) a b (Ok u)
      → AttemptsOver {A = B} {E = F} k (Makes g) b c r
      → AttemptsOver {A = B} {E = F} k (Makes (λ x. g (f x))) a c r
  makes_then one = then_over kept_then one (made_then f g _ _ _)

  -- one statement, then those of a list
  pub makes_all_then : AttemptsOver {A = A} {E = E} k (Makes f) a b (Ok u)
      → AttemptsOver {A = B} {E = F} k (MakesIfOpen g) b c r
      → AttemptsOver {A = B} {E = F} k (Makes (λ x. g (f x))) a c r
  makes_all_then one =
      then_over kept_then one (λ m h. made_then f g _ _ _ m (h.made m.shows.is_open))

  -- those of a list, then one statement, for which the connection was open
  pub list_makes : AttemptsOver {A = A} {E = E} k (MakesIfOpen f) a b (Ok u)
      → AttemptsOver {A = B} {E = F} k (Makes g) b c r
      → AttemptsOver {A = B} {E = F} k (Makes (λ x. g (f x))) a c r
  list_makes one =
      then_over kept_if_open one
      (λ h m. made_then f g _ _ _ (h.made (h.was_open m.shows.was_open)) m)

  -- those of a list, then those of another
  pub lists_then : AttemptsOver {A = A} {E = E} k (MakesIfOpen f) a b (Ok u)
      → AttemptsOver {A = B} {E = F} k (MakesIfOpen g) b c r
      → AttemptsOver {A = B} {E = F} k (MakesIfOpen (λ x. g (f x))) a c r
  lists_then one = then_over kept_if_open one (λ h l. record {
    was_open = λ on. h.was_open (l.was_open on);
    made = λ on.
        let m = h.made on in
        made_then f g _ _ _ m (l.made m.shows.is_open);
  })

module _ {A B C E F G S : Type 0} {k : Ghosts S} {f : TablesContent → TablesContent}
    {P Q : State → State → Type 0} {a b c : MutBor (Held S)} {u : A} {e : F} {r : Result C G}
    (failed : IsErr r) where
  -- one statement, and another that failed
  pub makes_failed : AttemptsOver {A = A} {E = E} k (Makes f) a b (Ok u)
      → AttemptsOver {A = B} {E = F} k Q b c (Err e) → AttemptsOver {A = C} {E = G} k P a c r
  makes_failed one = failed_over kept_then one r failed

  -- those of a list, and another that failed
  pub list_failed : AttemptsOver {A = A} {E = E} k (MakesIfOpen f) a b (Ok u)
      → AttemptsOver {A = B} {E = F} k Q b c (Err e) → AttemptsOver {A = C} {E = G} k P a c r
  list_failed one = failed_over kept_if_open one r failed

-- each row of a list in turn
pub all_over : {X E S : Type 0} {k : Ghosts S} {change : X → TablesContent → TablesContent}
    {all : List X} {a b : MutBor (Held S)} (i : ℕ) → b.ghost_name ≡ a.ghost_name
    → HasPut change all (drop i all) (state k a.now) (state k b.now) → length all ≤ i
    → AttemptsOver {A = Unit {0}} {E = E} k (MakesIfOpen (with_each change all)) a b (Ok tt)
all_over {k = k} {change} {all} {a} {b} i same put end = record {
  same_reference = same;
  makes = put_all change all i (state k a.now) (state k b.now) tt end put;
}

-- whatever is answered
pub answered : {A B E F S : Type 0} {k : Ghosts S} {P : State → State → Type 0}
    {a b : MutBor (Held S)} {u : A} {v : B} → AttemptsOver {A = A} {E = E} k P a b (Ok u)
    → AttemptsOver {A = B} {E = F} k P a b (Ok v)
answered one = record {
  same_reference = one.same_reference;
  makes = record {
    done = one.makes.done;
    kept = λ clean. tt;
    survives = one.makes.survives;
  };
}

-- the same, said of another change
pub made_as : {A E S : Type 0} {k : Ghosts S} {a b : MutBor (Held S)} {r : Result A E}
    {f g : TablesContent → TablesContent} → f ≡ g → AttemptsOver {A = A} {E = E} k (Makes f) a b r
    → AttemptsOver {A = A} {E = E} k (Makes g) a b r
made_as {A} {E} {S} {k} {a} {b} {r} same =
    subst (λ h. AttemptsOver {A = A} {E = E} k (Makes h) a b r) same

module _ {A B C E S : Type 0} {k : Ghosts S} (a : List ℕ) {p q r s : MutBor (Held S)} {x : A}
    {y : B} {z : Result C E} where
  -- an account, its buckets and its counters
  pub puts_money : (kept : Option KeptRows) (w : StoredRows) (h : HeadColumns)
      (bs : List BucketRow) (cs : List Counter)
      → h ≡ head_columns_of w → bs ≡ w.buckets → cs ≡ w.counters
      → AttemptsOver {A = A} {E = E} k (Makes (with_account a h)) p q (Ok x)
      → AttemptsOver {A = B} {E = E} k (MakesIfOpen (with_all_counted_over a kept bs)) q r (Ok y)
      → AttemptsOver {A = C} {E = E} k (MakesIfOpen (with_counters a cs)) r s z
      → AttemptsOver {A = C} {E = E} k (Makes (with_money a kept w)) p s z
  puts_money kept w h bs cs head buckets counters one two three =
      made_as (λ i c. with_counters a (counters i) (with_all_counted_over a kept (buckets i)
      (with_account a (head i) c)))
      (makes_all_then (makes_all_then one two) three)

  -- and its sessions and groups
  pub puts_groups : (money : TablesContent → TablesContent) (groups : List SessionGroup →
      TablesContent → TablesContent)
      (xs ys : List Session) (gs hs : List SessionGroup) → xs ≡ ys → gs ≡ hs
      → AttemptsOver {A = A} {E = E} k (Makes money) p q (Ok x)
      → AttemptsOver {A = B} {E = E} k (MakesIfOpen (with_sessions a xs)) q r (Ok y)
      → AttemptsOver {A = C} {E = E} k (MakesIfOpen (groups gs)) r s z
      → AttemptsOver {A = C} {E = E} k (Makes (λ c. groups hs (with_sessions a ys (money c)))) p s z
  puts_groups money groups xs ys gs hs same_xs same_gs one two three =
      made_as (λ i c. groups (same_gs i) (with_sessions a (same_xs i) (money c)))
      (makes_all_then (makes_all_then one two) three)

-- the moment unless it is there, and a voucher that no account has redeemed
pub puts_addition : {A B E S : Type 0} {g : Ghosts S} (is_there : Bool) (code k : List ℕ)
    (terms : VoucherTerms) (t : ℕ) (v : VoucherColumns) {a b c : MutBor (Held S)} {x : A}
    {r : Result B E} → k ≡ code → v ≡ voucher_row (unspent terms)
    → AttemptsOver {A = A} {E = E} g (MakesIfOpen (with_moment_put is_there t)) a b (Ok x)
    → AttemptsOver {A = B} {E = E} g (Makes (with_voucher_row k v)) b c r
    → AttemptsOver {A = B} {E = E} g (Makes (with_addition_put is_there code terms t)) a c r
puts_addition is_there code k terms t v same row one two =
    made_as (λ i d. with_voucher_row (same i) (row i) (with_moment_put is_there t d))
    (list_makes one two)

-- the charges of the same list
pub puts_paid : {A E S : Type 0} {k : Ghosts S} (a : List ℕ) {xs ys : List ChargeRow} → ys ≡ xs
    → {old new : MutBor (Held S)} {r : Result A E}
    → AttemptsOver {A = A} {E = E} k (MakesIfOpen (with_all_charged a ys)) old new r
    → AttemptsOver {A = A} {E = E} k (MakesIfOpen (with_all_charged a xs)) old new r
puts_paid {A} {E} {k = k} a is {old} {new} {r} =
    subst (λ zs. AttemptsOver {A = A} {E = E} k (MakesIfOpen (with_all_charged a zs)) old new r) is

-- what differs of an account, and at last its head
pub puts_swept : {A B E F S : Type 0} {k : Ghosts S} (a : List ℕ) (names : Names)
    {p q r : MutBor (Held S)} {x : A} {n : B} {d : F} (bs : List BucketRow) (cs : List Counter)
    (ss : List Session) (gs : List SessionGroup) (w : StoredRows) (h : HeadColumns)
    → bs ≡ w.buckets → cs ≡ w.counters → ss ≡ w.sessions → gs ≡ w.groups → h ≡ head_columns_of w
    → AttemptsOver {A = A} {E = E} k (MakesIfOpen (λ c. with_groups a names gs
    (with_sessions a ss (with_counters a cs (with_all_counted a bs c))))) p q (Ok x)
    → AttemptsOver {A = B} {E = E} k (Makes (with_account a h)) q r (Ok n)
    → AttemptsOver {A = F} {E = E} k (Makes (λ c. with_account a (head_columns_of w)
    (with_groups a names w.groups (with_sessions a w.sessions
    (with_counters a w.counters (with_all_counted a w.buckets c)))))) p r (Ok d)
puts_swept a names bs cs ss gs w h buckets counters sessions groups head lists put =
    made_as (λ i c. with_account a (head i) (with_groups a names (groups i)
    (with_sessions a (sessions i) (with_counters a (counters i)
    (with_all_counted a (buckets i) c)))))
    (answered (list_makes lists put))
