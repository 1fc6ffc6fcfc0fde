-- A ledger that grows keeps its rows: what isn't found after wasn't found before.
use Rattle.std.proofs.Common.{◌≡◌, ℕ, Bool, true, false, cond, List, [], ◌∷◌, ◌++◌, refl}
use Rattle.std.proofs.Common.{sym, ap, subst, ◌∙◌, Option, Some, None}
use Rattle.std.specs.Prelude.{if◌then◌else◌, ◌==◌, nat_lt, option_map}
use Rattle.std.proofs.lemmas.Bool.{or_parts, cond-false}
use Rattle.buckets.specs.Row.{BucketRow, new_row}
use Rattle.buckets.specs.Spend.{inserted}
use Rattle.ledger.specs.Ledger.{Fact, Dated, Ledger, or_else, newest}
use Rattle.ledger.specs.Parts.{any, any_dated, recording_in}
use Rattle.ledger.specs.Ledger.{last_recording, has_group, has_counter}
use Rattle.ledger.specs.Parts.{names_group, counts_group}
use Rattle.ledger.specs.Ledger.{CreditOf, counts}
use Rattle.ledger.specs.Balance.{credits, with_credit, bucket_at, buckets_at}
use Rattle.reserving.specs.Sessions.{session_row, session_at, state_at, group_at, counter_at}
use Rattle.reserving.proofs.Lists.{find-map, no_some}
use Rattle.reserving.specs.Left.{bucket_in}
use Rattle.reserving.proofs.rows.Touching.{unrecorded}
use Rattle.keepers.specs.Steps.{Extends}

newest_front : {A : Type 0} (f : Dated → Option A) (front old : Ledger) →
    newest f (front ++ old) ≡ None → newest f old ≡ None
newest_front f [] old e = e
newest_front f (d ∷ ds) old e = at (f d) e (newest_front f ds old)
  where
    at : (o : Option _) → or_else o (newest f (ds ++ old)) ≡ None →
        (newest f (ds ++ old) ≡ None → newest f old ≡ None) → newest f old ≡ None
    at None k rest = rest k
    at (Some x) k rest = absurd (no_some x (sym k))

any_front : (p : Fact → Bool) (front old : Ledger) → any p (front ++ old) ≡ false →
    any p old ≡ false
any_front p [] old e = e
any_front p (d ∷ ds) old e = any_front p ds old (or_parts (p d.fact) (any p (ds ++ old)) e).1

dated_front : (p : Dated → Bool) (front old : Ledger) → any_dated p (front ++ old) ≡ false →
    any_dated p old ≡ false
dated_front p [] old e = e
dated_front p (d ∷ ds) old e = dated_front p ds old (or_parts (p d) (any_dated p (ds ++ old)) e).1

-- ---- rows that are the ledger's

none_of : {A : Type 0} (t : Bool) (x : A) → (if t then Some x else None) ≡ None → t ≡ false
none_of true x e = absurd (no_some x (sym e))
none_of false x e = refl

inserted_none : (n : ℕ) (b : BucketRow) (xs : List BucketRow) → bucket_in n (inserted b xs) ≡ None →
    bucket_in n xs ≡ None
inserted_none n b [] e = refl
inserted_none n b (x ∷ xs) e = at (nat_lt b.until x.until) e (inserted_none n b xs)
  where
    first : (u : Bool) (o : Option BucketRow) → cond u (Some b) o ≡ None → o ≡ None
    first true o k = absurd (no_some b (sym k))
    first false o k = k

    later : (u : Bool) → cond u (Some x) (bucket_in n (inserted b xs)) ≡ None →
        (bucket_in n (inserted b xs) ≡ None → bucket_in n xs ≡ None) →
        cond u (Some x) (bucket_in n xs) ≡ None
    later true k rest = absurd (no_some x (sym k))
    later false k rest = rest k

    at : (t : Bool) → bucket_in n (if t then b ∷ x ∷ xs else x ∷ inserted b xs) ≡ None →
        (bucket_in n (inserted b xs) ≡ None → bucket_in n xs ≡ None) → bucket_in n (x ∷ xs) ≡ None
    at true k rest = first (b.number == n) (bucket_in n (x ∷ xs)) k
    at false k rest = later (x.number == n) k rest

credited_none : (n : ℕ) (o : Option CreditOf) (xs : List BucketRow) →
    bucket_in n (with_credit o xs) ≡ None → bucket_in n xs ≡ None
credited_none n None xs e = e
credited_none n (Some c) xs e =
    inserted_none n (new_row c.kind c.number c.from c.until c.scope c.amount) xs e

credits_front : (n : ℕ) (front old : Ledger) → bucket_in n (credits (front ++ old)) ≡ None →
    bucket_in n (credits old) ≡ None
credits_front n [] old e = e
credits_front n (d ∷ ds) old e =
    credits_front n ds old (credited_none n (counts d.fact).credit (credits (ds ++ old)) e)

mapped_none : {A B : Type 0} (f : A → B) (o : Option A) → option_map f o ≡ None → o ≡ None
mapped_none f None e = refl
mapped_none f (Some x) e = absurd (no_some (f x) (sym e))

bucket_found : (n : ℕ) (v : ℕ → ℕ) (t : ℕ) (ledger : Ledger) →
    bucket_in n (buckets_at v t ledger) ≡
    option_map (bucket_at v t ledger) (bucket_in n (credits ledger))
bucket_found n v t ledger =
    find-map (λ b. b.number == n) (bucket_at v t ledger) (credits ledger) (λ b. refl)

module _ (old new : Ledger) (more : Extends old new) where
  pub session_stays : (v : ℕ → ℕ) (t : ℕ) (w : ℕ → ℕ) (u : ℕ) (s : List ℕ) →
      session_at w u new s ≡ None →
      session_at v t old s ≡ None
  session_stays v t w u s e =
      let none : last_recording s new ≡ None =
      unrecorded s (state_at w u new s) (last_recording s new) e in
      ap (session_row s (state_at v t old s))
      (newest_front (recording_in s) more.front old
      (subst (λ (l : Ledger). last_recording s l ≡ None) more.is none))

  pub group_stays : (v : ℕ → ℕ) (t : ℕ) (w : ℕ → ℕ) (u : ℕ) (s : List ℕ) (g : ℕ) →
      group_at w u new s g ≡ None →
      group_at v t old s g ≡ None
  group_stays v t w u s g e =
      let none : has_group s g new ≡ false = none_of (has_group s g new) _ e in
      cond-false (has_group s g old) _ None
      (any_front (names_group s g) more.front old
      (subst (λ (l : Ledger). has_group s g l ≡ false) more.is none))

  pub counter_stays : (cycle_of : ℕ → ℕ) (g c : ℕ) → counter_at cycle_of new g c ≡ None →
      counter_at cycle_of old g c ≡ None
  counter_stays cycle_of g c e =
      let none : has_counter cycle_of g c new ≡ false =
      none_of (has_counter cycle_of g c new) _ e in
      cond-false (has_counter cycle_of g c old) _ None
      (dated_front (counts_group cycle_of g c) more.front old
      (subst (λ (l : Ledger). has_counter cycle_of g c l ≡ false) more.is none))

  pub bucket_stays : (v : ℕ → ℕ) (t : ℕ) (w : ℕ → ℕ) (u n : ℕ) →
      bucket_in n (buckets_at w u new) ≡ None →
      bucket_in n (buckets_at v t old) ≡ None
  bucket_stays v t w u n e =
      let none : bucket_in n (credits new) ≡ None =
      mapped_none (bucket_at w u new) (bucket_in n (credits new))
      (sym (bucket_found n w u new) ∙ e) in
      bucket_found n v t old ∙ ap (option_map (bucket_at v t old))
      (credits_front n more.front old
      (subst (λ (l : Ledger). bucket_in n (credits l) ≡ None) more.is none))
