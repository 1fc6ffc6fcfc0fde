-- Small lemmas that the others share.
use Rattle.std.proofs.Common.{◌≡◌, ◌⊎◌, inl, inr, ℕ, List, [], ◌∷◌, map, Bool, true, false, not}
use Rattle.std.proofs.Common.{◌&&◌, ◌||◌, cond, Some, None, Ok, Err, Result, refl, ap, subst, arith}
use Rattle.std.specs.Prelude.{nat_le, ◌^◌}
use Rattle.std.proofs.lemmas.Bool.{cases_Bool}
use Rattle.std.specs.List.Sorted.{IsPermutation}
use Rattle.std.proofs.lemmas.List.Sorted.{Contains-permutation}
pub use Rattle.std.specs.Cmp.{both_ways as same_test}
use Rattle.sqlite_value.specs.Order.{Row}
use Rattle.sqlite_trees.specs.Tree.{Trees}
use Rattle.sqlite_sql.specs.Ops.{is_true, from_truth}
use Rattle.sqlite_sql.specs.Program.{overlay}
use Rattle.sqlite_schema.specs.declared.schema.Schema.{Schema}
use Rattle.sqlite_schema.specs.declared.command.Command.{Command}
use Rattle.sqlite_rules.specs.Lists.{Has}
use Rattle.sqlite_rules.proofs.ListLemmas.{has_contained, contains_had}
use Rattle.sqlite.specs.Does.{Does}
use Rattle.sqlite.specs.Listing.{understood}
use Rattle.sqlite.specs.State.{State, HasCleanDisk, Survives, CommitsShowing, mode_of, Writes}
use Rattle.sqlite.proofs.Callers.{IsPlain, never_commits}
use Rattle.sqlite.proofs.StateLemmas.{survives_weaker}

-- a part that gave a value did not stop on the way
pub went : {B E R : Type 0} {b : B} {Stops : E → Type 0} →
    ((stop : E) × Stops stop × (Ok b ≡ Err stop)) ⊎ R → R
went (inl stopped) = absurd (let e = stopped.2 in cc)
went (inr on) = on

pub same_value : {B E : Type 0} {a b : B} → ◌≡◌ {A = Result B E} (Ok a) (Ok b) → a ≡ b
same_value e = cc

-- a statement without CTEs reads the trees that are there
pub bare : (db : Trees) (t : ℕ) → overlay db [] t ≡ db t
bare db t = elim (cases_Bool (nat_le (2 ^ 31) t)) [
  | inl e ↦ rw e refl
  | inr e ↦ rw e refl
]

-- what a statement that wrote does, over the schema that was there
pub does_over : {old new : State} {command : Command} {text : List ℕ} {params : Row} {count : ℕ}
    {schema : Schema} → old.now.schema ≡ schema →
    (w : Writes old new None command text params count) →
    Does old.step_limit (mode_of old) params (record old.now { schema = schema }) text None command
    (Ok (w.tally, new.now))
does_over {old} {new} {command} {text} {params} has w =
    subst (λ s. Does old.step_limit (mode_of old) params (record old.now { schema = s }) text None
    command (Ok (w.tally, new.now))) has w.changed

-- ---- tests

pub truth_told : (b : Bool) → is_true (from_truth (Some b)) ≡ b
truth_told true = refl
truth_told false = refl

pub turned : {A : Type 0} (b : Bool) (x y : A) → cond (not b) x y ≡ cond b y x
turned true x y = refl
turned false x y = refl

pub and_true : (b : Bool) → (b && true) ≡ b
and_true true = refl
and_true false = refl

pub and_last : (a b : Bool) → (a && (b && true)) ≡ (a && b)
and_last true true = refl
and_last true false = refl
and_last false b = refl

pub and_apart : (a b c : Bool) → (a && (b && c)) ≡ ((a && b) && c)
and_apart true b c = refl
and_apart false b c = refl

pub or_false : (b : Bool) → (b || false) ≡ b
or_false true = refl
or_false false = refl

-- ---- lists

pub permuted : {X : Type 0} (xs ys : List X) (x : X) → IsPermutation xs ys → Has xs x → Has ys x
permuted xs ys x p h = has_contained ys x (Contains-permutation xs ys x p (contains_had xs x h))

pub mapped_from : {X Y : Type 0} (f : X → Y) (xs : List X) (y : Y) → Has (map f xs) y →
    (x : X) × Has xs x × (y ≡ f x)
mapped_from f [] y h = absurd h
mapped_from f (x ∷ xs) y (inl e) = (x, inl refl, e)
mapped_from f (x ∷ xs) y (inr h) = let it = mapped_from f xs y h in (it.0, inr it.1, it.2)

pub mapped_to : {X Y : Type 0} (f : X → Y) (xs : List X) (x : X) → Has xs x → Has (map f xs) (f x)
mapped_to f [] x h = absurd h
mapped_to f (y ∷ ys) x (inl e) = inl (ap f e)
mapped_to f (y ∷ ys) x (inr h) = inr (mapped_to f ys x h)

-- a selection that failed committed nothing
pub commits_nothing : (sql : List ℕ) (params : Row) (old new : State)
    → (HasCleanDisk old → IsPlain (understood old.now.schema sql))
    → Survives old new (CommitsShowing sql params old) → Survives old new (λ _. ⊥)
commits_nothing sql params old new plain s =
    survives_weaker old new _ _
    (λ clean db. never_commits sql params old db (plain (omega (arith, s.clean, clean)))) s
