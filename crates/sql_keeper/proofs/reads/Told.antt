-- Several reads in turn, and what is made of all that they said.
use Rattle.std.proofs.Common.{Result, Ok, IfOk, IsTrue}
use Rattle.sqlite_trees.specs.Tree.{Trees}
use Rattle.sqlite.specs.State.{State, HasCleanDisk}
use Rattle.sql_tables.specs.Statements.{Reads}
use Rattle.sql_keeper.specs.LiveGroups.{Gathers}
use Rattle.sql_keeper.proofs.reads.InTurn.{HaveRead, have_read, have_gathered, have_read_then}
use Rattle.sql_keeper.proofs.reads.InTurn.{gathers_from}
use Rattle.sql_keeper.proofs.loads.LiveGroups.{told_before}

-- ---- one after another

-- what reads that answered say of the tables
pub record Tells (P : Trees → Type 0) (old new : State) : Type 0 where
  pub found : HasCleanDisk new → IsTrue new.is_open → P old.now.trees
  pub reads : HaveRead old new

pub one_tells : {A E : Type 0} (told : Trees → A → Type 0) (old new : State) (x : A)
    → Reads {A = A} {E = E} told old new (Ok x) → Tells (λ trees. told trees x) old new
one_tells {A} {E} told old new x h = record {
  found = λ clean on. h.found clean;
  reads = have_read {A = A} {E = E} told old new x h;
}

pub several_tell : {A E : Type 0} (told : Trees → A → Type 0) (old new : State) (x : A)
    → Gathers {A = A} {E = E} told old new (Ok x) → Tells (λ trees. told trees x) old new
several_tell {A} {E} told old new x h = record {
  found = h.found;
  reads = have_gathered {A = A} {E = E} told old new x h;
}

pub tell_both : (P Q : Trees → Type 0) (old mid new : State) → Tells P old mid → Tells Q mid new
    → Tells (λ trees. P trees × Q trees) old new
tell_both P Q old mid new one two = record {
  found = λ clean on. (
    one.found (two.reads.only.cleanness clean) (two.reads.only.still clean on).was_open,
    told_before Q old mid new one.reads.only two.reads.only clean on (two.found clean on),
  );
  reads = have_read_then old mid new one.reads two.reads;
}

-- what is made of it
pub made_of : {A E : Type 0} (P : Trees → Type 0) (told : Trees → A → Type 0) (old new : State)
    (r : Result A E) → Tells P old new → ((trees : Trees) → P trees → IfOk r (told trees))
    → Gathers told old new r
made_of P told old new r h to =
    gathers_from told old new r h.reads (λ clean on. to old.now.trees (h.found clean on))
