-- What a keeper keeps of an account's rows, and what its calls leave of it.
use Rattle.std.proofs.Common.{◌≡◌, ℕ, true, List, Option, Some, None, Result, Ok, Err, IfOk}
use Rattle.std.proofs.Common.{OnOk, IsTrue, refl, sym, ap, subst, ◌∙◌, arith}
use Rattle.std.specs.Prelude.{if◌then◌else◌}
use Rattle.sqlite_trees.specs.Tree.{Trees}
use Rattle.sqlite.specs.Effect.{Database}
use Rattle.sqlite.specs.State.{State, HasCleanDisk}
use Rattle.sqlite.proofs.StateLemmas.{survives_weaker}
use Rattle.shelves.specs.Shelves.{Shelf}
use Rattle.buckets.specs.Row.{BucketRow}
use Rattle.reserving.specs.declared.session.Session.{Session}
use Rattle.reserving.specs.declared.session.SessionGroup.{SessionGroup}
use Rattle.ledger.proofs.Holds.{same_itself}
use Rattle.reserving.proofs.Keys.{first_true, second_true}
use Rattle.reserving.proofs.Lists.{not_both}
use Rattle.keepers.specs.Change.{over}
use Rattle.keepers.specs.Tables.{Tables}
use Rattle.keepers.specs.declared.loaded.Change.{Change}
use Rattle.keepers.specs.declared.loaded.Loaded.{Loaded}
use Rattle.sql_tables.specs.Keyed.{same_name}
use Rattle.sql_tables.specs.Statements.{HasIdleTables, OnlyReads}
use Rattle.sql_rows.specs.Content.{TableRows, rows_in}
use Rattle.sql_keeper.specs.Asks.{Asks}
use Rattle.sql_keeper.specs.Commits.{Becomes, CommitsStanding}
use Rattle.sql_keeper.specs.Content.{Names, told_rows}
use Rattle.sql_keeper.specs.KeptRows.{AreCopied, AreKept, AreOf, AreReplaced}
use Rattle.sql_keeper.specs.KeptRows.{BecomesOver, IsOf, Keeps, is_unknown_in}
use Rattle.sql_keeper.specs.Grants.{is_name}
use Rattle.sql_keeper.specs.LiveGroups.{Gathers}
use Rattle.sql_keeper.specs.LiveRows.{AreLiveRows, IsLoadStored}
use Rattle.sql_keeper.specs.Seen.{AreSeen, IsUnknown, Sees}
use Rattle.sql_keeper.specs.declared.kept_rows.KeptRows.{KeptRows}
use Rattle.sql_keeper.specs.declared.live_rows.LiveRows.{LiveRows}
use Rattle.sql_keeper.specs.declared.seen.SeenAccount.{SeenAccount}
use Rattle.sql_keeper.proofs.reads.InTurn.{gathers_from, none_read}
use Rattle.sql_keeper.proofs.puts.Overlays.{name_from}
use Rattle.sql_keeper.proofs.kept.RowsOver.{live_over}

-- ---- over a call

-- what is kept is kept still after a call that only reads
pub still_kept : (names : Names) (o : Option KeptRows) (old new : State) → AreKept names o old
    → OnlyReads old new → AreKept names o new
still_kept names o old new kept only clean on =
    let still = only.still clean on in
    subst (λ (d : Database). Keeps names o d.trees) (sym still.now_is)
    (kept (only.cleanness clean) still.was_open)

-- what is made of an answer
pub kept_asked : {A E : Type 0} (names : Names) (told : Trees → A → Type 0)
    (o p : Option KeptRows) (old new : State) (r : Result A E) → AreKept names o old
    → Asks told old new r
    → ((trees : Trees) → Keeps names o trees → IfOk r (told trees) → Keeps names p trees)
    → AreKept names p new
kept_asked names told o p old new r kept asks to clean on =
    let still = asks.only.still clean on in
    subst (λ (d : Database). Keeps names p d.trees) (sym still.now_is)
    (to old.now.trees (kept (asks.only.cleanness clean) still.was_open) (asks.found clean))

-- what is kept says it without a read
pub told_kept : {A E : Type 0} (names : Names) (told : Trees → A → Type 0) (o : Option KeptRows)
    (x : A) (s : State) → HasIdleTables s → AreKept names o s
    → ((trees : Trees) → Keeps names o trees → told trees x)
    → Gathers {A = A} {E = E} told s s (Ok x)
told_kept {A} {E} names told o x s idle kept to =
    gathers_from {A = A} {E = E} told s s (Ok x) (none_read s idle)
    (λ clean on. to s.now.trees (kept clean on))

-- after what writes, whether it was made or not
pub kept_made : {A E : Type 0} (names : Names) (Become : Trees → Trees → Type 0)
    (seen : Option SeenAccount) (o p : Option KeptRows) (old new : State) (r : Result A E)
    → AreSeen seen old → AreKept names o old → CommitsStanding Become old new r
    → ((trees db : Trees) → OnOk r (Become trees db) → Sees seen trees → Keeps names o trees
    → Keeps names p db)
    → AreKept names p new
kept_made names Become seen o p old new (Ok x) sees kept h to clean on =
    let d = h.commits.done clean in
    let was : HasCleanDisk old = omega (arith, h.commits.survives.clean, clean) in
    to old.now.trees new.now.trees d.2 (sees was d.0) (kept was d.0)
kept_made names Become seen o p old new (Err e) sees kept h to clean on =
    let was : HasCleanDisk old = omega (arith, h.commits.survives.clean, clean) in
    let open_was = (h.commits.err clean on).was_open in
    to old.now.trees new.now.trees tt (sees was open_was) (kept was open_was)

-- of what was seen the same
pub seen_made : {A E : Type 0} (Become : Trees → Trees → Type 0) (o p : Option SeenAccount)
    (old new : State) (r : Result A E) → AreSeen o old → CommitsStanding Become old new r
    → ((trees db : Trees) → OnOk r (Become trees db) → Sees o trees → Sees p db) → AreSeen p new
seen_made Become o p old new (Ok x) sees h to clean on =
    let d = h.commits.done clean in
    let was : HasCleanDisk old = omega (arith, h.commits.survives.clean, clean) in
    to old.now.trees new.now.trees d.2 (sees was d.0)
seen_made Become o p old new (Err e) sees h to clean on =
    let was : HasCleanDisk old = omega (arith, h.commits.survives.clean, clean) in
    to old.now.trees new.now.trees tt (sees was (h.commits.err clean on).was_open)

-- ---- copies

-- the same rows are as those
live_as : (names : Names) (r : TableRows) (bs cs : List BucketRow) (ss ts : List Session)
    (xs ys : List SessionGroup) → cs ≡ bs → ts ≡ ss → ys ≡ xs → AreLiveRows names r bs ss xs
    → AreLiveRows names r cs ts ys
live_as names r bs cs ss ts xs ys b s x live =
    subst (λ z. AreLiveRows names r z ts ys) (sym b)
    (subst (λ z. AreLiveRows names r bs z ys) (sym s)
    (subst (AreLiveRows names r bs ss) (sym x) live))

pub copied : (names : Names) (r : TableRows) (x y : LiveRows) → AreCopied x y → AreOf names r x
    → AreOf names r y
copied names r x y same =
    live_as names r x.purse y.purse x.sessions.items y.sessions.items x.groups.items y.groups.items
    same.purse same.sessions same.groups

-- what is loaded
-- rule: database-loads.keeps
pub kept_loaded : (names : Names) (shelf : Shelf) (t : ℕ) (a : List ℕ) (trees : Trees)
    (l : Loaded) (x : KeptRows) → IsOf l x → IsLoadStored names shelf t a (rows_in trees a) (Some l)
    → Keeps names (Some x) trees
kept_loaded names shelf t a trees l x is stored =
    subst (λ b. AreOf names (rows_in trees b) x.rows) (sym (is.account ∙ stored.load.0))
    (live_as names (rows_in trees a) l.before.buckets x.rows.purse l.before.sessions
    x.rows.sessions.items l.before.groups x.rows.groups.items is.rows.purse is.rows.sessions
    is.rows.groups stored.rows)

-- ---- a change

pub told_of : (names : Names) (text : List ℕ) (change : Change) (old new : Trees)
    → BecomesOver names text change old new
    → told_rows names (rows_in new change.number)
    ≡ over change.rows (told_rows names (rows_in old change.number))
told_of names text change old new becomes =
    ap (λ (t : Tables). t.rows change.number) becomes.becomes.tables
    ∙ ap (λ b. if b then over change.rows (told_rows names (rows_in old change.number))
    else told_rows names (rows_in old change.number)) (same_itself change.number)

-- of a session that was seen to have no row nothing is stored
fresh_seen : (seen : Option SeenAccount) (a : List ℕ) (trees : Trees) → Sees seen trees
    → (s : List ℕ) → is_unknown_in seen a s ≡ true → IsUnknown (rows_in trees a) s
fresh_seen None a trees sees s e = absurd (not_both e)
fresh_seen (Some x) a trees sees s e =
    at x.unknown refl (second_true (same_name x.account a) (is_name s x.unknown) e)
  where
    here : x.account ≡ a
    here = name_from x.account a (first_true (same_name x.account a) (is_name s x.unknown) e)

    at : (o : Option (List ℕ)) → x.unknown ≡ o → is_name s o ≡ true → IsUnknown (rows_in trees a) s
    at None k f = absurd (not_both f)
    at (Some z) k f =
        subst (λ b. IsUnknown (rows_in trees b) s) here
        (subst (IsUnknown (rows_in trees x.account)) (name_from z s f) (sees.unknown z k))

-- the rows of the account that is kept, with those of the change over them
-- rule: database-loads.keeps
pub kept_changed : (names : Names) (text : List ℕ) (change : Change) (old new : Trees)
    (seen : Option SeenAccount) (x : KeptRows) (y : LiveRows)
    → true ≡ same_name x.account change.number → BecomesOver names text change old new
    → Sees seen old
    → AreReplaced (is_unknown_in seen change.number) change.rows x.rows y
    → Keeps names (Some x) old → AreOf names (rows_in new x.account) y
kept_changed names text change old new seen x y same becomes sees replaced kept =
    let here : x.account ≡ change.number = name_from x.account change.number (sym same) in
    subst (λ b. AreOf names (rows_in new b) y) (sym here)
    (live_over names (is_unknown_in seen change.number) (rows_in old change.number)
    (rows_in new change.number) change.rows x.rows y
    (subst (λ b. AreOf names (rows_in old b) x.rows) here kept) replaced
    (fresh_seen seen change.number old sees)
    (told_of names text change old new becomes) becomes.grants)

-- ---- what is committed, without how reservations are stored

pub becomes_standing : {A E : Type 0} (names : Names) (text : List ℕ) (change : Change)
    (old new : State) (r : Result A E) → CommitsStanding (BecomesOver names text change) old new r
    → CommitsStanding (Becomes names text change) old new r
becomes_standing {A} {E} names text change old new r h = record {
  commits = record {
    done = λ clean. done r (h.commits.done clean);
    err = h.commits.err;
    idle = h.commits.idle;
    survives = survives_weaker old new
        (λ db. IsTrue old.is_open → BecomesOver names text change old.now.trees db)
        (λ db. IsTrue old.is_open → Becomes names text change old.now.trees db)
        (λ clean db it on. (it on).becomes) h.commits.survives;
  };
  survives = survives_weaker old new
      (λ db. IsTrue old.is_open × BecomesOver names text change old.now.trees db)
      (λ db. IsTrue old.is_open × Becomes names text change old.now.trees db)
      (λ clean db it. (it.0, it.1.becomes)) h.survives;
}
  where
    done : (q : Result A E)
        → OnOk q (IsTrue old.is_open × IsTrue new.is_open
        × BecomesOver names text change old.now.trees new.now.trees)
        → OnOk q (IsTrue old.is_open × IsTrue new.is_open
        × Becomes names text change old.now.trees new.now.trees)
    done (Ok x) d = (d.0, d.1, d.2.becomes)
    done (Err e) d = tt
