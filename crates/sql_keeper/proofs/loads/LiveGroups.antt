-- What open sessions have of rating groups; and several reads in turn.
use Rattle.std.proofs.Common.{◌≡◌, ℕ, Bool, true, false, List, [], Option, Some, None}
use Rattle.std.proofs.Common.{IsTrue, refl, sym, ap, subst, ◌∙◌}
use Rattle.std.specs.Prelude.{if◌then◌else◌, ◌&&◌, ◌||◌, is_some, option_map}
use Rattle.sqlite_trees.specs.Tree.{Trees}
use Rattle.sqlite.specs.Effect.{Database}
use Rattle.sqlite.specs.State.{State, HasCleanDisk}
use Rattle.reserving.specs.declared.session.Session.{Session}
use Rattle.reserving.specs.declared.session.SessionGroup.{SessionGroup}
use Rattle.reserving.specs.Left.{is_open_row}
use Rattle.reserving.proofs.Lists.{no_some}
use Rattle.reserving.specs.Sessions.{is_open}
use Rattle.keepers.specs.Change.{has_reservation}
use Rattle.sql_tables.specs.Selects.{passing}
use Rattle.sql_tables.specs.Statements.{OnlyReads}
use Rattle.sql_rows.specs.Content.{TableRows}
use Rattle.sql_rows.specs.Lists.{AreSessions}
use Rattle.sql_rows.specs.Values.{Group}
use Rattle.sql_keeper.specs.Content.{stored_group_in, is_reserved, held_in, Names}
use Rattle.sql_keeper.specs.LiveGroups.{AreLiveGroups, AreOpenGroupsLoaded}
use Rattle.sql_keeper.specs.LiveGroups.{AreOpenSessions}

-- ---- the open sessions

among_open : (x y : Option Session) → x ≡ passing (λ (r : Session). is_open r.state) y
    → is_some x ≡ is_open_row y
among_open x None e = ap is_some e
among_open x (Some r) e = ap is_some e ∙ go (is_open r.state)
  where
    go : (t : Bool) → is_some (if t then Some r else None) ≡ t
    go true = refl
    go false = refl

-- where there is none, they have nothing
pub none_open : (names : Names) (rows : TableRows) (ss : List Session) (xs : List SessionGroup)
    → ss ≡ [] → xs ≡ [] → AreSessions (λ x. is_open x.state) rows ss
    → AreOpenSessions names rows ss xs
none_open names rows ss xs no_sessions nothing open_ones = record {
  sessions = open_ones;
  groups = subst (AreLiveGroups names rows) (sym nothing) (record {
    told = record {
      groups = λ s g.
          ap (λ t. if t then option_map (stored_group_in names true (rows.grant_books s g))
          (rows.groups s g)
          else None) (shut s);
      holds = λ s g n.
          ap (λ t. if t then held_in (is_reserved (rows.groups s g)) (rows.holds s g n) else 0)
          (shut s);
    };
    grants = λ s g x v e f. absurd (no_some x e);
  });
}
  where
    shut : (s : List ℕ) → false ≡ is_open_row (rows.sessions s)
    shut s = among_open None (rows.sessions s)
        (subst (AreSessions (λ x. is_open x.state) rows) no_sessions open_ones s)

none_reserved : (names : Names) (book : Option ℕ) (o : Option Group)
    → has_reservation (option_map (stored_group_in names false book) o) ≡ false
none_reserved names book None = refl
none_reserved names book (Some x) = refl

loaded_rows : (names : Names) (open_is : Bool) (book : Option ℕ) (o : Option Group)
    → (if open_is then option_map (stored_group_in names true book) o else None)
    ≡ (if open_is || has_reservation (option_map (stored_group_in names open_is book) o)
    then option_map (stored_group_in names open_is book) o else None)
loaded_rows names true book o = refl
loaded_rows names false book o =
    ap (λ t. if t then option_map (stored_group_in names false book) o else None)
    (sym (none_reserved names book o))

loaded_holds : (names : Names) (open_is : Bool) (book : Option ℕ) (o : Option Group)
    (amount : Option ℕ)
    → (if open_is then held_in (is_reserved o) amount else 0)
    ≡ (if open_is || has_reservation (option_map (stored_group_in names open_is book) o)
    then held_in (open_is && is_reserved o) amount else 0)
loaded_holds names true book o amount = refl
loaded_holds names false book o amount =
    ap (λ t. if t then held_in (false && is_reserved o) amount else 0)
    (sym (none_reserved names book o))

-- rule: database-loads.told-groups
pub open_loaded : AreOpenGroupsLoaded
open_loaded names rows xs told = record {
  groups = λ s g.
      told.groups s g
      ∙ loaded_rows names (is_open_row (rows.sessions s)) (rows.grant_books s g) (rows.groups s g);
  holds = λ s g n.
      told.holds s g n
      ∙ loaded_holds names (is_open_row (rows.sessions s)) (rows.grant_books s g) (rows.groups s g)
      (rows.holds s g n);
}

-- ---- reads in turn

-- what was said of the first state, where nothing changed
pub told_before : (P : Trees → Type 0) (old mid new : State) → OnlyReads old mid → OnlyReads mid new
    → HasCleanDisk new → IsTrue new.is_open → P mid.now.trees → P old.now.trees
told_before P old mid new first second clean on =
    let after = second.still clean on in
    let before = first.still (second.cleanness clean) after.was_open in
    subst (λ (d : Database). P d.trees) before.now_is
