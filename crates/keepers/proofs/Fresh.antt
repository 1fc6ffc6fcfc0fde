-- Rows none of which has a name or a cycle of one that was left.
use Rattle.std.proofs.Common.{◌≡◌, true, false, List, ap}
use Rattle.std.specs.Prelude.{◌==◌, not, is_some}
use Rattle.std.specs.List.{list_any}
use Rattle.std.proofs.lemmas.Bool.{and_parts, not-true}
use Rattle.reserving.specs.declared.session.Session.{Session}
use Rattle.reserving.specs.declared.session.SessionGroup.{SessionGroup}
use Rattle.reserving.specs.declared.session.Counter.{Counter}
use Rattle.ledger.specs.Ledger.{is_same}
use Rattle.reserving.specs.Sessions.{is_open}
use Rattle.reserving.specs.Stored.{StoredRows}
use Rattle.ledger.specs.Lists.{EachIn}
use Rattle.reserving.proofs.Lists.{EachIn-weaker}
use Rattle.ledger.proofs.Holds.{same_from}
use Rattle.reserving.proofs.Keys.{first_true}
use Rattle.keepers.specs.Keyed.{same_session, same_group}
use Rattle.keepers.specs.Named.{Names, Numbers, is_named, is_numbered}
use Rattle.keepers.specs.Named.{AreLeftSessions, AreLeftGroups}
use Rattle.keepers.specs.Overlaying.{is_fresh}

pub record AreFresh (names : Names) (cycles : Numbers) (w : StoredRows) : Type 0 where
  pub sessions : list_any (λ (r : Session). is_named names r.id) w.sessions ≡ false
  pub groups : list_any (λ (r : SessionGroup). is_named names r.session) w.groups ≡ false
  pub new_cycles : not (list_any (λ (c : Counter). is_numbered cycles c.cycle) w.counters) ≡ true
  pub counters : list_any (λ (c : Counter). is_numbered cycles c.cycle) w.counters ≡ false

pub are_fresh : (names : Names) (cycles : Numbers) (w : StoredRows) →
    is_fresh names cycles w ≡ true → AreFresh names cycles w
are_fresh names cycles w e =
    let two = and_parts _ (not (list_any (λ (c : Counter). is_numbered cycles c.cycle) w.counters))
    e in
    let one = and_parts (not (list_any (λ (r : Session). is_named names r.id) w.sessions))
    (not (list_any (λ (r : SessionGroup). is_named names r.session) w.groups)) two.0 in
    record {
      sessions = not-true _ one.0;
      groups = not-true _ one.1;
      new_cycles = two.1;
      counters = not-true _ two.1;
    }

-- those that were left are known by their names
pub left_sessions : (names : Names) (rows : List Session) → AreLeftSessions names rows →
    EachIn (λ (r : Session). is_named names r.id ≡ true) rows
left_sessions names rows h = EachIn-weaker
    (λ (r : Session). (is_open r.state ≡ false) × (is_named names r.id ≡ true))
    (λ (r : Session). is_named names r.id ≡ true) rows (λ r x. x.1) h

pub left_groups : (names : Names) (rows : List SessionGroup) → AreLeftGroups names rows →
    EachIn (λ (r : SessionGroup). is_named names r.session ≡ true) rows
left_groups names rows h = EachIn-weaker
    (λ (r : SessionGroup). (is_some r.reservation ≡ false) × (is_named names r.session ≡ true))
    (λ (r : SessionGroup). is_named names r.session ≡ true) rows (λ r x. x.1) h

-- rows of one key have one name
pub alike_session : (names : Names) (x y : Session) → same_session x y ≡ true →
    is_named names y.id ≡ is_named names x.id
alike_session names x y e = ap (is_named names) (same_from y.id x.id e)

pub alike_group : (names : Names) (x y : SessionGroup) → same_group x y ≡ true →
    is_named names y.session ≡ is_named names x.session
alike_group names x y e = ap (is_named names) (same_from y.session x.session
    (first_true (is_same y.session x.session) (y.group == x.group) e))
