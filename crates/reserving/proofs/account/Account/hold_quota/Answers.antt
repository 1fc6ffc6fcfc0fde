use Rattle.std.proofs.Common.{◌≡◌, true, None, sym, ap, subst, ◌∙◌}
use Rattle.std.specs.Prelude.{is_some}
use Rattle.ledger.specs.Pricing.{tariff_at, terms_at, validity_of}
use Rattle.ledger.specs.declared.terms.Terms.{Terms}
use Rattle.shelves.specs.Shelves.{book_at}
use Rattle.reserving.specs.Rows.{AccountRows}
use Rattle.reserving.specs.Changes.{reserved_account}
use Rattle.reserving.specs.Prepared.{reservation_in}
use Rattle.reserving.proofs.ReservedCall.{reserved_parts}
use Rattle.reserving.specs.Inside.{rows_inside}
use Rattle.reserving.specs.Placed.{AreOfBook, IsPriced}
use Rattle.reserving.proofs.kept.Placed.{IsPriced-reserved}
use Rattle.reserving.specs.Calm.{IsCalm}
use Rattle.reserving.specs.Sessions.{is_live_in}
use Rattle.reserving.proofs.rows.Calm.{calm_reserved}
use Rattle.ledger.specs.Reservation.{held_due}
use Rattle.reserving.proofs.account.Account.hold_quota.Goals as goal

pub invariant_of-self : goal.invariant_of-self
invariant_of-self c =
    let a : AccountRows = rows_inside c.self.inside in
    let none : reservation_in c.args.session.now c.args.group a.groups ≡ None =
    subst (λ (x : AccountRows). reservation_in c.args.session.now c.args.group x.groups ≡ None)
    (sym c.self.view_is) c.requires.free in
    let terms : c.args.terms ≡ terms_at a.shelf a.as_of =
    subst (λ (x : AccountRows). c.args.terms ≡ terms_at x.shelf x.as_of) (sym c.self.view_is)
    c.requires.terms in
    let same : AreOfBook (book_at a.shelf a.as_of) c.args.terms.periods =
    subst (λ (x : AccountRows). AreOfBook (book_at x.shelf x.as_of) c.args.terms.periods)
    (sym c.self.view_is)
    c.requires.of_book in
    let some : is_some (tariff_at a.shelf a.as_of c.args.group) ≡ true =
    subst (λ (x : AccountRows). is_some (tariff_at x.shelf x.as_of c.args.group) ≡ true)
    (sym c.self.view_is) c.requires.tariff in
    let is =
    reserved_parts a c.args.session.now c.args.group (held_due c.args.grant) c.args.terms
    c.hold_in-holds.result c.hold_in-holds.new.self c.reserve_group.new.groups.items terms
    c.hold_in-holds.ensures.rows c.hold_in-holds.ensures.holds c.reserve_group.ensures in
    record {
      priced = subst IsPriced (sym is)
          (IsPriced-reserved a c.args.session.now c.args.group (held_due c.args.grant) none
          (subst (λ (x : Terms). AreOfBook (book_at a.shelf a.as_of) x.periods) terms same) some
          c.self.invariant.priced);
      calm = λ e. subst IsCalm (sym is)
          (calm_reserved a c.args.session.now c.args.group (held_due c.args.grant)
          (subst (λ (x : AccountRows). is_live_in (validity_of x.shelf) x.as_of x.sessions
          c.args.session.now ≡ true) (sym c.self.view_is) c.requires.live)
          (c.self.invariant.calm e));
      quiet = tt;
    }

pub returns : goal.returns
returns c =
    let a : AccountRows = rows_inside c.self.inside in
    let terms : c.args.terms ≡ terms_at a.shelf a.as_of =
    subst (λ (x : AccountRows). c.args.terms ≡ terms_at x.shelf x.as_of) (sym c.self.view_is)
    c.requires.terms in
    reserved_parts a c.args.session.now c.args.group (held_due c.args.grant) c.args.terms
    c.hold_in-holds.result c.hold_in-holds.new.self c.reserve_group.new.groups.items terms
    c.hold_in-holds.ensures.rows c.hold_in-holds.ensures.holds c.reserve_group.ensures
    ∙ ap (reserved_account c.args.session.now c.args.group (held_due c.args.grant)) c.self.view_is
