-- Rows that a test finds equal are equal.
use Rattle.std.proofs.Common.{◌≡◌, ℕ, true, List, [], ◌∷◌, refl, ap, Option}
use Rattle.std.proofs.Common.{Some, None}
use Rattle.std.specs.Prelude.{◌==◌}
use Rattle.std.specs.Cmp.Lexicographic.{pointwise}
use Rattle.buckets.specs.declared.holds.HeldAmount.{HeldAmount}
use Rattle.buckets.specs.Row.{BucketRow}
use Rattle.rating.specs.declared.grant.Periods.{Periods}
use Rattle.buckets.specs.declared.kind.BucketKind.{BucketKind}
use Rattle.buckets.specs.declared.kind.BucketKind.TheVariants.{Money, Blocks}
use Rattle.ledger.specs.declared.terms.Terms.{Terms}
use Rattle.keepers.specs.Differing.{same_kind, equal_terms}
use Rattle.reserving.specs.declared.session.Session.{Session}
use Rattle.reserving.specs.declared.session.SessionState.{SessionState}
use Rattle.reserving.specs.declared.session.SessionState.TheVariants.{Open, Ended, NeverOpened}
use Rattle.reserving.specs.declared.session.SessionGroup.{SessionGroup}
use Rattle.reserving.specs.declared.session.Reservation.{Reservation}
use Rattle.reserving.specs.declared.session.Counter.{Counter}
use Rattle.reserving.proofs.Lists.{not_both}
use Rattle.ledger.proofs.Holds.{same_from, number_from, both}
use Rattle.keepers.specs.Differing.{same_scope, equal_bucket, equal_counter, same_state}
use Rattle.keepers.specs.Differing.{equal_session, equal_periods, equal_hold, equal_reservation}
use Rattle.keepers.specs.Differing.{equal_group}

scope_from : (x y : Option ℕ) → same_scope x y ≡ true → x ≡ y
scope_from None None e = refl
scope_from None (Some y) e = absurd (not_both e)
scope_from (Some x) None e = absurd (not_both e)
scope_from (Some x) (Some y) e = ap Some (number_from x y e)

kind_from : (x y : BucketKind) → same_kind x y ≡ true → x ≡ y
kind_from Money Money e = refl
kind_from Money Blocks e = absurd (not_both e)
kind_from Blocks Money e = absurd (not_both e)
kind_from Blocks Blocks e = refl

pub bucket_from : (x y : BucketRow) → equal_bucket x y ≡ true → x ≡ y
bucket_from x y e =
    let expired = both _ (x.expired == y.expired) e in
    let charged = both _ (x.charged == y.charged) expired.0 in
    let reserved = both _ (x.reserved == y.reserved) charged.0 in
    let available = both _ (x.available == y.available) reserved.0 in
    let credited = both _ (x.credited == y.credited) available.0 in
    let scope = both _ (same_scope x.scope y.scope) credited.0 in
    let until = both _ (x.until == y.until) scope.0 in
    let from = both _ (x.from == y.from) until.0 in
    let kind = both (x.number == y.number) (same_kind x.kind y.kind) from.0 in
    λ i. record {
      number = number_from x.number y.number kind.0 i;
      kind = kind_from x.kind y.kind kind.1 i;
      from = number_from x.from y.from from.1 i;
      until = number_from x.until y.until until.1 i;
      scope = scope_from x.scope y.scope scope.1 i;
      credited = number_from x.credited y.credited credited.1 i;
      available = number_from x.available y.available available.1 i;
      reserved = number_from x.reserved y.reserved reserved.1 i;
      charged = number_from x.charged y.charged charged.1 i;
      expired = number_from x.expired y.expired expired.1 i;
    }

pub counter_from : (x y : Counter) → equal_counter x y ≡ true → x ≡ y
counter_from x y e =
    let blocks = both _ (x.blocks == y.blocks) e in
    let cycle = both (x.group == y.group) (x.cycle == y.cycle) blocks.0 in
    λ i. record {
      group = number_from x.group y.group cycle.0 i;
      cycle = number_from x.cycle y.cycle cycle.1 i;
      blocks = number_from x.blocks y.blocks blocks.1 i;
    }

state_from : (x y : SessionState) → same_state x y ≡ true → x ≡ y
state_from Open Open e = refl
state_from Open Ended e = absurd (not_both e)
state_from Open NeverOpened e = absurd (not_both e)
state_from Ended Open e = absurd (not_both e)
state_from Ended Ended e = refl
state_from Ended NeverOpened e = absurd (not_both e)
state_from NeverOpened Open e = absurd (not_both e)
state_from NeverOpened Ended e = absurd (not_both e)
state_from NeverOpened NeverOpened e = refl

pub session_from : (x y : Session) → equal_session x y ≡ true → x ≡ y
session_from x y e =
    let state = both _ (same_state x.state y.state) e in
    let touched = both _ (x.touched == y.touched) state.0 in
    let number = both _ (x.last_number == y.last_number) touched.0 in
    λ i. record {
      id = same_from x.id y.id number.0 i;
      last_number = number_from x.last_number y.last_number number.1 i;
      touched = number_from x.touched y.touched touched.1 i;
      state = state_from x.state y.state state.1 i;
    }

periods_from : (x y : Periods) → equal_periods x y ≡ true → x ≡ y
periods_from x y e =
    let parts = both (x.before.0 == y.before.0) (x.after.0 == y.after.0) e in
    λ i. record {
      before = record { 0 = number_from x.before.0 y.before.0 parts.0 i };
      after = record { 0 = number_from x.after.0 y.after.0 parts.1 i };
    }

terms_from : (x y : Terms) → equal_terms x y ≡ true → x ≡ y
terms_from x y e =
    let parts = both (x.book == y.book) (equal_periods x.periods y.periods) e in
    λ i. record {
      book = number_from x.book y.book parts.0 i;
      periods = periods_from x.periods y.periods parts.1 i;
    }

hold_from : (x y : HeldAmount) → equal_hold x y ≡ true → x ≡ y
hold_from x y e =
    let parts = both (x.bucket == y.bucket) (x.amount == y.amount) e in
    λ i. record {
      bucket = number_from x.bucket y.bucket parts.0 i;
      amount = number_from x.amount y.amount parts.1 i;
    }

holds_from : (xs ys : List HeldAmount) → pointwise equal_hold xs ys ≡ true → xs ≡ ys
holds_from [] [] e = refl
holds_from [] (y ∷ ys) e = absurd (not_both e)
holds_from (x ∷ xs) [] e = absurd (not_both e)
holds_from (x ∷ xs) (y ∷ ys) e =
    let parts = both (equal_hold x y) (pointwise equal_hold xs ys) e in
    λ i. hold_from x y parts.0 i ∷ holds_from xs ys parts.1 i

reservation_from : (x y : Option Reservation) → equal_reservation x y ≡ true → x ≡ y
reservation_from None None e = refl
reservation_from None (Some y) e = absurd (not_both e)
reservation_from (Some x) None e = absurd (not_both e)
reservation_from (Some x) (Some y) e =
    let parts = both (equal_terms x.terms y.terms) (pointwise equal_hold x.holds y.holds) e in
    λ i. Some (record {
      terms = terms_from x.terms y.terms parts.0 i;
      holds = holds_from x.holds y.holds parts.1 i;
    })

pub group_from : (x y : SessionGroup) → equal_group x y ≡ true → x ≡ y
group_from x y e =
    let reserved = both _ (equal_reservation x.reservation y.reservation) e in
    let used = both _ (x.used == y.used) reserved.0 in
    let group = both _ (x.group == y.group) used.0 in
    λ i. record {
      session = same_from x.session y.session group.0 i;
      group = number_from x.group y.group group.1 i;
      used = number_from x.used y.used used.1 i;
      reservation = reservation_from x.reservation y.reservation reserved.1 i;
    }
