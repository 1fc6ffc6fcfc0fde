-- All that a settlement, a debit and a reservation say, fact by fact: by the rows, of each ledger
-- whose rows the account's are, and of each whose rows they are together with those that were left.
-- It follows from what the calls say by the rows alone.
use Rattle.std.proofs.Common.{◌≡◌, ℕ, ◌≤◌, true, false, List, [], Option, Some, None, Result}
use Rattle.std.proofs.Common.{Ok, Err, OnOk, OnErr, IsOk, IfOk, IfSome, refl, sym, ap, ◌∙◌}
use Rattle.std.specs.Prelude.{◌==◌, is_some}
use Rattle.units.specs.declared.blocks.UsedPart.{UsedPart}
use Rattle.reserving.specs.declared.fault.AccountFault.{AccountFault}
use Rattle.reserving.specs.declared.fault.AccountFault.TheVariants.{Limit, Memory}
use Rattle.reserving.specs.declared.reserve.Granted.{Granted}
use Rattle.reserving.specs.declared.reserve.Granted.TheVariants.{Nothing, Units}
use Rattle.reserving.specs.declared.settle.Settled.{Settled}
use Rattle.ledger.specs.Ledger.{Ledger}
use Rattle.ledger.specs.Pricing.{tariff_at}
use Rattle.ledger.specs.Settlement.{due_of, passes_limit, settled_by}
use Rattle.ledger.specs.Debiting.{is_covered, debit_passes}
use Rattle.reserving.specs.Sessions.{session_in, group_in}
use Rattle.reserving.specs.Changes.{advanced, passes_in, settled_by_rows, rest_price_in}
use Rattle.reserving.specs.Changes.{is_covered_in, debit_passes_in, debited_account}
use Rattle.reserving.specs.Prepared.{reservation_in}
use Rattle.reserving.specs.Rows.{AccountRows, IsAccount, IsRowsOf}
use Rattle.reserving.specs.Left.{LeftRows, none_left, joined, IsBeside, IsWith}
use Rattle.reserving.specs.Results.{IsSettlementOf, IsDebit, GivesGrant, GivesGrantIn}
use Rattle.reserving.specs.Calls.{IsLive, Settles, Debits, Reserves}
use Rattle.reserving.proofs.Lists.{no_some, no_fault}
use Rattle.reserving.proofs.ReservedCall.{IsWithin}
use Rattle.reserving.proofs.ByLedger.{whole_account, settles_by_ledger, debits_by_ledger}
use Rattle.reserving.proofs.ByLedger.{reserves_by_ledger}
use Rattle.reserving.proofs.calls.Standing.{left_by_settled, left_by_debited, left_by_reserved}
use Rattle.reserving.proofs.calls.Standing.{granted_within}

-- ---- settlements

module _ (session : List ℕ) (group : ℕ) (used_parts : List UsedPart) (t : ℕ)
    (before after : AccountRows) where
  pub record SpellsSettled (result : Result Settled AccountFault) : Type 0 where
    pub rows : OnOk result ((ledger : Ledger) → IsRowsOf ledger before →
        IsRowsOf (settled_by before.shelf t session group used_parts ledger) after)
    pub left : OnOk result ((ledger : Ledger) (left : LeftRows) → IsWith ledger left t before →
        IsWith (settled_by before.shelf t session group used_parts ledger) left t after)
    pub by_rows : OnOk result (after ≡ settled_by_rows session group used_parts (advanced t before))
    pub as_of : OnOk result (after.as_of ≡ t)
    pub shelf : after.shelf ≡ before.shelf
    pub sessions : OnOk result (after.sessions ≡ (advanced t before).sessions)
    pub settled : IfOk result (λ s. (ledger : Ledger) → IsRowsOf ledger before →
        IsSettlementOf before.shelf t session group used_parts ledger s)
    pub settled_left : IfOk result (λ s. (ledger : Ledger) (left : LeftRows) →
        IsWith ledger left t before →
        IsSettlementOf before.shelf t session group used_parts ledger s)
    pub within : OnOk result ((ledger : Ledger) → IsRowsOf ledger before →
        passes_limit before.shelf t session group used_parts ledger ≡ false)
    pub within_left : OnOk result ((ledger : Ledger) (left : LeftRows) →
        IsWith ledger left t before →
        passes_limit before.shelf t session group used_parts ledger ≡ false)
    pub limit : result ≡ Err Limit → (ledger : Ledger) → IsRowsOf ledger before →
        passes_limit before.shelf t session group used_parts ledger ≡ true
    pub limit_left : result ≡ Err Limit → (ledger : Ledger) (left : LeftRows) →
        IsWith ledger left t before →
        passes_limit before.shelf t session group used_parts ledger ≡ true
    pub within_rows : OnOk result (passes_in session group t used_parts before ≡ false)
    pub limit_rows : result ≡ Err Limit → passes_in session group t used_parts before ≡ true
    pub ended : used_parts ≡ [] → IsOk result
    pub free : OnOk result (reservation_in session group after.groups ≡ None)
    pub others : OnOk result ((s : List ℕ) (g : ℕ) →
        reservation_in s g before.groups ≡ None → reservation_in s g after.groups ≡ None)
    pub err : OnErr result (after ≡ before)

  module _ (account : IsAccount before) (later : before.as_of ≤ t)
      (live : IsLive before t session) where
    pub settles_spelled : (result : Result Settled AccountFault) →
        Settles session group used_parts t before after result → SpellsSettled result
    settles_spelled (Ok x) says =
        let told = settles_by_ledger session group used_parts t before after (Ok x) later live says in
        let stands = left_by_settled session group t used_parts before after says.rows in
        record {
          rows = λ ledger rows. (told ledger none_left (whole_account ledger t before account
              rows)).rows.rows;
          left = λ ledger left h. (told ledger left h).rows;
          by_rows = says.rows;
          as_of = stands.as_of;
          shelf = stands.shelf;
          sessions = stands.sessions;
          settled = λ ledger rows. (told ledger none_left (whole_account ledger t before account
              rows)).settled;
          settled_left = λ ledger left h. (told ledger left h).settled;
          within = λ ledger rows. (told ledger none_left (whole_account ledger t before account
              rows)).within;
          within_left = λ ledger left h. (told ledger left h).within;
          limit = λ e. absurd (no_fault e);
          limit_left = λ e. absurd (no_fault e);
          within_rows = says.within;
          limit_rows = says.limit;
          ended = says.ended;
          free = stands.free;
          others = stands.others;
          err = tt;
        }
    settles_spelled (Err fault) says =
        let told = settles_by_ledger session group used_parts t before after (Err fault) later live
        says in
        record {
          rows = tt;
          left = tt;
          by_rows = tt;
          as_of = tt;
          shelf = ap (λ (x : AccountRows). x.shelf) says.err;
          sessions = tt;
          settled = tt;
          settled_left = tt;
          within = tt;
          within_left = tt;
          limit = λ e ledger rows. (told ledger none_left (whole_account ledger t before account
              rows)).limit e;
          limit_left = λ e ledger left h. (told ledger left h).limit e;
          within_rows = tt;
          limit_rows = says.limit;
          ended = says.ended;
          free = tt;
          others = tt;
          err = says.err;
        }

-- ---- debits

module _ (session : List ℕ) (group units t : ℕ) (before after : AccountRows) where
  pub record SpellsDebited (result : Result (Option Settled) AccountFault) : Type 0 where
    pub debit : IfOk result (λ s. (ledger : Ledger) → IsRowsOf ledger before →
        IsDebit before.shelf t session group units ledger after s)
    pub left : IfOk result (λ s. (ledger : Ledger) (left : LeftRows) →
        group_in session group left.groups ≡ None → IsWith ledger left t before →
        IsBeside left t after ×
        IsDebit before.shelf t session group units ledger (joined left after) s)
    pub limit : result ≡ Err Limit → (ledger : Ledger) → IsRowsOf ledger before →
        (is_covered before.shelf t group units ledger ≡ true) ×
        (debit_passes before.shelf t session group units ledger ≡ true)
    pub limit_left : result ≡ Err Limit → (ledger : Ledger) (left : LeftRows) →
        group_in session group left.groups ≡ None → IsWith ledger left t before →
        (is_covered before.shelf t group units ledger ≡ true) ×
        (debit_passes before.shelf t session group units ledger ≡ true)
    pub covered_rows : IfOk result (λ s. is_some s ≡ is_covered_in group units t before)
    pub within_rows : IfOk result
        (λ s. IfSome s (λ given. debit_passes_in session group units t before ≡ false))
    pub limit_rows : result ≡ Err Limit →
        (is_covered_in group units t before ≡ true) ×
        (debit_passes_in session group units t before ≡ true)
    pub by_rows : IfOk result
        (λ s. IfSome s (λ given. after
        ≡ debited_account session group units (rest_price_in group units t before).blocks
        (due_of (rest_price_in group units t before)) (advanced t before)))
    pub uncovered : IfOk result (λ s. s ≡ None → after ≡ before)
    pub number : IfOk result (λ s. IfSome s (λ given. before.next_charge ≤ 4294967295))
    pub as_of : IfOk result (λ s. IfSome s (λ given. after.as_of ≡ t))
    pub new : IfOk result (λ s. (x : List ℕ) → session_in x before.sessions ≡ None →
        session_in x after.sessions ≡ None)
    pub shelf : after.shelf ≡ before.shelf
    pub err : OnErr result (after ≡ before)

  module _ (account : IsAccount before) (later : before.as_of ≤ t) where
    pub debits_spelled : (result : Result (Option Settled) AccountFault) →
        Debits session group units t before after result → SpellsDebited result
    debits_spelled (Ok (Some x)) says =
        let told = debits_by_ledger session group units t before after (Ok (Some x)) later says in
        let stands = left_by_debited session group units t before after x says.debit in
        record {
          debit = λ ledger rows. (told ledger none_left refl (whole_account ledger t before account
              rows)).debit.1;
          left = λ ledger left gone h. (told ledger left gone h).debit;
          limit = λ e. absurd (no_fault e);
          limit_left = λ e. absurd (no_fault e);
          covered_rows = sym says.debit.covered;
          within_rows = says.debit.within;
          limit_rows = says.limit;
          by_rows = says.debit.rows;
          uncovered = λ e. absurd (no_some _ (sym e));
          number = stands.number;
          as_of = stands.as_of;
          new = stands.new;
          shelf = stands.shelf;
          err = tt;
        }
    debits_spelled (Ok None) says =
        let told = debits_by_ledger session group units t before after (Ok None) later says in
        record {
          debit = λ ledger rows. (told ledger none_left refl (whole_account ledger t before account
              rows)).debit.1;
          left = λ ledger left gone h. (told ledger left gone h).debit;
          limit = λ e. absurd (no_fault e);
          limit_left = λ e. absurd (no_fault e);
          covered_rows = sym says.debit.0;
          within_rows = tt;
          limit_rows = says.limit;
          by_rows = tt;
          uncovered = λ e. says.debit.1;
          number = tt;
          as_of = tt;
          new = λ x h. ap (λ (y : AccountRows). session_in x y.sessions) says.debit.1 ∙ h;
          shelf = ap (λ (x : AccountRows). x.shelf) says.debit.1;
          err = tt;
        }
    debits_spelled (Err fault) says =
        let told = debits_by_ledger session group units t before after (Err fault) later says in
        record {
          debit = tt;
          left = tt;
          limit = λ e ledger rows. (told ledger none_left refl (whole_account ledger t before account
              rows)).limit e;
          limit_left = λ e ledger left gone h. (told ledger left gone h).limit e;
          covered_rows = tt;
          within_rows = tt;
          limit_rows = says.limit;
          by_rows = tt;
          uncovered = tt;
          number = tt;
          as_of = tt;
          new = tt;
          shelf = ap (λ (x : AccountRows). x.shelf) says.err;
          err = says.err;
        }

-- ---- reservations

abbrev IsWithinGrant : AccountRows → ℕ → ℕ → Granted → Type 0
IsWithinGrant a t g Nothing = Unit {0}
IsWithinGrant a t g (Units units switch validity fewer) = IsWithin (tariff_at a.shelf t g) units.0

module _ (session : List ℕ) (group : ℕ) (requested : Option ℕ) (t : ℕ)
    (before after : AccountRows) where
  pub record SpellsReserved (result : Result Granted AccountFault) : Type 0 where
    pub rows : IfOk result (λ granted. (ledger : Ledger) → IsRowsOf ledger before →
        GivesGrant before.shelf t session group requested ledger after granted)
    pub left : IfOk result (λ granted. (ledger : Ledger) (left : LeftRows) →
        IsWith ledger left t before → IsBeside left t after ×
        GivesGrant before.shelf t session group requested ledger (joined left after) granted)
    pub by_rows : IfOk result (GivesGrantIn session group t requested before after)
    pub as_of : OnOk result (after.as_of ≡ t)
    pub shelf : after.shelf ≡ before.shelf
    pub sessions : OnOk result (after.sessions ≡ (advanced t before).sessions)
    pub within : IfOk result (IsWithinGrant before t group)
    pub others : OnOk result ((g : ℕ) → (g == group) ≡ false →
        reservation_in session g before.groups ≡ None →
        reservation_in session g after.groups ≡ None)
    pub memory : OnErr result (result ≡ Err Memory)
    pub err : OnErr result (after ≡ before)

  within_granted : (granted : Granted) →
      GivesGrantIn session group t requested before after granted →
      IsWithinGrant before t group granted
  within_granted Nothing is = tt
  within_granted (Units units switch validity fewer) is =
      granted_within session group t requested before after units.0 switch validity fewer is

  module _ (account : IsAccount before) (later : before.as_of ≤ t)
      (live : IsLive before t session) (free : reservation_in session group before.groups ≡ None)
    where
      pub reserves_spelled : (result : Result Granted AccountFault) →
          Reserves session group requested t before after result → SpellsReserved result
      reserves_spelled (Ok granted) says =
          let told = reserves_by_ledger session group requested t before after (Ok granted) later live
          free says in
          let stands = left_by_reserved session group t requested before after granted
          says.granted in
          record {
            rows = λ ledger rows. (told ledger none_left (whole_account ledger t before account
                rows)).1;
            left = λ ledger left h. told ledger left h;
            by_rows = says.granted;
            as_of = stands.as_of;
            shelf = stands.shelf;
            sessions = stands.sessions;
            within = within_granted granted says.granted;
            others = stands.others;
            memory = tt;
            err = tt;
          }
      reserves_spelled (Err fault) says = record {
        rows = tt;
        left = tt;
        by_rows = tt;
        as_of = tt;
        shelf = ap (λ (x : AccountRows). x.shelf) says.err;
        sessions = tt;
        within = tt;
        others = tt;
        memory = says.memory;
        err = says.err;
      }
