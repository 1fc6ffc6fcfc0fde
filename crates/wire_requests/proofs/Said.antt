-- What is read of a request is said by its members.
use Rattle.std.proofs.Common.{◌≡◌, ℕ, List, Bool, true, false, Option, Some, None, ◌&&◌, Result, Ok}
use Rattle.std.proofs.Common.{refl, sym, ap, ◌∙◌, subst, nat_le, leb-true, ◌≤◌, arith}
use Rattle.std.proofs.lemmas.Bool.{and_parts}
use Rattle.std.specs.Prelude.{option_and_then, ◌==◌, if◌then◌else◌}
use Rattle.std.specs.Cmp.{unsigned_Decides}
use Rattle.serde_json.specs.Data.{Data}
use Rattle.serde_json.specs.Find.{get, as_number, as_u64, as_str, as_object}
use Rattle.identifiers.specs.Texts.{is_session_id, is_account_number}
use Rattle.commands.specs.declared.avp.Avp.{Avp}
use Rattle.commands.specs.declared.avp.Avp.TheVariants as avp
use Rattle.commands.specs.declared.request.RequestKind.{RequestKind}
use Rattle.commands.specs.declared.request.RequestKind.TheVariants as kind
use Rattle.commands.specs.declared.request.EventAction.{EventAction}
use Rattle.commands.specs.declared.request.Ask.{Ask}
use Rattle.commands.specs.declared.request.Ask.TheVariants as ask
use Rattle.commands.specs.declared.request.Request.{Request}
use Rattle.commands.specs.Names.{name_of}
use Rattle.commands.specs.Codes.{kind_number, kind_numbered, kind_of_ask, action_numbered}
use Rattle.commands.proofs.Inverses.{are_tables}
use Rattle.json_fields.specs.declared.fault.WireFault.{WireFault}
use Rattle.json_fields.specs.declared.fault.WireFault.TheVariants.{Missing, Invalid}
use Rattle.json_fields.specs.Gives.{◌>>=◌, or_fault}
use Rattle.json_fields.specs.Fields.{member_at, number_at, text_at, object_at}
use Rattle.json_fields.proofs.Kept.{same_value, bind_ok, where_ok}
use Rattle.wire_requests.specs.declared.phase.Phase.TheVariants.{Initial, Update, Termination}
use Rattle.wire_requests.specs.Refunds.{refund_at}
use Rattle.wire_requests.specs.Phases.{services_at}
use Rattle.wire_requests.specs.Reading.{session_at, kind_at, account_at, event_of, event_at}
use Rattle.wire_requests.specs.Reading.{action_at, ask_at, request_in}
use Rattle.wire_requests.specs.Said.{SaysText, SaysNumber, SaysAccount, SaysHead}

pub or_found : {A : Type 0} (e : WireFault) (o : Option A) (v : A) →
    or_fault e o ≡ Ok v → o ≡ Some v
or_found e None v h = absurd (cc)
or_found e (Some x) v h = ap Some (same_value x v h)

pub text_said : (a : Avp) (d : Data) (s : List ℕ) → text_at a d ≡ Ok s → SaysText a s d
unfolding text_at member_at
text_said a d s h =
    let v = bind_ok (member_at a d) _ s h in
    record {
      value = v.0;
      stands = or_found (Missing a) (get (name_of a) d) v.0 v.1;
      is = or_found (Invalid a) (as_str v.0) s v.2;
    }

pub number_said : (a : Avp) (low high : ℕ) (d : Data) (n : ℕ) → number_at a low high d ≡ Ok n →
    SaysNumber a n d
unfolding number_at member_at
number_said a low high d n h =
    let v = bind_ok (member_at a d) _ n h in
    let m = bind_ok (or_fault (Invalid a) (option_and_then as_u64 (as_number v.0))) _ n v.2 in
    let is = where_ok (nat_le low m.0 && nat_le m.0 high) (Invalid a) m.0 n m.2 in
    record {
      value = v.0;
      stands = or_found (Missing a) (get (name_of a) d) v.0 v.1;
      is = or_found (Invalid a) (option_and_then as_u64 (as_number v.0)) m.0 m.1 ∙ ap Some is.1;
    }

session_said : (d : Data) (s : List ℕ) → session_at d ≡ Ok s → SaysText avp.SessionId s d
unfolding session_at
session_said d s h =
    let t = bind_ok (text_at avp.SessionId d) _ s h in
    text_said avp.SessionId d s
    (t.1 ∙ ap Ok (where_ok (is_session_id t.0) (Invalid avp.SessionId) t.0 s t.2).1)

type_zero : (d : Data) (n : ℕ) → number_at avp.SubscriptionIdType 0 0 d ≡ Ok n → n ≡ 0
unfolding number_at member_at
type_zero d n h =
    let v = bind_ok (member_at avp.SubscriptionIdType d) _ n h in
    let m = bind_ok (or_fault (Invalid avp.SubscriptionIdType)
    (option_and_then as_u64 (as_number v.0))) _ n v.2 in
    let is = where_ok (nat_le 0 m.0 && nat_le m.0 0) (Invalid avp.SubscriptionIdType) m.0 n m.2 in
    let most : m.0 ≤ 0 = leb-true m.0 0 (and_parts (nat_le 0 m.0) (nat_le m.0 0) is.0).1 in
    sym is.1 ∙ omega (arith, most)

account_said : (d : Data) (n : List ℕ) → account_at d ≡ Ok n → SaysAccount n d
unfolding account_at object_at member_at
account_said d n h =
    let s = bind_ok (object_at avp.SubscriptionId d) _ n h in
    let v = bind_ok (member_at avp.SubscriptionId d) _ s.0 s.1 in
    let m = bind_ok (or_fault (Invalid avp.SubscriptionId) (as_object v.0)) _ s.0 v.2 in
    let t = bind_ok (number_at avp.SubscriptionIdType 0 0 s.0) _ n s.2 in
    let x = bind_ok (text_at avp.SubscriptionIdData s.0) _ n t.2 in
    let zero : SaysNumber avp.SubscriptionIdType t.0 s.0 =
    number_said avp.SubscriptionIdType 0 0 s.0 t.0 t.1 in
    record {
      value = s.0;
      stands = or_found (Missing avp.SubscriptionId) (get (name_of avp.SubscriptionId) d) v.0 v.1
          ∙ ap Some (same_value v.0 s.0 m.2);
      e164 = subst (λ k. SaysNumber avp.SubscriptionIdType k s.0) (type_zero s.0 t.0 t.1) zero;
      number = text_said avp.SubscriptionIdData s.0 n (x.1
          ∙ ap Ok (where_ok (is_account_number x.0) (Invalid avp.SubscriptionIdData) x.0 n x.2).1);
    }

-- ---- the type

pub either : {A : Type 0} (P : Type 0) (b : Bool) (x y : Result A WireFault) (a : A) →
    (b ≡ true → x ≡ Ok a → P) → (y ≡ Ok a → P) → (if b then x else y) ≡ Ok a → P
either P true x y a f g h = f refl h
either P false x y a f g h = g h

pub equal : (n m : ℕ) → (n == m) ≡ true → m ≡ n
equal n m h = sym ((unsigned_Decides n m).0 h)

kind_said : (n : ℕ) (k : RequestKind) →
    or_fault (Invalid avp.RequestType) (kind_numbered n) ≡ Ok k → n ≡ kind_number k
kind_said n k h =
    sym (are_tables.kinds.back n k (or_found (Invalid avp.RequestType) (kind_numbered n) k h))

event_kind : (action : EventAction) (d : Data) (a : Ask) → event_at action d ≡ Ok a →
    kind_of_ask a ≡ kind.Event
unfolding event_at
event_kind action d a h =
    let v = bind_ok (member_at avp.Services d) _ a h in
    let e = bind_ok (event_of action v.0) _ a v.2 in
    sym (ap kind_of_ask (same_value (ask.Event e.0) a e.2))

refund_kind : (d : Data) (a : Ask) → (refund_at d >>= λ r. Ok (ask.Refund r)) ≡ Ok a →
    kind_of_ask a ≡ kind.Event
refund_kind d a h =
    let r = bind_ok (refund_at d) _ a h in
    sym (ap kind_of_ask (same_value (ask.Refund r.0) a r.2))

action_kind : (n : ℕ) (d : Data) (a : Ask) → action_at n d ≡ Ok a → kind_of_ask a ≡ kind.Event
unfolding action_at
action_kind n d a h =
    either (kind_of_ask a ≡ kind.Event) (n == 1) _ _ a (λ t e. refund_kind d a e)
    (λ e.
    let action = bind_ok (or_fault (Invalid avp.RequestedAction) (action_numbered n)) _ a e in
    event_kind action.0 d a action.2) h

ask_kind : (k : RequestKind) (d : Data) (a : Ask) → ask_at k d ≡ Ok a → kind_of_ask a ≡ k
unfolding ask_at
ask_kind kind.Initial d a h = let s = bind_ok (services_at Initial d) _ a h in
    sym (ap kind_of_ask (same_value (ask.Initial s.0) a s.2))
ask_kind kind.Update d a h = let s = bind_ok (services_at Update d) _ a h in
    sym (ap kind_of_ask (same_value (ask.Update s.0) a s.2))
ask_kind kind.Termination d a h = let s = bind_ok (services_at Termination d) _ a h in
    sym (ap kind_of_ask (same_value (ask.Termination s.0) a s.2))
ask_kind kind.Event d a h = let n = bind_ok (number_at avp.RequestedAction 0 3 d) _ a h in
    action_kind n.0 d a n.2

pub kind_at_said : (d : Data) (k : RequestKind) → kind_at d ≡ Ok k →
    SaysNumber avp.RequestType (kind_number k) d
unfolding kind_at
kind_at_said d k h =
    let n = bind_ok (number_at avp.RequestType 1 4 d) _ k h in
    subst (λ m. SaysNumber avp.RequestType m d) (kind_said n.0 k n.2)
    (number_said avp.RequestType 1 4 d n.0 n.1)

-- ---- the request

pub head_said : (d : Data) (r : Request) → request_in d ≡ Ok r → SaysHead r d
unfolding request_in
head_said d r h =
    let session = bind_ok (session_at d) _ r h in
    let k = bind_ok (kind_at d) _ r session.2 in
    let number = bind_ok (number_at avp.RequestNumber 0 4294967295 d) _ r k.2 in
    let account = bind_ok (account_at d) _ r number.2 in
    let asked = bind_ok (ask_at k.0 d) _ r account.2 in
    let is = same_value _ r asked.2 in
    subst (λ (x : Request). SaysHead x d) is (record {
      session = session_said d session.0 session.1;
      kind = subst (λ (m : RequestKind). SaysNumber avp.RequestType (kind_number m) d)
          (sym (ask_kind k.0 d asked.0 asked.1)) (kind_at_said d k.0 k.1);
      number = number_said avp.RequestNumber 0 4294967295 d number.0 number.1;
      account = account_said d account.0 account.1;
    })
