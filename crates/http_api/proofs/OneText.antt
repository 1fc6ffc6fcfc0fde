-- A connection in which each request gets what is due is one function of its stream, of the
-- commands accepted before and of the moments that the clock gave.
use Rattle.std.proofs.Common.{◌≡◌, ◌≤◌, ◌<◌, ◌+◌, ℕ, zero, suc, Bool, true, false, List, [], ◌∷◌}
use Rattle.std.proofs.Common.{◌++◌, length, take, drop, length-append, refl, sym, ap, subst, ◌∙◌}
use Rattle.std.proofs.Common.{arith, inl, inr, Option, None, Ok, Err}
use Rattle.std.specs.Prelude.{nat_lt}
use Rattle.std.proofs.lemmas.Bool.{ltb-true, ltb-false}
use Rattle.std.proofs.Math.Seq.{take-append_seam, drop-append_seam}
use Rattle.shelves.specs.Shelves.{Shelf}
use Rattle.charging.specs.Accepted.{Accepted}
use Rattle.http_messages.proofs.OneNext.{next_is_one}
use Rattle.http_messages.proofs.Refusals.{refused_says}
use Rattle.http_messages.specs.Parts.{first_part}
use Rattle.http_messages.specs.Requests.{Next, asks, refused, ended, IsNextRequest}
use Rattle.http_messages.specs.Asking.{Asking, refuses, reads, states}
use Rattle.http_messages.specs.Table.{asked_of}
use Rattle.http_api.specs.Replies.{Reply, IsDue, IsReply}
use Rattle.http_api.specs.ReplyParts.{reply_at, statement_at}
use Rattle.http_api.specs.Connections.{Connection, new_connection, after_reply, IsOver}
use Rattle.http_api.specs.ReplyParts.{requests_left_after}
use Rattle.http_api.specs.Connections.{IsRequestAnswered, Takes}
use Rattle.http_api.specs.OneText.{GetsDue, NextGetsDue, IsDueTurn, DueTurns, DueTurnsAreTurns}
use Rattle.http_api.specs.OneText.{TextIsOne, TurnsAreOne}
use Rattle.http_api.proofs.Statuses.{SaysStatus, asked_says, reply_says}

-- ---- what is due is a reply

due_is_reply : (b : Shelf) (list : List Accepted) (asking : Asking) (moments : List (Option ℕ))
    (reply : Reply) → IsDue b list asking moments reply → IsReply b list asking moments reply
due_is_reply b list (refuses code) moments reply due = due
due_is_reply b list (reads read) moments reply due = inl due
due_is_reply b list (states q) moments reply due = inl due

answered : (b : Shelf) (asking : Asking) (closes : Bool) (rest : List ℕ) (old new : Connection) →
    SaysStatus asking → GetsDue b asking closes rest old new →
    IsRequestAnswered b asking closes rest old new
answered b asking closes rest old new says gets =
    let is = due_is_reply b old.list asking gets.moments gets.reply gets.due in
    record {
      moments = gets.moments;
      reply = gets.reply;
      is_reply = is;
      status = reply_says b old.list asking gets.moments gets.reply says is;
      after = gets.after;
    }

takes : (b : Shelf) (next : Next) (old new : Connection) → IsNextRequest old.rest next →
    NextGetsDue b next old new → Takes b next old new
takes b (asks ask rest) old new is gets =
    answered b (asked_of ask) ask.closes rest old new (asked_says ask) gets
takes b (refused status) old new is gets = answered b (refuses status) true [] old new
    (refused_says (first_part old.rest) status is) gets
takes b ended old new is gets = absurd gets

-- rule: http-text
pub are_turns : DueTurnsAreTurns
are_turns b zero first last turns = turns
are_turns b (suc n) first last (between, turns, turn) = (
  between,
  are_turns b n first between turns,
  record {
    taken = turn.taken;
    next = turn.next;
    is_next = turn.is_next;
    takes = takes b turn.next between last turn.is_next turn.gets;
  },
)

-- ---- how often the clock is asked is known by what is asked

abbrev count_of : Asking → ℕ
count_of (refuses code) = 0
count_of (reads (Err fault)) = 0
count_of (reads (Ok c)) = 1
count_of (states q) = 1

due_count : (b : Shelf) (list : List Accepted) (asking : Asking) (ms : List (Option ℕ))
    (reply : Reply) → IsDue b list asking ms reply → length ms ≡ count_of asking
due_count b list (refuses code) ms reply due = ap length due.0
due_count b list (reads (Err fault)) ms reply due = ap length due.0
due_count b list (reads (Ok c)) ms reply due = ap length due.1
due_count b list (states q) ms reply due = ap length due.1

abbrev head_of : List (Option ℕ) → Option ℕ
head_of [] = None
head_of (m ∷ ms) = m

-- and the reply by the moments that it gave
one_reply : (b : Shelf) (list : List Accepted) (asking : Asking) (ms : List (Option ℕ))
    (x y : Reply) → IsDue b list asking ms x → IsDue b list asking ms y → x ≡ y
one_reply b list (refuses code) ms x y p q = p.1 ∙ sym q.1
one_reply b list (reads (Err fault)) ms x y p q = p.1 ∙ sym q.1
one_reply b list (reads (Ok c)) ms x y p q =
    p.2 ∙ ap (λ m. reply_at b list c m) (ap head_of (sym p.1 ∙ q.1)) ∙ sym q.2
one_reply b list (states a) ms x y p q =
    p.2 ∙ ap (λ m. statement_at b list a m) (ap head_of (sym p.1 ∙ q.1)) ∙ sym q.2

-- ---- two connections that have the same to read

record SameRest (x y : Connection) : Type 0 where
  left : x.left ≡ y.left
  rest : x.rest ≡ y.rest
  count : length x.moments ≡ length y.moments

-- what came of one is what came of the other, once the clock gave the same moments
abbrev SameIfSo : Connection → Connection → Type 0
SameIfSo x y = x.moments ≡ y.moments → x ≡ y

-- lists of moments are split where they are equally long
split_moments : (us bs cs ds : List (Option ℕ)) → length us ≡ length bs → us ++ cs ≡ bs ++ ds →
    (us ≡ bs) × (cs ≡ ds)
split_moments us bs cs ds long same = (
  sym (take-append_seam us cs) ∙ ap (take (length us)) same ∙ ap (λ n. take n (bs ++ ds)) long
      ∙ take-append_seam bs ds,
  sym (drop-append_seam us cs) ∙ ap (drop (length us)) same ∙ ap (λ n. drop n (bs ++ ds)) long
      ∙ drop-append_seam bs ds,
)

-- what was asked is the same; so is what is left, and the rest
got_alike : (b : Shelf) (asking : Asking) (closes : Bool) (rest : List ℕ)
    (u v x y : Connection) → SameRest u v → SameIfSo u v → GetsDue b asking closes rest u x →
    GetsDue b asking closes rest v y → SameRest x y × SameIfSo x y
got_alike b asking closes rest u v x y same one gx gy =
    let few : length gx.moments ≡ length gy.moments =
    due_count b u.list asking gx.moments gx.reply gx.due
    ∙ sym (due_count b v.list asking gy.moments gy.reply gy.due) in (
      record {
        left = ap (λ (c : Connection). c.left) gx.after ∙ ap (requests_left_after closes) same.left
            ∙ sym (ap (λ (c : Connection). c.left) gy.after);
        rest = ap (λ (c : Connection). c.rest) gx.after
            ∙ sym (ap (λ (c : Connection). c.rest) gy.after);
        count = ap (λ (c : Connection). length c.moments) gx.after
            ∙ length-append u.moments gx.moments ∙ (λ i. same.count i + few i)
            ∙ sym (length-append v.moments gy.moments)
            ∙ sym (ap (λ (c : Connection). length c.moments) gy.after);
      },
      λ moments.
          let parts = split_moments u.moments v.moments gx.moments gy.moments same.count
          (sym (ap (λ (c : Connection). c.moments) gx.after) ∙ moments
          ∙ ap (λ (c : Connection). c.moments) gy.after) in
          let before : u ≡ v = one parts.0 in
          let reply : gx.reply ≡ gy.reply = one_reply b v.list asking gy.moments gx.reply gy.reply
          (subst (λ ms. IsDue b v.list asking ms gx.reply) parts.1
          (subst (λ (c : Connection). IsDue b c.list asking gx.moments gx.reply) before gx.due))
          gy.due in
          gx.after
          ∙ (λ i. after_reply (before i) closes rest (parts.1 i) (reply i)) ∙ sym gy.after,
    )

-- a turn of both
turned_alike : (b : Shelf) (next : Next) (u v x y : Connection) → SameRest u v → SameIfSo u v →
    NextGetsDue b next u x → NextGetsDue b next v y → SameRest x y × SameIfSo x y
turned_alike b (asks ask rest) u v x y same one gx gy =
    got_alike b (asked_of ask) ask.closes rest u v x y same one gx gy
turned_alike b (refused status) u v x y same one gx gy =
    got_alike b (refuses status) true [] u v x y same one gx gy
turned_alike b ended u v x y same one gx gy = absurd gx

one_turn : (b : Shelf) (u v x y : Connection) → SameRest u v → SameIfSo u v → IsDueTurn b u x →
    IsDueTurn b v y → SameRest x y × SameIfSo x y
one_turn b u v x y same one tx ty =
    let next : ty.next ≡ tx.next = next_is_one v.rest ty.next tx.next ty.is_next
    (subst (λ r. IsNextRequest r tx.next) same.rest tx.is_next) in
    turned_alike b tx.next u v x y same one tx.gets
    (subst (λ n. NextGetsDue b n v y) next ty.gets)

-- so many turns of both
alike : (b : Shelf) (n : ℕ) (first x y : Connection) → DueTurns b n first x →
    DueTurns b n first y → SameRest x y × SameIfSo x y
alike b zero first x y tx ty =
    let same : x ≡ y = tx ∙ sym ty in (
      record {
        left = ap (λ (c : Connection). c.left) same;
        rest = ap (λ (c : Connection). c.rest) same;
        count = ap (λ (c : Connection). length c.moments) same;
      },
      λ moments. same,
    )
alike b (suc n) first x y (u, tu, tx) (v, tv, ty) =
    let before = alike b n first u v tu tv in
    one_turn b u v x y before.0 before.1 tx ty

-- rule: http-text
pub text_is_one : TextIsOne
text_is_one b n stream list x y tx ty moments =
    let same : x ≡ y = (alike b n (new_connection stream list) x y tx ty).1 moments in
    (ap (λ (c : Connection). c.written) same, ap (λ (c : Connection). c.list) same)

-- ---- to its end

-- the connection after fewer turns, and one turn more
record IsEarlier (b : Shelf) (n : ℕ) (first : Connection) : Type 0 where
  before : Connection
  turns : DueTurns b n first before
  after : Connection
  turn : IsDueTurn b before after

earlier : (b : Shelf) (n m : ℕ) (first y : Connection) → n < m → DueTurns b m first y →
    IsEarlier b n first
earlier b n zero first y less turns = absurd (omega (arith, less))
earlier b n (suc m) first y less (v, turns, turn) =
    by (nat_lt n m) refl (λ fewer. earlier b n m first v fewer turns)
  where
    by : (t : Bool) → nat_lt n m ≡ t → (n < m → IsEarlier b n first) → IsEarlier b n first
    by true lt on = on (ltb-true n m lt)
    by false lt on =
        let most : m ≤ n = ltb-false n m lt in
        let same : m ≡ n = omega (arith, less, most) in
        record {
          before = v;
          turns = subst (λ k. DueTurns b k first v) same turns;
          after = y;
          turn = turn;
        }

no_turn : (b : Shelf) (v w x : Connection) → SameRest x v → IsOver x → IsDueTurn b v w → ⊥
no_turn b v w x same (inl none) turn = omega (arith, turn.taken, same.left, none)
no_turn b v w x same (inr over) turn =
    let next : turn.next ≡ ended = next_is_one v.rest turn.next ended turn.is_next
    (subst (λ r. IsNextRequest r ended) same.rest over) in
    subst (λ n. NextGetsDue b n v w) next turn.gets

not_fewer : (b : Shelf) (n m : ℕ) (first x y : Connection) → DueTurns b n first x →
    DueTurns b m first y → IsOver x → n < m → ⊥
not_fewer b n m first x y tx ty over less =
    let sooner : IsEarlier b n first = earlier b n m first y less ty in
    let both = alike b n first x sooner.before tx sooner.turns in
    no_turn b sooner.before sooner.after x both.0 over sooner.turn

by_counts : (b : Shelf) (n m : ℕ) (first x y : Connection) → DueTurns b n first x →
    DueTurns b m first y → IsOver x → IsOver y → n ≡ m
by_counts b n m first x y tx ty ox oy = by (nat_lt n m) refl (nat_lt m n) refl
  where
    by : (s : Bool) → nat_lt n m ≡ s → (t : Bool) → nat_lt m n ≡ t → n ≡ m
    by true s t r = absurd (not_fewer b n m first x y tx ty ox (ltb-true n m s))
    by false s true r = absurd (not_fewer b m n first y x ty tx oy (ltb-true m n r))
    by false s false r = omega (arith, ltb-false n m s, ltb-false m n r)

-- rule: http-text
pub turns_are_one : TurnsAreOne
turns_are_one b n m stream list x y tx ty ox oy =
    by_counts b n m (new_connection stream list) x y tx ty ox oy
