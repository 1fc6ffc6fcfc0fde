-- What an account keeps of an accepted command stays kept whatever commands come, so a repeat is
-- answered by it.
use Rattle.std.proofs.Common.{◌≡◌, ℕ, List, [], ◌∷◌, Option, Some, None, Bool, true, false}
use Rattle.std.proofs.Common.{true≢false, not, refl, sym, ap, subst, ◌∙◌}
use Rattle.std.proofs.lemmas.Option.{none-some}
use Rattle.std.specs.Prelude.{if◌then◌else◌, Result, Ok, Err}
use Rattle.std.specs.List.{find}
use Rattle.std.specs.Cmp.Lexicographic.{bytes_decides}
use Rattle.commands.proofs.Exact.{request_exact, credit_exact, allowance_exact}
use Rattle.commands.proofs.Exact.{redemption_exact}
use Rattle.commands.specs.declared.answer.Answer.{Answer}
use Rattle.commands.specs.declared.answer.Answer.TheVariants as answer
use Rattle.commands.specs.declared.answer.Failure.TheVariants.{UserUnknown, InvalidAvpValue}
use Rattle.commands.specs.declared.answer.Refusal.TheVariants.{ContentDiffers, OutOfRange}
use Rattle.commands.specs.declared.avp.Avp.TheVariants.{RequestNumber}
use Rattle.commands.specs.declared.answer.Refusal.{Refusal}
use Rattle.commands.specs.declared.allowance.Allowance.{Allowance}
use Rattle.commands.specs.declared.command.Command.{Command}
use Rattle.commands.specs.declared.command.Command.TheVariants as command
use Rattle.commands.specs.declared.command.Content.{Content}
use Rattle.commands.specs.declared.command.Content.TheVariants as content
use Rattle.commands.specs.declared.command.Credit.{Credit}
use Rattle.commands.specs.declared.request.Request.{Request}
use Rattle.commands.specs.declared.command.VoucherRedemption.{VoucherRedemption}
use Rattle.commands.specs.Keys.{key_of, key_decides}
use Rattle.voucher_rules.specs.declared.redeeming.Redemption.{Redemption}
use Rattle.voucher_rules.specs.declared.redeeming.RedeemRefusal.{RedeemRefusal}
use Rattle.voucher_rules.specs.declared.voucher.Voucher.{Voucher}
use Rattle.voucher_rules.specs.Adding.{addition}
use Rattle.voucher_rules.specs.Redeeming.{redemption}
use Rattle.shelves.specs.Shelves.{Shelf}
use Rattle.buckets.specs.declared.kind.BucketKind.TheVariants.{Money, Blocks}
use Rattle.ledger.specs.Ledger.{Ledger, next_bucket}
use Rattle.ledger.specs.Requests.{credited}
use Rattle.decisions.specs.Decisions.{Decision, decision, answer_of, is_read}
use Rattle.keepers.specs.declared.kept_answer.KeptAnswer.{KeptAnswer}
use Rattle.charging.specs.Histories.{History, is_kept_under, kept_under}
use Rattle.charging.specs.Accepted.{Accepted, CommandOutcome, one, concerned_by, names}
use Rattle.charging.specs.declared.running.DatedCommand.{DatedCommand}
use Rattle.charging.specs.Outcomes.{only_told, keeping, request_outcome, is_full, credit_outcome}
use Rattle.charging.specs.Outcomes.{book_days, allowance_outcome, redeem_outcome, outcome}
use Rattle.charging.specs.OutcomeParts.{repeated, unless_kept, failed, decided_by, from_of}
use Rattle.charging.specs.OutcomeParts.{until_of, is_out_of_range, new_credit, refused_as, begin_of}
use Rattle.charging.specs.OutcomeParts.{end_of, allowance_refusal, allowed_unless, new_allowance}
use Rattle.charging.specs.OutcomeParts.{redemption_outcome, new_redemption, opened_outcome}
use Rattle.charging.specs.OutcomeParts.{unopened_outcome}
use Rattle.charging.specs.Served.{history, standing, moment_of, accepts, answer_to}
use Rattle.charging.specs.Runs.{after_command, after_commands}
use Rattle.charging.specs.Repeats.{AnswersOnce}
use Rattle.charging.proofs.accounts.NeverOpened.{addition_same}
use Rattle.charging.proofs.repeating.VouchersStay.{added-once}

-- ---- what is kept

-- an account that is there keeps this answer under its key
record Keeps (kept : KeptAnswer) (h : History) : Type 0 where
  there : h.opened ≡ true
  found : kept_under (key_of kept.content) h ≡ Some kept

no : {X : Type 0} → false ≡ true → X
no e = absurd (true≢false (sym e))

-- the newest is found first
found_newest : (kept : KeptAnswer) (older : List KeptAnswer) →
    find (is_kept_under (key_of kept.content)) (kept ∷ older) ≡ Some kept
found_newest kept older =
    ap (λ t. if t then Some kept else find (is_kept_under (key_of kept.content)) older)
    ((key_decides (key_of kept.content) (key_of kept.content)).1 refl)

-- one under whose key nothing was kept hides none
found_older : (kept new : KeptAnswer) (older : List KeptAnswer) →
    find (is_kept_under (key_of new.content)) older ≡ None →
    find (is_kept_under (key_of kept.content)) older ≡ Some kept →
    find (is_kept_under (key_of kept.content)) (new ∷ older) ≡ Some kept
found_older kept new older free found = at (is_kept_under (key_of kept.content) new) refl
  where
    at : (t : Bool) → is_kept_under (key_of kept.content) new ≡ t →
        (if t then Some new else find (is_kept_under (key_of kept.content)) older) ≡ Some kept
    at false e = found
    at true e =
        let same : key_of new.content ≡ key_of kept.content =
        (key_decides (key_of new.content) (key_of kept.content)).0 e in
        absurd (none-some kept (sym free ∙ ap (λ k. find (is_kept_under k) older) same ∙ found))

-- ---- outcomes

if_both : (P : CommandOutcome → Type 0) (test : Bool) (x y : CommandOutcome) → P x → P y →
    P (if test then x else y)
if_both P true x y p q = p
if_both P false x y p q = q

unless_both : (P : CommandOutcome → Type 0) (found : Option KeptAnswer) (new : Content)
    (conflict : Answer)
    (h : History) (fresh : CommandOutcome) →
    ((given : Answer) → P (only_told given h)) → (found ≡ None → P fresh) →
    P (unless_kept found new conflict h fresh)
unless_both P None new conflict h fresh p q = q refl
unless_both P (Some kept) new conflict h fresh p q = p (repeated kept new conflict)

-- a property of what a request comes to on the history of an account that is there
of_request : (P : CommandOutcome → Type 0) (b : Shelf) (r : Request) (t : ℕ) (h : History) →
    ((given : Answer) → P (only_told given h)) →
    ((given : Answer) (ledger : Ledger) → kept_under (key_of (content.Request r)) h ≡ None →
    P (keeping (content.Request r) given ledger h)) → P (request_outcome b r t h)
of_request P b r t h same kept =
    let d : Decision = decision b t r h.ledger in
    let given : Answer = answer.Request (answer_of r d.outcome) in
    let conflict : Answer = failed r (InvalidAvpValue RequestNumber) in
    let found : Option KeptAnswer = kept_under (key_of (content.Request r)) h in
    if_both P (is_read r.ask) (only_told given h)
    (unless_kept found (content.Request r) conflict h (decided_by r d h)) (same given)
    (unless_both P found (content.Request r) conflict h (decided_by r d h) same (λ free.
    if_both P d.accepted (keeping (content.Request r) given d.after h) (only_told given h)
    (kept given d.after free) (same given)))

-- of what a credit comes to
of_credit : (P : CommandOutcome → Type 0) (c : Credit) (t : ℕ) (h : History) →
    ((given : Answer) → P (only_told given h)) →
    ((given : Answer) (ledger : Ledger) → kept_under (key_of (content.Credit c)) h ≡ None →
    P (keeping (content.Credit c) given ledger h)) → P (credit_outcome c t h)
of_credit P c t h same kept =
    let given : Answer = answer.Bucket (next_bucket h.ledger) in
    let ledger : Ledger = credited t Money (from_of c t) (until_of c) c.scope c.amount h.ledger in
    unless_both P (kept_under (key_of (content.Credit c)) h) (content.Credit c)
    (answer.Refused ContentDiffers) h (new_credit c t h) same (λ free.
    if_both P (is_out_of_range c t h.ledger) (only_told (answer.Refused OutOfRange) h)
    (keeping (content.Credit c) given ledger h) (same (answer.Refused OutOfRange))
    (kept given ledger free))

-- of what an allowance comes to
of_allowed : (P : CommandOutcome → Type 0) (o : Option Refusal) (a : Allowance) (t : ℕ)
    (h : History) →
    ((given : Answer) → P (only_told given h)) →
    ((given : Answer) (ledger : Ledger) → P (keeping (content.Allow a) given ledger h)) →
    P (allowed_unless o a t h)
of_allowed P (Some refusal) a t h same kept = same (answer.Refused refusal)
of_allowed P None a t h same kept = kept (answer.Bucket (next_bucket h.ledger))
    (credited t Blocks (begin_of a t) (end_of a) (Some a.scope) a.blocks h.ledger)

of_allowance : (P : CommandOutcome → Type 0) (b : Shelf) (a : Allowance) (t : ℕ) (h : History) →
    ((given : Answer) → P (only_told given h)) →
    ((given : Answer) (ledger : Ledger) → kept_under (key_of (content.Allow a)) h ≡ None →
    P (keeping (content.Allow a) given ledger h)) → P (allowance_outcome b a t h)
of_allowance P b a t h same kept =
    unless_both P (kept_under (key_of (content.Allow a)) h) (content.Allow a)
    (answer.Refused ContentDiffers) h (new_allowance b a t h) same (λ free.
    of_allowed P (allowance_refusal b a t h.ledger) a t h same
    (λ given ledger. kept given ledger free))

-- of what a redemption comes to
of_redeemed : (P : CommandOutcome → Type 0) (o : Result Redemption RedeemRefusal)
    (r : VoucherRedemption)
    (t : ℕ) (h : History) → ((given : Answer) → P (only_told given h)) →
    ((given : Answer) (ledger : Ledger) → P (keeping (content.Redeem r) given ledger h)) →
    P (redemption_outcome o r t h)
of_redeemed P (Err refusal) r t h same kept = same (answer.Refused (refused_as refusal))
of_redeemed P (Ok x) r t h same kept =
    let given : Answer = answer.Bucket (next_bucket h.ledger) in
    let ledger : Ledger = credited t Money x.from x.until x.scope x.amount h.ledger in
    if_both P (is_full h.ledger) (only_told (answer.Refused OutOfRange) h)
    (keeping (content.Redeem r) given ledger h) (same (answer.Refused OutOfRange))
    (kept given ledger)

of_redemption : (P : CommandOutcome → Type 0) (b : Shelf) (s : Option Voucher)
    (r : VoucherRedemption)
    (t : ℕ) (h : History) → ((given : Answer) → P (only_told given h)) →
    ((given : Answer) (ledger : Ledger) → kept_under (key_of (content.Redeem r)) h ≡ None →
    P (keeping (content.Redeem r) given ledger h)) → P (redeem_outcome b s r t h)
of_redemption P b s r t h same kept =
    unless_both P (kept_under (key_of (content.Redeem r)) h) (content.Redeem r)
    (answer.Refused ContentDiffers) h (new_redemption b s r t h) same (λ free.
    of_redeemed P (redemption (book_days b) s r.account t) r t h same
    (λ given ledger. kept given ledger free))

-- ---- the commands between

-- an answer stays kept where another command is kept whose key was free
keeps_kept : (kept new : KeptAnswer) (h : History) (ledger : Ledger) → Keeps kept h →
    kept_under (key_of new.content) h ≡ None →
    Keeps kept (record { opened = h.opened; ledger = ledger; kept = new ∷ h.kept })
keeps_kept kept new h ledger keeps free =
    record { there = keeps.there; found = found_older kept new h.kept free keeps.found }

keeps_opened : (b : Shelf) (kept : KeptAnswer) (s : Option Voucher) (h : History) (c : Command)
    (t : ℕ) → Keeps kept h → Keeps kept (opened_outcome b s h c t).after
keeps_opened b kept s h (command.Ccr r) t keeps =
    of_request (λ o. Keeps kept o.after) b r t h (λ given. keeps)
    (λ given ledger free. keeps_kept kept
    (record { content = content.Request r; answer = given }) h ledger keeps free)
keeps_opened b kept s h (command.OpenAccount n) t keeps = keeps
keeps_opened b kept s h (command.Credit c) t keeps =
    of_credit (λ o. Keeps kept o.after) c t h (λ given. keeps)
    (λ given ledger free. keeps_kept kept
    (record { content = content.Credit c; answer = given }) h ledger keeps free)
keeps_opened b kept s h (command.Allow a) t keeps =
    of_allowance (λ o. Keeps kept o.after) b a t h (λ given. keeps)
    (λ given ledger free. keeps_kept kept
    (record { content = content.Allow a; answer = given }) h ledger keeps free)
keeps_opened b kept s h (command.Bar n) t keeps =
    record { there = keeps.there; found = keeps.found }
keeps_opened b kept s h (command.Unbar n) t keeps =
    record { there = keeps.there; found = keeps.found }
keeps_opened b kept s h (command.AddVoucher v) t keeps =
    subst (Keeps kept) (sym (addition_same (addition s v.terms) h)) keeps
keeps_opened b kept s h (command.Redeem r) t keeps =
    of_redemption (λ o. Keeps kept o.after) b s r t h (λ given. keeps)
    (λ given ledger free. keeps_kept kept
    (record { content = content.Redeem r; answer = given }) h ledger keeps free)
keeps_opened b kept s h command.Sweep t keeps = keeps
keeps_opened b kept s h (command.Balance n) t keeps = keeps

keeps_after : (b : Shelf) (kept : KeptAnswer) (s : Option Voucher) (h : History) (c : Command)
    (t : ℕ) → Keeps kept h → Keeps kept (outcome b s h c t).after
keeps_after b kept s h c t keeps =
    subst (λ o. Keeps kept (if o then opened_outcome b s h c t else unopened_outcome s h c).after)
    (sym keeps.there) (keeps_opened b kept s h c t keeps)

-- an accepted command, of the account or of others
keeps_accepted : (b : Shelf) (kept : KeptAnswer) (a : List ℕ) (list : List Accepted) (d : Accepted)
    (taken : Bool) → Keeps kept (history b a list) →
    Keeps kept (history b a (if taken then d ∷ list else list))
keeps_accepted b kept a list d false keeps = keeps
keeps_accepted b kept a list d true keeps = at (names a (concerned_by d.command))
  where
    at : (named : Bool) → Keeps kept
        (if named then (outcome b (standing b d.command list) (history b a list) d.command
        d.moment).after
        else history b a list)
    at true = keeps_after b kept (standing b d.command list) (history b a list) d.command d.moment
        keeps
    at false = keeps

keeps_through : (b : Shelf) (kept : KeptAnswer) (a : List ℕ) (list : List Accepted)
    (ds : List DatedCommand) → Keeps kept (history b a list) →
    Keeps kept (history b a (after_commands b list ds))
keeps_through b kept a list [] keeps = keeps
keeps_through b kept a list (d ∷ ds) keeps =
    let t : ℕ = moment_of list d.moment in
    keeps_through b kept a (after_command b list d) ds
    (keeps_accepted b kept a list (record { moment = t; command = d.command })
    (accepts b list d.command t) keeps)

-- ---- the first time

-- where it is accepted it is kept with its answer
abbrev IsKeptFirst : Content → CommandOutcome → Type 0
IsKeptFirst new o = o.accepted ≡ true → Keeps (record { content = new; answer = o.answer }) o.after

first_kept : (new : Content) (given : Answer) (ledger : Ledger) (h : History) → h.opened ≡ true →
    IsKeptFirst new (keeping new given ledger h)
first_kept new given ledger h there taken =
    record { there = there; found = found_newest (record { content = new; answer = given }) h.kept }

first_request : (b : Shelf) (r : Request) (t : ℕ) (h : History) →
    IsKeptFirst (content.Request r) (outcome b None h (command.Ccr r) t)
first_request b r t h = at h.opened refl
  where
    at : (there : Bool) → h.opened ≡ there →
        IsKeptFirst (content.Request r)
        (if there then request_outcome b r t h else only_told (failed r UserUnknown) h)
    at true there = of_request (IsKeptFirst (content.Request r)) b r t h (λ given. no)
        (λ given ledger free. first_kept (content.Request r) given ledger h there)
    at false there = no

first_credit : (b : Shelf) (c : Credit) (t : ℕ) (h : History) →
    IsKeptFirst (content.Credit c) (outcome b None h (command.Credit c) t)
first_credit b c t h = at h.opened refl
  where
    at : (there : Bool) → h.opened ≡ there →
        IsKeptFirst (content.Credit c)
        (if there then credit_outcome c t h else unopened_outcome None h (command.Credit c))
    at true there = of_credit (IsKeptFirst (content.Credit c)) c t h (λ given. no)
        (λ given ledger free. first_kept (content.Credit c) given ledger h there)
    at false there = no

first_redemption : (b : Shelf) (s : Option Voucher) (r : VoucherRedemption) (t : ℕ) (h : History) →
    IsKeptFirst (content.Redeem r) (outcome b s h (command.Redeem r) t)
first_redemption b s r t h = at h.opened refl
  where
    at : (there : Bool) → h.opened ≡ there →
        IsKeptFirst (content.Redeem r)
        (if there then redeem_outcome b s r t h else unopened_outcome s h (command.Redeem r))
    at true there = of_redemption (IsKeptFirst (content.Redeem r)) b s r t h (λ given. no)
        (λ given ledger free. first_kept (content.Redeem r) given ledger h there)
    at false there = no

first_allowance : (b : Shelf) (a : Allowance) (t : ℕ) (h : History) →
    IsKeptFirst (content.Allow a) (outcome b None h (command.Allow a) t)
first_allowance b a t h = at h.opened refl
  where
    at : (there : Bool) → h.opened ≡ there →
        IsKeptFirst (content.Allow a)
        (if there then allowance_outcome b a t h else unopened_outcome None h (command.Allow a))
    at true there = of_allowance (IsKeptFirst (content.Allow a)) b a t h (λ given. no)
        (λ given ledger free. first_kept (content.Allow a) given ledger h there)
    at false there = no

-- ---- the repeat

unread : (read : Bool) (x y : CommandOutcome) → not read ≡ true → (if read then x else y) ≡ y
unread true x y e = no e
unread false x y e = refl

-- on a history that keeps it, a command is answered as the first time
repeat_request : (b : Shelf) (r : Request) (given : Answer) (t : ℕ) (h : History) →
    not (is_read r.ask) ≡ true → Keeps (record { content = content.Request r; answer = given }) h →
    outcome b None h (command.Ccr r) t ≡ only_told given h
repeat_request b r given t h key keeps =
    let d : Decision = decision b t r h.ledger in
    let conflict : Answer = failed r (InvalidAvpValue RequestNumber) in
    ap (λ o. if o then request_outcome b r t h else only_told (failed r UserUnknown) h) keeps.there
    ∙ unread (is_read r.ask) (only_told (answer.Request (answer_of r d.outcome)) h)
    (unless_kept (kept_under (key_of (content.Request r)) h) (content.Request r) conflict h
    (decided_by r d h)) key
    ∙ ap (λ found. unless_kept found (content.Request r) conflict h (decided_by r d h)) keeps.found
    ∙ ap (λ same. only_told (if same then given else conflict) h) ((request_exact r r).1 refl)

repeat_credit : (b : Shelf) (c : Credit) (given : Answer) (t : ℕ) (h : History) →
    Keeps (record { content = content.Credit c; answer = given }) h →
    outcome b None h (command.Credit c) t ≡ only_told given h
repeat_credit b c given t h keeps =
    ap (λ o. if o then credit_outcome c t h
    else unopened_outcome None h (command.Credit c)) keeps.there
    ∙ ap (λ found. unless_kept found (content.Credit c) (answer.Refused ContentDiffers) h
    (new_credit c t h)) keeps.found
    ∙ ap (λ same. only_told (if same then given else answer.Refused ContentDiffers) h)
    ((credit_exact c c).1 refl)

repeat_allowance : (b : Shelf) (a : Allowance) (given : Answer) (t : ℕ) (h : History) →
    Keeps (record { content = content.Allow a; answer = given }) h →
    outcome b None h (command.Allow a) t ≡ only_told given h
repeat_allowance b a given t h keeps =
    ap (λ o. if o then allowance_outcome b a t h
    else unopened_outcome None h (command.Allow a)) keeps.there
    ∙ ap (λ found. unless_kept found (content.Allow a) (answer.Refused ContentDiffers) h
    (new_allowance b a t h)) keeps.found
    ∙ ap (λ same. only_told (if same then given else answer.Refused ContentDiffers) h)
    ((allowance_exact a a).1 refl)

repeat_redemption : (b : Shelf) (s : Option Voucher) (r : VoucherRedemption) (given : Answer)
    (t : ℕ) (h : History) → Keeps (record { content = content.Redeem r; answer = given }) h →
    outcome b s h (command.Redeem r) t ≡ only_told given h
repeat_redemption b s r given t h keeps =
    ap (λ o. if o then redeem_outcome b s r t h else unopened_outcome s h (command.Redeem r))
    keeps.there
    ∙ ap (λ found. unless_kept found (content.Redeem r) (answer.Refused ContentDiffers) h
    (new_redemption b s r t h)) keeps.found
    ∙ ap (λ same. only_told (if same then given else answer.Refused ContentDiffers) h)
    ((redemption_exact r r).1 refl)

-- ---- once

-- the history of an account after a command that names it
own_after : (b : Shelf) (a : List ℕ) (list : List Accepted) (d : Accepted) →
    concerned_by d.command ≡ one a → history b a (d ∷ list) ≡
    (outcome b (standing b d.command list) (history b a list) d.command d.moment).after
own_after b a list d named =
    let after : History =
    (outcome b (standing b d.command list) (history b a list) d.command d.moment).after in
    ap (λ who. if names a who then after else history b a list) named
    ∙ ap (λ own. if own then after else history b a list) ((bytes_decides a a).1 refl)

-- so the history after the commands between keeps the command that was accepted
kept_between : (b : Shelf) (kept : KeptAnswer) (a : List ℕ) (list : List Accepted) (c : Command)
    (t : ℕ) (between : List DatedCommand) → concerned_by c ≡ one a →
    Keeps kept (outcome b (standing b c list) (history b a list) c t).after →
    Keeps kept (history b a (after_commands b (record { moment = t; command = c } ∷ list) between))
kept_between b kept a list c t between named keeps =
    let first : Accepted = record { moment = t; command = c } in
    keeps_through b kept a (first ∷ list) between
    (subst (Keeps kept) (sym (own_after b a list first named)) keeps)

-- rule: repeat, repeat.answers-once
pub answers-once : AnswersOnce
answers-once b list (command.Ccr r) t between u key taken =
    let given : Answer = answer_to b list (command.Ccr r) t in
    let kept : KeptAnswer = record { content = content.Request r; answer = given } in
    let after : List Accepted =
    after_commands b (record { moment = t; command = command.Ccr r } ∷ list) between in
    let told_again : outcome b None (history b r.account after) (command.Ccr r) u ≡
    only_told given (history b r.account after) =
    repeat_request b r given u (history b r.account after) key
    (kept_between b kept r.account list (command.Ccr r) t between refl
    (first_request b r t (history b r.account list) taken)) in
    record { answer = λ i. (told_again i).answer; accepted = λ i. (told_again i).accepted }
answers-once b list (command.Credit c) t between u key taken =
    let given : Answer = answer_to b list (command.Credit c) t in
    let kept : KeptAnswer = record { content = content.Credit c; answer = given } in
    let after : List Accepted =
    after_commands b (record { moment = t; command = command.Credit c } ∷ list) between in
    let told_again : outcome b None (history b c.account after) (command.Credit c) u ≡
    only_told given (history b c.account after) =
    repeat_credit b c given u (history b c.account after)
    (kept_between b kept c.account list (command.Credit c) t between refl
    (first_credit b c t (history b c.account list) taken)) in
    record { answer = λ i. (told_again i).answer; accepted = λ i. (told_again i).accepted }
answers-once b list (command.OpenAccount n) t between u key taken = no key
answers-once b list (command.Allow a) t between u key taken =
    let given : Answer = answer_to b list (command.Allow a) t in
    let kept : KeptAnswer = record { content = content.Allow a; answer = given } in
    let after : List Accepted =
    after_commands b (record { moment = t; command = command.Allow a } ∷ list) between in
    let told_again : outcome b None (history b a.account after) (command.Allow a) u ≡
    only_told given (history b a.account after) =
    repeat_allowance b a given u (history b a.account after)
    (kept_between b kept a.account list (command.Allow a) t between refl
    (first_allowance b a t (history b a.account list) taken)) in
    record { answer = λ i. (told_again i).answer; accepted = λ i. (told_again i).accepted }
answers-once b list (command.Bar n) t between u key taken = no key
answers-once b list (command.Unbar n) t between u key taken = no key
answers-once b list (command.AddVoucher v) t between u key taken =
    let once = added-once b list v t between u taken in
    record { answer = once.answer; accepted = once.accepted }
answers-once b list (command.Redeem r) t between u key taken =
    let given : Answer = answer_to b list (command.Redeem r) t in
    let kept : KeptAnswer = record { content = content.Redeem r; answer = given } in
    let after : List Accepted =
    after_commands b (record { moment = t; command = command.Redeem r } ∷ list) between in
    let told_again : outcome b (standing b (command.Redeem r) after) (history b r.account after)
    (command.Redeem r) u ≡ only_told given (history b r.account after) =
    repeat_redemption b (standing b (command.Redeem r) after) r given u (history b r.account after)
    (kept_between b kept r.account list (command.Redeem r) t between refl
    (first_redemption b (standing b (command.Redeem r) list) r t (history b r.account list)
    taken)) in
    record { answer = λ i. (told_again i).answer; accepted = λ i. (told_again i).accepted }
answers-once b list command.Sweep t between u key taken = no key
answers-once b list (command.Balance n) t between u key taken = no key
