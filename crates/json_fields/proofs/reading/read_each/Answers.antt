use Rattle.std.proofs.Common.{refl, ◌≡◌, ◌<◌, ◌≤◌, length, get_or, Ok}
use Rattle.std.proofs.lemmas.Result.{err_from_is_err_and}
use Rattle.json_fields.specs.View.{view}
use Rattle.json_fields.specs.Gives.{Fails}
use Rattle.json_fields.proofs.Loop.{goes_on, fails_at, is_done}
use Rattle.json_fields.proofs.reading.read_each.Goals as goal

pub loop-value-init : goal.loop-value-init
loop-value-init g c = λ says reads. rw c.in_ok-done.ensures.items refl

pub returns-in_err-read : goal.returns-in_err-read
returns-in_err-read g c = λ says reads.
    let p =
    err_from_is_err_and c.from_residual-in_err-read.result c.from_residual-in_err-read.ensures.1 in
    let vs = c.args.list.now.items in
    let lt : c.loop-value.value-index < length vs =
    rw (← c.deref-value-items.ensures.value) c.loop-value-test.true in
    let is : c.value-item.result ≡ get_or vs c.loop-value.value-index c.value-item.result =
    rw (← c.deref-value-items.ensures.value) c.value-item.is in
    let fault : Fails c.in_err-read.field-0.0
    (says c.loop-value.done.items (view c.value-item.result)) =
    rw (← c.deref.ensures.value) (reads _ _ _ c.in_err-read.ensures) in
    rw (p.1, p.2) (fails_at says c.in_err-read.field-0.0 c.loop-value.done.items vs
    c.loop-value.value-index c.value-item.result _ lt is fault (c.loop-value.invariant says reads))

pub loop-value-preserved : goal.loop-value-preserved
loop-value-preserved g c = λ says reads.
    let vs = c.args.list.now.items in
    let lt : c.loop-value.value-index < length vs =
    rw (← c.deref-value-items.ensures.value) c.loop-value-test.true in
    let is : c.value-item.result ≡ get_or vs c.loop-value.value-index c.value-item.result =
    rw (← c.deref-value-items.ensures.value) c.value-item.is in
    let here : says c.loop-value.done.items (view c.value-item.result) ≡ Ok c.in_ok-read.field-0 =
    rw (← c.deref.ensures.value) (reads _ _ _ c.in_ok-read.ensures) in
    rw c.in_ok-push.ensures.items (goes_on says c.loop-value.done.items vs c.loop-value.value-index
    c.value-item.result c.in_ok-read.field-0 _ lt is here (c.loop-value.invariant says reads))

pub returns : goal.returns
returns g c = λ says reads.
    let le : length c.args.list.now.items ≤ c.loop-value.value-index =
    rw (← c.deref-value-items.ensures.value) c.loop-value-test.false in
    is_done says c.loop-value.done.items c.args.list.now.items c.loop-value.value-index _ le
    (c.loop-value.invariant says reads)
