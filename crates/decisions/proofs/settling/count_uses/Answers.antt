use Rattle.std.proofs.Common.{◌≡◌, ◌+◌, ◌++◌, List, ◌∷◌, [], drop, true, false, sym, ap, ◌∙◌, subst}
use Rattle.std.proofs.Common.{arith, rules, Option}
use Rattle.std.specs.Prelude.{◌||◌, is_some, if◌then◌else◌}
use Rattle.std.proofs.Math.ListN.{drop_of_length-le}
use Rattle.std.proofs.lemmas.List.{append-nil, append_assoc}
use Rattle.shelves.specs.Shelves.{Shelf, book_at}
use Rattle.commands.specs.declared.service.Service.{Service}
use Rattle.reserving.specs.declared.settle.CountedUse.{CountedUse}
use Rattle.decisions.specs.Parts.{service_passes_after, service_charges, any_passes_after}
use Rattle.decisions.specs.Counted.{AreCounted}
use Rattle.decisions.proofs.Services.{first_left}
use Rattle.decisions.proofs.Passing.{any_passes-after}
use Rattle.decisions.proofs.Counted.{counts_one, use_charges}
use Rattle.decisions.proofs.settling.count_uses.Goals as goal

pub loop-service-preserved : goal.loop-service-preserved
loop-service-preserved c =
    let shelf : Shelf = c.args.account.now.shelf in
    let x : Service = c.service-item.result in
    let rest : List Service = drop (c.loop-service.service-index + 1) c.args.services.now in
    let more : drop c.loop-service.service-index c.args.services.now ≡ x ∷ rest =
    first_left c.args.services.now c.loop-service.service-index x
    (omega arith) c.service-item.is in
    let u : Option CountedUse = c.in_ok-counted.counted in
    let own : (if is_some u then 1 else 0) ≡ service_charges (book_at shelf c.args.asked.now.moment) x =
    use_charges c.args.asked.now.session.now c.loop-service.charges c.args.asked.now.moment
    c.args.account.now x u c.in_ok-counted.ensures.counted in
    record {
      passes = λ ledger left h.
          let now : service_passes_after c.loop-service.charges shelf c.args.asked.now.moment
          c.args.asked.now.session.now x ledger ≡ false =
          sym (c.count_service.ensures.passes ledger left h) ∙ (search rules) in
          c.loop-service.invariant.passes ledger left h
          ∙ ap (λ ys. any_passes_after c.loop-service.charges shelf c.args.asked.now.moment
          c.args.asked.now.session.now ys ledger) more
          ∙ (λ i. now i || any_passes_after
          (c.loop-service.charges + service_charges (book_at shelf c.args.asked.now.moment) x) shelf
          c.args.asked.now.moment c.args.asked.now.session.now rest ledger)
          ∙ ap (λ n. any_passes_after (c.loop-service.charges + n) shelf c.args.asked.now.moment
          c.args.asked.now.session.now rest ledger) (sym (c.charge_count-charges.ensures.value ∙ own));
      few = omega (arith, c.loop-service.invariant.few, c.charge_count-charges.ensures.most);
      counted = λ later full h.
          let both = c.push_if-room.ensures full in
          let one : AreCounted c.args.asked.now.session.now c.loop-service.charges
          c.args.asked.now.moment c.args.account.now (x ∷ rest) (u ∷ later) =
          counts_one c.args.asked.now.session.now c.loop-service.charges c.charge_count-charges.result
          c.args.asked.now.moment c.args.account.now x rest u later
          c.in_ok-counted.ensures.counted c.charge_count-charges.ensures.value h in
          subst (AreCounted c.args.asked.now.session.now 0 c.args.asked.now.moment
          c.args.account.now c.args.services.now)
          (sym (append_assoc c.loop-service.uses.items (u ∷ []) later)
          ∙ ap (λ us. us ++ later) (sym both.1))
          (c.loop-service.invariant.counted (u ∷ later) both.0
          (subst (λ ys. AreCounted c.args.asked.now.session.now c.loop-service.charges
          c.args.asked.now.moment c.args.account.now ys (u ∷ later)) (sym more) one));
    }

pub returns-in_err-counted-clause-limit : goal.returns-in_err-counted-clause-limit
returns-in_err-counted-clause-limit c = λ e ledger left h.
    let shelf : Shelf = c.args.account.now.shelf in
    let x : Service = c.service-item.result in
    let rest : List Service = drop (c.loop-service.service-index + 1) c.args.services.now in
    let more : drop c.loop-service.service-index c.args.services.now ≡ x ∷ rest =
    first_left c.args.services.now c.loop-service.service-index x
    (omega arith) c.service-item.is in
    let now : service_passes_after c.loop-service.charges shelf c.args.asked.now.moment
    c.args.asked.now.session.now x ledger ≡ true =
    sym (c.count_service.ensures.passes ledger left h) ∙ (search rules) in
    any_passes-after shelf c.args.asked.now.moment c.args.asked.now.session.now
    c.args.services.now ledger c.requires.apart
    ∙ c.loop-service.invariant.passes ledger left h
    ∙ ap (λ ys. any_passes_after c.loop-service.charges shelf c.args.asked.now.moment
    c.args.asked.now.session.now ys ledger) more
    ∙ (λ i. now i || any_passes_after
    (c.loop-service.charges + service_charges (book_at shelf c.args.asked.now.moment) x) shelf
    c.args.asked.now.moment c.args.asked.now.session.now rest ledger)

pub returns-then-room-clause-counted : goal.returns-then-room-clause-counted
returns-then-room-clause-counted c =
    let ended : drop c.loop-service.service-index c.args.services.now ≡ [] =
    drop_of_length-le c.args.services.now c.loop-service-test.false in
    subst (AreCounted c.args.asked.now.session.now 0 c.args.asked.now.moment c.args.account.now
    c.args.services.now) (append-nil c.loop-service.uses.items)
    (c.loop-service.invariant.counted [] c.if-room.true
    (subst (λ ys. AreCounted c.args.asked.now.session.now c.loop-service.charges
    c.args.asked.now.moment c.args.account.now ys []) (sym ended) tt))

pub returns-then-room-clause-within : goal.returns-then-room-clause-within
returns-then-room-clause-within c = λ none ledger left h.
    let ended : drop c.loop-service.service-index c.args.services.now ≡ [] =
    drop_of_length-le c.args.services.now c.loop-service-test.false in
    any_passes-after c.args.account.now.shelf c.args.asked.now.moment c.args.asked.now.session.now
    c.args.services.now ledger c.requires.apart
    ∙ c.loop-service.invariant.passes ledger left h
    ∙ ap (λ ys. any_passes_after c.loop-service.charges c.args.account.now.shelf
    c.args.asked.now.moment c.args.asked.now.session.now ys ledger) ended

pub returns-else-room-clause-within : goal.returns-else-room-clause-within
returns-else-room-clause-within c = λ none ledger left h.
    let ended : drop c.loop-service.service-index c.args.services.now ≡ [] =
    drop_of_length-le c.args.services.now c.loop-service-test.false in
    any_passes-after c.args.account.now.shelf c.args.asked.now.moment c.args.asked.now.session.now
    c.args.services.now ledger c.requires.apart
    ∙ c.loop-service.invariant.passes ledger left h
    ∙ ap (λ ys. any_passes_after c.loop-service.charges c.args.account.now.shelf
    c.args.asked.now.moment c.args.asked.now.session.now ys ledger) ended
