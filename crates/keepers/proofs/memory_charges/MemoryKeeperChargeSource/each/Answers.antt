use Rattle.std.proofs.Common.{rules, refl, sym, ◌∙◌}
use Rattle.keepers.proofs.memory_charges.MemoryKeeperChargeSource.each.Goals as goal

pub returns-clause-reads : goal.returns-clause-reads
returns-clause-reads g c = record {
  found = λ clean all are.
      c.show_in_order.ensures.sees all (record {
        rising = are.rising;
        listed = λ n. are.listed n ∙ sym (c.charges-rows.ensures n);
      });
  same = λ clean. refl;
  cleanness = λ clean. clean;
  honesty = λ honest. honest;
  stands = λ honest. honest;
  left = λ honest t may. may;
  cause = search rules;
}
