use Rattle.std.proofs.Common.{rules, arith, ◌≡◌, ℕ, length, ap, ◌*◌}
use Rattle.wal_check.proofs.written_back.has_page.Goals.{then-from-len-via-then-from-len, then-from-len-via-else-from-len+then-len-from}
use Rattle.wal_check.proofs.Pages.{page_lacking, page_there}
use Rattle.wal_check.proofs.written_back.has_page.Goals as goal

pub returns-then-from-len-clause-has : goal.returns-then-from-len-clause-has
returns-then-from-len-clause-has g c clean = (
  λ yes. absurd (cc),
  λ is. absurd (page_lacking _ _ _ _ (c.requires.len clean) (ap (λ (n : ℕ). n * length c.args.page.now) c.saturating_sub.ensures) c.requires.size.0
      (elim c.then-from-len.branch [ then-from-len-via-then-from-len w ↦ omega arith | then-from-len-via-else-from-len+then-len-from w ↦ omega arith ]) is),
)

pub returns-clause-has : goal.returns-clause-has
returns-clause-has g c clean =
    let len : length c.read_at.new.buf ≡ length c.args.page.now = search rules in
    page_there _ _ _ _ _ _ (ap (λ (n : ℕ). n * length c.args.page.now) c.saturating_sub.ensures) (c.in_ok-read_at.ensures.read clean (omega arith)) len c.eq.ensures
