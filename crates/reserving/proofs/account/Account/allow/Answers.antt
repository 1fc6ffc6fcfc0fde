use Rattle.std.proofs.Common.{Some, refl}
use Rattle.buckets.specs.declared.kind.BucketKind.TheVariants.{Blocks}
use Rattle.std.proofs.Common.{sym, ap, ◌∙◌, subst}
use Rattle.reserving.specs.Rows.{IsRowsOf}
use Rattle.ledger.specs.Requests.{credited}
use Rattle.reserving.specs.Changes.{advanced}
use Rattle.reserving.proofs.Crediting.{IsRowsOf-credited}
use Rattle.reserving.specs.Left.{IsWith}
use Rattle.reserving.specs.Rows.{AccountRows}
use Rattle.reserving.proofs.left.Credited.{with_credited}
use Rattle.reserving.proofs.account.Account.allow.Goals as goal

pub returns : goal.returns
returns c = record {
  rows =
      c.advance.ensures.rows ∙ ap (advanced c.args.moment) c.in_ok-number.ensures.rows;
  number = c.in_ok-number.ensures.number;
  ledger =
      λ ledger rows.
      subst (IsRowsOf
      (credited c.args.moment Blocks c.args.from c.args.until (Some c.args.group)
      c.args.blocks.0 ledger))
      (ap (advanced c.args.moment) (sym c.in_ok-number.ensures.rows) ∙ sym c.advance.ensures.rows)
      (IsRowsOf-credited ledger c.args.self.now c.args.moment Blocks c.args.from c.args.until
      (Some c.args.group)
      c.args.blocks.0 c.in_ok-number.ensures.account rows c.requires.moment);
  left =
      λ ledger left with_left.
      subst (λ (x : AccountRows). IsWith
      (credited c.args.moment Blocks c.args.from c.args.until (Some c.args.group)
      c.args.blocks.0 ledger) left
      c.args.moment x)
      (ap (advanced c.args.moment) (sym c.in_ok-number.ensures.rows) ∙ sym c.advance.ensures.rows)
      (with_credited ledger left c.args.moment c.args.self.now Blocks c.args.from c.args.until
      (Some c.args.group)
      c.args.blocks.0 c.in_ok-number.ensures.in_range c.requires.most refl c.requires.moment
      with_left);
  limit = c.in_ok-number.ensures.limit;
  err = tt;
}
