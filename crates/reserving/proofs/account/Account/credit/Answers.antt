use Rattle.std.proofs.Common.{arith}
use Rattle.buckets.specs.declared.kind.BucketKind.TheVariants.{Money}
use Rattle.std.proofs.Common.{sym, ap, ◌∙◌, subst}
use Rattle.reserving.specs.Rows.{IsRowsOf}
use Rattle.ledger.specs.Requests.{credited}
use Rattle.reserving.specs.Changes.{advanced, credited_account}
use Rattle.reserving.proofs.Crediting.{IsRowsOf-credited}
use Rattle.reserving.specs.Left.{IsWith}
use Rattle.reserving.specs.Rows.{AccountRows}
use Rattle.reserving.proofs.left.Credited.{with_credited}
use Rattle.reserving.proofs.account.Account.credit.Goals as goal

pub returns : goal.returns
returns c = record {
  rows =
      c.advance.ensures.rows ∙ ap (advanced c.args.moment) c.in_ok-number.ensures.rows
      ∙ ap (λ n. advanced c.args.moment
      (credited_account Money c.args.from c.args.until c.args.scope n c.args.self.now))
      c.micros.ensures.value;
  number = c.in_ok-number.ensures.number;
  ledger =
      λ ledger rows.
      subst (λ n. IsRowsOf
      (credited c.args.moment Money c.args.from c.args.until c.args.scope n ledger)
      c.advance.new.self) c.micros.ensures.value
      (subst (IsRowsOf
      (credited c.args.moment Money c.args.from c.args.until c.args.scope c.micros.result ledger))
      (ap (advanced c.args.moment) (sym c.in_ok-number.ensures.rows) ∙ sym c.advance.ensures.rows)
      (IsRowsOf-credited ledger c.args.self.now c.args.moment Money c.args.from
      c.args.until c.args.scope
      c.micros.result c.in_ok-number.ensures.account rows c.requires));
  left =
      λ ledger left with_left.
      subst (λ n. IsWith
      (credited c.args.moment Money c.args.from c.args.until c.args.scope n ledger) left
      c.args.moment c.advance.new.self) c.micros.ensures.value
      (subst (λ (x : AccountRows). IsWith
      (credited c.args.moment Money c.args.from c.args.until c.args.scope c.micros.result ledger)
      left
      c.args.moment x)
      (ap (advanced c.args.moment) (sym c.in_ok-number.ensures.rows) ∙ sym c.advance.ensures.rows)
      (with_credited ledger left c.args.moment c.args.self.now Money c.args.from
      c.args.until c.args.scope
      c.micros.result c.in_ok-number.ensures.in_range (omega (arith, c.micros.ensures.in_range)) tt
      c.requires
      with_left));
  limit = c.in_ok-number.ensures.limit;
  err = tt;
}
