use Rattle.std.proofs.Common.{[], ◌∷◌, map}
use Rattle.sqlite.specs.Values.{bound_value}
use Rattle.sql_tables.proofs.Telling.{reads_as}
use Rattle.sql_rows.proofs.selections.ReadVoucher.{read_voucher_text, read_voucher_plain}
use Rattle.sql_rows.proofs.selections.ReadVoucher.{voucher_read}
use Rattle.sql_rows.proofs.rules.KeyRules.{refused_as}
use Rattle.sql_rows.proofs.rules.MetaRules.{at_ok}
use Rattle.sql_rows.proofs.rules.VoucherRules.{voucher_refused}
use Rattle.sql_rows.proofs.voucher_rows.read_voucher.Goals as goal

pub read-requires-clause-plain : goal.read-requires-clause-plain
read-requires-clause-plain g c = read_voucher_plain

pub returns : goal.returns
returns g c = record {
  reads = reads_as _ read_voucher_text _ _ _ _ _ _ c.voucher_among.result c.read.ensures.reads
      c.read.ensures.stops c.in_ok-rows.ensures.answers
      (λ i. map bound_value (c.text-of_code.ensures i ∷ []))
      c.deref.ensures.value (at_ok _ _ c.voucher_among.result c.voucher_among.ensures)
      (voucher_read c.args.code.now _ _ _);
  refused = refused_as _ _ _ read_voucher_text _ _ _ _ _ _ c.voucher_among.result
      c.in_ok-rows.ensures.answers
      (λ i. map bound_value (c.text-of_code.ensures i ∷ []))
      c.deref.ensures.value c.voucher_among.ensures
      (λ e got refused is. voucher_refused c.args.code.now _ _ _ got (refused is));
}
