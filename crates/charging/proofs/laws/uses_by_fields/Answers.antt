use Rattle.std.proofs.Common.{◌≡◌, ◌∙◌, ℕ, ap, sym}
use Rattle.shelves.specs.Shelves.{Shelf}
use Rattle.ledger.specs.Ledger.{Ledger, UseOf}
use Rattle.ledger.specs.Settlement.{report_price, missing}
use Rattle.charging.specs.Paid.{Report, IsReport, IsEvent}
use Rattle.charging.specs.UsesByFields.{IsReportByFields, IsEventByFields}
use Rattle.charging.proofs.laws.uses_by_fields.Goals as goal

-- its price is that of the report's session and group, which are the use's
report_fields : (b : Shelf) (r : Report) (t : ℕ) (u : UseOf) (before : Ledger) →
    IsReport b r t u before → IsReportByFields b r t u before
report_fields b r t u before x =
    let s : u.session ≡ r.session = ap (λ (y : UseOf). y.session) x.is in
    let g : u.group ≡ r.group = ap (λ (y : UseOf). y.group) x.is in
    record {
      moment = x.moment;
      session = s;
      group = g;
      units_are = ap (λ (y : UseOf). y.units) x.is;
      blocks_are = ap (λ (y : UseOf). y.blocks) x.is
          ∙ sym (λ i. (report_price b t (s i) (g i) r.parts before).blocks);
      covered_is = ap (λ (y : UseOf). y.covered) x.is
          ∙ sym (λ i. (report_price b t (s i) (g i) r.parts before).covered.0);
      rated_is = ap (λ (y : UseOf). y.rated) x.is
          ∙ sym (λ i. (report_price b t (s i) (g i) r.parts before).amount.0);
      uncollected_is = ap (λ (y : UseOf). y.uncollected) x.is
          ∙ sym (λ i. missing b t (s i) (g i) r.parts before);
      short = x.short;
    }

report_whole : (b : Shelf) (r : Report) (t : ℕ) (u : UseOf) (before : Ledger) →
    IsReportByFields b r t u before → IsReport b r t u before
report_whole b r t u before x =
    let s : u.session ≡ r.session = x.session in
    let g : u.group ≡ r.group = x.group in
    let blocks_are : u.blocks ≡ (report_price b t r.session r.group r.parts before).blocks =
    x.blocks_are ∙ (λ i. (report_price b t (s i) (g i) r.parts before).blocks) in
    let covered_is : u.covered ≡ (report_price b t r.session r.group r.parts before).covered.0 =
    x.covered_is ∙ (λ i. (report_price b t (s i) (g i) r.parts before).covered.0) in
    let rated_is : u.rated ≡ (report_price b t r.session r.group r.parts before).amount.0 =
    x.rated_is ∙ (λ i. (report_price b t (s i) (g i) r.parts before).amount.0) in
    let uncollected_is : u.uncollected ≡ missing b t r.session r.group r.parts before =
    x.uncollected_is ∙ (λ i. missing b t (s i) (g i) r.parts before) in
    record {
      moment = x.moment;
      is = λ i. record {
        session = s i;
        group = g i;
        units = x.units_are i;
        blocks = blocks_are i;
        covered = covered_is i;
        rated = rated_is i;
        uncollected = uncollected_is i;
      };
      short = x.short;
    }

event_fields : (b : Shelf) (t : ℕ) (u : UseOf) (before : Ledger) → IsEvent b t u before →
    IsEventByFields b t u before
event_fields b t u before x = record {
  blocks_are = ap (λ (y : UseOf). y.blocks) x.is;
  covered_is = ap (λ (y : UseOf). y.covered) x.is;
  rated_is = ap (λ (y : UseOf). y.rated) x.is;
  funded = x.funded;
  whole = ap (λ (y : UseOf). y.uncollected) x.is;
}

event_whole : (b : Shelf) (t : ℕ) (u : UseOf) (before : Ledger) → IsEventByFields b t u before →
    IsEvent b t u before
event_whole b t u before x = record {
  is = λ i. record {
    session = u.session;
    group = u.group;
    units = u.units;
    blocks = x.blocks_are i;
    covered = x.covered_is i;
    rated = x.rated_is i;
    uncollected = x.whole i;
  };
  funded = x.funded;
}

pub returns : goal.returns
returns c = record {
  report = report_fields;
  report_back = report_whole;
  event = event_fields;
  event_back = event_whole;
}
