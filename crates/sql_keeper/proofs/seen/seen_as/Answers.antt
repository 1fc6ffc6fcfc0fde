use Rattle.std.proofs.Common.{Some, ap, refl, ◌∙◌}
use Rattle.reserving.specs.Stored.{StoredRows}
use Rattle.sql_keeper.proofs.kept.SeenRows.{grant_of_live, live_of}
use Rattle.sql_keeper.proofs.seen.seen_as.Goals as goal

pub returns : goal.returns
returns c = record {
  account = refl;
  head = ap Some c.head_of.ensures;
  live = live_of c.first_open-live.result c.as_slice.result.now c.args.rows.now.sessions
      (c.as_slice.ensures.value ∙ ap (λ (w : StoredRows). w.sessions) c.rows-given.ensures.value)
      c.first_open-live.ensures;
  grant = grant_of_live c.as_slice-2.result.now c.args.rows.now.groups c.first_open-live.result
      c.grant_seen-grant.result
      (c.as_slice-2.ensures.value ∙ ap (λ (w : StoredRows). w.groups) c.rows-given.ensures.value)
      c.grant_seen-grant.ensures;
  unknown = refl;
  first = refl;
}
