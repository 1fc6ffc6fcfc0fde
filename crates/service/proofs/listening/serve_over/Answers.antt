use Rattle.sqlite_wal.specs.Files.{image_at}
use Rattle.charging.specs.Continued.{Continues}
use Rattle.service.proofs.CleanOffices.{clean_from}
use Rattle.service.proofs.listening.serve_over.Goals as goal

pub returns : goal.returns
returns g c = record {
  continued = clean_from (image_at g.S.Start) _ _ c.serve_office.result (λ r. r.1) Continues
      c.in_ok-office.ensures.opened c.serve_office.ensures.cleanness
      c.serve_office.ensures.continued;
  listens = c.serve_office.ensures.listens;
}
