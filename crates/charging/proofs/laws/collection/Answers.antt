use Rattle.charging.proofs.charges.Collecting.{IsCollecting, collecting_none, keeps_collecting}
use Rattle.charging.proofs.charges.Collecting.{collected_is_charged}
use Rattle.charging.proofs.steps.KeptHistories.{kept_history}
use Rattle.charging.specs.Paid.{reports_of}
use Rattle.charging.specs.Served.{history}
use Rattle.charging.proofs.laws.collection.Goals as goal

pub returns : goal.returns
returns c = λ kind b a list t.
    collected_is_charged b (reports_of b a list) (history b a list).ledger
    (kept_history b (IsCollecting b) (keeps_collecting b) (collecting_none b) a list) kind t
