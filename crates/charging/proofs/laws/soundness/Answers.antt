use Rattle.charging.proofs.steps.Sound.{IsSoundHistory, sound_none, keeps_sound}
use Rattle.charging.proofs.steps.KeptHistories.{kept_history}
use Rattle.charging.proofs.laws.soundness.Goals as goal

pub returns : goal.returns
returns c = λ b a list.
    (kept_history b (IsSoundHistory b) (keeps_sound b) (sound_none b) a list).sound
