use Rattle.std.proofs.Common.{refl}
use Rattle.std.specs.Fmt.{digits}
use Rattle.http_messages.specs.Texts.{phrase}
use Rattle.http_messages.proofs.text.ok_and_length.Goals as goal

pub returns : goal.returns
unfolding digits phrase
returns c = refl
