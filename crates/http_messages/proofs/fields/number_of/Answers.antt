use Rattle.std.proofs.Common.{◌≡◌, ◌∙◌, ap, rules}
use Rattle.std.specs.Result.{result_ok}
use Rattle.std.specs.Str.{IsUtf8}
use Rattle.http_messages.proofs.Digits.{number_parsed, digits_utf8}
use Rattle.http_messages.proofs.fields.number_of.Goals as goal

pub returns : goal.returns
returns c =
    let same : c.in_ok-text.text.now ≡ c.args.digits.now = search rules in
    c.ok-2.ensures.value ∙ ap result_ok (number_parsed c.args.digits.now c.parse.result
    (rw same at c.parse.ensures.value.0) c.requires.some c.requires.few c.requires.all)

pub returns-in_err-text : goal.returns-in_err-text
returns-in_err-text c =
    let other : ¬ (IsUtf8 c.args.digits.now) = search rules in
    absurd (other (digits_utf8 c.args.digits.now c.requires.all))
