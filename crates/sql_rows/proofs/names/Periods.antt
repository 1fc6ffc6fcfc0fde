-- The names of periods, read and in the content.
use Rattle.std.proofs.Common.{◌≡◌, Some, None, Option, refl}
use Rattle.std.specs.Prelude.{is_some, option_map}
use Rattle.std.specs.String.{string_bytes}
use Rattle.sqlite_value.specs.declared.value.Value.TheVariants.{Text}
use Rattle.sqlite.specs.Values.{or_null}
use Rattle.sql_rows.specs.declared.group_rows.PeriodTexts.{PeriodTexts}
use Rattle.sql_rows.specs.Values.{PeriodNames}
use Rattle.sql_rows.specs.Texts.{names_of}

pub is_some_names : (o : Option PeriodTexts) → is_some o ≡ is_some (option_map names_of o)
is_some_names None = refl
is_some_names (Some p) = refl

pub before_names : (o : Option PeriodTexts) → or_null (λ p. Text (string_bytes p.before)) o ≡
    or_null
    (λ (p : PeriodNames). Text p.before) (option_map names_of o)
before_names None = refl
before_names (Some p) = refl

pub after_names : (o : Option PeriodTexts) → or_null (λ p. Text (string_bytes p.after)) o ≡ or_null
    (λ (p : PeriodNames). Text p.after) (option_map names_of o)
after_names None = refl
after_names (Some p) = refl
