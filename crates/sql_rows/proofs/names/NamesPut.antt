-- The names of periods as they are put.
use Rattle.std.proofs.Common.{◌≡◌, refl, Option, Some, None}
use Rattle.std.specs.Prelude.{is_some, option_map}
use Rattle.sqlite_value.specs.declared.value.Value.TheVariants.{Text}
use Rattle.sqlite.specs.Values.{or_null}
use Rattle.sql_rows.specs.Texts.{names_put}
use Rattle.sql_rows.specs.declared.group_rows.PutNames.{PutNames}

pub there_put : (o : Option PutNames) → is_some o ≡ is_some (option_map names_put o)
there_put None = refl
there_put (Some p) = refl

pub before_put : (o : Option PutNames) →
    or_null (λ p. Text p.before.now) o ≡ or_null (λ p. Text p.before) (option_map names_put o)
before_put None = refl
before_put (Some p) = refl

pub after_put : (o : Option PutNames) →
    or_null (λ p. Text p.after.now) o ≡ or_null (λ p. Text p.after) (option_map names_put o)
after_put None = refl
after_put (Some p) = refl
