use Rattle.std.proofs.Common.{rules, ◌≡◌, ◌∙◌, ap}
use Rattle.std.specs.Prelude.{is_some, option_map}
use Rattle.sqlite_value.specs.declared.value.Value.TheVariants.{Text}
use Rattle.sql_rows.specs.Texts.{names_put}
use Rattle.sql_rows.specs.Values.{nat, flag_number}
use Rattle.sql_rows.proofs.puts.PutGroup.{makes_group, bound_group}
use Rattle.sql_rows.proofs.names.NamesPut.{before_put, after_put, there_put}
use Rattle.sql_rows.proofs.group_rows.put_group.Goals as goal

pub returns : goal.returns
returns g c = record {
  same_reference = search rules;
  makes = let there : c.is_some.result ≡ is_some c.args.periods = search rules in
      makes_group c.args.account.now c.args.session.now c.args.group
      (record { used = c.args.used; periods = option_map names_put c.args.periods }) _
      (bound_group c.args.account.now c.args.session.now c.args.group
      (record { used = c.args.used; periods = option_map names_put c.args.periods }) _ _ _ _ _ _ _
      (c.text-of_account.ensures ∙ ap Text c.as_str.ensures.value)
      (c.text-of_session.ensures ∙ ap Text c.as_str-2.ensures.value)
      c.whole-of_group.ensures
      c.in_ok-units.ensures
      (c.flag-reserved.ensures
      ∙ ap (λ t. nat (flag_number t)) (there ∙ there_put c.args.periods))
      (c.before_or_null-at_grant.ensures ∙ before_put c.args.periods)
      (c.after_or_null-at_switch.ensures ∙ after_put c.args.periods))
      _ _ c.run.result c.requires.tables c.run.ensures.makes;
}
