-- A voucher that is added, committed whole or not at all.
-- Source: profile.
use Rattle.std.specs.Prelude.{◌≡◌, Bool, IsTrue, is_some}
use Rattle.units.specs.Words.{Moment}
use Rattle.identifiers.specs.Words.{VoucherCode}
use Rattle.shelves.specs.Words.{BookText}
use Rattle.shelves.specs.Shelves.{Shelf}
use Rattle.sqlite_trees.specs.Tree.{Trees}
use Rattle.voucher_rules.specs.declared.terms.VoucherTerms.{VoucherTerms}
use Rattle.voucher_rules.specs.Standing.{unspent}
use Rattle.keepers.specs.Change.{with_voucher}
use Rattle.sql_rows.specs.Content.{TablesContent, tables_content, with_meta, with_voucher_row}
use Rattle.sql_rules.specs.Ruled.{IsInRules}
use Rattle.sql_keeper.specs.Commits.{StandsAt}
use Rattle.sql_keeper.specs.Content.{tables_of, Names}
use Rattle.sql_keeper.specs.Tidy.{IsTidy}
use Rattle.sql_keeper.specs.Writes.{meta_at, voucher_row, with_moment_put}

-- what is written: the moment, and a voucher that no account has redeemed
abbrev pub with_addition : BookText → VoucherCode → VoucherTerms → Moment → TablesContent →
    TablesContent
with_addition text code terms t c =
    with_voucher_row code (voucher_row (unspent terms)) (with_meta (meta_at text t) c)

-- the same as it is put: without the moment, where that is kept already
abbrev pub with_addition_put : Bool → VoucherCode → VoucherTerms → Moment → TablesContent →
    TablesContent
with_addition_put is_there code terms t c =
    with_voucher_row code (voucher_row (unspent terms)) (with_moment_put is_there t c)

-- the tables hold the voucher, and would be found again
-- rule: database-voucher: a voucher is added whole or not at all, also over a stop
pub record BecomesAdded (text : BookText) (code : VoucherCode) (terms : VoucherTerms) (t : Moment)
    (old new : Trees) : Type 0 where
  pub tables : (names : Names)
      → tables_of names (tables_content new)
      ≡ with_voucher code terms t (tables_of names (tables_content old))
  -- where no row was without a meaning, none is
  pub tidy : (names : Names) → IsTidy names (tables_content old) → IsTidy names (tables_content new)
  -- where all was in its rules, all is
  pub rules : (shelf : Shelf) → IsTrue (is_some (tables_content old).meta)
      → IsInRules shelf (tables_content old) → IsInRules shelf (tables_content new)
  pub stands : StandsAt text t old new
