-- What is put and what is removed leave rows that are as the statements write them.
use Rattle.std.proofs.Common.{◌≡◌, ◌≢◌, ℕ, List, ◌∷◌, Bool, true, false, cond, Some, None, Option}
use Rattle.std.proofs.Common.{refl, sym, subst, ◌∙◌, arith}
use Rattle.std.specs.Ordering.{eq_by_cmp}
use Rattle.std.specs.FinMap.{get}
use Rattle.sqlite_value.specs.declared.value.Value.TheVariants.{Null}
use Rattle.sqlite_value.specs.Order.{Row, row_cmp}
use Rattle.sqlite_trees.specs.Tree.{Trees}
use Rattle.sqlite_schema.specs.declared.schema.Table.{Table}
use Rattle.reserving.specs.declared.session.Session.{Session}
use Rattle.reserving.specs.declared.session.SessionState.{SessionState}
use Rattle.reserving.specs.declared.session.SessionState.TheVariants.{Open, Ended, NeverOpened}
use Rattle.sql_tables.specs.Keyed.{key_of, look, table_of}
use Rattle.sql_tables.specs.Schema.{accounts, session_groups, sessions}
use Rattle.sql_tables.specs.Statements.{Changes, Ends}
use Rattle.sql_tables.proofs.Found.{found}
use Rattle.sql_rows.specs.Plain.{AreAll, ArePlain, is_plain_group, is_plain_head, is_plain_session}
use Rattle.sql_rows.specs.Values.{Group, PeriodNames, group_values, head_values, session_values}
use Rattle.sql_rows.specs.declared.head.HeadColumns.{HeadColumns}

module _ (test : Row → Bool) where
  either : (values : Row) → test values ≡ true → (before : Option Row)
      → ((cells : Row) → before ≡ Some cells → test cells ≡ true) → (same : Bool)
      → (cells : Row) → cond same (Some values) before ≡ Some cells → test cells ≡ true
  either values in' before old true cells e =
      let is : values ≡ cells = cc e in subst (λ v. test v ≡ true) is in'
  either values in' before old false cells e = old cells e

  kept : (before : Option Row)
      → ((cells : Row) → before ≡ Some cells → test cells ≡ true) → (gone : Bool)
      → (cells : Row) → cond gone None before ≡ Some cells → test cells ≡ true
  kept before old true cells e = absurd (cc e)
  kept before old false cells e = old cells e

  -- the table of the row that was put
  put_passes : (table : Table) (values : Row) (old new : Trees) → Changes table values old new
      → test values ≡ true → AreAll test table old → AreAll test table new
  put_passes table values old new c in' so key cells e =
      either values in' (look table old key) (so key)
      (eq_by_cmp row_cmp key (key_of table.primary (Null ∷ values))) cells
      (sym (found table values old new c key) ∙ e)

  -- a table that stays
  stays_passing : (table : Table) (old new : Trees) → new table.tree ≡ old table.tree
      → AreAll test table old → AreAll test table new
  stays_passing table old new same so key cells e =
      so key cells
      (subst (λ (rows : List Row). get (table_of table.primary rows) key ≡ Some cells) same e)

-- the three tables stay
pub plain_stays : (old new : Trees) → new accounts.tree ≡ old accounts.tree
    → new sessions.tree ≡ old sessions.tree → new session_groups.tree ≡ old session_groups.tree
    → ArePlain old → ArePlain new
plain_stays old new heads states groups p = record {
  heads = stays_passing is_plain_head accounts old new heads p.heads;
  of_sessions = stays_passing is_plain_session sessions old new states p.of_sessions;
  of_groups = stays_passing is_plain_group session_groups old new groups p.of_groups;
}

-- a row of another table is put, or rows of one are removed
pub plain_beside : (table : Table) (values : Row) → accounts.tree ≢ table.tree
    → sessions.tree ≢ table.tree → session_groups.tree ≢ table.tree → (old new : Trees)
    → Changes table values old new → ArePlain old → ArePlain new
plain_beside table values a s g old new c =
    plain_stays old new (c.others.1.0 a) (c.others.1.1.1.1.0 s) (c.others.1.1.1.1.1.0 g)

pub plain_without : (table : Table) (wanted : Row) → accounts.tree ≢ table.tree
    → sessions.tree ≢ table.tree → session_groups.tree ≢ table.tree → (old new : Trees)
    → Ends table wanted old new → ArePlain old → ArePlain new
plain_without table wanted a s g old new c =
    plain_stays old new (c.others.1.0 a) (c.others.1.1.1.1.0 s) (c.others.1.1.1.1.1.0 g)

-- ---- the rows of the three

head_plain : (a : List ℕ) (h : HeadColumns) → is_plain_head (head_values a h) ≡ true
head_plain a h = at h.barred
  where
    at : (b : Bool) → is_plain_head (head_values a (record h { barred = b })) ≡ true
    at true = refl
    at false = refl

session_plain : (a : List ℕ) (x : Session) → is_plain_session (session_values a x) ≡ true
session_plain a x = at x.state
  where
    at : (o : SessionState) → is_plain_session (session_values a (record x { state = o })) ≡ true
    at Open = refl
    at Ended = refl
    at NeverOpened = refl

group_plain : (a s : List ℕ) (g : ℕ) (x : Group) → is_plain_group (group_values a s g x) ≡ true
group_plain a s g x = at x.periods
  where
    at : (o : Option PeriodNames) →
        is_plain_group (group_values a s g (record x { periods = o })) ≡ true
    at None = refl
    at (Some p) = refl

pub plain_account : (a : List ℕ) (h : HeadColumns) (old new : Trees)
    → Changes accounts (head_values a h) old new → ArePlain old → ArePlain new
plain_account a h old new c p = record {
  heads = put_passes is_plain_head accounts (head_values a h) old new c (head_plain a h) p.heads;
  of_sessions = stays_passing is_plain_session sessions old new (c.others.1.1.1.1.0 (omega arith))
      p.of_sessions;
  of_groups = stays_passing is_plain_group session_groups old new
      (c.others.1.1.1.1.1.0 (omega arith)) p.of_groups;
}

pub plain_session : (a : List ℕ) (x : Session) (old new : Trees)
    → Changes sessions (session_values a x) old new → ArePlain old → ArePlain new
plain_session a x old new c p = record {
  heads = stays_passing is_plain_head accounts old new (c.others.1.0 (omega arith)) p.heads;
  of_sessions = put_passes is_plain_session sessions (session_values a x) old new c
      (session_plain a x) p.of_sessions;
  of_groups = stays_passing is_plain_group session_groups old new
      (c.others.1.1.1.1.1.0 (omega arith)) p.of_groups;
}

pub plain_group : (a s : List ℕ) (g : ℕ) (x : Group) (old new : Trees)
    → Changes session_groups (group_values a s g x) old new → ArePlain old → ArePlain new
plain_group a s g x old new c p = record {
  heads = stays_passing is_plain_head accounts old new (c.others.1.0 (omega arith)) p.heads;
  of_sessions = stays_passing is_plain_session sessions old new (c.others.1.1.1.1.0 (omega arith))
      p.of_sessions;
  of_groups = put_passes is_plain_group session_groups (group_values a s g x) old new c
      (group_plain a s g x) p.of_groups;
}
