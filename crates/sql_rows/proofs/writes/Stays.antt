-- What of the content stays where a table stays.
use Rattle.std.proofs.Common.{◌≡◌, ◌≢◌, ℕ, List, Bool, true, false}
use Rattle.std.proofs.Common.{length, refl, sym, ap, ◌∙◌, eq-eqb}
use Rattle.std.specs.List.{AllByRecursion}
use Rattle.std.specs.Prelude.{if◌then◌else◌, is_some, ◌==◌}
use Rattle.sqlite_schema.specs.declared.schema.Table.{Table}
use Rattle.sql_tables.specs.Keyed.{same_name}
use Rattle.sqlite_trees.specs.Tree.{Trees}
use Rattle.sqlite_trees.proofs.ListLemmas.{all_weaker}
use Rattle.sql_tables.specs.Schema.{meta, accounts, buckets, counters, sessions, session_groups}
use Rattle.sql_tables.specs.Schema.{holds, answers, vouchers, charges, books, grant_books}
use Rattle.sql_tables.specs.Schema.{allowance_buckets, covered, our_schema}
use Rattle.sql_tables.proofs.Found.{kept_tells}
use Rattle.sql_rows.specs.Values.{meta_key, head_key, bucket_key, counter_key, session_key}
use Rattle.sql_rows.specs.Values.{group_key, hold_key, answer_key, voucher_key, charge_key, meta_in}
use Rattle.sql_rows.specs.Values.{head_in, bucket_in_row, counter_in_row, session_in_row}
use Rattle.sql_rows.specs.Values.{group_in_row, hold_in}
use Rattle.sql_rows.specs.Values.{answer_in_row, voucher_in_row, charge_in_row, book_key}
use Rattle.sql_rows.specs.Values.{book_in_row}
use Rattle.sql_rows.specs.Values.{grant_book_in, allowance_in, covered_in_row}
use Rattle.sql_rows.specs.Content.{TableRows, TablesContent, tables_content, with_rows}

pub meta_kept : (old new : Trees) → new meta.tree ≡ old meta.tree →
    (tables_content new).meta ≡ (tables_content old).meta
meta_kept old new e = kept_tells meta_in meta old new e meta_key

-- tables with the same rows hold the same
pub same_content : (old new : Trees)
    → AllByRecursion (λ (t : Table). new t.tree ≡ old t.tree) our_schema.tables
    → tables_content new ≡ tables_content old
same_content old new k = λ i. record {
  meta = meta_kept old new k.0 i;
  kept = length (k.0 i);
  rows = λ x. record {
    head = kept_tells head_in accounts old new k.1.0 (head_key x) i;
    buckets = λ n. kept_tells bucket_in_row buckets old new k.1.1.0 (bucket_key x n) i;
    counters = λ g c. kept_tells counter_in_row counters old new k.1.1.1.0 (counter_key x g c) i;
    sessions = λ s. kept_tells session_in_row sessions old new k.1.1.1.1.0 (session_key x s) i;
    groups = λ s g.
        kept_tells group_in_row session_groups old new k.1.1.1.1.1.0 (group_key x s g) i;
    holds = λ s g n. kept_tells hold_in holds old new k.1.1.1.1.1.1.0 (hold_key x s g n) i;
    answers = λ l t m.
        kept_tells answer_in_row answers old new k.1.1.1.1.1.1.1.0 (answer_key x l t m) i;
    charges = λ n.
        kept_tells charge_in_row charges old new k.1.1.1.1.1.1.1.1.1.0 (charge_key x n) i;
    grant_books = λ s g.
        kept_tells grant_book_in grant_books old new k.1.1.1.1.1.1.1.1.1.1.1.0 (group_key x s g) i;
    allowances = λ n. is_some (kept_tells allowance_in allowance_buckets old new
        k.1.1.1.1.1.1.1.1.1.1.1.1.0 (bucket_key x n) i);
    covered = λ n.
        kept_tells covered_in_row covered old new k.1.1.1.1.1.1.1.1.1.1.1.1.1.0 (charge_key x n) i;
  };
  vouchers = λ code.
      kept_tells voucher_in_row vouchers old new k.1.1.1.1.1.1.1.1.0 (voucher_key code) i;
  books = λ n. kept_tells book_in_row books old new k.1.1.1.1.1.1.1.1.1.1.0 (book_key n) i;
  count = length (k.1.0 i);
}

-- the trees, but one of them new
abbrev pub swapped : ℕ → Trees → Trees → Trees
swapped at old new t = if t == at then new t else old t

is_swapped : (at t : ℕ) (old new : Trees) → (t ≢ at → new t ≡ old t) → new t ≡ swapped at old new t
is_swapped at t old new same = go (t == at) refl
  where
    go : (b : Bool) → (t == at) ≡ b → new t ≡ (if b then new t else old t)
    go true e = refl
    go false e = same (λ is. let yes' : (t == at) ≡ true = eq-eqb t at is in
        let f : true ≡ false = sym yes' ∙ e in cc)

-- where the other tables stay, the content is that of the one that is new
pub only_changed : (at : ℕ) (old new : Trees)
    → AllByRecursion (λ (t : Table). t.tree ≢ at → new t.tree ≡ old t.tree) our_schema.tables
    → tables_content new ≡ tables_content (swapped at old new)
only_changed at old new same =
    same_content (swapped at old new) new
    (all_weaker (λ (t : Table). t.tree ≢ at → new t.tree ≡ old t.tree)
    (λ (t : Table). new t.tree ≡ swapped at old new t.tree) (λ t. is_swapped at t.tree old new)
    our_schema.tables same)

pub at_each : {A B : Type 0} (p : Bool) (f g h : A → B) → ((x : A) → h x ≡ (if p then f x else g x))
    → h ≡ (if p then f else g)
at_each true f g h e = λ i x. e x i
at_each false f g h e = λ i x. e x i

-- a field of one account's rows changes, and no other account's
pub rows_turn : {F : Type 0} (a : List ℕ) (c : TablesContent) (change : TableRows → TableRows)
    (field : TableRows → F)
    (set : TableRows → F → TableRows) → ((r : TableRows) → set r (field r) ≡ r)
    → ((r : TableRows) → set r (field (change r)) ≡ change r) → (rows : List ℕ → TableRows)
    → ((x : List ℕ) →
    field (rows x) ≡ (if same_name a x then field (change (c.rows x)) else field (c.rows x)))
    → record c { rows = λ x. set (c.rows x) (field (rows x)) } ≡ with_rows a change c
rows_turn a c change field set stays changes rows told = λ i. record c {
  rows = λ x. (ap (set (c.rows x)) (told x) ∙ choose (same_name a x) (c.rows x)) i;
}
  where
    choose : (p : Bool) (r : TableRows)
        → set r (if p then field (change r) else field r) ≡ (if p then change r else r)
    choose true r = changes r
    choose false r = stays r
