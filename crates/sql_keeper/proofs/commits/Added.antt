-- A voucher that is added: what is written of it, and what is committed.
use Rattle.std.proofs.Common.{◌≡◌, ◌≤◌, ◌∙◌, ℕ, Bool, List, IsTrue, ap, arith, subst, sym, true}
use Rattle.std.specs.Prelude.{Ok, Err}
use Rattle.identifiers.specs.Texts.{same_name}
use Rattle.voucher_rules.specs.declared.terms.VoucherTerms.{VoucherTerms}
use Rattle.voucher_rules.specs.Standing.{unspent}
use Rattle.sqlite.specs.State.{HasCleanDisk, State, Survives}
use Rattle.sqlite.proofs.StateLemmas.{survives_weaker}
use Rattle.sqlite_trees.specs.Tree.{Trees}
use Rattle.keepers.specs.Change.{with_voucher}
use Rattle.sql_rows.specs.Content.{TablesContent, tables_content, with_voucher_row}
use Rattle.sql_rows.specs.Makes.{Turns}
use Rattle.sql_rules.specs.Ruled.{IsInRules}
use Rattle.sql_keeper.specs.RuledRows.{is_ruled_addition}
use Rattle.sql_keeper.proofs.rules.RuledRows.{addition_ruled}
use Rattle.sql_keeper.specs.Additions.{BecomesAdded, with_addition, with_addition_put}
use Rattle.sql_keeper.specs.Commits.{CommitsWhole, Transacts}
use Rattle.sql_keeper.specs.Content.{last_in, tables_of, voucher_in, Names}
use Rattle.sql_keeper.specs.Seen.{Stands}
use Rattle.sql_keeper.specs.Tidy.{IsTidy}
use Rattle.sql_keeper.specs.Writes.{meta_at, voucher_row}
use Rattle.sql_tables.specs.Statements.{HasIdleTables}
use Rattle.sql_keeper.proofs.reads.InTurn.{none_read}
use Rattle.sql_keeper.proofs.puts.NewGroups.{kept_up_to, moment_put}
use Rattle.sql_keeper.proofs.puts.Redeemed.{told_over}
use Rattle.sql_keeper.proofs.rules.TidyChanges.{tidy_addition}
use Rattle.sql_keeper.proofs.commits.Whole.{refused}

-- ---- a voucher that is added

addition_read : (names : Names) (text code : List ℕ) (terms : VoucherTerms)
    (t : ℕ) (c : TablesContent)
    → tables_of names (with_addition text code terms t c)
    ≡ with_voucher code terms t (tables_of names c)
addition_read names text code terms t c =
    λ i. record (with_voucher code terms t (tables_of names c)) {
      vouchers = λ k.
          told_over voucher_in (same_name code k) (voucher_row (unspent terms)) (c.vouchers k) i;
    }

become : (text code : List ℕ) (terms : VoucherTerms) (t : ℕ) → t ≤ 4_102_488_000
    → is_ruled_addition code terms t ≡ true → (old new : Trees)
    → last_in (tables_content old).meta ≤ t → Turns (with_addition text code terms t) old new
    → BecomesAdded text code terms t old new
become text code terms t last ruled old new later turns = record {
  tables = λ names. ap (tables_of names) turns.content
      ∙ addition_read names text code terms t (tables_content old);
  tidy = λ names tidy. subst (IsTidy names) (sym turns.content)
      (tidy_addition names text code terms t (tables_content old) tidy);
  rules = λ shelf there in'. subst (IsInRules shelf) (sym turns.content) (record {
    each = addition_ruled shelf (tables_content old) there in' text code terms t later ruled;
    beside = in'.beside;
    granted = in'.granted;
  });
  stands = record {
    tabled = record { catalog = turns.catalog; stored = turns.stored; plain = turns.plain };
    meta = ap (λ (c : TablesContent). c.meta) turns.content;
    last = last;
    later = later;
    books = ap (λ (c : TablesContent). c.books) turns.content;
  };
}

-- so it is where the moment alone is put, or is there already
-- rule: database-voucher
pub become_added : (text code : List ℕ) (terms : VoucherTerms) (t : ℕ) → t ≤ 4_102_488_000
    → is_ruled_addition code terms t ≡ true → (is_there : Bool) (old : State)
    → Stands is_there (meta_at text t) old → HasCleanDisk old → IsTrue old.is_open → (db : Trees)
    → Turns (with_addition_put is_there code terms t) old.now.trees db
    → BecomesAdded text code terms t old.now.trees db
become_added text code terms t last ruled is_there old there clean on db turns =
    become text code terms t last ruled old.now.trees db
    (kept_up_to is_there (meta_at text t) (tables_content old.now.trees).meta (there clean on))
    (record {
      content = turns.content ∙ ap (with_voucher_row code (voucher_row (unspent terms)))
          (moment_put is_there (meta_at text t) (tables_content old.now.trees) (there clean on));
      catalog = turns.catalog;
      stored = turns.stored;
      plain = turns.plain;
    })

-- ---- what is written at once, with nothing read before

module _ (change : TablesContent → TablesContent) (Become : Trees → Trees → Type 0)
    (old new : State)
    (become : HasCleanDisk old → IsTrue old.is_open → (db : Trees)
    → Turns change old.now.trees db → Become old.now.trees db) where
  survives_at_once : Survives old new (λ db. IsTrue old.is_open × Turns change old.now.trees db)
      → Survives old new (λ db. IsTrue old.is_open → Become old.now.trees db)
  survives_at_once s =
      survives_weaker old new (λ db. IsTrue old.is_open × Turns change old.now.trees db)
      (λ db. IsTrue old.is_open → Become old.now.trees db)
      (λ clean db t on. become (omega (arith, s.clean, clean)) t.0 db t.1) s

  pub put_at_once : {A B E F : Type 0} (u : A) (v : B)
      → Transacts {A = A} {E = E} change old new (Ok u)
      → CommitsWhole {A = B} {E = F} Become old new (Ok v)
  put_at_once u v t = record {
    done = λ clean.
        let d = t.done clean in
        (d.0, d.1, become (omega (arith, t.survives.clean, clean)) d.0 new.now.trees d.2.turns);
    err = λ clean on. tt;
    idle = t.idle;
    survives = survives_at_once t.survives;
  }

  pub not_put_at_once : {A B E F : Type 0} (e : E) (f : F)
      → Transacts {A = A} {E = E} change old new (Err e)
      → CommitsWhole {A = B} {E = F} Become old new (Err f)
  not_put_at_once e f t = record {
    done = λ clean. tt;
    err = t.kept;
    idle = t.idle;
    survives = survives_at_once t.survives;
  }

-- what is refused before anything is asked
pub refused_at_once : {A E : Type 0} (Become : Trees → Trees → Type 0) (s : State) (e : E)
    → HasIdleTables s → CommitsWhole {A = A} {E = E} Become s s (Err e)
refused_at_once Become s e idle =
    let none = none_read s idle in refused Become s s e none.only none.survives
