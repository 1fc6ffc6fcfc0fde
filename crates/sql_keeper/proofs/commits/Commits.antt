-- What is committed of a change.
use Rattle.std.proofs.Common.{◌≡◌, ◌≤◌, ◌∙◌, ap, refl, subst, ℕ, List, [], ◌∷◌, Option, Some, None}
use Rattle.std.proofs.Common.{IsTrue, sym, true}
use Rattle.commands.specs.declared.key.Key.{Key}
use Rattle.commands.specs.declared.key.Key.TheVariants.{Request, Reference}
use Rattle.commands.specs.Keys.{key_of}
use Rattle.keepers.specs.declared.kept_answer.KeptAnswer.{KeptAnswer}
use Rattle.keepers.specs.declared.loaded.Change.{Change}
use Rattle.keepers.specs.declared.loaded.Redeemed.{Redeemed}
use Rattle.keepers.specs.Naming.{IsNamed}
use Rattle.buckets.specs.Row.{BucketRow}
use Rattle.buckets.specs.declared.kind.BucketKind.{BucketKind}
use Rattle.buckets.specs.declared.holds.HeldAmount.{HeldAmount}
use Rattle.reserving.specs.declared.session.SessionGroup.{SessionGroup}
use Rattle.reserving.specs.Sessions.{holds_in}
use Rattle.reserving.specs.Stored.{StoredRows}
use Rattle.sqlite.specs.Effect.{Database}
use Rattle.sqlite.specs.State.{State, HasCleanDisk}
use Rattle.sqlite_trees.specs.Tree.{Trees}
use Rattle.sql_tables.specs.Statements.{OnlyReads}
use Rattle.sql_rows.specs.Values.{BookRow, Meta, Kept}
use Rattle.sql_rows.specs.Content.{TablesContent, tables_content, rows_in, with_rows, with_meta}
use Rattle.sql_rows.specs.Content.{with_account}
use Rattle.sql_rows.specs.Content.{with_counter_row, with_session_row, with_group_row}
use Rattle.sql_rows.specs.Content.{with_hold_row}
use Rattle.sql_rows.specs.Content.{with_bucket, without_holds}
use Rattle.sql_rows.specs.Values.{plain_bucket}
use Rattle.sql_rows.specs.Each.{with_each, with_counters, with_sessions}
use Rattle.sql_rows.specs.Makes.{Turns}
use Rattle.sql_rules.specs.Ruled.{IsInRulesBy}
use Rattle.sql_keeper.specs.Content.{last_in, tables_of, Names}
use Rattle.sql_keeper.specs.Commits.{Becomes}
use Rattle.sql_keeper.specs.KeptRows.{AreGrantsOver, AreKept, BecomesOver, Keeps}
use Rattle.sql_keeper.specs.Numbers.{AreNumbersFree, LacksThen}
use Rattle.sql_keeper.specs.RuledRows.{are_ruled_texts, is_ruled_change}
use Rattle.sql_keeper.specs.Seen.{AreSeen, IsKeptOnce, Sees, Stands}
use Rattle.sql_keeper.specs.Tests.{AreWritable, IsTested, MayBeMade}
use Rattle.sql_keeper.specs.Tidy.{IsTidy}
use Rattle.sql_keeper.specs.Writes.{AreTexts, columns_of, head_columns_of, meta_with, with_change}
use Rattle.sql_keeper.specs.Writes.{with_all_counted, with_all_paid, with_book_of, with_counted}
use Rattle.sql_keeper.specs.Writes.{with_held_group, with_kept, with_paid, with_redeemed}
use Rattle.sql_keeper.specs.Writes.{with_change_put, with_scoped, with_stored, with_texts}
use Rattle.sql_keeper.proofs.rules.OwnBooks.{AreAllOfBooks, books_change}
use Rattle.sql_keeper.proofs.rules.Tidy.{AreAllBeside}
use Rattle.sql_keeper.proofs.rules.TidyChanges.{beside_change, tidy_change}
use Rattle.sql_keeper.proofs.commits.Changed.{changes_read}
use Rattle.sql_keeper.specs.declared.putting.Known.{Known}
use Rattle.sql_keeper.proofs.puts.KeptGroups.{sees_kept}
use Rattle.sql_keeper.proofs.puts.KeptKinds.{keeps_counted}
use Rattle.sql_keeper.proofs.commits.GrantsWritten.{grants_written}
use Rattle.sql_keeper.proofs.puts.NewGroups.{kept_up_to, lacked_before, put_over}
use Rattle.sql_keeper.proofs.rules.RuledRows.{change_ruled}

-- ---- what is kept once, and the later books

-- what is kept beside the rows of accounts
pub record Beside : Type 0 where
  pub meta : Option Meta
  pub books : ℕ → Option BookRow

abbrev pub beside : TablesContent → Beside
beside c = record { meta = c.meta; books = c.books }

each_meta : {X : Type 0} (change : X → TablesContent → TablesContent)
    → ((x : X) (c : TablesContent) → beside (change x c) ≡ beside c)
    → (xs : List X) (c : TablesContent) → beside (with_each change xs c) ≡ beside c
each_meta change same [] c = refl
each_meta change same (x ∷ xs) c = each_meta change same xs (change x c) ∙ same x c

texts_meta : (a : List ℕ) (k : Key) (t : Kept) (c : TablesContent) →
    beside (with_texts a k t c) ≡ beside c
texts_meta a (Request s n) t c = refl
texts_meta a (Reference x) t c = refl

kept_meta : (a : List ℕ) (kept : Option KeptAnswer) (t : Option Kept) (c : TablesContent)
    → beside (with_kept a kept t c) ≡ beside c
kept_meta a None t c = refl
kept_meta a (Some k) None c = refl
kept_meta a (Some k) (Some t) c = texts_meta a (key_of k.content) t c

redeemed_meta : (redeemed : Option Redeemed) (c : TablesContent) →
    beside (with_redeemed redeemed c) ≡ beside c
redeemed_meta None c = refl
redeemed_meta (Some r) c = refl

held_meta : (a : List ℕ) (names : Names) (r : SessionGroup) (c : TablesContent)
    → beside (with_held_group a names r c) ≡ beside c
held_meta a names r c =
    each_meta (λ (x : HeldAmount).
    with_rows a (with_hold_row r.session r.group x.bucket x.amount)) (λ x c. refl)
    (holds_in r.reservation) (with_rows a (without_holds r.session r.group)
    (with_rows a (with_book_of r.session r.group r.reservation)
    (with_rows a (with_group_row r.session r.group (columns_of names r)) c)))

scoped_meta : (a : List ℕ) (o : Option ℕ) (k : BucketKind) (n : ℕ) (c : TablesContent) →
    beside (with_scoped a o k n c) ≡ beside c
scoped_meta a None k n c = refl
scoped_meta a (Some g) k n c = refl

counted_meta : (a : List ℕ) (b : BucketRow) (c : TablesContent) →
    beside (with_counted a b c) ≡ beside c
counted_meta a b c =
    scoped_meta a b.scope b.kind b.number (with_rows a (with_bucket (plain_bucket b)) c)

stored_meta : (a : List ℕ) (names : Names) (w : StoredRows) (c : TablesContent)
    → beside (with_stored a names w c) ≡ beside c
stored_meta a names w c =
    let opening = with_account a (head_columns_of w) c in
    let money = with_all_counted a w.buckets opening in
    let counted = with_counters a w.counters money in
    each_meta (with_held_group a names) (held_meta a names) w.groups
    (with_sessions a w.sessions counted)
    ∙ each_meta (λ x. with_rows a (with_session_row x)) (λ x c. refl) w.sessions counted
    ∙ each_meta (λ x. with_rows a (with_counter_row x)) (λ x c. refl) w.counters money
    ∙ each_meta (with_counted a) (counted_meta a) w.buckets opening

change_meta : (names : Names) (m : Meta) (change : Change) (texts : Option Kept) (c : TablesContent)
    → beside (with_change names m change texts c) ≡ beside (with_meta m c)
change_meta names m change texts c =
    let stored = with_stored change.number names change.rows (with_meta m c) in
    let charged = with_all_paid change.number change.charges.items stored in
    redeemed_meta change.redeemed (with_kept change.number change.kept texts charged)
    ∙ kept_meta change.number change.kept texts charged
    ∙ each_meta (with_paid change.number) (λ x c. refl) change.charges.items stored
    ∙ stored_meta change.number names change.rows (with_meta m c)

-- ---- a change that passed the tests

module _ (names : Names) (text : List ℕ) (change : Change) (texts : Option Kept)
    (named : IsNamed change.rows) (told : AreTexts change.number change.kept texts)
    (texts_ruled : are_ruled_texts change.number change.kept texts ≡ true)
    (last : change.moment ≤ 4_102_488_000) where
  become : (old new : Trees) → last_in (tables_content old).meta ≤ change.moment
      → MayBeMade names change (rows_in old change.number)
      → Turns (with_change names (meta_with text change) change texts) old new
      → Becomes names text change old new
  become old new later may turns =
      let kept : (tables_content new).meta ≡ Some (meta_with text change) =
      ap (λ (c : TablesContent). c.meta) turns.content ∙ ap (λ (b : Beside). b.meta)
      (change_meta names (meta_with text change) change texts (tables_content old)) in
      record {
        tables = ap (tables_of names) turns.content
            ∙ changes_read names (meta_with text change) change texts (tables_content old) named may
            told
            refl;
        tidy = λ t. subst (IsTidy names) (sym turns.content)
            (tidy_change names (meta_with text change) change texts (tables_content old) named may told
            t);
        rules = λ shelf is there in'. record {
          each = subst (λ n. IsInRulesBy shelf n (tables_content new)) (sym (ap last_in kept))
              (subst (IsInRulesBy shelf change.moment) (sym turns.content)
              (subst (λ n. IsInRulesBy shelf change.moment
              (with_change n (meta_with text change) change texts (tables_content old))) (sym is)
              (change_ruled shelf (tables_content old) there in' (meta_with text change) change
              texts refl later (subst (λ n. is_ruled_change n change ≡ true) is may.ruled)
              texts_ruled
              (subst (λ n. AreWritable n change.rows.sessions change.rows.groups) is
              may.reservations))));
          beside = subst AreAllBeside (sym turns.content)
              (beside_change names (meta_with text change) change texts (tables_content old) named
              may told in'.beside);
          granted = subst (AreAllOfBooks shelf) (sym turns.content)
              (subst (λ n. AreAllOfBooks shelf
              (with_change n (meta_with text change) change texts (tables_content old))) (sym is)
              (books_change shelf (meta_with text change) change texts (tables_content old) named
              (subst (λ n. MayBeMade n change (rows_in old change.number)) is may) told
              in'.granted));
        };
        stands = record {
          tabled = record { catalog = turns.catalog; stored = turns.stored; plain = turns.plain };
          meta = kept;
          last = last;
          later = later;
          books = ap (λ (c : TablesContent). c.books) turns.content ∙ ap (λ (b : Beside). b.books)
              (change_meta names (meta_with text change) change texts (tables_content old));
        };
      }

  -- and reservations are stored so
  become_over : (old new : Trees) → last_in (tables_content old).meta ≤ change.moment
      → MayBeMade names change (rows_in old change.number)
      → Turns (with_change names (meta_with text change) change texts) old new
      → BecomesOver names text change old new
  become_over old new later may turns = record {
    becomes = become old new later may turns;
    grants = subst (λ (c : TablesContent). AreGrantsOver change.rows.groups
        (rows_in old change.number) (c.rows change.number)) (sym turns.content)
        (grants_written names (meta_with text change) change texts (tables_content old) named may
        told);
  }

  -- the groups that are new are put without a removal, and so is what stays
  turned : (known : Known) (old db : Trees) →
      IsTested names change (rows_in old change.number) known.are_new →
      Sees known.seen.now old → Keeps names known.kept.now old →
      IsKeptOnce known.is_there (meta_with text change) (tables_content old).meta →
      Turns (with_change_put names known change texts) old db →
      Turns (with_change names (meta_with text change) change texts) old db
  turned known old db found sees keeps there turns = record {
    content = turns.content
        ∙ put_over names known text change texts (tables_content old) named found
        (record {
          groups = λ x e. sees_kept known.seen.now old change.number x sees e;
          buckets = λ b e. keeps_counted names known.kept.now old change.number b keeps e;
        }) there;
    catalog = turns.catalog;
    stored = turns.stored;
    plain = turns.plain;
  }

  -- rule: database-writes.commits-change
  pub become_at : (known : Known) (old mid : State) → OnlyReads old mid
      → (HasCleanDisk mid → IsTrue mid.is_open
      → IsTested names change (rows_in old.now.trees change.number) known.are_new)
      → AreSeen known.seen.now old → AreKept names known.kept.now old
      → Stands known.is_there (meta_with text change) old
      → HasCleanDisk mid → IsTrue mid.is_open → (db : Trees)
      → Turns (with_change_put names known change texts) mid.now.trees db
      → BecomesOver names text change old.now.trees db
  become_at known old mid only may sees keeps there clean on db turns =
      let was : IsTrue old.is_open = (only.still clean on).was_open in
      let disk = only.cleanness clean in
      become_over old.now.trees db
      (kept_up_to known.is_there (meta_with text change) (tables_content old.now.trees).meta
      (there disk was)) (may clean on).made
      (turned known old.now.trees db (may clean on) (sees disk was) (keeps disk was)
      (there disk was)
      (subst (λ (d : Database). Turns (with_change_put names known change texts) d.trees db)
      (only.still clean on).now_is turns))

-- ---- the numbers that it takes

-- of what was tested, and of what was put where no charge was
-- rule: database-writes.numbers-free
pub free_at : (names : Names) (text : List ℕ) (change : Change) → IsNamed change.rows
    → (known : Known) (old mid : State) → OnlyReads old mid
    → (HasCleanDisk mid → IsTrue mid.is_open
    → IsTested names change (rows_in old.now.trees change.number) known.are_new)
    → AreSeen known.seen.now old → AreKept names known.kept.now old
    → Stands known.is_there (meta_with text change) old
    → HasCleanDisk mid → IsTrue mid.is_open
    → LacksThen names known change (tables_content mid.now.trees)
    → AreNumbersFree change (rows_in old.now.trees change.number)
free_at names text change named known old mid only may sees keeps there clean on lacks =
    let was : IsTrue old.is_open = (only.still clean on).was_open in
    let disk = only.cleanness clean in
    let found = may clean on in
    record {
      charges = lacked_before names known text change (tables_content old.now.trees) named found
          (record {
            groups = λ x e. sees_kept known.seen.now old.now.trees change.number x
                (sees disk was) e;
            buckets = λ b e. keeps_counted names known.kept.now old.now.trees change.number b
                (keeps disk was) e;
          }) (there disk was)
          (subst (λ (d : Database). LacksThen names known change (tables_content d.trees))
          (only.still clean on).now_is lacks);
      buckets = found.free;
    }
