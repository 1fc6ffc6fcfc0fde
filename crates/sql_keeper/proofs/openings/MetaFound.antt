-- What is kept once, as an opening reads it: the version before the rest.
use Rattle.std.proofs.Common.{◌≡◌, ◌≤◌, sym, subst, ℕ, Some, None, Option, ◌∙◌}
use Rattle.std.specs.Prelude.{Ok, Err, Result, IfErr, IfOk, IfSome}
use Rattle.sqlite_trees.specs.Tree.{Trees}
use Rattle.sqlite.specs.State.{State, HasCleanDisk}
use Rattle.sql_tables.specs.Opens.{IsNoVersion}
use Rattle.sql_tables.specs.Statements.{Reads, ReadsWithin}
use Rattle.sql_tables.specs.declared.fault.OpenFault.{OpenFault}
use Rattle.sql_tables.specs.declared.fault.OpenFault.TheVariants.{Foreign, Version, Rules, Older}
use Rattle.sql_tables.specs.declared.reading.ReadFault.{ReadFault}
use Rattle.sql_tables.specs.declared.reading.ReadFault.TheVariants as reading
use Rattle.sql_rows.specs.Content.{tables_content}
use Rattle.sql_rows.specs.Ruled.{IsMetaRead, IsRefusedMeta}
use Rattle.sql_rows.specs.Texts.{meta_of}
use Rattle.sql_rows.specs.declared.meta_rows.MetaColumns.{MetaColumns}
use Rattle.sql_keeper.specs.Finds.{IsMetaFound}

abbrev IsRead : ℕ → Trees → Option MetaColumns → Type 0
IsRead v trees o = IsMetaRead v o (tables_content trees).meta

abbrev IsRow : Trees → MetaColumns → Type 0
IsRow trees m = (tables_content trees).meta ≡ Some (meta_of m)

-- ---- it was read

pub meta_read : (v : ℕ) (old new : State) (o : Option MetaColumns)
    → Reads {A = Option MetaColumns} {E = ReadFault} (IsRead v) old new (Ok o)
    → (r : Result MetaColumns OpenFault) → IfOk r (λ m. o ≡ Some m)
    → Reads {A = MetaColumns} {E = OpenFault} IsRow old new r
meta_read v old new o reads (Ok m) kept = record {
  found = λ clean. subst (IsRead v old.now.trees) kept (reads.found clean);
  only = reads.only;
  stays = reads.stays;
  survives = reads.survives;
}
meta_read v old new o reads (Err e) kept = record {
  found = λ clean. tt;
  only = reads.only;
  stays = λ clean. tt;
  survives = reads.survives;
}

pub meta_read_within : (v : ℕ) (old new : State) (o : Option MetaColumns)
    → ReadsWithin {A = Option MetaColumns} {E = ReadFault} (IsRead v) old new (Ok o)
    → (r : Result MetaColumns OpenFault) → IfOk r (λ m. o ≡ Some m)
    → ReadsWithin {A = MetaColumns} {E = OpenFault} IsRow old new r
meta_read_within v old new o reads (Ok m) kept = record {
  found = λ clean. subst (IsRead v old.now.trees) kept (reads.found clean);
  still = record {
    done = reads.still.done;
    kept = λ clean. tt;
    survives = reads.still.survives;
  };
}
meta_read_within v old new o reads (Err e) kept = record {
  found = λ clean. tt;
  still = record {
    done = λ clean. tt;
    kept = λ clean.
        let same = reads.still.done clean in
        record { was_open = λ on. same.0.was_open; committed = λ on. same.0.committed_is };
    survives = reads.still.survives;
  };
}

-- what its version says
-- rule: database-migrated.older
pub meta_told : (v : ℕ) (old new : State) (o : Option MetaColumns)
    → (HasCleanDisk new → IsRead v old.now.trees o) → IfSome o (λ m. m.version ≡ v)
    → (r : Result MetaColumns OpenFault) → IfOk r (λ m. o ≡ Some m)
    → IfErr r (λ e. (e ≡ Version) × (o ≡ None)) → IfOk r (λ m. m.last ≤ 4_102_488_000)
    → IsMetaFound v old new r
meta_told v old new o read version (Ok m) kept other last = record {
  own = subst (λ x. IfSome x (λ (m : MetaColumns). m.version ≡ v)) kept version;
  last = last;
  version = λ clean. tt;
  rules = λ clean. tt;
  other = tt;
}
meta_told v old new o read version (Err e) kept other last = record {
  own = tt;
  last = tt;
  version = λ clean is. subst (IsRead v old.now.trees) other.1 (read clean);
  rules = λ clean is. absurd (let no : Version ≡ Rules = sym other.0 ∙ is in cc);
  other = (
    (λ is. let no : Version ≡ Foreign = sym other.0 ∙ is in cc),
    (λ is. let no : Version ≡ Older = sym other.0 ∙ is in cc),
  );
}

-- ---- it wasn't

pub meta_unread : (v : ℕ) (old new : State) (f : ReadFault)
    → Reads {A = Option MetaColumns} {E = ReadFault} (IsRead v) old new (Err f) → (e : OpenFault)
    → Reads {A = MetaColumns} {E = OpenFault} IsRow old new (Err e)
meta_unread v old new f reads e = record {
  found = λ clean. tt;
  only = reads.only;
  stays = λ clean. tt;
  survives = reads.survives;
}

pub meta_unread_within : (v : ℕ) (old new : State) (f : ReadFault)
    → ReadsWithin {A = Option MetaColumns} {E = ReadFault} (IsRead v) old new (Err f)
    → (e : OpenFault) → ReadsWithin {A = MetaColumns} {E = OpenFault} IsRow old new (Err e)
meta_unread_within v old new f reads e = record {
  found = λ clean. tt;
  still = record {
    done = λ clean. tt;
    kept = reads.still.kept;
    survives = reads.still.survives;
  };
}

-- rule: database-migrated.older
pub meta_untold : (v : ℕ) (old new : State) (f : ReadFault)
    → (HasCleanDisk new → f ≡ reading.Rules → IsRefusedMeta v (tables_content old.now.trees).meta)
    → (e : OpenFault) → IsNoVersion e → ¬ (e ≡ Foreign) → (e ≡ Rules → f ≡ reading.Rules)
    → IsMetaFound v old new (Err e)
meta_untold v old new f refused e told ours rules = record {
  own = tt;
  last = tt;
  version = λ clean is. absurd (told.0 is);
  rules = λ clean is. refused clean (rules is);
  other = (ours, told.1);
}
