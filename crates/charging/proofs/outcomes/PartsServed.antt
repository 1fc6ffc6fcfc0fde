-- What a part of a step serves, by the reads before it and by what it commits.
use Rattle.std.proofs.Common.{◌≡◌, ℕ, ◌≤◌, ◌+◌, false, true≢false, refl, ◌∙◌, subst, ap, arith, inl}
use Rattle.std.specs.Prelude.{min, is_ok, Result, Ok, Err, OnErr, IfOk}
use Rattle.commands.specs.declared.answer.Answer.{Answer}
use Rattle.commands.specs.declared.command.Command.{Command}
use Rattle.shelves.specs.Shelves.{Shelf}
use Rattle.keepers.specs.declared.fault.StoreFault.{StoreFault}
use Rattle.keepers.specs.declared.loaded.Change.{Change}
use Rattle.keepers.specs.Faults.{HasCause, max_failures}
use Rattle.keepers.specs.Keeping.{KeeperReads}
use Rattle.keepers.specs.Seen.{Seen}
use Rattle.keepers.specs.Tables.{Tables}
use Rattle.charging.specs.Parts.{PartKeeps, PartReads}
use Rattle.charging.specs.Stepping.{Answers, Commits, CommitsOver, LeavesRefused, ServesAt}
use Rattle.charging.specs.Stepping.{ServesGiven, ServesOver, WritesAt, is_unaccepted}
use Rattle.charging.proofs.outcomes.Refused.{accepted_given}
use Rattle.charging.proofs.outcomes.Serving.{left_as, served-by}

-- ---- reads

at_most : {x y z : ℕ} → x ≤ y → y ≤ z → x ≤ z
at_most p q = omega (arith, p, q)

raised : (old mid new : ℕ) → old ≤ mid → min (mid + 1) max_failures ≤ new →
    min (old + 1) max_failures ≤ new
raised old mid new le by = omega (arith, le, by)

-- what reads leave: the tables are as before, and so is what a stop leaves
pub record AreReads (old mid : Seen) : Type 0 where
  pub same : mid.clean → mid.tables ≡ old.tables
  pub cleanness : mid.clean → old.clean
  pub honesty : mid.honest → old.honest
  pub stands : mid.honest → old.clean → mid.clean
  pub left : mid.honest → (x : Tables) → mid.left x → old.left x
  pub count : old.failed ≤ mid.failed

-- one read of a keeper, which answered
pub read_of : {T : Type 0} {old mid : Seen} {Found : T → Type 0} {x : T} →
    KeeperReads old mid Found (Ok x) → AreReads old mid
read_of r = record {
  same = r.same;
  cleanness = r.cleanness;
  honesty = r.honesty;
  stands = λ honest was. r.stands honest;
  left = r.left;
  count = r.cause.kept;
}

-- one of a part
pub part_read : {T : Type 0} {old mid : Seen} {Found : T → Type 0} {x : T} →
    PartReads old mid Found (Ok x) → AreReads old mid
part_read r = record {
  same = r.same;
  cleanness = r.cleanness;
  honesty = r.honesty;
  stands = r.stands;
  left = r.left;
  count = r.cause.kept;
}

-- one after another
pub reads_then : {old mid new : Seen} → AreReads old mid → AreReads mid new → AreReads old new
reads_then a b = record {
  same = λ clean. b.same clean ∙ a.same (b.cleanness clean);
  cleanness = λ clean. a.cleanness (b.cleanness clean);
  honesty = λ honest. a.honesty (b.honesty honest);
  stands = λ honest was. b.stands honest (a.stands (b.honesty honest) was);
  left = λ honest x l. a.left (b.honesty honest) x (b.left honest x l);
  count = at_most a.count b.count;
}

-- what answers after them answers no fault
no_cause : {T : Type 0} {old new : ℕ} (x : T) → old ≤ new → HasCause old new (Ok x)
no_cause x le = record { kept = le; cause = λ e. absurd (true≢false (ap is_ok e)) }

-- what they find
pub found_by : {T : Type 0} {old mid : Seen} {Found : T → Type 0} {x : T} → AreReads old mid →
    (mid.clean → Found x) → PartReads old mid Found (Ok x)
found_by {x = x} reads found = record {
  found = found;
  same = reads.same;
  cleanness = reads.cleanness;
  honesty = reads.honesty;
  stands = reads.stands;
  left = reads.left;
  cause = no_cause x reads.count;
}

-- ---- a part after reads

on_err : {A B P Q : Type 0} (r : Result A B) → OnErr r P → (P → Q) → OnErr r Q
on_err (Ok a) p f = tt
on_err (Err e) p f = f p

-- a fault of the part leaves what the reads leave
kept_after : {old mid new : Seen} {result : Result Answer StoreFault} → AreReads old mid →
    PartKeeps mid new result → PartKeeps old new result
kept_after {old = old} {mid = mid} {new = new} {result = result} reads part = record {
  err = λ clean. on_err result (part.err clean) (λ same. same ∙ reads.same (part.cleanness clean));
  cleanness = λ clean. reads.cleanness (part.cleanness clean);
  honesty = λ honest. reads.honesty (part.honesty honest);
  stands = λ honest was. part.stands honest (reads.stands (part.honesty honest) was);
  cause = record {
    kept = at_most reads.count part.cause.kept;
    cause = λ e. raised old.failed mid.failed new.failed reads.count (part.cause.cause e);
  };
}

-- an answer after reads alone
pub told_after : {b : Shelf} {c : Command} {t : ℕ} {old mid : Seen} {given : Answer} →
    AreReads old mid → (mid.clean → Answers b c t old.tables mid.tables given) →
    ServesOver b c t old mid (Ok given)
told_after {given = given} reads told = record {
  served = told;
  refused = λ clean e. reads.same clean;
  kept = record {
    err = λ clean. tt;
    cleanness = reads.cleanness;
    honesty = reads.honesty;
    stands = reads.stands;
    cause = no_cause given reads.count;
  };
  left = λ honest x l. inl (reads.left honest x l);
}

module _ {old mid new : Seen} {result : Result Answer StoreFault} (reads : AreReads old mid)
    (stands : mid.honest → mid.clean) where
  -- a part that is served by what the reads found
  pub served_after : {Given : Tables → Shelf → Type 0} {b : Shelf} {c : Command} {t : ℕ} →
      (mid.clean → Given mid.tables b) → ServesGiven Given c t mid new result →
      ServesOver b c t old new result
  served_after {b = b} {c = c} {t = t} given part = record {
    served = λ clean. let clean_mid = part.kept.cleanness clean in
        subst (λ (x : Tables). ServesAt b c t x new.tables result) (reads.same clean_mid)
        (part.served clean b (given clean_mid));
    refused = λ clean. subst (λ (x : Tables). LeavesRefused x new.tables result)
        (reads.same (part.kept.cleanness clean)) (part.refused clean);
    kept = kept_after reads part.kept;
    left = λ honest x l. let honest_mid = part.kept.honesty honest in
        let clean_mid = stands honest_mid in
        left_as (part.left honest x l) (reads.left honest_mid x)
        (λ writes. subst (λ (y : Tables). WritesAt b c t y x) (reads.same clean_mid)
        (writes b (given clean_mid)));
  }

  -- a commit, which is what the command comes to
  pub committed_after : {b : Shelf} {c : Command} {t : ℕ} {change : Change} (told : Answer) →
      is_unaccepted told ≡ false → CommitsOver change told mid new result →
      ((x : Tables) → mid.clean → Commits change mid.tables x → Answers b c t old.tables x told) →
      ServesOver b c t old new result
  committed_after {b = b} {c = c} {t = t} told accepted commits comes = record {
    served = λ clean list time is le. let clean_mid = commits.kept.cleanness clean in
        served-by b list c t old.tables mid.tables new.tables told result (reads.same clean_mid)
        (commits.done clean) (commits.kept.err clean)
        (λ made. comes new.tables clean_mid made list time is le);
    refused = λ clean. accepted_given result told _ _ accepted (commits.done clean);
    kept = kept_after reads commits.kept;
    left = λ honest x l. let honest_mid = commits.kept.honesty honest in
        left_as (commits.left honest x l) (reads.left honest_mid x)
        (λ made list time is le. (comes x (stands honest_mid) made list time is le).tables);
  }

-- a commit that is what the command comes to, for each shelf that is as it says
pub committed_given : {Given : Tables → Shelf → Type 0} {c : Command} {t : ℕ} {old new : Seen}
    {result : Result Answer StoreFault} {change : Change} (told : Answer) →
    is_unaccepted told ≡ false → CommitsOver change told old new result →
    ((x : Tables) → Commits change old.tables x → (b : Shelf) → Given old.tables b →
    Answers b c t old.tables x told) → ServesGiven Given c t old new result
committed_given {c = c} {t = t} {old = old} {new = new} {result = result} told accepted commits
    comes = record {
      served = λ clean b given list time is le.
          served-by b list c t old.tables old.tables new.tables told result refl
          (commits.done clean) (commits.kept.err clean)
          (λ made. comes new.tables made b given list time is le);
      refused = λ clean. accepted_given result told _ _ accepted (commits.done clean);
      kept = commits.kept;
      left = λ honest x l. left_as (commits.left honest x l) (λ before. before)
          (λ made b given list time is le. (comes x made b given list time is le).tables);
    }
