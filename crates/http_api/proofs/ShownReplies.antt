-- What is answered over a store that may not be asked any more.
use Rattle.std.proofs.Common.{◌≡◌, ◌∙◌, List, refl, sym, subst, Option, Result, ◌⊎◌, inl, inr}
use Rattle.std.specs.Prelude.{ℕ, OnOk, OnErr}
use Rattle.std.specs.Io.KnownBytes.{Appends}
use Rattle.texts.specs.declared.streams.StreamFault.{StreamFault}
use Rattle.shelves.specs.Shelves.{Shelf}
use Rattle.keepers.specs.Seen.{Seen}
use Rattle.keepers.specs.Tables.{Tables}
use Rattle.charging.specs.declared.running.DatedCommand.{DatedCommand}
use Rattle.charging.specs.Continued.{ForEachList, Continues}
use Rattle.charging.specs.Parts.{Leaves}
use Rattle.charging.specs.Served.{AreTables, Writes}
use Rattle.http_messages.specs.Texts.{AppendsBeginning}
use Rattle.http_api.specs.Replies.{AreLeftAfter, HoldsNext, ShowsReply, ShowsHonestReply}
use Rattle.http_api.proofs.Continuing.{continued_none, continued_more}
use Rattle.http_api.proofs.RequestReplies.{ok_gives, err_gives}

module _ (b : Shelf) where
  -- a stop leaves the tables themselves
  pub left_same : (held left : Tables) → left ≡ held → ForEachList b held (AreLeftAfter b left)
  left_same held left same = λ list time are. inl (subst (AreTables b list) (sym same) are)

  -- or those with a command that failed
  left_written : (d : DatedCommand) (held left : Tables) →
      Writes b d.command d.moment held left → ForEachList b held (AreLeftAfter b left)
  left_written d held left writes = λ list time are. inr (d, writes list time are)

  -- ---- tables at the last moment at which a keeper could be asked

  pub holds_none : (k : Seen) → HoldsNext b k k k.tables k.tables
  holds_none k = record {
    now = λ clean. refl;
    continued = continued_none b k.tables;
    left = λ before t l. before t l;
  }

  -- rule: http-end
  pub holds_more : (old mid new : Seen) (held next last : Tables) →
      HoldsNext b old mid held next → HoldsNext b mid new next last → HoldsNext b old new held last
  holds_more old mid new held next last first second = record {
    now = second.now;
    continued = continued_more b held next last first.continued second.continued;
    left = λ before t l. second.left (first.left before) t l;
  }

  module _ (old new : Seen) (held : Tables) (before : old.clean → held ≡ old.tables)
      (cleanness : new.clean → old.clean) where
    -- nothing was written
    pub holds_same : (new.clean → new.tables ≡ old.tables) →
        ((t : Tables) → new.left t → old.left t) → HoldsNext b old new held held
    holds_same same left = record {
      now = λ clean. before (cleanness clean) ∙ sym (same clean);
      continued = continued_none b held;
      left = λ first t l. first t (left t l);
    }

    -- a command failed: a stop may leave it
    -- rule: http-end
    pub holds_failed : (d : DatedCommand) → (new.clean → new.tables ≡ old.tables) →
        ((t : Tables) → new.left t →
        old.left t ⊎ (old.clean × Writes b d.command d.moment old.tables t)) →
        HoldsNext b old new held held
    holds_failed d same left = record {
      now = λ clean. before (cleanness clean) ∙ sym (same clean);
      continued = continued_none b held;
      left = λ first t l. at first t (left t l);
    }
      where
        at : ((t : Tables) → old.left t → ForEachList b held (AreLeftAfter b t)) → (t : Tables) →
            old.left t ⊎ (old.clean × Writes b d.command d.moment old.tables t) →
            ForEachList b held (AreLeftAfter b t)
        at first t (inl l) = first t l
        at first t (inr w) = left_written d held t
            (subst (λ (x : Tables). Writes b d.command d.moment x t) (sym (before w.0)) w.1)

    -- the store answered: a stop leaves its tables
    pub holds_new : new.clean → Continues b old.tables new.tables →
        ((t : Tables) → new.left t → t ≡ new.tables) → HoldsNext b old new held new.tables
    holds_new clean continued settled = record {
      now = λ is. refl;
      continued = subst (λ (x : Tables). Continues b x new.tables)
          (sym (before (cleanness clean))) continued;
      left = λ first t l. left_same new.tables t (settled t l);
    }

module _ {A : Type 0} (Told : (List ℕ → Type 0) → Tables → Tables → Type 0) (b : Shelf)
    (empty full : Option (List ℕ)) (old new : Seen) (result : Result A StreamFault) where
  -- where nothing changes, of any tables
  pub shows_held : (Tells : (List ℕ → Type 0) → Type 0) →
      (new.honest → (held : Tables) → (old.clean → held ≡ old.tables) →
      HoldsNext b old new held held) →
      ((Writes : List ℕ → Type 0) (t : Tables) → Tells Writes → Told Writes t t) →
      OnOk result (Tells (Appends empty full)) →
      OnErr result (Tells (AppendsBeginning empty full)) →
      ShowsHonestReply Told b empty full old new result
  shows_held Tells holds told ok err = λ h held before. record {
    next = held;
    holds = holds h held before;
    ok = ok_gives result (told (Appends empty full) held) ok;
    err = err_gives result (told (AppendsBeginning empty full) held) err;
  }

  pub shows_same : (Tells : (List ℕ → Type 0) → Type 0) → (new.clean → old.clean) →
      (new.clean → new.tables ≡ old.tables) →
      (new.honest → (t : Tables) → new.left t → old.left t) →
      ((Writes : List ℕ → Type 0) (t : Tables) → Tells Writes → Told Writes t t) →
      OnOk result (Tells (Appends empty full)) →
      OnErr result (Tells (AppendsBeginning empty full)) →
      ShowsHonestReply Told b empty full old new result
  shows_same Tells cleanness same left told ok err = shows_held Tells
      (λ h held before. holds_same b old new held before cleanness same (left h)) told ok err

  -- where a command failed
  pub shows_failed : (d : DatedCommand) (Tells : (List ℕ → Type 0) → Type 0) →
      (new.clean → old.clean) → (new.clean → new.tables ≡ old.tables) →
      Leaves old new (λ t. old.clean × Writes b d.command d.moment old.tables t) →
      ((Writes : List ℕ → Type 0) (t : Tables) → Tells Writes → Told Writes t t) →
      OnOk result (Tells (Appends empty full)) →
      OnErr result (Tells (AppendsBeginning empty full)) →
      ShowsHonestReply Told b empty full old new result
  shows_failed d Tells cleanness same left told ok err = shows_held Tells
      (λ h held before. holds_failed b old new held before cleanness d same (left h)) told ok err

  -- where the store answered, of the keeper's tables
  pub shows_new : (Tells : (List ℕ → Type 0) → Type 0) → (new.honest → new.clean) →
      (new.clean → old.clean) → (new.clean → Continues b old.tables new.tables) →
      ((t : Tables) → new.clean → new.left t → t ≡ new.tables) →
      ((Writes : List ℕ → Type 0) → new.clean → Tells Writes → Told Writes old.tables new.tables) →
      OnOk result (Tells (Appends empty full)) →
      OnErr result (Tells (AppendsBeginning empty full)) →
      ShowsHonestReply Told b empty full old new result
  shows_new Tells stands cleanness continued settled told ok err = λ h held before.
      let c : new.clean = stands h in
      let same : old.tables ≡ held = sym (before (cleanness c)) in
      record {
        next = new.tables;
        holds = holds_new b old new held before cleanness c (continued c) (λ t l. settled t c l);
        ok = subst (λ (x : Tables). OnOk result (Told (Appends empty full) x new.tables)) same
            (ok_gives result (told (Appends empty full) c) ok);
        err = subst (λ (x : Tables). OnErr result (Told (AppendsBeginning empty full) x new.tables))
            same
            (err_gives result (told (AppendsBeginning empty full) c) err);
      }

  -- said otherwise
  pub shows_as : (Other : (List ℕ → Type 0) → Tables → Tables → Type 0) →
      ((Writes : List ℕ → Type 0) (x y : Tables) → Told Writes x y → Other Writes x y) →
      ShowsHonestReply Told b empty full old new result →
      ShowsHonestReply Other b empty full old new result
  shows_as Other told shows = λ h held before.
      let had : ShowsReply Told b empty full old new held result = shows h held before in
      record {
        next = had.next;
        holds = had.holds;
        ok = ok_gives result (told (Appends empty full) held had.next) had.ok;
        err = err_gives result (told (AppendsBeginning empty full) held had.next) had.err;
      }
