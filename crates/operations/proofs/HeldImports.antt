-- What a stop leaves of vouchers that are added.
use Rattle.std.proofs.Common.{◌≡◌, ◌≤◌, ℕ, zero, suc, List, [], ◌∷◌, ◌++◌, length, take}
use Rattle.std.proofs.Common.{refl, sym, ap, subst, ◌∙◌, arith, ◌⊎◌, inl, inr}
use Rattle.std.proofs.lemmas.List.{length-append, append-nil}
use Rattle.std.proofs.Math.Seq.{take-append_seam}
use Rattle.commands.specs.declared.command.Command.TheVariants.{AddVoucher}
use Rattle.commands.specs.declared.command.VoucherAddition.{VoucherAddition}
use Rattle.shelves.specs.Shelves.{Shelf}
use Rattle.keepers.specs.Seen.{Seen}
use Rattle.keepers.specs.Tables.{Tables}
use Rattle.charging.specs.Accepted.{Accepted, IsInTime}
use Rattle.charging.specs.Parts.{Leaves}
use Rattle.charging.specs.Runs.{after_commands}
use Rattle.charging.specs.Served.{AreTables, Writes}
use Rattle.charging.specs.declared.running.DatedCommand.{DatedCommand}
use Rattle.charging.proofs.runs.RunLemmas.{commands-more}
use Rattle.operations.specs.Imports.{HoldsBeginning, addition_at, additions}
use Rattle.operations.specs.declared.counts.Counts.{Counts}
use Rattle.operations.proofs.ImportLemmas.{ImportsSoFar, IsSoFar, additions-more}

-- a beginning of a beginning
take-within : (n : ℕ) (xs ys : List DatedCommand) → n ≤ length xs → take n (xs ++ ys) ≡ take n xs
take-within zero xs ys h = refl
take-within (suc n) [] ys h = absurd (omega (arith, h))
take-within (suc n) (x ∷ xs) ys h =
    ap (λ (ds : List DatedCommand). x ∷ ds) (take-within n xs ys (omega (arith, h)))

-- of more commands
held-more : (b : Shelf) (commands more : List DatedCommand) (old held : Tables) →
    HoldsBeginning b commands old held → HoldsBeginning b (commands ++ more) old held
held-more b commands more old held holds = λ list time is.
    let at = holds list time is in
    record {
      count = at.count;
      few = omega (arith, at.few, length-append commands more);
      tables = subst (λ (ds : List DatedCommand). AreTables b (after_commands b list ds) held)
          (sym (take-within at.count commands more at.few)) at.tables;
    }

-- all of them
held-all : (b : Shelf) (commands : List DatedCommand) (old held : Tables) →
    ((list : List Accepted) → IsInTime list → AreTables b list old →
    AreTables b (after_commands b list commands) held) →
    HoldsBeginning b commands old held
held-all b commands old held after = λ list time is. record {
  count = length commands;
  few = omega arith;
  tables = subst (λ (ds : List DatedCommand). AreTables b (after_commands b list ds) held)
      (sym ((λ i. take (length commands) (sym (append-nil commands) i))
      ∙ take-append_seam commands [])) (after list time is);
}

-- one voucher more that was written
held-next : (b : Shelf) (t : ℕ) (rows : List VoucherAddition) (row : VoucherAddition)
    (old mid held : Tables) (n : Counts) → ImportsSoFar b (additions t rows) old mid n →
    Writes b (AddVoucher row) t mid held →
    HoldsBeginning b (additions t (rows ++ row ∷ [])) old held
held-next b t rows row old mid held n so writes =
    held-all b (additions t (rows ++ row ∷ [])) old held (λ list time is.
    let at : IsSoFar b list (additions t rows) old mid n = so list time is in
    let ds : List DatedCommand = additions t rows in
    subst (λ (xs : List DatedCommand). AreTables b (after_commands b list xs) held)
    (sym (additions-more t rows (row ∷ [])))
    (subst (λ (l : List Accepted). AreTables b l held)
    (sym (commands-more b list ds (addition_at t row)))
    (writes (after_commands b list ds) at.time at.tables)))

module _ (b : Shelf) (t : ℕ) (rows : List VoucherAddition) (old mid new : Seen) (n : Counts)
    (so : mid.clean → ImportsSoFar b (additions t rows) old.tables mid.tables n)
    (had : Leaves old mid (HoldsBeginning b (additions t rows) old.tables))
    (honesty : new.honest → mid.honest) where
  -- whatever a stop leaves after a voucher more
  pub left-more : (row : VoucherAddition) →
      Leaves mid new (λ held. mid.clean × Writes b (AddVoucher row) t mid.tables held) →
      Leaves old new (HoldsBeginning b (additions t (rows ++ row ∷ [])) old.tables)
  left-more row left = λ h held l. at held h (left h held l)
    where
      before : (held : Tables) →
          old.left held ⊎ HoldsBeginning b (additions t rows) old.tables held →
          old.left held ⊎ HoldsBeginning b (additions t (rows ++ row ∷ [])) old.tables held
      before held (inl l) = inl l
      before held (inr holds) = inr (subst
          (λ (ds : List DatedCommand). HoldsBeginning b ds old.tables held)
          (sym (additions-more t rows (row ∷ [])))
          (held-more b (additions t rows) (additions t (row ∷ [])) old.tables held holds))

      at : (held : Tables) → new.honest →
          mid.left held ⊎ (mid.clean × Writes b (AddVoucher row) t mid.tables held) →
          old.left held ⊎ HoldsBeginning b (additions t (rows ++ row ∷ [])) old.tables held
      at held h (inl l) = before held (had (honesty h) held l)
      at held h (inr w) =
          inr (held-next b t rows row old.tables mid.tables held n (so w.0) w.1)

-- of the first vouchers, of all
pub left-all : (b : Shelf) (t : ℕ)
    (rows rest all : List VoucherAddition) (tables : Tables) (old new : Seen) → rows ++ rest ≡ all →
    Leaves old new (HoldsBeginning b (additions t rows) tables) →
    Leaves old new (HoldsBeginning b (additions t all) tables)
left-all b t rows rest all tables old new e left = λ h held l. at held (left h held l)
  where
    at : (held : Tables) → old.left held ⊎ HoldsBeginning b (additions t rows) tables held →
        old.left held ⊎ HoldsBeginning b (additions t all) tables held
    at held (inl l) = inl l
    at held (inr holds) = inr (subst (λ (ds : List DatedCommand). HoldsBeginning b ds tables held)
        (sym (additions-more t rows rest) ∙ ap (additions t) e)
        (held-more b (additions t rows) (additions t rest) tables held holds))
