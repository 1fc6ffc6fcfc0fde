-- What a balance comes to: the state that is found of an account is its ledger's.
use Rattle.std.proofs.Common.{◌≡◌, ℕ, ◌≤◌, false, List, ◌++◌, map, refl, sym, ap, subst, ◌∙◌, Some}
use Rattle.std.proofs.Common.{None}
use Rattle.std.proofs.Math.Nat.{le-max_right}
use Rattle.std.specs.Prelude.{if◌then◌else◌}
use Rattle.buckets.specs.Row.{BucketRow}
use Rattle.commands.specs.declared.answer.Answer.TheVariants as answer
use Rattle.commands.specs.declared.answer.Refusal.TheVariants.{AccountUnknown}
use Rattle.commands.specs.declared.balance.AccountBalance.{AccountBalance}
use Rattle.commands.specs.declared.command.Command.TheVariants as command
use Rattle.shelves.specs.Shelves.{Shelf}
use Rattle.ledger.specs.Balance.{buckets_at}
use Rattle.reserving.specs.Changes.{advanced}
use Rattle.ledger.specs.Ledger.{Ledger}
use Rattle.reserving.specs.Left.{LeftRows, IsWith, is_dead, bucket_in, left_of, merged, only}
use Rattle.reserving.specs.Rows.{AccountRows}
use Rattle.reserving.specs.Stored.{priced}
use Rattle.reserving.proofs.LeftMore.{with_advanced}
use Rattle.ledger.specs.Pricing.{validity_of}
use Rattle.keepers.specs.Change.{IsLoadedFrom, AreDeadOf}
use Rattle.keepers.specs.Tables.{Tables}
use Rattle.keepers.proofs.Found.{bucket_filter}
use Rattle.charging.specs.Accepted.{Accepted, as_of, last_moment, IsInTime}
use Rattle.charging.specs.Balances.{bucket_balance, by_number, account_balance, AreByNumber}
use Rattle.charging.specs.Histories.{History}
use Rattle.charging.specs.Outcomes.{only_told}
use Rattle.charging.specs.OutcomeParts.{opened_outcome, unopened_outcome}
use Rattle.charging.specs.Served.{history, AreTables, IsServed}
use Rattle.charging.specs.States.{IsState, IsStateOf}
use Rattle.charging.specs.declared.balances.AccountState.{AccountState}
use Rattle.charging.proofs.runs.AcceptedTables.{row_none}
use Rattle.charging.proofs.accounts.ByNumber.{joined_by_number}
use Rattle.charging.proofs.outcomes.Serving.{IsOpened, is_opened, served-told, outcome-opened}

-- ---- the state

pub none-stated : (b : Shelf) (a : List ℕ) (list : List Accepted) (old : Tables) →
    AreTables b list old → (old.rows a).head ≡ None → (history b a list).opened ≡ false
none-stated b a list old tables none =
    (row_none b (as_of a list) (history b a list) (old.rows a) none (tables.accounts a)).0

-- rule: balance
pub some-stated : (b : Shelf) (a : List ℕ) (t : ℕ) (list : List Accepted) (old : Tables)
    (x : AccountRows) (dead : List BucketRow) (s : AccountState) → IsInTime list →
    AreTables b list old → last_moment list ≤ t → IsLoadedFrom b t (old.rows a) x →
    AreDeadOf (old.rows a) dead → IsStateOf t x dead s → IsState b t (history b a list) (Some s)
some-stated b a t list old x dead s time tables le loads found h =
    let there : IsOpened b list t a old x =
    is_opened b list t a old x time le tables loads h.account in
    let ledger : Ledger = (history b a list).ledger in
    let left : LeftRows = left_of t (priced b there.are.listed) in
    let early : x.as_of ≤ t =
    subst (λ (m : ℕ). x.as_of ≤ m) there.moment (le-max_right t x.as_of) in
    let later : IsWith ledger left t (advanced t x) =
    with_advanced ledger left t x early there.with_left in
    let same : (n : ℕ) → bucket_in n dead ≡ bucket_in n left.buckets = λ n. found.found n
    ∙ ap (only is_dead) (there.are.are.buckets n)
    ∙ sym (bucket_filter n is_dead there.are.listed.buckets there.are.kept.sound.distinct) in
    let buckets : s.buckets.items ≡ by_number (merged left.buckets (advanced t x).buckets) =
    joined_by_number left.buckets (advanced t x).buckets dead s.buckets.items
    later.apart.whole.sound.distinct found.apart same
    (subst (λ (m : ℕ). AreByNumber ((advanced m x).buckets ++ dead) s.buckets.items)
    there.moment h.buckets) in (
      there.opened,
      record {
        moment = h.moment ∙ there.moment;
        barred = h.barred ∙ there.with_left.rows.barred;
        buckets = buckets ∙ ap by_number later.rows.buckets
            ∙ ap (λ (k : Shelf). by_number (buckets_at (validity_of k) t ledger)) there.of_book;
      },
    )

-- ---- the answer

pub balance-unknown : (b : Shelf) (list : List Accepted) (n : List ℕ) (t : ℕ) (old new : Tables) →
    IsInTime list → last_moment list ≤ t → AreTables b list old →
    (history b n list).opened ≡ false → new ≡ old →
    IsServed b list (command.Balance n) t old new (answer.Refused AccountUnknown)
balance-unknown b list n t old new time le tables none same =
    let h : History = history b n list in
    served-told b list (command.Balance n) t n refl time le
    (only_told (answer.Refused AccountUnknown) h) (answer.Refused AccountUnknown) old new
    (ap (λ v. if v then opened_outcome b None h (command.Balance n) t
    else unopened_outcome None h (command.Balance n)) none)
    refl refl same tables

-- rule: balance
pub balance-told : (b : Shelf) (list : List Accepted) (n : List ℕ) (t : ℕ) (old new : Tables)
    (s : AccountState) (given : AccountBalance) → IsInTime list → last_moment list ≤ t →
    AreTables b list old → IsState b t (history b n list) (Some s) →
    given ≡ record {
      account = n;
      barred = s.barred;
      buckets = map bucket_balance s.buckets.items;
      moment = s.moment;
    } → new ≡ old → IsServed b list (command.Balance n) t old new (answer.Balance given)
balance-told b list n t old new s given time le tables state is same =
    let h : History = history b n list in
    served-told b list (command.Balance n) t n refl time le
    (only_told (answer.Balance (account_balance b n t h.ledger)) h) (answer.Balance given) old new
    (outcome-opened b list (command.Balance n) t n refl state.0) refl
    (ap answer.Balance (is ∙ (λ i. record {
      account = n;
      barred = state.1.barred i;
      buckets = map bucket_balance (state.1.buckets i);
      moment = state.1.moment i;
    })))
    same tables
