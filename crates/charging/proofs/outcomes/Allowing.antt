-- What giving an allowance comes to.
use Rattle.std.proofs.Common.{◌≡◌, ℕ, ◌≤◌, Bool, true, false, List, ◌∷◌, ◌++◌, refl, sym, ap}
use Rattle.std.proofs.Common.{subst, ◌∙◌, Option, Some, None}
use Rattle.std.specs.Prelude.{max, ◌||◌, IfOk, Result, Ok, Err, if◌then◌else◌}
use Rattle.commands.specs.declared.allowance.Allowance.{Allowance}
use Rattle.commands.specs.declared.answer.Answer.{Answer}
use Rattle.commands.specs.declared.answer.Answer.TheVariants as answer
use Rattle.commands.specs.declared.answer.Refusal.{Refusal}
use Rattle.commands.specs.declared.answer.Refusal.TheVariants.{AccountUnknown, ContentDiffers}
use Rattle.commands.specs.declared.answer.Refusal.TheVariants.{OutOfRange, ScopeUnknown}
use Rattle.commands.specs.declared.command.Command.TheVariants as command
use Rattle.commands.specs.declared.command.Content.TheVariants as content
use Rattle.commands.specs.declared.key.Key.{Key}
use Rattle.commands.specs.Keys.{key_of}
use Rattle.shelves.specs.Shelves.{Shelf, book_at}
use Rattle.buckets.specs.declared.kind.BucketKind.TheVariants.{Blocks}
use Rattle.ledger.specs.Ledger.{Ledger, next_bucket}
use Rattle.ledger.specs.Charges.{charge_rows}
use Rattle.ledger.specs.Requests.{credited}
use Rattle.reserving.specs.Rows.{AccountRows}
use Rattle.reserving.specs.Stored.{priced}
use Rattle.reserving.specs.Left.{LeftRows, IsWith, left_of}
use Rattle.decisions.specs.Services.{is_known}
use Rattle.keepers.specs.declared.kept_answer.KeptAnswer.{KeptAnswer}
use Rattle.keepers.specs.declared.loaded.Change.{Change}
use Rattle.keepers.specs.declared.loaded.Loaded.{Loaded}
use Rattle.keepers.specs.Tables.{Tables}
use Rattle.keepers.specs.Change.{changed}
use Rattle.charging.specs.Histories.{History}
use Rattle.charging.specs.Accepted.{Accepted, last_moment, IsInTime}
use Rattle.charging.specs.Outcomes.{outcome, only_told, keeping, is_full}
use Rattle.charging.specs.OutcomeParts.{repeated, begin_of, end_of, is_over, allowance_refusal}
use Rattle.charging.specs.OutcomeParts.{allowed_unless, new_allowance}
use Rattle.charging.specs.Served.{history, AreTables, IsServed}
use Rattle.charging.specs.Stepping.{IsTaken, Makes, Allows}
use Rattle.charging.proofs.outcomes.KeptKeys.{allowance-repeated, allowance-fresh}
use Rattle.charging.proofs.steps.Grows.{one_credit}
use Rattle.charging.proofs.outcomes.Operated.{Tells}
use Rattle.charging.proofs.outcomes.Serving.{IsOpened, is_opened, keeps-some, none-spent}
use Rattle.charging.proofs.outcomes.Serving.{served-told, served-loaded, outcome-unopened}
use Rattle.charging.proofs.outcomes.Serving.{outcome-opened, outcome-kept}

pub allow-unknown : (b : Shelf) (list : List Accepted) (a : Allowance) (t : ℕ) (old new : Tables) →
    IsInTime list → last_moment list ≤ t → AreTables b list old → (old.rows a.account).head ≡ None →
    new ≡ old →
    IsServed b list (command.Allow a) t old new (answer.Refused AccountUnknown)
allow-unknown b list a t old new time le tables none same =
    served-told b list (command.Allow a) t a.account refl time le
    (only_told (answer.Refused AccountUnknown) (history b a.account list))
    (answer.Refused AccountUnknown) old new
    (outcome-unopened b list (command.Allow a) t a.account refl old tables none) refl refl same
    tables

pub allow-again : (b : Shelf) (list : List Accepted) (a : Allowance) (t : ℕ) (old new : Tables)
    (kept : KeptAnswer) (given : Answer) → IsInTime list → last_moment list ≤ t →
    AreTables b list old →
    old.answers a.account (key_of (content.Allow a)) ≡ Some kept →
    given ≡ repeated kept (content.Allow a) (answer.Refused ContentDiffers) → new ≡ old →
    IsServed b list (command.Allow a) t old new given
allow-again b list a t old new kept given time le tables is answers same =
    let h : History = history b a.account list in
    let k : Key = key_of (content.Allow a) in
    served-told b list (command.Allow a) t a.account refl time le
    (only_told (repeated kept (content.Allow a) (answer.Refused ContentDiffers)) h) given old new
    (outcome-kept b list (command.Allow a) t a.account refl old k kept tables is
    ∙ allowance-repeated b a t h kept (sym (tables.answers a.account k) ∙ is))
    refl answers same tables

-- ---- on an account that was loaded

module _ (b : Shelf) (a : Allowance) (t : ℕ) (ledger : Ledger) where
  abbrev by_group : Bool → Option Refusal
  by_group known = if known then None else Some ScopeUnknown

  abbrev by_range : Bool → Option Refusal
  by_range out = if out then Some OutOfRange else by_group (is_known (book_at b t) a.scope)

  -- there is no moment left
  refused_over : is_over a t ≡ true → allowance_refusal b a t ledger ≡ Some OutOfRange
  refused_over over = ap (λ v. by_range (v || is_full ledger)) over

  -- or no number
  refused_full : is_over a t ≡ false → is_full ledger ≡ true →
      allowance_refusal b a t ledger ≡ Some OutOfRange
  refused_full over full = ap (λ v. by_range (v || is_full ledger)) over ∙ ap by_range full

  -- or the group has no tariff
  by_tariff : is_over a t ≡ false → is_full ledger ≡ false → (known : Bool) →
      is_known (book_at b t) a.scope ≡ known → allowance_refusal b a t ledger ≡ by_group known
  by_tariff over full known is =
      ap (λ v. by_range (v || is_full ledger)) over ∙ ap by_range full ∙ ap by_group is

-- a bucket that is made by what an allowance says is the allowance's, where it can be used
module _ (b : Shelf) (a : Allowance) (t from until : ℕ) (old new : AccountRows)
    (begins : from ≡ begin_of a t) (ends : until ≡ end_of a) (over : is_over a t ≡ false)
    (o : Option ℕ)
    (makes : (ledger : Ledger) (left : LeftRows) → IsWith ledger left t old →
    Makes o Blocks from until (Some a.scope) a.blocks t ledger left new) where
  pub allows_full : o ≡ None → (ledger : Ledger) (left : LeftRows) → IsWith ledger left t old →
      Allows b (Err OutOfRange) a t ledger left new
  allows_full none ledger left before =
      refused_full b a t ledger over
      (subst (λ (q : Option ℕ).
      Makes q Blocks from until (Some a.scope) a.blocks t ledger left new)
      none (makes ledger left before))

  made_some : (n : ℕ) → o ≡ Some n → (ledger : Ledger) (left : LeftRows) →
      IsWith ledger left t old →
      Makes (Some n) Blocks from until (Some a.scope) a.blocks t ledger left new
  made_some n some ledger left before =
      subst (λ (q : Option ℕ).
      Makes q Blocks from until (Some a.scope) a.blocks t ledger left new)
      some (makes ledger left before)

  pub allows_unknown : (n : ℕ) → o ≡ Some n → is_known (book_at b t) a.scope ≡ false →
      (ledger : Ledger) (left : LeftRows) → IsWith ledger left t old →
      Allows b (Err ScopeUnknown) a t ledger left new
  allows_unknown n some unknown ledger left before =
      by_tariff b a t ledger over (made_some n some ledger left before).0 false unknown

  pub allows_known : (n : ℕ) → o ≡ Some n → is_known (book_at b t) a.scope ≡ true →
      (ledger : Ledger) (left : LeftRows) → IsWith ledger left t old →
      Allows b (Ok n) a t ledger left new
  allows_known n some known ledger left before =
      let made = made_some n some ledger left before in (
        by_tariff b a t ledger over made.0 true known,
        made.1,
        subst (λ (u : ℕ).
            IsWith (credited t Blocks (begin_of a t) u (Some a.scope) a.blocks ledger) left t new)
            ends
            (subst (λ (f : ℕ).
            IsWith (credited t Blocks f until (Some a.scope) a.blocks ledger) left t new) begins
            made.2),
      )

module _ (b : Shelf) (list : List Accepted) (a : Allowance) (t : ℕ) (old new : Tables)
    (found : Loaded) (time : IsInTime list) (le : last_moment list ≤ t)
    (tables : AreTables b list old) (loads : IsTaken b t a.account old found) (m : ℕ)
    (fresh : old.answers a.account (key_of (content.Allow a)) ≡ None)
    (moment : m ≡ max t found.account.as_of)
    (o : Result ℕ Refusal) (x : AccountRows) (allows : (ledger : Ledger) (left : LeftRows) →
    IsWith ledger left m found.account →
    Allows found.account.shelf o a m ledger left x) where
  abbrev h : History
  h = history b a.account list

  abbrev account : IsOpened b list t a.account old found.account
  account = is_opened b list t a.account old found.account time le tables loads.load.1 loads.account

  now : m ≡ t
  now = moment ∙ account.moment

  abbrev left : LeftRows
  left = left_of t (priced b account.are.listed)

  allowed : Allows b o a m h.ledger left x
  allowed = subst (λ (s : Shelf). Allows s o a m h.ledger left x) account.of_book
      (allows h.ledger left
      (subst (λ (u : ℕ). IsWith h.ledger left u found.account) (sym now) account.with_left))

  fresh-is : outcome b None h (command.Allow a) t ≡ new_allowance b a t h
  fresh-is = outcome-opened b list (command.Allow a) t a.account refl account.opened
      ∙ allowance-fresh b a t h (sym (tables.answers a.account (key_of (content.Allow a))) ∙ fresh)

  -- rule: allowance
  pub allow-told : (refusal : Refusal) → o ≡ Err refusal → new ≡ old →
      IsServed b list (command.Allow a) t old new (answer.Refused refusal)
  allow-told refusal is same =
      let refused : allowance_refusal b a t h.ledger ≡ Some refusal =
      ap (λ u. allowance_refusal b a u h.ledger) (sym now)
      ∙ subst (λ (q : Result ℕ Refusal). Allows b q a m h.ledger left x) is allowed in
      served-told b list (command.Allow a) t a.account refl time le
      (only_told (answer.Refused refusal) h) (answer.Refused refusal) old new
      (fresh-is ∙ ap (λ r. allowed_unless r a t h) refused)
      refl refl same tables

  -- rule: allowance
  pub allow-done : (number : ℕ) (change : Change) → o ≡ Ok number →
      x.shelf ≡ found.account.shelf →
      IfOk o (λ n. x.as_of ≡ m) →
      Tells change found x (Some
      (record { content = content.Allow a; answer = answer.Bucket number })) None →
      new ≡ changed change old →
      IsServed b list (command.Allow a) t old new (answer.Bucket number)
  allow-done number change ok shelf stands tells grown =
      let done = subst (λ (q : Result ℕ Refusal). Allows b q a m h.ledger left x) ok allowed in
      let as_of : x.as_of ≡ m =
      subst (λ (q : Result ℕ Refusal). IfOk q (λ n. x.as_of ≡ m)) ok stands in
      let after : Ledger =
      credited t Blocks (begin_of a t) (end_of a) (Some a.scope) a.blocks h.ledger in
      let usable : allowance_refusal b a t h.ledger ≡ None =
      ap (λ u. allowance_refusal b a u h.ledger) (sym now) ∙ done.0 in
      served-loaded b list (command.Allow a) t a.account refl time le old new tables found loads
      (keeping (content.Allow a) (answer.Bucket (next_bucket h.ledger)) after h)
      (answer.Bucket number) x change refl
      (fresh-is ∙ ap (λ r. allowed_unless r a t h) usable)
      refl (ap answer.Bucket done.1)
      (record {
        shelf = shelf;
        at_moment = as_of ∙ now;
        grows = one_credit t Blocks (begin_of a t) (end_of a) (Some a.scope) a.blocks h.ledger;
        rows = subst (λ (u : ℕ). IsWith
            (credited u Blocks (begin_of a u) (end_of a) (Some a.scope) a.blocks h.ledger) left u
            x) now done.2;
        opened = account.opened;
        kept = (λ i. record { content = content.Allow a; answer = answer.Bucket (sym done.1 i) }
            ∷ h.kept) ∙ keeps-some (sym tells.kept_is) h.kept;
        charges = ap (λ xs. charge_rows h.ledger ++ xs) (sym tells.charges);
        vouchers = none-spent b list t (command.Allow a) change (λ code. refl) tells.redeemed_is;
        number = tells.number;
        moment = tells.moment;
        after = tells.after;
      })
      grown
