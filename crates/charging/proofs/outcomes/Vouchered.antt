-- What adding a voucher and redeeming one come to.
use Rattle.std.proofs.Common.{◌≡◌, ℕ, ◌≤◌, Bool, true, false, true≢false, List, ◌∷◌, ◌++◌, refl}
use Rattle.std.proofs.Common.{sym, ap, subst, ◌∙◌, Option, Some, None}
use Rattle.std.specs.Prelude.{if◌then◌else◌, is_some, max, IfSome, Result, Ok, Err}
use Rattle.std.specs.Cmp.Lexicographic.{bytes_decides}
use Rattle.identifiers.specs.Texts.{same_name}
use Rattle.commands.specs.declared.answer.Answer.{Answer}
use Rattle.commands.specs.declared.answer.Answer.TheVariants as answer
use Rattle.commands.specs.declared.answer.Refusal.TheVariants.{AccountUnknown, ContentDiffers}
use Rattle.commands.specs.declared.answer.Refusal.TheVariants.{OutOfRange}
use Rattle.commands.specs.declared.command.Command.TheVariants as command
use Rattle.commands.specs.declared.command.Content.TheVariants as content
use Rattle.commands.specs.declared.command.VoucherAddition.{VoucherAddition}
use Rattle.commands.specs.declared.command.VoucherRedemption.{VoucherRedemption}
use Rattle.commands.specs.declared.key.Key.{Key}
use Rattle.commands.specs.Keys.{key_of}
use Rattle.voucher_rules.specs.declared.terms.VoucherTerms.{VoucherTerms}
use Rattle.voucher_rules.specs.declared.voucher.Voucher.{Voucher}
use Rattle.voucher_rules.specs.declared.adding.Addition.{Addition}
use Rattle.voucher_rules.specs.declared.adding.Addition.TheVariants.{New, Present, Conflicting}
use Rattle.voucher_rules.specs.declared.redeeming.Redemption.{Redemption}
use Rattle.voucher_rules.specs.declared.redeeming.RedeemRefusal.{RedeemRefusal}
use Rattle.voucher_rules.specs.Adding.{same_terms, addition}
use Rattle.voucher_rules.specs.Redeeming.{redemption, after_redemption}
use Rattle.shelves.specs.Shelves.{Shelf}
use Rattle.buckets.specs.declared.kind.BucketKind.TheVariants.{Money}
use Rattle.ledger.specs.Ledger.{Ledger, next_bucket}
use Rattle.ledger.specs.Charges.{charge_rows}
use Rattle.ledger.specs.Requests.{credited}
use Rattle.reserving.specs.Rows.{AccountRows}
use Rattle.reserving.specs.Stored.{priced}
use Rattle.reserving.specs.Left.{LeftRows, IsWith, left_of}
use Rattle.keepers.specs.declared.kept_answer.KeptAnswer.{KeptAnswer}
use Rattle.keepers.specs.declared.loaded.Change.{Change}
use Rattle.keepers.specs.declared.loaded.Loaded.{Loaded}
use Rattle.keepers.specs.Tables.{Tables}
use Rattle.keepers.specs.Change.{IsLoad, redeemed_over, changed, with_voucher}
use Rattle.charging.specs.Histories.{History, no_history}
use Rattle.charging.specs.Accepted.{Accepted, last_moment, IsInTime}
use Rattle.charging.specs.Outcomes.{book_days, outcome, only_told, keeping, is_full}
use Rattle.charging.specs.Outcomes.{addition_outcome}
use Rattle.charging.specs.OutcomeParts.{repeated, refused_as, redeemed_outcome, redemption_outcome}
use Rattle.charging.specs.Served.{history, voucher, standing, AreTables, with_command, IsServed}
use Rattle.charging.specs.Stepping.{IsTaken, Makes}
use Rattle.charging.proofs.runs.AcceptedTables.{tables_added}
use Rattle.charging.proofs.outcomes.KeptKeys.{redemption-repeated, redemption-fresh}
use Rattle.charging.proofs.steps.Grows.{one_credit}
use Rattle.charging.proofs.outcomes.Operated.{Tells}
use Rattle.charging.proofs.outcomes.Serving.{IsOpened, is_opened, in-time, AreSpent, keeps-some}
use Rattle.charging.proofs.outcomes.Serving.{served-told, served-loaded, is-there, outcome-unopened}
use Rattle.charging.proofs.outcomes.Serving.{outcome-opened, outcome-kept}

-- ---- a voucher that is added

abbrev is_new : Addition → Bool
is_new (New voucher) = true
is_new Present = false
is_new Conflicting = false

-- it is new only where nothing is under its code
new_free : (o : Option Voucher) (terms : VoucherTerms) (w : Voucher) → addition o terms ≡ New w →
    o ≡ None
new_free None terms w e = refl
new_free (Some v) terms w e = at (same_terms v.terms terms) e
  where
    at : (same : Bool) → (if same then Present else Conflicting) ≡ New w → Some v ≡ None
    at true k = absurd (true≢false (sym (ap is_new k)))
    at false k = absurd (true≢false (sym (ap is_new k)))

module _ (b : Shelf) (list : List Accepted) (v : VoucherAddition) (t : ℕ) (old new : Tables)
    (time : IsInTime list) (le : last_moment list ≤ t) (tables : AreTables b list old)
    (x : Addition) (adds : addition (old.vouchers v.code) v.terms ≡ x) where
  adds-is : addition (voucher b v.code list) v.terms ≡ x
  adds-is = ap (λ o. addition o v.terms) (sym (tables.vouchers v.code)) ∙ adds

  comes-to : outcome b (standing b (command.AddVoucher v) list) no_history (command.AddVoucher v) t
      ≡
      addition_outcome x no_history
  comes-to = ap (λ y. addition_outcome y no_history) adds-is

  with-it : (accepted : Bool) → (addition_outcome x no_history).accepted ≡ accepted →
      with_command b list (command.AddVoucher v) t ≡
      (if accepted then record { moment = t; command = command.AddVoucher v } ∷ list else list)
  with-it accepted e =
      ap (λ k. if k then record { moment = t; command = command.AddVoucher v } ∷ list else list)
      ((λ i. (comes-to i).accepted) ∙ e)

  -- it is there
  -- rule: voucher-add.addition-outcome
  pub add-told : (given : Answer) → (addition_outcome x no_history).accepted ≡ false →
      given ≡ (addition_outcome x no_history).answer → new ≡ old →
      IsServed b list (command.AddVoucher v) t old new given
  add-told given refused answers same = record {
    answer = answers ∙ sym (λ i. (comes-to i).answer);
    tables = subst (λ (l : List Accepted). AreTables b l new) (sym (with-it false refused))
        (subst (λ (y : Tables). AreTables b list y) (sym same) tables);
    time = in-time b list (command.AddVoucher v) t time le;
    same = λ e. same;
  }

  -- it isn't
  -- rule: voucher-add.with-voucher
  pub add-done : (w : Voucher) → x ≡ New w → new ≡ with_voucher v.code v.terms t old →
      IsServed b list (command.AddVoucher v) t old new answer.Done
  add-done w is grown =
      let done : addition_outcome x no_history ≡ addition_outcome (New w) no_history = ap
      (λ y. addition_outcome y no_history) is in
      let taken : (addition_outcome x no_history).accepted ≡ true = λ i. (done i).accepted in
      let free : voucher b v.code list ≡ None =
      new_free (voucher b v.code list) v.terms w (adds-is ∙ is) in
      record {
        answer = sym ((λ i. (comes-to i).answer) ∙ (λ i. (done i).answer));
        tables = subst (λ (l : List Accepted). AreTables b l new) (sym (with-it true taken))
            (subst (λ (y : Tables). AreTables b
            (record { moment = t; command = command.AddVoucher v } ∷ list) y) (sym grown)
            (tables_added (book_days b) (outcome b) b v t list old free tables));
        time = in-time b list (command.AddVoucher v) t time le;
        same = λ e. absurd (true≢false
            (sym taken ∙ sym (λ i. (comes-to i).accepted) ∙ e));
      }

-- ---- a voucher that is redeemed

pub redeem-unknown : (b : Shelf) (list : List Accepted) (r : VoucherRedemption) (t : ℕ)
    (old new : Tables) → IsInTime list → last_moment list ≤ t → AreTables b list old →
    (old.rows r.account).head ≡ None → new ≡ old →
    IsServed b list (command.Redeem r) t old new (answer.Refused AccountUnknown)
redeem-unknown b list r t old new time le tables none same =
    served-told b list (command.Redeem r) t r.account refl time le
    (only_told (answer.Refused AccountUnknown) (history b r.account list))
    (answer.Refused AccountUnknown) old new
    (outcome-unopened b list (command.Redeem r) t r.account refl old tables none) refl refl same
    tables

pub redeem-again : (b : Shelf) (list : List Accepted) (r : VoucherRedemption) (t : ℕ)
    (old new : Tables) (kept : KeptAnswer) (given : Answer) → IsInTime list →
    last_moment list ≤ t → AreTables b list old →
    old.answers r.account (key_of (content.Redeem r)) ≡ Some kept →
    given ≡ repeated kept (content.Redeem r) (answer.Refused ContentDiffers) → new ≡ old →
    IsServed b list (command.Redeem r) t old new given
redeem-again b list r t old new kept given time le tables is answers same =
    let h : History = history b r.account list in
    let k : Key = key_of (content.Redeem r) in
    served-told b list (command.Redeem r) t r.account refl time le
    (only_told (repeated kept (content.Redeem r) (answer.Refused ContentDiffers)) h) given old new
    (outcome-kept b list (command.Redeem r) t r.account refl old k kept tables is
    ∙ redemption-repeated b (standing b (command.Redeem r) list) r t h kept
    (sym (tables.answers r.account k) ∙ is))
    refl answers same tables

-- a redemption under a free reference, of an account that is there
module _ (b : Shelf) (list : List Accepted) (r : VoucherRedemption) (t : ℕ) (old : Tables)
    (tables : AreTables b list old)
    (opened : (history b r.account list).opened ≡ true)
    (fresh : old.answers r.account (key_of (content.Redeem r)) ≡ None)
    (o : Result Redemption RedeemRefusal)
    (redeems : redemption (book_days b) (old.vouchers r.code) r.account t ≡ o) where
  redeems-is : redemption (book_days b) (voucher b r.code list) r.account t ≡ o
  redeems-is = ap (λ s. redemption (book_days b) s r.account t) (sym (tables.vouchers r.code))
      ∙ redeems

  redeemed-is : outcome b (standing b (command.Redeem r) list) (history b r.account list)
      (command.Redeem r) t ≡ redemption_outcome o r t (history b r.account list)
  redeemed-is = outcome-opened b list (command.Redeem r) t r.account refl opened
      ∙ redemption-fresh b (standing b (command.Redeem r) list) r t (history b r.account list)
      (sym (tables.answers r.account (key_of (content.Redeem r))) ∙ fresh)
      ∙ ap (λ q. redemption_outcome q r t (history b r.account list)) redeems-is

-- rule: redeem.redeem-outcome
pub redeem-refused : (b : Shelf) (list : List Accepted) (r : VoucherRedemption) (t : ℕ)
    (old new : Tables) (found : Loaded) (refusal : RedeemRefusal) → IsInTime list →
    last_moment list ≤ t → AreTables b list old →
    IsLoad b t r.account (old.rows r.account) (Some found) →
    old.answers r.account (key_of (content.Redeem r)) ≡ None →
    redemption (book_days b) (old.vouchers r.code) r.account t ≡ Err refusal → new ≡ old →
    IsServed b list (command.Redeem r) t old new (answer.Refused (refused_as refusal))
redeem-refused b list r t old new found refusal time le tables loads fresh redeems same =
    let opened : (history b r.account list).opened ≡ true =
    is-there b list r.account old tables (ap is_some loads.1.head) in
    served-told b list (command.Redeem r) t r.account refl time le
    (only_told (answer.Refused (refused_as refusal)) (history b r.account list))
    (answer.Refused (refused_as refusal)) old new
    (redeemed-is b list r t old tables opened fresh (Err refusal) redeems) refl refl same tables

module _ (b : Shelf) (list : List Accepted) (r : VoucherRedemption) (t : ℕ) (old new : Tables)
    (found : Loaded) (time : IsInTime list) (le : last_moment list ≤ t)
    (tables : AreTables b list old) (loads : IsTaken b t r.account old found) (m : ℕ)
    (fresh : old.answers r.account (key_of (content.Redeem r)) ≡ None)
    (moment : m ≡ max t found.account.as_of) (y : Redemption)
    (redeems : redemption (book_days b) (old.vouchers r.code) r.account t ≡ Ok y)
    (o : Option ℕ) (x : AccountRows) (makes : (ledger : Ledger) (left : LeftRows) →
    IsWith ledger left m found.account →
    Makes o Money y.from y.until y.scope y.amount m ledger left x) where
  abbrev h : History
  h = history b r.account list

  abbrev account : IsOpened b list t r.account old found.account
  account = is_opened b list t r.account old found.account time le tables loads.load.1
      loads.account

  now : m ≡ t
  now = moment ∙ account.moment

  abbrev left : LeftRows
  left = left_of t (priced b account.are.listed)

  made : Makes o Money y.from y.until y.scope y.amount m h.ledger left x
  made = makes h.ledger left
      (subst (λ (u : ℕ). IsWith h.ledger left u found.account) (sym now) account.with_left)

  redeem-is : outcome b (standing b (command.Redeem r) list) h (command.Redeem r) t ≡
      redeemed_outcome y r t h
  redeem-is = redeemed-is b list r t old tables account.opened fresh (Ok y) redeems

  pub redeem-told : o ≡ None → new ≡ old →
      IsServed b list (command.Redeem r) t old new (answer.Refused OutOfRange)
  redeem-told none same =
      let full : is_full h.ledger ≡ true =
      subst (λ (q : Option ℕ). Makes q Money y.from y.until y.scope y.amount m h.ledger left x) none
      made in
      served-told b list (command.Redeem r) t r.account refl time le
      (only_told (answer.Refused OutOfRange) h) (answer.Refused OutOfRange) old new
      (redeem-is ∙ ap (λ v. if v then only_told (answer.Refused OutOfRange) h
      else keeping (content.Redeem r) (answer.Bucket (next_bucket h.ledger))
      (credited t Money y.from y.until y.scope y.amount h.ledger) h) full)
      refl refl same tables

  -- the voucher is spent under its code, and each other one as it was
  spent : (change : Change) →
      change.redeemed ≡ Some (record { code = r.code; voucher = y.voucher }) →
      AreSpent b list t (command.Redeem r) change
  spent change is code = ap (λ q. redeemed_over q code (voucher b code list)) is
      ∙ at (same_name r.code code) refl
    where
      at : (same : Bool) → same_name r.code code ≡ same →
          (if same then Some y.voucher else voucher b code list) ≡
          (if same then after_redemption
          (redemption (book_days b) (voucher b code list) r.account t) (voucher b code list)
          else voucher b code list)
      at true e =
          let here : redemption (book_days b) (voucher b code list) r.account t ≡ Ok y =
          subst (λ (k : List ℕ). redemption (book_days b) (voucher b k list) r.account t ≡ Ok y)
          ((bytes_decides r.code code).0 e) (redeems-is b list r t old tables account.opened fresh
          (Ok y) redeems) in
          sym (ap (λ q. after_redemption q (voucher b code list)) here)
      at false e = refl

  -- rule: redeem.redeem-outcome
  pub redeem-done : (number : ℕ) (change : Change) → o ≡ Some number →
      x.shelf ≡ found.account.shelf → IfSome o (λ n. x.as_of ≡ m) →
      Tells change found x (Some
      (record { content = content.Redeem r; answer = answer.Bucket number }))
      (Some (record { code = r.code; voucher = y.voucher })) →
      new ≡ changed change old →
      IsServed b list (command.Redeem r) t old new (answer.Bucket number)
  redeem-done number change some shelf stands tells grown =
      let done = subst (λ (q : Option ℕ). Makes q Money y.from y.until y.scope y.amount m h.ledger
      left x) some made in
      let as_of : x.as_of ≡ m = subst (λ (q : Option ℕ). IfSome q (λ n. x.as_of ≡ m)) some stands in
      let after : Ledger = credited t Money y.from y.until y.scope y.amount h.ledger in
      served-loaded b list (command.Redeem r) t r.account refl time le old new tables found loads
      (keeping (content.Redeem r) (answer.Bucket (next_bucket h.ledger)) after h)
      (answer.Bucket number) x change refl
      (redeem-is ∙ ap (λ v. if v then only_told (answer.Refused OutOfRange) h
      else keeping (content.Redeem r) (answer.Bucket (next_bucket h.ledger)) after h) done.0)
      refl (ap answer.Bucket done.1)
      (record {
        shelf = shelf;
        at_moment = as_of ∙ now;
        grows = one_credit t Money y.from y.until y.scope y.amount h.ledger;
        rows = subst (λ (u : ℕ). IsWith
            (credited u Money y.from y.until y.scope y.amount h.ledger) left u x) now done.2;
        opened = account.opened;
        kept = (λ i. record { content = content.Redeem r; answer = answer.Bucket (sym done.1 i) }
            ∷ h.kept) ∙ keeps-some (sym tells.kept_is) h.kept;
        charges = ap (λ xs. charge_rows h.ledger ++ xs) (sym tells.charges);
        vouchers = spent change tells.redeemed_is;
        number = tells.number;
        moment = tells.moment;
        after = tells.after;
      })
      grown
