-- What the rows of an account say, whatever list they are written in.
use Rattle.std.proofs.Common.{◌≡◌, ℕ, sym, ap, subst, ◌∙◌}
use Rattle.buckets.specs.Row.{IsBalanced}
use Rattle.buckets.specs.Spend.{Each}
use Rattle.shelves.specs.Shelves.{Shelf}
use Rattle.ledger.specs.Ledger.{Ledger}
use Rattle.ledger.specs.Balance.{buckets_at}
use Rattle.reserving.specs.Sessions.{session_at, group_at}
use Rattle.reserving.specs.Rows.{AreInOrderOf, IsRowsOf}
use Rattle.reserving.specs.Stored.{StoredRows, IsStored, priced}
use Rattle.reserving.specs.Left.{bucket_in}
use Rattle.reserving.proofs.Lists.{some_of}
use Rattle.reserving.proofs.LeftMore.{are_told}
use Rattle.ledger.specs.Pricing.{validity_of}
use Rattle.keepers.specs.Tables.{Rows, head_of, AreListed}
use Rattle.keepers.specs.Change.{AreRowsAt}
use Rattle.keepers.specs.Steps.{IsBucketsTold}
use Rattle.keepers.proofs.GroupRows.{group_same}

-- each bucket is what the ledger sums to
pub buckets_told : IsBucketsTold
buckets_told shelf ledger t r h = (
  λ n. h.are.buckets n ∙ ap (bucket_in n)
      (h.rows.buckets ∙ (λ i. buckets_at (validity_of shelf) (h.moment i) ledger)),
  subst (Each IsBalanced) (h.rows.buckets
      ∙ (λ i. buckets_at (validity_of shelf) (h.moment i) ledger))
      h.kept.sound.balanced,
)

-- any list of the rows is the ledger's
pub rows_told : (shelf : Shelf) (ledger : Ledger) (t : ℕ) (r : Rows) (v : StoredRows) →
    AreRowsAt shelf ledger t r → AreListed v r → IsStored v → IsRowsOf ledger (priced shelf v)
    × (v.as_of ≡ t)
rows_told shelf ledger t r v h are kept = (rows, as_of ∙ h.moment)
  where
    w : StoredRows
    w = h.listed

    head_is : head_of v ≡ head_of w
    head_is = some_of (head_of v) (head_of w) (sym are.head ∙ h.are.head)

    as_of : v.as_of ≡ w.as_of
    as_of = λ i. (head_is i).as_of

    buckets_are : v.buckets ≡ w.buckets
    buckets_are = are_told v.buckets w.buckets kept.sound h.kept.sound
        (λ n. sym (are.buckets n) ∙ h.are.buckets n)

    rows : IsRowsOf ledger (priced shelf v)
    rows = record {
      barred = (λ i. (head_is i).barred) ∙ h.rows.barred;
      buckets = buckets_are ∙ h.rows.buckets
          ∙ (λ i. buckets_at (validity_of shelf) (sym as_of i) ledger);
      sessions = λ s. sym (are.sessions s) ∙ h.are.sessions s ∙ h.rows.sessions s
          ∙ (λ i. session_at (validity_of shelf) (sym as_of i) ledger s);
      groups = λ s g. group_same s g w.buckets v.groups w.groups
          (subst (λ bs. AreInOrderOf bs v.groups) buckets_are kept.order) h.kept.order
          (sym (are.groups s g) ∙ h.are.groups s g) (λ n. sym (are.holds s g n) ∙ h.are.holds s g n)
          ∙ h.rows.groups s g ∙ (λ i. group_at (validity_of shelf) (sym as_of i) ledger s g);
      counters = λ g c. sym (are.counters g c) ∙ h.are.counters g c ∙ h.rows.counters g c;
      next_bucket = (λ i. (head_is i).next_bucket) ∙ h.rows.next_bucket;
      next_charge = (λ i. (head_is i).next_charge) ∙ h.rows.next_charge;
      sound = h.rows.sound;
    }
