-- How reservations are stored once a change was written.
use Rattle.std.proofs.Common.{◌≡◌, ℕ, ◌<◌, Bool, true, false, cond, List, [], ◌∷◌, Option, Some}
use Rattle.std.proofs.Common.{None, arith, refl, sym, ap, subst, ◌∙◌}
use Rattle.std.specs.Prelude.{nat_eq, option_map, unwrap_or}
use Rattle.std.specs.List.{find}
use Rattle.buckets.specs.declared.holds.HeldAmount.{HeldAmount}
use Rattle.buckets.specs.Holding.{AreHolds}
use Rattle.reserving.specs.declared.session.Session.{Session}
use Rattle.reserving.specs.declared.session.SessionGroup.{SessionGroup}
use Rattle.reserving.specs.declared.session.Reservation.{Reservation}
use Rattle.reserving.specs.Sessions.{group_in, holds_in}
use Rattle.reserving.proofs.Lists.{no_some, some_of}
use Rattle.keepers.specs.declared.loaded.Change.{Change}
use Rattle.keepers.specs.Naming.{IsNamed}
use Rattle.keepers.specs.Tables.{held_at}
use Rattle.sql_rows.specs.Content.{TableRows, TablesContent}
use Rattle.sql_rows.specs.Values.{Meta, Kept}
use Rattle.sql_keeper.specs.Content.{Names}
use Rattle.sql_keeper.specs.KeptRows.{AreGrantsOver}
use Rattle.sql_keeper.specs.LiveGroups.{IsGrantStored}
use Rattle.sql_keeper.specs.Tests.{AreWritable, MayBeMade}
use Rattle.sql_keeper.specs.Writes.{AreTexts, with_change}
use Rattle.sql_keeper.proofs.commits.Changed.{GrantRows, grant_rows, grants_after, may_at}
use Rattle.sql_keeper.proofs.puts.Groups.{amount_at, amount_in, book_over, book_put, held_is}
use Rattle.sql_keeper.proofs.puts.Groups.{may_hold, over_groups}

-- ---- what is held of a bucket, where something is

amount_above : (n : ℕ) (hs : List HeldAmount) (m : ℕ) → AreHolds hs → amount_at n hs ≡ Some m
    → 0 < m
amount_above n [] m h e = absurd (no_some m e)
amount_above n (x ∷ xs) m h e = at (nat_eq x.bucket n) e (amount_above n xs m h.2)
  where
    at : (t : Bool)
        → option_map (λ (y : HeldAmount). y.amount) (cond t (Some x)
        (find (λ y. nat_eq y.bucket n) xs)) ≡ Some m
        → (amount_at n xs ≡ Some m → 0 < m) → 0 < m
    at true f rest = subst (λ k. 0 < k) (some_of x.amount m f) h.0
    at false f rest = rest f

amount_none : (n : ℕ) (hs : List HeldAmount) → AreHolds hs → held_at n hs ≡ 0
    → amount_at n hs ≡ None
amount_none n hs h e = at (amount_at n hs) refl (sym (held_is n hs h) ∙ e)
  where
    at : (o : Option ℕ) → amount_at n hs ≡ o → unwrap_or o 0 ≡ 0 → o ≡ None
    at None f none = refl
    at (Some m) f none = absurd (let above = amount_above n hs m h f in omega (arith, above, none))

-- ---- rows of rating groups over those that were there

module _ (names : Names) (sessions : List Session) (ws : List SessionGroup)
    (may : AreWritable names sessions ws) (old new : TableRows)
    (after : grant_rows new ≡ grant_rows (over_groups names ws old)) where
  book_is : (s : List ℕ) (g : ℕ)
      → new.grant_books s g ≡ book_over (group_in s g ws) (old.grant_books s g)
  book_is s g = ap (λ (r : GrantRows). r.books s g) after

  hold_is : (s : List ℕ) (g n : ℕ)
      → new.holds s g n ≡ amount_in n (group_in s g ws) (old.holds s g n)
  hold_is s g n = ap (λ (r : GrantRows). r.holds s g n) after

  named_stored : (s : List ℕ) (g : ℕ) (x : SessionGroup) (v : Reservation)
      → group_in s g ws ≡ Some x → x.reservation ≡ Some v → IsGrantStored new s g v
  named_stored s g x v e f =
      let holds : AreHolds (holds_in x.reservation) =
      may_hold names sessions s x.reservation (may_at names sessions ws may s g x e) in
      record {
        book = book_is s g ∙ ap (λ o. book_over o (old.grant_books s g)) e ∙ ap book_put f;
        held = λ n none.
            hold_is s g n ∙ ap (λ o. amount_in n o (old.holds s g n)) e
            ∙ amount_none n (holds_in x.reservation) holds
            (ap (λ o. held_at n (holds_in o)) f ∙ none);
      }

  pub are_over : AreGrantsOver ws old new
  are_over = record {
    named = named_stored;
    books = λ s g e. book_is s g ∙ ap (λ o. book_over o (old.grant_books s g)) e;
    holds = λ s g n e. hold_is s g n ∙ ap (λ o. amount_in n o (old.holds s g n)) e;
  }

-- ---- a change

-- rule: database-loads.keeps
pub grants_written : (names : Names) (m : Meta) (change : Change) (texts : Option Kept)
    (c : TablesContent) → IsNamed change.rows → MayBeMade names change (c.rows change.number)
    → AreTexts change.number change.kept texts
    → AreGrantsOver change.rows.groups (c.rows change.number)
    ((with_change names m change texts c).rows change.number)
grants_written names m change texts c named may told =
    are_over names change.rows.sessions change.rows.groups may.reservations
    (c.rows change.number) ((with_change names m change texts c).rows change.number)
    (grants_after names m change texts c named may told)
