-- What is loaded of an account's rows, and what was left.
use Rattle.std.proofs.Common.{◌≡◌, ℕ, Bool, true, false, List, refl, sym, ap, subst, ◌∙◌}
use Rattle.std.proofs.Common.{Option, Some, None}
use Rattle.std.specs.Prelude.{if◌then◌else◌, ◌==◌, ◌||◌, not, is_some, option_map, filter}
use Rattle.shelves.specs.Shelves.{Shelf}
use Rattle.buckets.proofs.Filtered.{sound_filter}
use Rattle.reserving.specs.declared.session.Session.{Session}
use Rattle.reserving.specs.declared.session.SessionGroup.{SessionGroup}
use Rattle.reserving.specs.declared.session.Reservation.{Reservation}
use Rattle.ledger.specs.Ledger.{Ledger, last_recording, has_group}
use Rattle.ledger.specs.Pricing.{cycle_at, validity_of}
use Rattle.reserving.specs.Sessions.{is_open, session_in, group_in}
use Rattle.reserving.specs.Sessions.{reservation_at}
use Rattle.reserving.specs.Rows.{AccountRows, AreInOrderOf, IsAccount, IsRowsOf}
use Rattle.reserving.specs.Stored.{stored, priced}
use Rattle.reserving.specs.Left.{is_dead, is_open_row, only, left_of, IsPartOf, IsWith}
use Rattle.reserving.specs.Left.{IsLoadedWith}
use Rattle.reserving.proofs.Lists.{some_of}
use Rattle.reserving.proofs.StoredRows.{IsAccount-priced}
use Rattle.reserving.proofs.LeftMore.{are_told}
use Rattle.reserving.proofs.InOrder.{order_live}
use Rattle.reserving.proofs.LeftParted.{loaded_with}
use Rattle.reserving.proofs.left.Ended.{closed_free}
use Rattle.keepers.specs.Tables.{Rows, head_of, group_row, held_of}
use Rattle.keepers.specs.Change.{has_reservation, is_loaded, IsLoadedFrom, AreRowsAt}
use Rattle.keepers.proofs.Found.{bucket_filter}
use Rattle.keepers.proofs.GroupRows.{no_row, group_same}

-- ---- a session that isn't open has no reservation

module _ (ledger : Ledger) (w : AccountRows) (rows : IsRowsOf ledger w) where
  row_free : (s : List ℕ) (g : ℕ) (t : Bool) →
      reservation_at (validity_of w.shelf) w.as_of ledger s g ≡ None →
      has_reservation (option_map group_row
      (if t then Some (record {
        session = s;
        group = g;
        used = Rattle.ledger.specs.Ledger.used s g ledger;
        reservation = reservation_at (validity_of w.shelf) w.as_of ledger s g;
      }) else None)) ≡ false
  row_free s g true e = ap (λ (o : Option Reservation). is_some
      (option_map (λ (x : Reservation). x.terms) o)) e
  row_free s g false e = refl

  pub ended_free : (s : List ℕ) (g : ℕ) → is_open_row (session_in s w.sessions) ≡ false →
      has_reservation (option_map group_row (group_in s g w.groups)) ≡ false
  ended_free s g e =
      ap (λ o. has_reservation (option_map group_row o)) (rows.groups s g)
      ∙ row_free s g (has_group s g ledger)
      (closed_free ledger w rows s g (last_recording s ledger) refl
      (ap is_open_row (sym (rows.sessions s)) ∙ e))

-- ---- what is loaded is a part

module _ (shelf : Shelf) (ledger : Ledger) (u t : ℕ) (r : Rows) (a : AccountRows)
    (h : AreRowsAt shelf ledger u r) (own : IsAccount a) (loads : IsLoadedFrom shelf t r a) where
  abbrev w : AccountRows
  w = priced shelf h.listed

  head_is : head_of (stored a) ≡ head_of h.listed
  head_is = some_of (head_of (stored a)) (head_of h.listed) (sym loads.head ∙ h.are.head)

  pub whole : IsAccount w
  whole = IsAccount-priced shelf h.listed
      (subst Rattle.shelves.specs.Shelves.IsShelf loads.priced_by own.shelf) h.kept

  either_way : (o p : Bool) (x : Option SessionGroup) → p ≡ false → (if o || p then x else None) ≡
      (if o then x else None)
  either_way true p x e = refl
  either_way false p x e = ap (λ q. if q then x else None) e

  by_open : (s : List ℕ) (g : ℕ) (o : Bool) → is_open_row (session_in s w.sessions) ≡ o →
      (if o || has_reservation (option_map group_row (group_in s g w.groups))
      then group_in s g w.groups else None) ≡ (if o then group_in s g w.groups else None)
  by_open s g true e = refl
  by_open s g false e = either_way false
      (has_reservation (option_map group_row (group_in s g w.groups))) (group_in s g w.groups)
      (ended_free ledger w h.rows s g e)

  buckets_are : a.buckets ≡ filter (λ b. not (is_dead b)) w.buckets
  buckets_are = are_told a.buckets (filter (λ b. not (is_dead b)) w.buckets) own.sound
      (sound_filter (λ b. not (is_dead b)) w.buckets whole.sound)
      (λ n. loads.buckets n ∙ ap (only (λ b. not (is_dead b))) (h.are.buckets n)
      ∙ sym (bucket_filter n (λ b. not (is_dead b)) w.buckets whole.sound.distinct))

  in_order : AreInOrderOf a.buckets w.groups
  in_order = subst (λ bs. AreInOrderOf bs w.groups) (sym buckets_are)
      (order_live w.buckets w.groups whole.held whole.order)

  -- the row and the holds of a group are what the list has of it
  by_row : (s : List ℕ) (g : ℕ) (t : Bool) → option_map group_row (group_in s g a.groups) ≡
      (if t then r.groups s g else None) →
      ((n : ℕ) → held_of n (group_in s g a.groups) ≡ (if t then r.holds s g n else 0)) →
      group_in s g a.groups ≡ (if t then group_in s g w.groups else None)
  by_row s g true row held =
      group_same s g a.buckets a.groups w.groups own.order in_order (row ∙ h.are.groups s g)
      (λ n. held n ∙ h.are.holds s g n)
  by_row s g false row held = no_row (group_in s g a.groups) row

  pub part : IsPartOf t w a
  part = record {
    shelf = loads.priced_by;
    as_of = λ i. (head_is i).as_of;
    barred = λ i. (head_is i).barred;
    next_bucket = λ i. (head_is i).next_bucket;
    next_charge = λ i. (head_is i).next_charge;
    buckets = buckets_are;
    sessions = λ s. loads.sessions s
        ∙ ap (only (λ (x : Session). is_open x.state)) (h.are.sessions s);
    groups = λ s g.
        by_row s g (is_loaded r s g) (loads.groups s g) (loads.holds s g)
        ∙ (λ i. if is_open_row (h.are.sessions s i) || has_reservation (h.are.groups s g i)
        then group_in s g w.groups else None)
        ∙ by_open s g (is_open_row (session_in s w.sessions)) refl;
    counters = λ g c. loads.counters g c
        ∙ ap (λ o. if c == cycle_at shelf g t then o else None) (h.are.counters g c);
  }

  -- rule: database-loads.loaded-from, database-loads.load-step
  pub taken : IsWith ledger (left_of t w) t a
  taken =
      let l : IsLoadedWith ledger t w a = loaded_with ledger t w a whole own h.rows part in
      record { apart = l.left; cycles = l.cycles; rows = l.rows }
