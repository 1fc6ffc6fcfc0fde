-- The zone of a book is that of its text.
use Rattle.std.proofs.Common.{◌≡◌, ◌∙◌, ℕ, Bool, true, false, List, Option, Some, None, Result, Ok}
use Rattle.std.proofs.Common.{sym, ap}
use Rattle.std.specs.Prelude.{codes, if◌then◌else◌}
use Rattle.toml.specs.Data.{Members}
use Rattle.calendar.specs.Clock.{ZoneRule}
use Rattle.calendar.specs.Timetable.{Timetable, timetable_of}
use Rattle.calendar.specs.Week.{is_week}
use Rattle.calendar.specs.declared.week.Entry.{Entry}
use Rattle.tariffs.specs.declared.fault.BookFault.{BookFault}
use Rattle.tariffs.specs.declared.fault.BookFault.TheVariants.{OutOfRange}
use Rattle.tariffs.specs.Faults.{◌>>=◌, or_fault}
use Rattle.tariffs.specs.Fields.{text_of}
use Rattle.tariffs.specs.WeekFields.{zone_in, zone_of}

zone_found : (o : Option ZoneRule) (z : ZoneRule) → or_fault OutOfRange o ≡ Ok z → o ≡ Some z
zone_found None z e = absurd (cc)
zone_found (Some x) z e =
    let it : x ≡ z = cc e in
    ap Some it

zone_read : (t : Members) (text : List ℕ) (z : ZoneRule) → zone_of t ≡ Ok z →
    text_of (codes "zone") t ≡ Ok text → zone_in text ≡ Some z
unfolding zone_of
zone_read t text z is written =
    zone_found (zone_in text) z
    (ap (λ (r : Result (List ℕ) BookFault). r >>= λ x. or_fault OutOfRange (zone_in x))
    (sym written) ∙ is)

zone_kept : (z : ZoneRule) (entries : List Entry) (c : Timetable) →
    Some c ≡ timetable_of z entries → z ≡ c.zone
zone_kept z entries c = at (is_week entries)
  where
    at : (b : Bool) → Some c ≡ (if b then Some (record { zone = z; entries = entries }) else None) →
        z ≡ c.zone
    at true e =
        let it : c ≡ record { zone = z; entries = entries } = cc e in
        sym (ap (λ (x : Timetable). x.zone) it)
    at false e = absurd (cc)

pub zone_is : (t : Members) (text : List ℕ) (z : ZoneRule) (entries : List Entry) (c : Timetable) →
    zone_of t ≡ Ok z → text_of (codes "zone") t ≡ Ok text → Some c ≡ timetable_of z entries →
    zone_in text ≡ Some c.zone
zone_is t text z entries c is written week =
    zone_read t text z is written ∙ ap Some (zone_kept z entries c week)
