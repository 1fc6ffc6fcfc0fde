-- The members of the document of the book of one price say that book.
use Rattle.std.proofs.Common.{◌≡◌, ℕ, zero, suc, ◌≤◌, ◌<◌, ◌/◌, true, [], ◌∷◌, codes, pos, Ok}
use Rattle.std.proofs.Common.{count_by, refl, arith}
use Rattle.std.proofs.lemmas.Bool.{le-leb}
use Rattle.std.proofs.Math.Nat.{div-le_self}
use Rattle.toml.specs.Data.{string, integer, array, table, Items, no_items, item, Members}
use Rattle.toml.specs.Data.{no_members, member}
use Rattle.units.specs.declared.blocks.UnitKind.TheVariants.{Time}
use Rattle.calendar.specs.Week.{covers, week_covered, minutes_covered, days_covered}
use Rattle.calendar.proofs.WeekLemmas.{all_minutes}
use Rattle.tariffs.specs.Fields.{text_of, number_in, array_of, filled_array_of}
use Rattle.texts.specs.Steps.{each}
use Rattle.tariffs.specs.Names.{name_of, names_of, period_of}
use Rattle.tariffs.specs.WeekFields.{minutes_of, zone_minutes, zone_of, day_of, days_of, minute_of}
use Rattle.tariffs.specs.WeekFields.{entry_of, entries_of}
use Rattle.tariffs.specs.PriceFields.{bound_of, tier_of, tiers_of, price_of, prices_of}
use Rattle.tariffs.specs.GroupFields.{id_of, unit_of, max_grant_of, cycle_of, final_action_of}
use Rattle.tariffs.specs.GroupFields.{group_of, groups_of}
use Rattle.tariffs.specs.Books.{book_of}
use Rattle.tariffs.specs.OnceBook.{whole_week, single_tier, once_tariff, once_book}

-- ---- the members, by their keys

abbrev pub day_items : Items
day_items =
    item (integer (pos 1)) (item (integer (pos 2)) (item (integer (pos 3)) (item (integer (pos 4))
    (item (integer (pos 5)) (item (integer (pos 6)) (item (integer (pos 7)) no_items))))))

abbrev pub week_members : Members
week_members =
    member (codes "days") (array day_items)
    (member (codes "from") (string (codes "00:00"))
    (member (codes "period") (string (codes "always"))
    (member (codes "to") (string (codes "24:00")) no_members)))

abbrev pub tier_members : ℕ → Members
tier_members price = member (codes "price") (integer (pos price)) no_members

abbrev pub price_members : ℕ → Members
price_members price =
    member (codes "period") (string (codes "always"))
    (member (codes "tiers") (array (item (table (tier_members price)) no_items)) no_members)

abbrev pub group_members : ℕ → ℕ → Members
group_members price block =
    member (codes "block") (integer (pos block))
    (member (codes "cycle") (string (codes "none"))
    (member (codes "final") (string (codes "terminate"))
    (member (codes "id") (integer (pos 10))
    (member (codes "max_grant") (integer (pos 3600))
    (member (codes "price") (array (item (table (price_members price)) no_items))
    (member (codes "slice") (integer (pos 600))
    (member (codes "unit") (string (codes "time")) no_members)))))))

abbrev pub once_members : ℕ → ℕ → Members
once_members price block =
    member (codes "currency") (integer (pos 978))
    (member (codes "group") (array (item (table (group_members price block)) no_items))
    (member (codes "periods") (array (item (string (codes "always")) no_items))
    (member (codes "validity") (integer (pos 3600))
    (member (codes "week") (array (item (table week_members) no_items))
    (member (codes "zone") (string (codes "+00:00")) no_members)))))

-- ---- the week

in_week : (w m : ℕ) → w < 7 → m < 1440 → count_by (covers w m) (whole_week ∷ []) ≡ 1
in_week zero m day minute = rw (le-leb 0 m (omega arith), le-leb (suc m) 1440 minute) refl
in_week (suc zero) m day minute = rw (le-leb 0 m (omega arith), le-leb (suc m) 1440 minute) refl
in_week (suc (suc zero)) m day minute =
    rw (le-leb 0 m (omega arith), le-leb (suc m) 1440 minute) refl
in_week (suc (suc (suc zero))) m day minute =
    rw (le-leb 0 m (omega arith), le-leb (suc m) 1440 minute) refl
in_week (suc (suc (suc (suc zero)))) m day minute =
    rw (le-leb 0 m (omega arith), le-leb (suc m) 1440 minute) refl
in_week (suc (suc (suc (suc (suc zero))))) m day minute =
    rw (le-leb 0 m (omega arith), le-leb (suc m) 1440 minute) refl
in_week (suc (suc (suc (suc (suc (suc zero)))))) m day minute =
    rw (le-leb 0 m (omega arith), le-leb (suc m) 1440 minute) refl
in_week (suc (suc (suc (suc (suc (suc (suc w))))))) m day minute = absurd (omega arith)

day_covered : (w : ℕ) → w < 7 → minutes_covered (whole_week ∷ []) w 1440 ≡ true
day_covered w day = all_minutes (whole_week ∷ []) w 1440 day (omega arith) in_week

covered : week_covered (whole_week ∷ []) ≡ true
unfolding days_covered
covered = rw (
  day_covered 0 (omega arith),
  day_covered 1 (omega arith),
  day_covered 2 (omega arith),
  day_covered 3 (omega arith),
  day_covered 4 (omega arith),
  day_covered 5 (omega arith),
  day_covered 6 (omega arith),
) refl

-- ---- the book

week_read : (price block : ℕ) →
    entries_of (codes "always" ∷ []) (once_members price block) ≡ Ok (whole_week ∷ [])
unfolding text_of array_of filled_array_of each period_of minutes_of day_of days_of minute_of
    entry_of entries_of
week_read price block = refl

names_read : (price block : ℕ) → names_of (once_members price block) ≡ Ok (codes "always" ∷ [])
unfolding array_of filled_array_of each name_of names_of
names_read price block = refl

tiers_read : (price : ℕ) → price ≤ 1000000000 →
    tiers_of (price_members price) ≡ Ok (single_tier price ∷ [])
unfolding number_in array_of filled_array_of each bound_of tier_of tiers_of
tiers_read price cheap = rw (le-leb 0 price (omega arith), le-leb price 1000000000 cheap) refl

prices_read : (price block : ℕ) → price ≤ 1000000000 →
    prices_of (codes "always" ∷ []) (group_members price block) ≡ Ok ((single_tier price ∷ []) ∷ [])
unfolding text_of array_of each period_of price_of prices_of
prices_read price block cheap = rw (tiers_read price cheap) refl

few_blocks : (block : ℕ) → 3600 / block ≤ 999999999
few_blocks block = omega (arith, div-le_self 3600 block)

block_read : (price block : ℕ) → 1 ≤ block → block ≤ 1000000000000000 →
    number_in (codes "block") 1 1000000000000000 (group_members price block) ≡ Ok block
unfolding number_in
block_read price block some few = rw (le-leb 1 block some, le-leb block 1000000000000000 few) refl

most_read : (price block : ℕ) → max_grant_of Time block 600 (group_members price block) ≡ Ok 3600
unfolding number_in max_grant_of
most_read price block = rw (le-leb (3600 / block) 999999999 (few_blocks block)) refl

group_read : (price block : ℕ) → price ≤ 1000000000 → 1 ≤ block → block ≤ 1000000000000000
    → group_of (codes "always" ∷ []) [] (table (group_members price block))
    ≡ Ok (once_tariff price block)
unfolding text_of number_in id_of unit_of cycle_of final_action_of group_of
group_read price block cheap some few =
    rw (block_read price block some few, most_read price block, prices_read price block cheap) refl

-- rule: once-book
pub book_read : (price block : ℕ) → price ≤ 1000000000 → 1 ≤ block → block ≤ 1000000000000000 →
    book_of (once_members price block) ≡ Ok (once_book price block)
unfolding text_of number_in array_of filled_array_of each minutes_of zone_minutes zone_of
    groups_of book_of
book_read price block cheap some few =
    rw (
      names_read price block,
      week_read price block,
      covered,
      group_read price block cheap some few,
    ) refl
