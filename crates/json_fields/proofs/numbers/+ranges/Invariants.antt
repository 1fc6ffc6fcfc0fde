use Rattle.std.proofs.Common.{◌≡◌, drop, length}
use Rattle.std.specs.List.{list_all}
use Rattle.json.specs.Tree.{json_tokens, items_tokens, members_tokens}
use Rattle.json.specs.Value.{value_view, items_view, members_view}
use Rattle.json_fields.specs.View.{is_in_range}
use Rattle.json_fields.proofs.numbers.+ranges.Given as goal

abbrev pub decreases-is_in_range : goal.decreases-is_in_range
decreases-is_in_range l = length (json_tokens (value_view l.value.now))

abbrev pub decreases-are_in_range : goal.decreases-are_in_range
decreases-are_in_range l = length (items_tokens (items_view l.items.now.items))

abbrev pub decreases-members_in_range : goal.decreases-members_in_range
decreases-members_in_range l = length (members_tokens (members_view l.members.now.items))

abbrev pub invariant-are_in_range-loop-item : goal.invariant-are_in_range-loop-item
invariant-are_in_range-loop-item l =
    list_all (λ v. is_in_range (value_view v)) (drop l.item-index l.item-items)
    ≡ list_all (λ v. is_in_range (value_view v)) l.item-items

abbrev pub invariant-members_in_range-loop-member : goal.invariant-members_in_range-loop-member
invariant-members_in_range-loop-member l =
    list_all (λ m. is_in_range (value_view m.1)) (drop l.member-index l.member-items)
    ≡ list_all (λ m. is_in_range (value_view m.1)) l.member-items
