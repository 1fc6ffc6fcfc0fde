-- What has a compact text that is read again has its members in byte order.
use Rattle.serde_json.specs.Data.{Data, null, boolean, number, string, array, object, Items}
use Rattle.serde_json.specs.Data.{no_items, item, Members, no_members, member}
use Rattle.json_fields.specs.Order.{AreInByteOrder, AreItemsInByteOrder, AreMembersInByteOrder}
use Rattle.json_fields.proofs.Compact.{IsTidy, AreTidy, AreTidyMembers}

mutual
  pub in_order : (d : Data) → IsTidy d → AreInByteOrder d
  in_order null h = tt
  in_order (boolean b) h = tt
  in_order (number n) h = tt
  in_order (string s) h = tt
  in_order (array ds) h = items_in_order ds h
  in_order (object ms) h = members_in_order ms h

  pub items_in_order : (ds : Items) → AreTidy ds → AreItemsInByteOrder ds
  items_in_order no_items h = tt
  items_in_order (item d ds) h = (in_order d h.0, items_in_order ds h.1)

  pub members_in_order : (ms : Members) → AreTidyMembers ms → AreMembersInByteOrder ms
  members_in_order no_members h = tt
  members_in_order (member k d ms) h = (in_order d h.1, h.2, members_in_order ms h.3)
