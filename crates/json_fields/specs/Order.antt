-- The order of members: by the bytes of their names.
use Rattle.std.specs.Prelude.{◌≡◌, ℕ, List, ⊤}
use Rattle.std.specs.Ordering.{nat_cmp}
use Rattle.std.specs.declared.cmp.Ordering.TheVariants.{Greater}
use Rattle.std.specs.Cmp.Lexicographic.{slice_cmp}
use Rattle.serde_json.specs.Data.{Data, null, boolean, number, string, array, object, Items}
use Rattle.serde_json.specs.Data.{no_items, item, Members, no_members, member}

-- each name is above k
abbrev pub Above : List ℕ → Members → Type 0
Above k no_members = ⊤
Above k (member l d ms) = (slice_cmp nat_cmp l k ≡ Greater) × Above k ms

-- in this value, and in each value inside, each member's name is above those before it
abbrev mutual
  -- rule: answers.in-byte-order: members of an answer are in byte order of their names
  -- rule: request-written.in-byte-order: members of a request are in byte order of their names
  -- rule: kept-content.in-byte-order: members of a credit, an allowance and a redemption are in
  --   byte order of their names
  pub AreInByteOrder : Data → Type 0
  AreInByteOrder null = ⊤
  AreInByteOrder (boolean b) = ⊤
  AreInByteOrder (number n) = ⊤
  AreInByteOrder (string s) = ⊤
  AreInByteOrder (array ds) = AreItemsInByteOrder ds
  AreInByteOrder (object ms) = AreMembersInByteOrder ms

  pub AreItemsInByteOrder : Items → Type 0
  AreItemsInByteOrder no_items = ⊤
  AreItemsInByteOrder (item d ds) = AreInByteOrder d × AreItemsInByteOrder ds

  pub AreMembersInByteOrder : Members → Type 0
  AreMembersInByteOrder no_members = ⊤
  AreMembersInByteOrder (member k d ms) = AreInByteOrder d × Above k ms × AreMembersInByteOrder ms
