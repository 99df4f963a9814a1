-- Keys in byte order of their spelling, at every level of a JSON value. Our own: RFC 8259 leaves the order of members open.
use Rattle.std.specs.Prelude.{◌≡◌, ℕ, List}
use Rattle.std.specs.Cmp.Lexicographic.{slice_cmp}
use Rattle.std.specs.Ordering.{nat_cmp}
use Rattle.std.specs.declared.cmp.Ordering.TheVariants.{Less}
use Rattle.serde_json.specs.Data.{Data, null, boolean, number, string, array, object, Items, no_items, item, Members, no_members, member}

-- a key comes before that of the first member, if there is one
abbrev pub ComesFirst : List ℕ → Members → Type 0
ComesFirst key no_members = Unit {0}
ComesFirst key (member other d ms) = slice_cmp nat_cmp key other ≡ Less

abbrev mutual
  pub HasKeysInOrder : Data → Type 0
  HasKeysInOrder null = Unit {0}
  HasKeysInOrder (boolean b) = Unit {0}
  HasKeysInOrder (number n) = Unit {0}
  HasKeysInOrder (string s) = Unit {0}
  HasKeysInOrder (array ds) = HaveKeysInOrder ds
  HasKeysInOrder (object ms) = AreInKeyOrder ms

  pub HaveKeysInOrder : Items → Type 0
  HaveKeysInOrder no_items = Unit {0}
  HaveKeysInOrder (item d ds) = HasKeysInOrder d × HaveKeysInOrder ds

  pub AreInKeyOrder : Members → Type 0
  AreInKeyOrder no_members = Unit {0}
  AreInKeyOrder (member key d ms) = ComesFirst key ms × (HasKeysInOrder d × AreInKeyOrder ms)
