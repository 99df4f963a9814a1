-- What is to be read of a text. OSGi Core 8, section 3.2.7 "Filter Syntax".
use Rattle.std.specs.Prelude.{◌≡◌, ℕ, List, Result, Ok, Err}
use Rattle.ldap_filter.specs.declared.filter_fault.FilterFault.{FilterFault}
use Rattle.ldap_filter.specs.declared.filter_fault.FilterFault.TheVariants.{BadFilter, TooDeep, OutOfMemory}
use Rattle.ldap_filter.specs.Trees.{Tree}
use Rattle.ldap_filter.specs.Spelling.{Spells}
use Rattle.ldap_filter.specs.Places.{IsWithin, IsBadAt, IsTooDeepAt}

-- the tree is the one that the text spells, within 64 levels
pub record IsTreeOf (text : List ℕ) (tree : Tree) : Type 0 where
  pub spells : Spells text tree
  pub only : (other : Tree) → Spells text other → other ≡ tree
  pub within : IsWithin 64 text

-- the tree of a text, or why there is none; want of memory is free
abbrev pub Parses : List ℕ → Result Tree FilterFault → Type 0
Parses text (Ok tree) = IsTreeOf text tree
Parses text (Err (BadFilter at ended)) = IsBadAt text at ended
Parses text (Err (TooDeep at)) = IsTooDeepAt text at
Parses text (Err OutOfMemory) = Unit {0}
