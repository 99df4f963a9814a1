-- The targets of references: filters (OSGi Core 8, section 3.2.7), of at most 64 levels.
use Rattle.std.specs.Prelude.{ℕ, List, Option, Some, None, option_and_then}
use Rattle.ldap_filter.specs.Parsing.{IsTreeOf}
use Rattle.ldap_filter.specs.Texts.{IsNoFilterAt, bad_place}
use Rattle.ldap_filter.specs.Trees.{Tree}

-- a target is a filter, or isn't there
abbrev pub IsTarget : Option (List ℕ) → Type 0
IsTarget None = Unit {0}
IsTarget (Some text) = (tree : Tree) × IsTreeOf text tree

-- a target is no filter from this place on, or too deep there
abbrev pub IsNoTargetAt : Option (List ℕ) → ℕ → Type 0
IsNoTargetAt None at = ⊥
IsNoTargetAt (Some text) at = IsNoFilterAt text at

-- the place where a target ceases to be a filter, if it isn't one
abbrev pub HasPlace : Option (List ℕ) → Option ℕ → Type 0
HasPlace target None = IsTarget target
HasPlace target (Some at) = IsNoTargetAt target at

-- the same, by the machine that reads filters
abbrev pub bad_target : Option (List ℕ) → Option ℕ
bad_target target = option_and_then bad_place target
