-- The filter that a text is, by the machine that reads filters. OSGi Core 8, section 3.2.7 "Filter Syntax"; the limit of 64 levels is our own.
use Rattle.std.specs.Prelude.{◌≡◌, ◌⊎◌, ℕ, ◌+◌, ◌&&◌, List, [], ◌∷◌, Bool, Option, Some, None, Result, Ok, Err, length, nat_le, if◌then◌else◌}
use Rattle.std.specs.Result.{result_ok, result_err}
use Rattle.ldap_filter.specs.declared.filter_fault.FilterFault.{FilterFault}
use Rattle.ldap_filter.specs.declared.filter_fault.FilterFault.TheVariants.{BadFilter, TooDeep, OutOfMemory}
use Rattle.ldap_filter.specs.Machine.{State, accepted, start, step}
use Rattle.ldap_filter.specs.Parsing.{IsTreeOf}
use Rattle.ldap_filter.specs.Places.{IsBadAt, IsTooDeepAt}
use Rattle.ldap_filter.specs.Reading.{opens}
use Rattle.ldap_filter.specs.Trees.{Tree}

-- the machine that reads filters, as long as no more than 64 of them stand open
abbrev pub limited_step : State → ℕ → Option State
limited_step s b = if opens s.1 b && nat_le 64 (length s.0) then None else step s.0 s.1 b

abbrev pub tree_or_place : ℕ → Option Tree → Result Tree ℕ
tree_or_place at None = Err at
tree_or_place at (Some tree) = Ok tree

abbrev pub go_on : ℕ → (State → Result Tree ℕ) → Option State → Result Tree ℕ
go_on at next None = Err at
go_on at next (Some s) = next s

-- the tree of a filter that the machine reads to its end from a place on, or the place where it stops
abbrev pub read_from : ℕ → State → List ℕ → Result Tree ℕ
read_from at s [] = tree_or_place at (accepted s.0 s.1)
read_from at s (b ∷ bs) = go_on at (λ t. read_from (at + 1) t bs) (limited_step s b)

abbrev pub reading : List ℕ → Result Tree ℕ
reading text = read_from 0 start text

-- the tree of the filter that a text spells within 64 levels, if it spells one
abbrev pub filter_of : List ℕ → Option Tree
filter_of text = result_ok (reading text)

-- the place where a text ceases to be such a filter, if it isn't one
abbrev pub bad_place : List ℕ → Option ℕ
bad_place text = result_err (reading text)

-- a text is no filter from this place on, or too deep there
abbrev pub IsNoFilterAt : List ℕ → ℕ → Type 0
IsNoFilterAt text at = ((ended : Bool) × IsBadAt text at ended) ⊎ IsTooDeepAt text at

-- the tree that a text spells, or the place where it ceases to be a filter
abbrev pub IsReadingOf : List ℕ → Result Tree ℕ → Type 0
IsReadingOf text (Ok tree) = IsTreeOf text tree
IsReadingOf text (Err at) = IsNoFilterAt text at

-- an answer tells what was read; want of memory is free
abbrev pub Tells : Result Tree FilterFault → Result Tree ℕ → Type 0
Tells (Ok tree) read = read ≡ Ok tree
Tells (Err (BadFilter at ended)) read = read ≡ Err at
Tells (Err (TooDeep at)) read = read ≡ Err at
Tells (Err OutOfMemory) read = Unit {0}
