-- What the text of a filter says, by the machine that reads filters, or why it is none. OSGi Core 8, section 3.2.7 "Filter Syntax"; the limit of 64 levels is our own.
use Rattle.std.specs.Prelude.{ℕ, ◌+◌, ◌&&◌, List, [], ◌∷◌, Bool, true, false, Option, Some, None, Result, Ok, Err, length, nat_le, if◌then◌else◌}
use Rattle.prop_map.specs.Words.{after}
use Rattle.component_dto.specs.Fields.{or_fault}
use Rattle.ldap_filter.specs.declared.filter_fault.FilterFault.{FilterFault}
use Rattle.ldap_filter.specs.declared.filter_fault.FilterFault.TheVariants.{BadFilter, TooDeep}
use Rattle.ldap_filter.specs.Machine.{State, accepted, start, step}
use Rattle.ldap_filter.specs.Reading.{opens}
use Rattle.ldap_filter.specs.Trees.{Tree}

-- the machine goes on at this place, unless a bracket opens one filter too many there
abbrev pub goes_on : ℕ → Bool → Option State → Result State FilterFault
goes_on at is_full None = Err (BadFilter at false)
goes_on at is_full (Some next) = if is_full then Err (TooDeep at) else Ok next

-- the machine takes the byte at this place
abbrev pub takes : ℕ → State → ℕ → Result State FilterFault
takes at s b = goes_on at (opens s.1 b && nat_le 64 (length s.0)) (step s.0 s.1 b)

-- the filter that is read to its end from a place on
abbrev pub filter_from : ℕ → State → List ℕ → Result Tree FilterFault
filter_from at s [] = or_fault (BadFilter at true) (accepted s.0 s.1)
filter_from at s (b ∷ bs) = after (takes at s b) (λ next. filter_from (at + 1) next bs)

-- the filter that a text spells
abbrev pub filter_read : List ℕ → Result Tree FilterFault
filter_read text = filter_from 0 start text
