-- What a servlet selects by a text, from what reading it as a filter answered.
use Rattle.std.proofs.Common.{◌≡◌, ℕ, List, ap, sym, Bool, Ok, Err, Result}
use Rattle.std.specs.Option.{option_map_or}
use Rattle.std.specs.Result.{result_ok}
use Rattle.ldap_filter.proofs.Texts.{told}
use Rattle.ldap_filter.specs.Parsing.{Parses}
use Rattle.ldap_filter.specs.Texts.{filter_of}
use Rattle.ldap_filter.specs.Trees.{Tree}
use Rattle.ldap_filter.specs.declared.filter_fault.FilterFault.TheVariants.{BadFilter, TooDeep}
use Rattle.wb_routes.specs.declared.select.Select.{Select}
use Rattle.wb_routes.specs.declared.select.Select.TheVariants.{ByFilter, Never}

abbrev selected : Result Tree ℕ → Select
selected r = option_map_or ByFilter (result_ok r) Never

pub by_filter : (text : List ℕ) (tree : Tree) → Parses text (Ok tree) → ByFilter tree ≡ option_map_or ByFilter (filter_of text) Never
by_filter text tree p = sym (ap selected (told text (Ok tree) p))

pub by_bad : (text : List ℕ) (at : ℕ) (ended : Bool) → Parses text (Err (BadFilter at ended)) → Never ≡ option_map_or ByFilter (filter_of text) Never
by_bad text at ended p = sym (ap selected (told text (Err (BadFilter at ended)) p))

pub by_deep : (text : List ℕ) (at : ℕ) → Parses text (Err (TooDeep at)) → Never ≡ option_map_or ByFilter (filter_of text) Never
by_deep text at p = sym (ap selected (told text (Err (TooDeep at)) p))
