-- What a text lets in, from what reading it as a filter answered.
use Rattle.std.proofs.Common.{◌≡◌, ℕ, List, ap, sym, Bool, Ok, Err, Result}
use Rattle.std.specs.Option.{option_map_or}
use Rattle.std.specs.Result.{result_ok}
use Rattle.ldap_filter.proofs.Texts.{told}
use Rattle.ldap_filter.specs.Parsing.{Parses}
use Rattle.ldap_filter.specs.Trees.{Tree}
use Rattle.ldap_filter.specs.declared.filter_fault.FilterFault.TheVariants.{BadFilter, TooDeep}
use Rattle.event_handlers.specs.declared.admission.Admission.{Admission}
use Rattle.event_handlers.specs.declared.admission.Admission.TheVariants.{Matching, Nothing}
use Rattle.event_handlers.specs.Kept.{admission_of}

abbrev admitted : Result Tree ℕ → Admission
admitted r = option_map_or Matching (result_ok r) Nothing

pub by_filter : (text : List ℕ) (tree : Tree) → Parses text (Ok tree) → Matching tree ≡ admission_of text
by_filter text tree p = sym (ap admitted (told text (Ok tree) p))

pub by_bad : (text : List ℕ) (at : ℕ) (ended : Bool) → Parses text (Err (BadFilter at ended)) → Nothing ≡ admission_of text
by_bad text at ended p = sym (ap admitted (told text (Err (BadFilter at ended)) p))

pub by_deep : (text : List ℕ) (at : ℕ) → Parses text (Err (TooDeep at)) → Nothing ≡ admission_of text
by_deep text at p = sym (ap admitted (told text (Err (TooDeep at)) p))
