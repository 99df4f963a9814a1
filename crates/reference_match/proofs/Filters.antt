-- The filter that a text spells, by what its reader answers.
use Rattle.std.proofs.Common.{◌≡◌, ap, sym, subst, ℕ, List, Bool, Some, None}
use Rattle.std.specs.Prelude.{Ok, Err}
use Rattle.std.specs.Result.{result_ok}
use Rattle.ldap_filter.specs.declared.filter_fault.FilterFault.{FilterFault}
use Rattle.ldap_filter.specs.declared.filter_fault.FilterFault.TheVariants.{BadFilter, TooDeep}
use Rattle.ldap_filter.specs.Parsing.{Parses}
use Rattle.ldap_filter.specs.Texts.{filter_of}
use Rattle.ldap_filter.specs.Trees.{Tree}
use Rattle.ldap_filter.proofs.Texts.{told}

pub spelled : (text : List ℕ) (tree : Tree) → Parses text (Ok tree) → Some tree ≡ filter_of text
spelled text tree h = sym (ap result_ok (told text (Ok tree) h))

pub not_spelled : (text : List ℕ) (fault : FilterFault) (at : ℕ) (ended : Bool) → fault ≡ BadFilter at ended → Parses text (Err fault) → None ≡ filter_of text
not_spelled text fault at ended is h = sym (ap result_ok (told text (Err (BadFilter at ended)) (subst (λ f. Parses text (Err f)) is h)))

pub too_deep : (text : List ℕ) (fault : FilterFault) (at : ℕ) → fault ≡ TooDeep at → Parses text (Err fault) → None ≡ filter_of text
too_deep text fault at is h = sym (ap result_ok (told text (Err (TooDeep at)) (subst (λ f. Parses text (Err f)) is h)))
