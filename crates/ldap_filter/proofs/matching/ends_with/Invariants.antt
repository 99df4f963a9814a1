use Rattle.std.proofs.Common.{◌≡◌, length}
use Rattle.std.specs.Str.{bytes_eq}
use Rattle.ldap_filter.specs.Matching.{some_rest}
use Rattle.ldap_filter.proofs.matching.ends_with.Given as goal

abbrev pub invariant-rests : goal.invariant-rests
invariant-rests l = some_rest (λ rest. bytes_eq rest l.part) l.rest ≡ some_rest (λ rest. bytes_eq rest l.part) l.text

abbrev pub decreases-rests : goal.decreases-rests
decreases-rests l = length l.rest
