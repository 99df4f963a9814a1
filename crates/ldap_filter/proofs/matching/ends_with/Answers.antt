use Rattle.std.proofs.Common.{sym, ◌∙◌}
use Rattle.ldap_filter.proofs.Greedy.{whole_rest}
use Rattle.ldap_filter.proofs.matching.ends_with.Goals as goal

pub returns-then-eq : goal.returns-then-eq
returns-then-eq c = sym (whole_rest c.args.part.now c.rests.rest.now cc) ∙ c.rests.invariant
