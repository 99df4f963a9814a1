use Rattle.std.proofs.Common.{ap, sym, ◌∙◌, Some}
use Rattle.ldap_filter.proofs.Substrings.{first_found, none_found}
use Rattle.ldap_filter.proofs.matching.behind_first.Goals as goal

pub returns-in-Some : goal.returns-in-Some
returns-in-Some c = ap Some c.split_at.ensures.back ∙ sym (first_found c.args.text.now c.args.part.now c.in-Some.place c.in-Some.ensures)

pub returns-in-None : goal.returns-in-None
returns-in-None c = sym (none_found c.args.text.now c.args.part.now c.in-None.ensures)
