use Rattle.std.proofs.Common.{◌∙◌}
use Rattle.ldap_filter.proofs.Numbers.{parsed}
use Rattle.ldap_filter.proofs.matching.whole_of.Goals as goal

pub returns : goal.returns
returns c = c.ok.ensures.value ∙ parsed c.args.text.now c.parse.result c.parse.ensures.value.0
