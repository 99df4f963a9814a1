use Rattle.std.proofs.Common.{ap, ◌∙◌}
use Rattle.std.specs.Ordering.{is_eq}
use Rattle.std.proofs.lemmas.Map.Text.{is_eq-slice_cmp}
use Rattle.ldap_filter.specs.Matching.{squeezed}
use Rattle.ldap_filter.proofs.matching.text_compares.Goals as goal

pub returns-in-Like : goal.returns-in-Like
returns-in-Like c = rw c.in-Like.is (c.is_eq.ensures ∙ ap is_eq c.squeezed_order.ensures ∙ is_eq-slice_cmp (squeezed c.args.text.now) (squeezed c.args.value.now))
