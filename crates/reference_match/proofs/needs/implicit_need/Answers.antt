use Rattle.std.proofs.Common.{ap, ◌∙◌, ℕ, List, Bool, true, Option}
use Rattle.prop_map.specs.declared.reference_words.Cardinality.TheVariants.{One}
use Rattle.prop_map.specs.declared.reference_words.Policy.TheVariants.{Dynamic}
use Rattle.prop_map.specs.declared.reference_words.PolicyOption.TheVariants.{Reluctant}
use Rattle.prop_map.specs.Maps.{get}
use Rattle.ldap_filter.specs.Trees.{Tree}
use Rattle.reference_match.specs.declared.need.Need.{Need}
use Rattle.reference_match.specs.Needs.{condition_interface, condition_name, filter_in, is_no_filter, target_key}
use Rattle.reference_match.proofs.needs.implicit_need.Goals as goal

abbrev condition : List ℕ → Option Tree → Bool → ℕ → Need
condition interface filter none minimum = record { interface = interface; filter = filter; none = none; cardinality = One; policy = Dynamic; option = Reluctant; minimum = minimum; direct_only = true }

pub returns : goal.returns
returns c =
    ap (λ i. condition i c.in_ok-target.target.filter c.in_ok-target.target.none c.in_ok-minimum.minimum) (c.of.ensures ∙ c.in_ok-interface.ensures.ok)
    ∙ ap (λ f. condition condition_interface f c.in_ok-target.target.none c.in_ok-minimum.minimum) c.in_ok-target.ensures.filter
    ∙ ap (λ n. condition condition_interface (filter_in (get c.args.properties.now (target_key condition_name))) n c.in_ok-minimum.minimum) c.in_ok-target.ensures.none
    ∙ ap (λ m. condition condition_interface (filter_in (get c.args.properties.now (target_key condition_name))) (is_no_filter (get c.args.properties.now (target_key condition_name))) m) c.in_ok-minimum.ensures
