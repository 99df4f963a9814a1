use Rattle.std.proofs.Common.{◌∙◌, ap, sym}
use Rattle.std.specs.Prelude.{map}
use Rattle.std.specs.Str.{bytes_eq}
use Rattle.std.proofs.lemmas.List.Sorted.{IsPermutation-map, list_any-IsPermutation}
use Rattle.component_dto.specs.TextLists.{has_text}
use Rattle.level_order.proofs.NameLemmas.{all_taken}
use Rattle.level_order.proofs.interface_names.names_in.Goals as goal

pub returns-clause-all : goal.returns-clause-all
returns-clause-all c = λ text there.
    sym (list_any-IsPermutation (λ t. bytes_eq t text) _ _ (IsPermutation-map (λ t. t.now) _ _ c.sort_unstable.ensures.permutation))
    ∙ ap (λ ts. has_text ts text) (all_taken c.args.descriptions.now c.loop-description.description-index (map (λ t. t.now) c.loop-description.names.items) c.loop-description-test.false c.loop-description.invariant) ∙ there
