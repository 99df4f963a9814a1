use Rattle.std.proofs.Common.{ap, sym, ◌∙◌}
use Rattle.std.specs.Prelude.{slice_get}
use Rattle.prop_map.specs.Places.{value_at}
use Rattle.prop_map.proofs.PlaceLemmas.{get_at_place}
use Rattle.prop_map.proofs.properties.find.Goals as goal

pub returns : goal.returns
returns c = c.value_at.ensures ∙ ap (λ i. value_at c.args.key.now (slice_get c.args.list.now i)) c.place.ensures.at ∙ sym (get_at_place c.args.key.now c.args.list.now c.requires)
