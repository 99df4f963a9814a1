use Rattle.std.proofs.Common.{◌≡◌, drop}
use Rattle.serde_json.specs.View.{items_view}
use Rattle.prop_map.specs.JsonProperties.{sound_items}
use Rattle.prop_map.proofs.json_properties.check_items.Given as goal

abbrev pub invariant-loop-item : goal.invariant-loop-item
invariant-loop-item l = sound_items l.key (items_view (drop l.item-index l.items)) ≡ sound_items l.key (items_view l.items)
