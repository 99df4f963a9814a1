use Rattle.std.proofs.Common.{◌≡◌, ◌+◌, drop, false, map}
use Rattle.callback_orders.specs.Due.{due_in_making}
use Rattle.prop_map.specs.Words.{with_places}
use Rattle.scr_world.specs.Views.{reference_view, references_in}
use Rattle.scr_dues.specs.Makings.{AreChoicesFrom}
use Rattle.scr_dues.proofs.InMaking.{due_behind}
use Rattle.scr_dues.proofs.due_in_making.due_from.Given as goal

abbrev pub invariant-loop-at : goal.invariant-loop-at
invariant-loop-at l = record {
  due : due_in_making l.instance.number (map (reference_view false l.world l.instance) (with_places 0 (references_in l.world l.instance))) ≡ due_behind l.world l.instance (l.making.place + l.at) (drop l.at l.references);
  choices : AreChoicesFrom (l.making.place + l.at) l.instance.origin.chosen l.choices;
}
