use Rattle.std.proofs.Common.{◌≡◌, ◌++◌, take, drop, length}
use Rattle.std.specs.Prelude.{map}
use Rattle.component_state.specs.ComponentStates.{as_active}
use Rattle.component_state.proofs.instance_lives.set_each.Given as goal

abbrev pub invariant-loop-at : goal.invariant-loop-at
invariant-loop-at l = record {
  whole : take l.at l.instances ++ map (as_active l.number l.active) (drop l.at l.instances) ≡ map (as_active l.number l.active) l.fn.instances;
  long : length l.instances ≡ length l.fn.instances;
}
