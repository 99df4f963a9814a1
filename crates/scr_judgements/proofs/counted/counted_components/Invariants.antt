use Rattle.std.proofs.Common.{◌≡◌, take}
use Rattle.std.specs.Prelude.{filter, map}
use Rattle.scr_world.specs.Stepping.{is_counted}
use Rattle.scr_judgements.proofs.counted.counted_components.Given as goal

abbrev pub invariant-loop-component : goal.invariant-loop-component
invariant-loop-component l = map (λ c. c.now) l.counted.items ≡ filter (is_counted l.instances) (take l.component-index l.components)
