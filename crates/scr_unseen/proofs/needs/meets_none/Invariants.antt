use Rattle.std.specs.Prelude.{◌≡◌, take, true}
use Rattle.scr_unseen.specs.Unseen.{meets_none}
use Rattle.scr_unseen.proofs.needs.meets_none.Given as goal

abbrev pub invariant-loop-component : goal.invariant-loop-component
invariant-loop-component l = meets_none (take l.component-index l.components) l.service ≡ true
