use Rattle.std.proofs.Common.{◌≡◌, drop}
use Rattle.std.specs.Prelude.{fold, map}
use Rattle.component_state.specs.Inside.Runs.{passed_all, passed_one}
use Rattle.component_state.proofs.pass.pass_over.Given as goal

abbrev pub invariant-loop-component : goal.invariant-loop-component
invariant-loop-component l = fold (passed_one l.stage) l.progress (map (λ x. x.now) (drop l.component-index l.component-items)) ≡ passed_all l.stage
