use Rattle.std.proofs.Common.{◌≡◌, drop}
use Rattle.component_state.specs.Reasons.{choice_at}
use Rattle.component_state.proofs.choices.choice_at.Given as goal

abbrev pub invariant-loop-choice : goal.invariant-loop-choice
invariant-loop-choice l = choice_at l.choices l.index ≡ choice_at (drop l.choice-index l.choices) l.index
