use Rattle.std.proofs.Common.{◌∙◌, sym}
use Rattle.component_state.proofs.AskingLemmas.{all_set}
use Rattle.component_state.proofs.component_configurations.counting.are_set.Goals as goal

pub returns : goal.returns
returns c = c.are_some.ensures ∙ sym (all_set c.args.these.now)
