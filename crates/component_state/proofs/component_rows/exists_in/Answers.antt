use Rattle.std.proofs.Common.{◌&&◌, ◌∙◌, sym}
use Rattle.std.specs.Borrow.{Bor}
use Rattle.component_state.specs.ComponentConfigurations.{is_same_component}
use Rattle.component_state.specs.declared.component.Component.{Component}
use Rattle.component_state.proofs.AskingLemmas.{any_mapped}
use Rattle.component_state.proofs.component_rows.exists_in.Goals as goal

pub returns : goal.returns
returns c = c.is_any.ensures ∙ sym (any_mapped (λ (x : Bor Component). x.now) (λ (x : Component). x.exists && is_same_component c.args.component.now x) c.args.before.now)
