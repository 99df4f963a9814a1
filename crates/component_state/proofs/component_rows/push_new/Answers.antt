use Rattle.std.proofs.Common.{map}
use Rattle.std.specs.Borrow.{Bor}
use Rattle.component_state.specs.declared.component.Component.{Component}
use Rattle.component_state.proofs.AskingLemmas.{more_new}
use Rattle.component_state.proofs.component_rows.push_new.Goals as goal

pub loop-component-preserved : goal.loop-component-preserved
loop-component-preserved c = more_new (map (λ (x : Bor Component). x.now) c.args.before.now) c.args.these.now c.loop-component.component-index c.loop-component.numbered _ c.component-item.result c.loop-component.after.items _ _
    c.loop-component-test.true c.component-item.is c.in_ok-numbered.ensures.number c.in_ok-numbered.ensures.added c.loop-component.invariant
