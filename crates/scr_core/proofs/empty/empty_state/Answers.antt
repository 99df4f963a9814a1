use Rattle.scr_core.proofs.EmptyState.{empty_kept}
use Rattle.scr_state.specs.declared.state.State.{State}
use Rattle.scr_core.proofs.empty.empty_state.Goals as goal

pub returns : goal.returns
returns c =
    let s : State = record { world = c.in_ok-world.world; descriptions = c.none.result; levels = c.none-2.result; satisfied = c.none-3.result } in
    empty_kept s c.in_ok-world.ensures c.none.ensures c.none-2.ensures c.none-3.ensures
