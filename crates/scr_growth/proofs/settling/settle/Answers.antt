use Rattle.std.proofs.Common.{◌≡◌, arith, subst}
use Rattle.scr_consequences.specs.Ends.{draining_in}
use Rattle.scr_consequences.specs.Gets.{HaveStood}
use Rattle.scr_growth.specs.Growths.{IsBefore, IsRest}
use Rattle.scr_growth.proofs.SettleSteps.{counted_for, few_for}
use Rattle.scr_world.specs.declared.step.Step.{Step}
use Rattle.scr_world.specs.declared.world.World.{World}
use Rattle.scr_growth.proofs.settling.settle.Goals as goal

pub ending_of-requires-clause-few : goal.ending_of-requires-clause-few
ending_of-requires-clause-few c =
    few_for c.args.journal.now c.args.step.value c.args.state.now c.args.undo.now c.args.periods.now c.args.lists c.args.draining.now c.requires

pub ending_of-requires-clause-entries : goal.ending_of-requires-clause-entries
ending_of-requires-clause-entries c =
    let counted = counted_for c.args.journal.now c.args.step.value c.args.state.now c.args.undo.now c.args.periods.now c.args.lists c.args.draining.now c.requires in
    omega (arith, counted, c.next_length-entries.ensures)

pub settle_ending-requires : goal.settle_ending-requires
settle_ending-requires c = record {
  draining_ones = c.args.draining.now;
  settling = c.requires;
  rest = subst (λ (x : Step). (was : World) → IsBefore was c.args.state.now.world c.args.undo.now c.args.periods.now → HaveStood x was c.args.state.now.world → c.args.draining.now ≡ draining_in was → IsRest was c.args.state.now.world c.in-Ok.ending.rest)
      c.deref.ensures c.in-Ok.ensures.rest;
  stopped = c.in-Ok.ensures.stopped;
}
