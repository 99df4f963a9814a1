use Rattle.std.proofs.Common.{ap, ◌∙◌}
use Rattle.scr_world.specs.Calls.{world_at}
use Rattle.scr_world.specs.Legal.{is_under_way}
use Rattle.core_tests.proofs.UnderWay.{work_is_under_way}
use Rattle.core_tests.proofs.turns.run_turn.Goals as goal

pub done-requires : goal.done-requires
done-requires c =
    let after = world_at c.take_turn.new.self.journal in
    let work = c.in-Ok-Turn.work in
    let took = rw c.in-Ok-Turn.field-0-is at c.in-Ok-Turn.ensures.answer in
    ap (is_under_way after) took.0 ∙ work_is_under_way after work.number work took.2.2
