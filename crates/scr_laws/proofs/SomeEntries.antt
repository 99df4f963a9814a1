-- A step that may come after a legal journal and has room has an entry that follows: that of its pass.
use Rattle.std.proofs.Common.{◌≡◌, ℕ, refl, true}
use Rattle.component_state.proofs.Passing.{has_passed}
use Rattle.component_state.specs.Inside.Runs.{passed_all}
use Rattle.journal_core.specs.declared.entry.Entry.{Entry}
use Rattle.scr_laws.proofs.FollowingEntries.{follows}
use Rattle.scr_laws.proofs.ReadyStages.{legal_ready}
use Rattle.scr_laws.specs.Following.{entry_of}
use Rattle.scr_world.specs.Consequences.{stage_of}
use Rattle.scr_world.specs.Legal.{Follows, IsLegal, MayCome}
use Rattle.scr_world.specs.Lists.{world_of}
use Rattle.scr_world.specs.Room.{has_room, needed_by}
use Rattle.scr_world.specs.Steps.{History}
use Rattle.scr_world.specs.declared.step.Step.{Step}

pub some_entry : (limit : ℕ) (past : History) → IsLegal limit past → (step : Step) → MayCome (world_of past) step → has_room limit (world_of past) (needed_by step) ≡ true → (entry : Entry Step) × (entry.step ≡ step) × Follows limit entry past
some_entry limit past legal step may room =
    let s = stage_of step (world_of past) in
    let p = passed_all s in
    (entry_of step p (world_of past), refl, follows limit past legal step may room p (has_passed s (legal_ready limit past legal step may)))
