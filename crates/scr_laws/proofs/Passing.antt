-- An entry that follows has passed, and where its stage is still it closes and opens nothing.
use Rattle.std.proofs.Common.{◌≡◌, ℕ, [], refl}
use Rattle.component_state.specs.Passes.{HasPassed}
use Rattle.journal_core.specs.declared.entry.Entry.{Entry}
use Rattle.scr_world.specs.declared.step.Step.{Step}
use Rattle.scr_world.specs.Consequences.{stage_in, stage_of}
use Rattle.scr_world.specs.Legal.{Follows}
use Rattle.scr_world.specs.Lists.{world_after_entry, world_of}
use Rattle.scr_world.specs.Steps.{History}
use Rattle.scr_world.specs.Worlds.{satisfied_in as satisfied_at}
use Rattle.scr_laws.specs.Stills.{IsStill, passed_nothing}
use Rattle.scr_laws.proofs.Stillness.{passes_nothing}
use Rattle.scr_laws.specs.Entries.{passed_by}

pub follows_passes : (limit : ℕ) (entry : Entry Step) (past : History) → Follows limit entry past → HasPassed (stage_of entry.step (world_of past)) (passed_by entry (world_of past))
unfolding world_of world_after_entry stage_of stage_in satisfied_at
follows_passes limit entry past follows = record { closed = follows.closed; opened = follows.opened; open_now = refl; satisfied = refl; next = refl; scratch = follows.scratch }
