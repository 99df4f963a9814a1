-- What a state has to do with its journal, and a draft with its step. Our own.
use Rattle.std.specs.Prelude.{◌≡◌, ◌≤◌, ℕ}
use Rattle.std.specs.Option.{unwrap_or}
use Rattle.journal_core.specs.Rooms.{JournalRows}
use Rattle.prop_map.specs.Words.{has}
use Rattle.scr_state.specs.Drafts.{HasRoom, with_draft}
use Rattle.scr_state.specs.declared.draft.Draft.{Draft}
use Rattle.scr_state.specs.declared.state.State.{State}
use Rattle.scr_world.specs.Legal.{IsLegal}
use Rattle.scr_world.specs.Levels.{levels_of}
use Rattle.scr_world.specs.Lists.{world_of}
use Rattle.scr_world.specs.Room.{reserved}
use Rattle.scr_world.specs.Stepping.{world_after_step}
use Rattle.scr_world.specs.Steps.{history_of}
use Rattle.scr_world.specs.Tables.{bundles_by, descriptions_of}
use Rattle.scr_world.specs.Worlds.{satisfied_in}
use Rattle.scr_world.specs.declared.step.Step.{Step}
use Rattle.scr_world.specs.declared.world.World.{World}

-- the state is what the journal says, the journal is legal within its limit, which is at most 4,194,304 entries, and has reserved what has begun
pub record Keeps (journal : JournalRows Step) (s : State) : Type 0 where
  pub world : s.world ≡ world_of (history_of journal.entries)
  pub descriptions : s.descriptions ≡ descriptions_of s.world.documents
  pub levels : s.levels ≡ levels_of s.descriptions
  pub satisfied : (number : ℕ) → has s.satisfied number ≡ has (satisfied_in s.world) number
  pub reserved : journal.reserved ≡ reserved s.world
  pub legal : IsLegal journal.limit (history_of journal.entries)
  pub small : journal.limit ≤ 4194304

-- a state is that of some journal
pub record IsKept (s : State) : Type 0 where
  pub journal : JournalRows Step
  pub keeps : Keeps journal s

-- the bundles after a step, all else as it is
abbrev pub with_bundles_by : Step → World → World
with_bundles_by step w = record w { bundles = bundles_by step w.bundles }

-- a draft is what a step makes of a state but for the bundles, and has its room
pub record IsDraft (s : State) (step : Step) (d : Draft) : Type 0 where
  pub world : with_draft d (with_bundles_by step s.world) ≡ world_after_step step s.world
  pub descriptions : unwrap_or d.descriptions s.descriptions ≡ descriptions_of (world_after_step step s.world).documents
  pub levels : unwrap_or d.levels s.levels ≡ levels_of (descriptions_of (world_after_step step s.world).documents)
  pub room : HasRoom d s.world
