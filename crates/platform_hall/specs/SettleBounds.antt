-- What a settling of a calm platform keeps to. Our own; when a platform is calm, and its bound, stand in `scr_world`.
use Rattle.std.specs.Prelude.{◌≡◌, ◌≤◌, ◌<◌, ℕ, List, [], ◌∷◌, ◌++◌, Bool, true, Result, Ok, Err, ⊤}
use Rattle.std.specs.List.{list_all}
use Rattle.kind_trait.specs.Meanings.{Told}
use Rattle.prop_map.specs.declared.properties.Property.{Property}
use Rattle.scr_requests.specs.Cores.{CoreView}
use Rattle.scr_promises.specs.Bounds.{IsWithinBound}
use Rattle.scr_promises.specs.Names.{HaveOwnNames}
use Rattle.scr_promises.specs.Settlings.{NothingCloses, ends_well}
use Rattle.scr_world.specs.Bounds.{is_calm, settle_bound}
use Rattle.scr_world.specs.Lists.{world_of}
use Rattle.scr_world.specs.Steps.{History, history_of}
use Rattle.scr_world.specs.declared.step.Step.{Step}
use Rattle.scr_world.specs.declared.step.Step.TheVariants.{End}
use Rattle.scr_world.specs.declared.world.World.{World}
use Rattle.turn_runner.specs.declared.settle_fault.SettleFault.{SettleFault}
use Rattle.turn_runner.specs.declared.settle_fault.SettleFault.TheVariants.{Unsettled, JournalFull, OutOfMemory}
use Rattle.platform_hall.specs.Platforms.{SettlesAs, world}

-- no creation or activation ends by this step other than Done
abbrev pub fails_nothing : Step → World → Bool
fails_nothing (End turn outcome) w = list_all (ends_well turn outcome) w.instances
fails_nothing _ w = true

-- nor by these entries behind a journal
abbrev pub NothingFails : History → History → Type 0
NothingFails past [] = ⊤
NothingFails past (entry ∷ entries) = (fails_nothing entry.step (world_of (entries ++ past)) ≡ true) × NothingFails past entries

-- the number of turns that ran is at most the bound, and a settling that its limit of turns cut off had fewer than that
abbrev pub AnswersWithin : ℕ → ℕ → Result ℕ SettleFault → Type 0
AnswersWithin bound turns (Ok count) = count ≤ bound
AnswersWithin bound turns (Err Unsettled) = turns < bound
AnswersWithin bound turns (Err JournalFull) = ⊤
AnswersWithin bound turns (Err OutOfMemory) = ⊤

-- the entries of a settling close no component configuration and begin at most as many turns as the settle bound of the journal before them
pub record KeepsWithin (before : CoreView) (answer : Result ℕ SettleFault) (entries : History) : Type 0 where
  pub closes_nothing : NothingCloses entries
  pub turns : IsWithinBound (history_of before.journal) entries
  pub answered : AnswersWithin (settle_bound (world before)) before.limits.turns answer

-- so does a settling that begins on a calm platform, where no creation or activation fails in it
abbrev pub IsBounded : CoreView → Result ℕ SettleFault → CoreView → Type 0
IsBounded before answer after =
    is_calm (world before) ≡ true
    → (entries : History) → history_of after.journal ≡ entries ++ history_of before.journal → NothingFails (history_of before.journal) entries
    → KeepsWithin before answer entries

-- what a settling answers and does: where the references of each installed description differ in name, it keeps to its bound
abbrev pub SettlesWithin : (List ℕ → List Property → Told → Bool) → CoreView → Result ℕ SettleFault → CoreView → Type 0
SettlesWithin refuses before answer after = SettlesAs refuses before.limits.turns before answer after × (HaveOwnNames (world before) → IsBounded before answer after)
