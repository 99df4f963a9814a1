-- Journals by their steps, and the failed mark read off a journal. Our own.
use Rattle.std.specs.Prelude.{◌≡◌, ℕ, ◌==◌, ◌&&◌, ◌||◌, ◌⊎◌, List, [], ◌∷◌, map, Bool, true, false, Some}
use Rattle.std.specs.List.{list_any}
use Rattle.callback_orders.specs.Grammar.{is_activate, is_create}
use Rattle.callback_orders.specs.Sequences.{is_failed}
use Rattle.component_state.specs.Components.{exists, properties_of}
use Rattle.journal_core.specs.declared.entry.Entry.{Entry}
use Rattle.prop_map.specs.Words.{has}
use Rattle.scr_world.specs.declared.instance.Instance.{Instance}
use Rattle.scr_world.specs.declared.step.Step.{Step}
use Rattle.scr_world.specs.declared.step.Step.TheVariants.{Command as Commanded, Begin, End, Drained, Got, Released}
use Rattle.scr_world.specs.declared.world.World.{World}
use Rattle.scr_world.specs.Instances.{has_turn, last_is}
use Rattle.scr_world.specs.Lists.{world_of}
use Rattle.scr_world.specs.Steps.{History}
use Rattle.scr_world.specs.Worlds.{satisfied_in}

abbrev pub steps_of : History → List Step
steps_of history = map (λ (e : Entry Step). e.step) history

-- the turn is that of a Create or an Activate of an instance of a component configuration
abbrev pub makes_or_activates : ℕ → ℕ → Instance → Bool
makes_or_activates turn number i = (has_turn turn i && (last_is is_create i.callbacks || last_is is_activate i.callbacks)) && (i.origin.configuration == number)

-- a creation or activation of a component configuration ends by a step without success
abbrev pub fails_by : Step → World → ℕ → Bool
fails_by (Commanded command) w number = false
fails_by (Begin turn instance configuration consumer callback chosen) w number = false
fails_by (End turn outcome) w number = is_failed (Some outcome) && list_any (makes_or_activates turn number) w.instances
fails_by (Drained instance) w number = false
fails_by (Got bundle service) w number = false
fails_by (Released place) w number = false

-- an entry closes the open period of a component configuration by a failure of its creation or activation, and the component configuration exists after it
pub record IsClosedByFailure (entry : Entry Step) (past : History) (number : ℕ) : Type 0 where
  pub closed : has entry.closed number ≡ true
  pub fails : fails_by entry.step (world_of past) number ≡ true
  pub present : exists (world_of (entry ∷ past)).components number ≡ true

-- before an entry a component configuration is satisfied, and after it it exists with equal properties
pub record StaysSatisfied (entry : Entry Step) (past : History) (number : ℕ) : Type 0 where
  pub satisfied : has (satisfied_in (world_of past)) number ≡ true
  pub present : exists (world_of (entry ∷ past)).components number ≡ true
  pub properties : properties_of (world_of (entry ∷ past)).components number ≡ properties_of (world_of past).components number

-- the last period of a component configuration was closed by a failure of its creation or activation, and it has stayed satisfied with equal properties since then
abbrev pub FailedSince : History → ℕ → Type 0
FailedSince [] number = ⊥
FailedSince (entry ∷ past) number = IsClosedByFailure entry past number ⊎ (FailedSince past number × StaysSatisfied entry past number)
