-- The living instances of a journal. OSGi Compendium 8, chapter 112, "Component Life Cycle"; the section stands at each group of words.
use Rattle.std.specs.Prelude.{ℕ, zero, suc, ◌+◌, ◌==◌, ◌&&◌, List, [], ◌∷◌, ◌++◌, map, Bool, true, false, not, Option, Some, None, filter, length, slice_index, if◌then◌else◌}
use Rattle.std.specs.List.{list_any}
use Rattle.std.specs.Option.{option_map_or}
use Rattle.callback_orders.specs.declared.callback.Callback.{Callback}
use Rattle.callback_orders.specs.declared.callback.Callback.TheVariants.{Create, Bind, Updated, Unbind, Activate, Modified, Deactivate, Destroy}
use Rattle.callback_orders.specs.declared.callback.Outcome.{Outcome}
use Rattle.callback_orders.specs.declared.instance_view.Phase.{Phase}
use Rattle.callback_orders.specs.declared.instance_view.Phase.TheVariants.{Making, Active, Left}
use Rattle.callback_orders.specs.declared.word.Called.{Called}
use Rattle.callback_orders.specs.Sequences.{begun, ended, is_done, is_failed, is_outstanding}
use Rattle.callback_orders.specs.Grammar.{is_activate}
use Rattle.callback_orders.specs.Lives.{is_living, phase_of}
use Rattle.prop_map.specs.declared.properties.Property.{Property}
use Rattle.prop_map.specs.Words.{has}
use Rattle.component_state.specs.declared.origin.Choice.{Choice}
use Rattle.component_state.specs.declared.open_period.OpenPeriod.{OpenPeriod}
use Rattle.component_state.specs.Rows.{service_in}
use Rattle.scr_world.specs.declared.instance.Instance.{Instance}
use Rattle.told_revisions.specs.Told.{with_told, without_told}

-- ---- how far an instance is ("Activation", "Deactivation")

-- the last callback that an instance was told of
abbrev pub last_callback : List Called → Option Callback
last_callback [] = None
last_callback (c ∷ []) = Some c.callback
last_callback (c ∷ d ∷ rest) = last_callback (d ∷ rest)

-- it passes a test
abbrev pub last_is : (Callback → Bool) → List Called → Bool
last_is test calls = option_map_or test (last_callback calls) false

abbrev pub is_active_phase : Phase → Bool
is_active_phase Making = false
is_active_phase Active = true
is_active_phase Left = false

-- from the end of a successful Activate to the end of Deactivate
abbrev pub is_active_instance : Instance → Bool
is_active_instance i = is_active_phase (phase_of i.callbacks)

-- its activation ended without success
abbrev pub has_failed : List Called → Bool
has_failed calls = list_any (λ (c : Called). is_activate c.callback && is_failed c.outcome) calls

-- its Activate is outstanding or ended Done
abbrev pub is_activated : List Called → Bool
is_activated calls = list_any (λ (c : Called). is_activate c.callback && not (is_failed c.outcome)) calls

-- the end of a Destroy, or of a Create without success, is the end of an instance
abbrev pub lives_on : Instance → Bool
lives_on i = is_living i.callbacks

-- the turn is under way, and the instance is told by it
abbrev pub has_turn : ℕ → Instance → Bool
has_turn turn i = (i.turn == turn) && is_outstanding i.callbacks

-- ---- slots (our own)

-- the lowest number from a first one on that isn't taken, looking at so many
abbrev pub first_free_from : List ℕ → ℕ → ℕ → ℕ
first_free_from taken zero slot = slot
first_free_from taken (suc more) slot = if has taken slot then first_free_from taken more (slot + 1) else slot

-- the lowest slot that no living instance has: among as many slots as there are instances, and one, some slot is free
abbrev pub first_free_slot : List Instance → ℕ
first_free_slot is = first_free_from (map (λ (i : Instance). i.slot) is) (length is) 0

-- ---- the beginning of a turn ("Activation", "Modification")

-- what an entry finds that begins a turn: its place, what is open, the instances, the revisions of services, the properties of component configurations
pub record BeforeTurn : Type 0 where
  pub place : ℕ
  pub open_periods : List OpenPeriod
  pub instances : List Instance
  pub revision : ℕ → ℕ
  pub properties : ℕ → List Property

-- the instance that the beginning of a Create makes
abbrev pub created_at : BeforeTurn → ℕ → ℕ → ℕ → ℕ → List Choice → Instance
created_at before turn instance configuration consumer chosen = record {
  number = instance;
  consumer = consumer;
  service = service_in before.open_periods configuration;
  slot = first_free_slot before.instances;
  generation = 0;
  drained = false;
  turn = turn;
  origin = record { configuration = configuration; created = before.place; chosen = chosen };
  callbacks = begun Create ∷ [];
  properties = before.properties configuration;
  properties_taken_at = before.place;
  told_revisions = [];
}

-- what an instance takes with a callback that begins: at Bind and Updated the service's revision, at Modified its component configuration's properties
abbrev pub with_effect_of_begin : BeforeTurn → Callback → Instance → Instance
with_effect_of_begin before Create i = i
with_effect_of_begin before (Bind reference service) i = record i { told_revisions = with_told reference service (before.revision service) i.told_revisions }
with_effect_of_begin before (Updated reference service) i = record i { told_revisions = with_told reference service (before.revision service) i.told_revisions }
with_effect_of_begin before (Unbind reference service) i = record i { told_revisions = without_told reference service i.told_revisions }
with_effect_of_begin before Activate i = i
with_effect_of_begin before Modified i = record i { properties = before.properties i.origin.configuration; properties_taken_at = before.place }
with_effect_of_begin before Deactivate i = i
with_effect_of_begin before Destroy i = i

-- the instance of this number is told of a callback in a turn
abbrev pub with_callback_begun : BeforeTurn → ℕ → ℕ → Callback → Instance → Instance
with_callback_begun before turn instance callback i =
    if i.number == instance then with_effect_of_begin before callback (record i { turn = turn; callbacks = i.callbacks ++ begun callback ∷ [] }) else i

-- a turn that begins makes an instance, or tells one
abbrev pub begun_by : BeforeTurn → ℕ → ℕ → ℕ → ℕ → Callback → List Choice → List Instance
begun_by before turn instance configuration consumer Create chosen = before.instances ++ created_at before turn instance configuration consumer chosen ∷ []
begun_by before turn instance configuration consumer callback chosen = map (with_callback_begun before turn instance callback) before.instances

-- ---- the end of a turn, and drains (our own)

-- an instance becomes active by the end of its Activate
abbrev pub becomes_active : Outcome → Instance → Bool
becomes_active outcome i = is_done (Some outcome) && last_is is_activate i.callbacks

-- the gate of a slot is reopened under the next generation
abbrev pub next_generation : List ℕ → Instance → ℕ
next_generation generations i = slice_index generations i.slot + 1

abbrev pub with_outcome : Outcome → List ℕ → Instance → Instance
with_outcome outcome generations i =
    record i { callbacks = ended outcome i.callbacks; generation = if becomes_active outcome i then next_generation generations i else i.generation }

-- the instance whose turn ends gets its outcome
abbrev pub ended_in : ℕ → Outcome → List ℕ → Instance → Instance
ended_in turn outcome generations i = if has_turn turn i then with_outcome outcome generations i else i

abbrev pub drained_in : ℕ → Instance → Instance
drained_in instance i = if i.number == instance then record i { drained = true } else i
