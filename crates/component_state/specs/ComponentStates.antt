-- The component configurations of a platform by themselves: what the lives of their instances and the plain pass make of them. OSGi Compendium 8, chapter 112,
-- "Satisfied"; the states are those of `ComponentConfigurationDTO`.
use Rattle.std.specs.Prelude.{◌≡◌, ◌<◌, ◌≤◌, ℕ, ◌+◌, ◌==◌, ◌&&◌, ◌||◌, List, [], ◌∷◌, ◌++◌, map, Bool, false, not, filter, flat_map, length, Option, option_map, if◌then◌else◌}
use Rattle.std.specs.List.{Contains, list_any}
use Rattle.component_dto.specs.declared.description.Description.{Description}
use Rattle.level_order.specs.Levels.{AreLevels}
use Rattle.prop_map.specs.Words.{has}
use Rattle.service_registry.specs.declared.row.ServiceRow.{ServiceRow}
use Rattle.component_state.specs.declared.component.Component.{Component}
use Rattle.component_state.specs.declared.living_instance.LivingInstance.{LivingInstance}
use Rattle.component_state.specs.declared.open_period.OpenPeriod.{OpenPeriod}
use Rattle.component_state.specs.declared.origin.Choice.{Choice}
use Rattle.component_state.specs.declared.origin.Origin.{Origin}
use Rattle.component_state.specs.declared.pass.Passed.{Passed}
use Rattle.component_state.specs.declared.plain_passes.PassEnd.{PassEnd}
use Rattle.component_state.specs.declared.rows.BundleRow.{BundleRow}
use Rattle.component_state.specs.declared.rows.WorldRows.{WorldRows}
use Rattle.component_state.specs.ComponentConfigurations.{component_configurations, components_after, new_components}
use Rattle.component_state.specs.Components.{existing_of, lacks_configuration}
use Rattle.component_state.specs.Marks.{failed_after}
use Rattle.component_state.specs.Passes.{HasPassed, Stage, next_from, opening}
use Rattle.component_state.specs.Periods.{is_open}
use Rattle.component_state.specs.Rows.{with_present_properties}

-- how many passes there were, so the place of the next one's entry; how many component configurations were numbered; their rows, what is open, the living
-- instances, the satisfied ones and the failed ones since the last pass, and those whose creation or activation ended without success since then
pub record States : Type 0 where
  pub passes : ℕ
  pub numbered : ℕ
  pub components : List Component
  pub open_periods : List OpenPeriod
  pub instances : List LivingInstance
  pub satisfied : List ℕ
  pub failed : List ℕ
  pub failing : List ℕ

abbrev pub nothing_known : States
nothing_known = record { passes = 0; numbered = 0; components = []; open_periods = []; instances = []; satisfied = []; failed = []; failing = [] }

abbrev pub origins_of : States → List Origin
origins_of s = map (λ (i : LivingInstance). i.origin) s.instances

-- ---- lives of instances

-- the Create of an instance begins, with what it chose
abbrev pub with_begun : ℕ → ℕ → List Choice → States → States
with_begun configuration instance chosen s = record s {
  instances = s.instances ++ record { number = instance; origin = record { configuration = configuration; created = s.passes; chosen = chosen }; active = false } ∷ [];
}

abbrev pub as_active : ℕ → Bool → LivingInstance → LivingInstance
as_active instance active i = if i.number == instance then record i { active = active } else i

abbrev pub with_active : ℕ → Bool → States → States
with_active instance active s = record s { instances = map (as_active instance active) s.instances }

abbrev pub with_ceased : ℕ → States → States
with_ceased instance s = record s { instances = filter (λ (i : LivingInstance). not (i.number == instance)) s.instances }

-- a creation or activation of a component configuration ends without success: that counts where it is still open
pub record HasFailed (configuration : ℕ) (s t : States) : Type 0 where
  pub failing : (number : ℕ) → has t.failing number ≡ (has s.failing number || ((number == configuration) && is_open s.open_periods number))
  pub others : record t { failing = s.failing } ≡ s

-- ---- states ("ComponentConfigurationDTO")

abbrev pub has_active : List LivingInstance → ℕ → Bool
has_active instances configuration = list_any (λ (i : LivingInstance). (i.origin.configuration == configuration) && i.active) instances

-- the first that holds: 1 where it lacks the configuration that its policy asks for, 2 where it isn't satisfied, 16 where it failed, 8 where it is open with an
-- active instance, 4
abbrev pub state_in : States → Component → ℕ
state_in s c =
    if lacks_configuration c then 1 else (if not (has s.satisfied c.number) then 2 else (if has s.failed c.number then 16 else (if is_open s.open_periods c.number && has_active s.instances c.number then 8 else 4)))

-- none where there is no such component configuration
abbrev pub state_of : States → ℕ → Option ℕ
state_of s configuration = option_map (state_in s) (existing_of s.components configuration)

-- ---- the plain pass

abbrev pub descriptions_in : WorldRows → List Description
descriptions_in w = flat_map (λ (b : BundleRow). b.descriptions) w.bundles

-- it hasn't ceased, is open or has a living instance
abbrev pub remains : States → Component → Bool
remains s c = c.exists || (is_open s.open_periods c.number || list_any (λ (o : Origin). o.configuration == c.number) (origins_of s))

abbrev pub remaining : States → List Component
remaining s = filter (remains s) s.components

-- the component configurations are asked for anew
abbrev pub components_in : States → WorldRows → List Component
components_in s w = components_after s.passes s.numbered (component_configurations w.bundles w.configurations) (remaining s)

abbrev pub numbered_in : States → WorldRows → ℕ
numbered_in s w = s.numbered + length (new_components (remaining s) (component_configurations w.bundles w.configurations))

abbrev pub failed_in : States → WorldRows → List ℕ
failed_in s w = failed_after s.passes s.satisfied (components_in s w) s.failing s.failed

-- what the pass stands on
abbrev pub stage_in : States → WorldRows → Stage
stage_in s w = let cs = components_in s w in record {
  place = s.passes;
  next = w.next_service;
  descriptions = descriptions_in w;
  levels = w.levels;
  direct = filter (λ (r : ServiceRow). r.direct) w.services;
  components = cs;
  open_before = map (with_present_properties cs) s.open_periods;
  origins = origins_of s;
  failed = failed_in s w;
  failing = s.failing;
}

-- a pass that closes and opens these, and after which these are open and satisfied
abbrev pub passed_with : Stage → PassEnd → List OpenPeriod → List ℕ → Passed
passed_with stage end now satisfied = record { closed = end.closed; opened = end.opened; open_now = now; satisfied = satisfied; next_service = next_from stage.next (opening stage now) }

-- the state after a pass after which these are open and satisfied
abbrev pub after_pass : States → WorldRows → List OpenPeriod → List ℕ → States
after_pass s w now satisfied = record {
  passes = s.passes + 1;
  numbered = numbered_in s w;
  components = components_in s w;
  open_periods = now;
  instances = s.instances;
  satisfied = satisfied;
  failed = failed_in s w;
  failing = [];
}

-- the plain pass leads from a state to another: the pass of its stage
pub record IsPlainPass (s : States) (w : WorldRows) (end : PassEnd) (t : States) : Type 0 where
  pub passed : HasPassed (stage_in s w) (passed_with (stage_in s w) end t.open_periods t.satisfied)
  pub state : t ≡ after_pass s w t.open_periods t.satisfied

-- where a plain pass may begin: the next service has a number, the levels are those of the descriptions, and each component configuration that goes on has one
-- of the descriptions
pub record MayPass (s : States) (w : WorldRows) : Type 0 where
  pub next : 0 < w.next_service
  pub levels : AreLevels (descriptions_in w) w.levels
  pub described : (c : Component) → Contains (remaining s) c → Contains (descriptions_in w) c.description
