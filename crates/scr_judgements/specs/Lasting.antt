-- Commands after which the same component configurations are asked for as before. Our own.
use Rattle.std.specs.Prelude.{◌≡◌, ℕ, Bool, List, None}
use Rattle.std.specs.List.{list_all}
use Rattle.scr_judgements.specs.declared.drafting.TablesAfter.{TablesAfter}
use Rattle.scr_laws.specs.Askeds.{asked_in}
use Rattle.scr_state.specs.declared.draft.Draft.{Draft}
use Rattle.scr_state.specs.declared.row_change.RowChange.TheVariants.{Same}
use Rattle.scr_world.specs.Stepping.{component_configurations_by, is_counted}
use Rattle.scr_world.specs.declared.step.Step.{Step}
use Rattle.scr_world.specs.declared.world.World.{World}

-- the same is asked for after a step as before it
abbrev pub AsksAsBefore : Step → World → Type 0
AsksAsBefore step w = component_configurations_by step w ≡ asked_in w

-- a command forgets no component configuration: none ceased without an instance
abbrev pub forgets_none : World → Bool
forgets_none w = list_all (is_counted w.instances) w.components

-- the draft that leaves component configurations and open periods, where these are failed and these the tables
unfoldable pub lasting_draft : World → List ℕ → TablesAfter → Draft
lasting_draft w failed t = record {
  documents = t.documents;
  registry = t.registry;
  configurations = t.configurations;
  components = None;
  components_numbered = w.components_numbered;
  open_periods = None;
  failed = failed;
  failures = Same;
  instances = Same;
  whiteboard = None;
  instances_numbered = w.instances_numbered;
  turns_begun = w.turns_begun;
  generations = Same;
  uses = t.uses;
  tokens = Same;
  descriptions = t.descriptions;
  levels = t.levels;
}
