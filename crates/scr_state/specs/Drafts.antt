-- What a draft makes of a world, and the draft that brings back what there was. Our own.
use Rattle.std.specs.Prelude.{◌≡◌, option_map}
use Rattle.std.specs.Option.{unwrap_or}
use Rattle.scr_state.specs.Rows.{HasRoomAmong, Undoes, with_change}
use Rattle.scr_state.specs.declared.draft.Draft.{Draft}
use Rattle.scr_world.specs.declared.world.World.{World}

unfoldable pub with_draft : Draft → World → World
with_draft d w = record w {
  documents = unwrap_or d.documents w.documents;
  registry = unwrap_or d.registry w.registry;
  configurations = unwrap_or d.configurations w.configurations;
  components = unwrap_or d.components w.components;
  components_numbered = d.components_numbered;
  open_periods = unwrap_or d.open_periods w.open_periods;
  failed = d.failed;
  failures = with_change d.failures w.failures;
  instances = with_change d.instances w.instances;
  whiteboard = unwrap_or d.whiteboard w.whiteboard;
  instances_numbered = d.instances_numbered;
  turns_begun = d.turns_begun;
  generations = with_change d.generations w.generations;
  uses = unwrap_or d.uses w.uses;
  tokens = with_change d.tokens w.tokens;
}

-- each row that comes or goes by a draft has its room
abbrev pub HasRoom : Draft → World → Type 0
HasRoom d w = HasRoomAmong d.failures w.failures × (HasRoomAmong d.instances w.instances × (HasRoomAmong d.generations w.generations × HasRoomAmong d.tokens w.tokens))

-- a draft brings back what there was before another one
pub record IsUndoing (d : Draft) (w : World) (u : Draft) : Type 0 where
  pub documents : u.documents ≡ option_map (λ _. w.documents) d.documents
  pub registry : u.registry ≡ option_map (λ _. w.registry) d.registry
  pub configurations : u.configurations ≡ option_map (λ _. w.configurations) d.configurations
  pub components : u.components ≡ option_map (λ _. w.components) d.components
  pub components_numbered : u.components_numbered ≡ w.components_numbered
  pub open_periods : u.open_periods ≡ option_map (λ _. w.open_periods) d.open_periods
  pub failed : u.failed ≡ w.failed
  pub failures : Undoes d.failures w.failures u.failures
  pub instances : Undoes d.instances w.instances u.instances
  pub whiteboard : u.whiteboard ≡ option_map (λ _. w.whiteboard) d.whiteboard
  pub instances_numbered : u.instances_numbered ≡ w.instances_numbered
  pub turns_begun : u.turns_begun ≡ w.turns_begun
  pub generations : Undoes d.generations w.generations u.generations
  pub uses : u.uses ≡ option_map (λ _. w.uses) d.uses
  pub tokens : Undoes d.tokens w.tokens u.tokens
  pub descriptions : u.descriptions ≡ d.descriptions
  pub levels : u.levels ≡ d.levels
