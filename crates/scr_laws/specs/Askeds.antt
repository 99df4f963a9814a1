-- Component configurations that are as they are asked for.
use Rattle.std.specs.Prelude.{ℕ, ◌≡◌, ◌≤◌, List, []}
use Rattle.std.specs.List.{Contains}
use Rattle.bundle_life.specs.declared.bundle.BundleLife.{BundleLife}
use Rattle.bundle_life.specs.Lives.{BundleTable}
use Rattle.component_state.specs.declared.component.Component.{Component}
use Rattle.component_state.specs.ComponentConfigurations.{component_configurations, component_after, new_components}
use Rattle.config_admin.specs.declared.configuration.Configuration.{Configuration}
use Rattle.scr_world.specs.declared.contents.Contents.{Contents}
use Rattle.scr_world.specs.declared.world.World.{World}
use Rattle.scr_world.specs.Tables.{bundle_rows}

-- these component configurations are as they are asked for: asking changes none, in no entry, and lets none come
pub record AreAsked (these cs : List Component) : Type 0 where
  pub stand : (place : ℕ) (c : Component) → Contains cs c → component_after place these c ≡ c
  pub complete : new_components cs these ≡ []

-- those that are asked for in a world
abbrev pub asked_in : World → List Component
asked_in w = component_configurations (bundle_rows w.bundles.rows w.documents) w.configurations

-- no two items of a list have one key
abbrev pub HasOneOfEach : {X K : Type 0} → (X → K) → List X → Type 0
HasOneOfEach {X = X} key xs = (a b : X) → Contains xs a → Contains xs b → key a ≡ key b → a ≡ b

-- bundles, documents and configurations are told apart by their numbers and PIDs, and the next bundle has a new number
pub record AreApart (bundles : BundleTable) (documents : List Contents) (configurations : List Configuration) : Type 0 where
  pub one_bundle : HasOneOfEach (λ (b : BundleLife). b.number) bundles.rows
  pub bundles_so_far : (b : BundleLife) → Contains bundles.rows b → b.number ≤ bundles.numbered
  pub one_document : HasOneOfEach (λ (c : Contents). c.bundle) documents
  pub documents_so_far : (c : Contents) → Contains documents c → c.bundle ≤ bundles.numbered
  pub one_configuration : HasOneOfEach (λ (c : Configuration). c.pid) configurations

-- in every world of a legal history: the component configurations are as they are asked for
pub record IsAsked (w : World) : Type 0 where
  pub apart : AreApart w.bundles w.documents w.configurations
  pub components : AreAsked (asked_in w) w.components
