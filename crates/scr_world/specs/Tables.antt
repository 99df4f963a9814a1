-- What a step makes of the bundles, their documents, the direct services, the configurations, the gets and the listeners. The section stands at each group of words.
use Rattle.std.specs.Prelude.{ℕ, ◌==◌, List, [], ◌∷◌, ◌++◌, map, Bool, true, false, not, Option, filter, find, flat_map, codes, if◌then◌else◌}
use Rattle.std.specs.Option.{option_map_or}
use Rattle.std.specs.Str.{bytes_eq}
use Rattle.bundle_doc.specs.declared.document.BundleDoc.{BundleDoc}
use Rattle.bundle_life.specs.declared.bundle.BundleLife.{BundleLife}
use Rattle.bundle_life.specs.Lives.{BundleTable, bundle_of, state_number, after_install, after_start, stop_begun, after_uninstall, after_update}
use Rattle.component_dto.specs.declared.description.Description.{Description}
use Rattle.component_state.specs.declared.rows.BundleRow.{BundleRow}
use Rattle.config_admin.specs.declared.configuration.Configuration.{Configuration}
use Rattle.config_admin.specs.Configurations.{factory_configuration, own_configuration, with_configuration, without_pid}
use Rattle.service_listeners.specs.Listening.{ListenerTable, after_listen, after_unlisten, without_listeners_of}
use Rattle.service_registry.specs.Registries.{Registered, registered, unregistered, with_properties, without_bundle}
use Rattle.use_counts.specs.declared.uses.Holder.TheVariants.{Shell, Token as ByToken}
use Rattle.use_counts.specs.declared.uses.UseRow.{UseRow}
use Rattle.use_counts.specs.Uses.{after_get, after_unget}
use Rattle.scr_world.specs.declared.command.Command.{Command}
use Rattle.scr_world.specs.declared.step.Step.{Step}
use Rattle.scr_world.specs.declared.step.Step.TheVariants.{Command as Commanded, Begin, End, Drained, Got, Released}
use Rattle.scr_world.specs.declared.command.Command.TheVariants.{Install, Update, Start, Stop, Uninstall, Enable, Disable, Register, Unregister, SetProperties, Get, Unget, Listen, Unlisten, Configure, ConfigureFactory, Unconfigure}
use Rattle.scr_world.specs.declared.contents.Contents.{Contents}
use Rattle.scr_world.specs.declared.marks.Token.{Token}

-- ---- bundles (OSGi Core 8, chapter 4, "Bundle State")

abbrev pub bundles_by_command : Command → BundleTable → BundleTable
bundles_by_command (Install doc) t = after_install doc.location doc.name doc.version t
bundles_by_command (Update bundle doc) t = after_update bundle doc.name doc.version t
bundles_by_command (Start bundle) t = after_start bundle t
bundles_by_command (Stop bundle) t = stop_begun bundle t
bundles_by_command (Uninstall bundle) t = after_uninstall bundle t
bundles_by_command (Enable bundle name) t = t
bundles_by_command (Disable bundle name) t = t
bundles_by_command (Register bundle interfaces properties) t = t
bundles_by_command (Unregister bundle service) t = t
bundles_by_command (SetProperties bundle service properties) t = t
bundles_by_command (Get bundle service) t = t
bundles_by_command (Unget bundle service) t = t
bundles_by_command (Listen bundle filter) t = t
bundles_by_command (Unlisten listener) t = t
bundles_by_command (Configure pid properties) t = t
bundles_by_command (ConfigureFactory factory name properties) t = t
bundles_by_command (Unconfigure pid) t = t

abbrev pub bundles_by : Step → BundleTable → BundleTable
bundles_by (Commanded command) t = bundles_by_command command t
bundles_by (Begin turn instance configuration consumer callback chosen) t = t
bundles_by (End turn outcome) t = t
bundles_by (Drained instance) t = t
bundles_by (Got bundle service) t = t
bundles_by (Released place) t = t

-- ---- documents, and which of their descriptions are enabled (OSGi Compendium 8, chapter 112, "Enabled")

abbrev pub defaults : List Description → List Bool
defaults ds = map (λ (d : Description). d.default_enabled) ds

abbrev pub contents_with : ℕ → BundleDoc → Contents
contents_with bundle doc = record { bundle = bundle; document = doc; enabled = defaults doc.descriptions }

-- the description of this name is enabled, or isn't
abbrev pub with_flag : List ℕ → Bool → List Description → List Bool → List Bool
with_flag name flag [] flags = []
with_flag name flag (d ∷ ds) [] = []
with_flag name flag (d ∷ ds) (f ∷ fs) = (if bytes_eq d.name name then flag else f) ∷ with_flag name flag ds fs

abbrev pub flagged : ℕ → List ℕ → Bool → Contents → Contents
flagged bundle name flag c = if c.bundle == bundle then record c { enabled = with_flag name flag c.document.descriptions c.enabled } else c

abbrev pub replaced : ℕ → BundleDoc → Contents → Contents
replaced bundle doc c = if c.bundle == bundle then contents_with bundle doc else c

-- a start sets each description back to its default
abbrev pub set_back : ℕ → Contents → Contents
set_back bundle c = if c.bundle == bundle then record c { enabled = defaults c.document.descriptions } else c

-- the documents by bundle, where the next bundle has this number
abbrev pub documents_by_command : Command → ℕ → List Contents → List Contents
documents_by_command (Install doc) next before = before ++ contents_with next doc ∷ []
documents_by_command (Update bundle doc) next before = map (replaced bundle doc) before
documents_by_command (Start bundle) next before = map (set_back bundle) before
documents_by_command (Stop bundle) next before = before
documents_by_command (Uninstall bundle) next before = filter (λ (c : Contents). not (c.bundle == bundle)) before
documents_by_command (Enable bundle name) next before = map (flagged bundle name true) before
documents_by_command (Disable bundle name) next before = map (flagged bundle name false) before
documents_by_command (Register bundle interfaces properties) next before = before
documents_by_command (Unregister bundle service) next before = before
documents_by_command (SetProperties bundle service properties) next before = before
documents_by_command (Get bundle service) next before = before
documents_by_command (Unget bundle service) next before = before
documents_by_command (Listen bundle filter) next before = before
documents_by_command (Unlisten listener) next before = before
documents_by_command (Configure pid properties) next before = before
documents_by_command (ConfigureFactory factory name properties) next before = before
documents_by_command (Unconfigure pid) next before = before

abbrev pub documents_by : Step → ℕ → List Contents → List Contents
documents_by (Commanded command) next before = documents_by_command command next before
documents_by (Begin turn instance configuration consumer callback chosen) next before = before
documents_by (End turn outcome) next before = before
documents_by (Drained instance) next before = before
documents_by (Got bundle service) next before = before
documents_by (Released place) next before = before

abbrev pub contents_of : List Contents → ℕ → Option Contents
contents_of cs bundle = find (λ (c : Contents). c.bundle == bundle) cs

-- the descriptions of all installed bundles, by bundle, then in the order of its document
abbrev pub descriptions_of : List Contents → List Description
descriptions_of cs = flat_map (λ (c : Contents). c.document.descriptions) cs

-- a bundle as its component configurations are made of it
abbrev pub bundle_row : List BundleLife → Contents → BundleRow
bundle_row bundles c = record { id = c.bundle; state = option_map_or (λ (b : BundleLife). state_number b.state) (bundle_of bundles c.bundle) 0; descriptions = c.document.descriptions; enabled = c.enabled }

abbrev pub bundle_rows : List BundleLife → List Contents → List BundleRow
bundle_rows bundles cs = map (bundle_row bundles) cs

-- ---- direct services: those without a component behind them (OSGi Core 8, chapter 5, "Registering Services", "Unregistering Services")

abbrev pub direct_scope : List ℕ
direct_scope = codes "singleton"

abbrev pub registry_by_command : Command → Registered → Registered
registry_by_command (Install doc) t = t
registry_by_command (Update bundle doc) t = t
registry_by_command (Start bundle) t = t
registry_by_command (Stop bundle) t = without_bundle bundle t
registry_by_command (Uninstall bundle) t = t
registry_by_command (Enable bundle name) t = t
registry_by_command (Disable bundle name) t = t
registry_by_command (Register bundle interfaces properties) t = registered bundle interfaces direct_scope properties true t
registry_by_command (Unregister bundle service) t = unregistered service t
registry_by_command (SetProperties bundle service properties) t = with_properties service properties t
registry_by_command (Get bundle service) t = t
registry_by_command (Unget bundle service) t = t
registry_by_command (Listen bundle filter) t = t
registry_by_command (Unlisten listener) t = t
registry_by_command (Configure pid properties) t = t
registry_by_command (ConfigureFactory factory name properties) t = t
registry_by_command (Unconfigure pid) t = t

abbrev pub registry_by : Step → Registered → Registered
registry_by (Commanded command) t = registry_by_command command t
registry_by (Begin turn instance configuration consumer callback chosen) t = t
registry_by (End turn outcome) t = t
registry_by (Drained instance) t = t
registry_by (Got bundle service) t = t
registry_by (Released place) t = t

-- ---- configurations (OSGi Compendium 8, chapter 104, "Configuration Objects")

abbrev pub configurations_by_command : Command → List Configuration → List Configuration
configurations_by_command (Install doc) cs = cs
configurations_by_command (Update bundle doc) cs = cs
configurations_by_command (Start bundle) cs = cs
configurations_by_command (Stop bundle) cs = cs
configurations_by_command (Uninstall bundle) cs = cs
configurations_by_command (Enable bundle name) cs = cs
configurations_by_command (Disable bundle name) cs = cs
configurations_by_command (Register bundle interfaces properties) cs = cs
configurations_by_command (Unregister bundle service) cs = cs
configurations_by_command (SetProperties bundle service properties) cs = cs
configurations_by_command (Get bundle service) cs = cs
configurations_by_command (Unget bundle service) cs = cs
configurations_by_command (Listen bundle filter) cs = cs
configurations_by_command (Unlisten listener) cs = cs
configurations_by_command (Configure pid properties) cs = with_configuration (own_configuration pid properties) cs
configurations_by_command (ConfigureFactory factory name properties) cs = with_configuration (factory_configuration factory name properties) cs
configurations_by_command (Unconfigure pid) cs = without_pid pid cs

abbrev pub configurations_by : Step → List Configuration → List Configuration
configurations_by (Commanded command) cs = configurations_by_command command cs
configurations_by (Begin turn instance configuration consumer callback chosen) cs = cs
configurations_by (End turn outcome) cs = cs
configurations_by (Drained instance) cs = cs
configurations_by (Got bundle service) cs = cs
configurations_by (Released place) cs = cs

-- ---- gets (OSGi Core 8, chapter 5, "Getting Services", "Releasing Services"; those by token are our own)

abbrev pub without_token : List UseRow → Token → List UseRow
without_token us t = after_unget t.bundle t.service ByToken us

abbrev pub uses_by_command : Command → List Token → List UseRow → List UseRow
uses_by_command (Install doc) tokens us = us
uses_by_command (Update bundle doc) tokens us = us
uses_by_command (Start bundle) tokens us = us
uses_by_command (Stop bundle) tokens us = us
uses_by_command (Uninstall bundle) tokens us = us
uses_by_command (Enable bundle name) tokens us = us
uses_by_command (Disable bundle name) tokens us = us
uses_by_command (Register bundle interfaces properties) tokens us = us
uses_by_command (Unregister bundle service) tokens us = us
uses_by_command (SetProperties bundle service properties) tokens us = us
uses_by_command (Get bundle service) tokens us = after_get bundle service Shell us
uses_by_command (Unget bundle service) tokens us = after_unget bundle service Shell us
uses_by_command (Listen bundle filter) tokens us = us
uses_by_command (Unlisten listener) tokens us = us
uses_by_command (Configure pid properties) tokens us = us
uses_by_command (ConfigureFactory factory name properties) tokens us = us
uses_by_command (Unconfigure pid) tokens us = us

abbrev pub uses_by : Step → List Token → List UseRow → List UseRow
uses_by (Commanded command) tokens us = uses_by_command command tokens us
uses_by (Begin turn instance configuration consumer callback chosen) tokens us = us
uses_by (End turn outcome) tokens us = us
uses_by (Drained instance) tokens us = us
uses_by (Got bundle service) tokens us = after_get bundle service ByToken us
uses_by (Released place) tokens us = option_map_or (without_token us) (find (λ (t : Token). t.place == place) tokens) us

-- the gets by token, where the entry has this place
abbrev pub tokens_by : Step → ℕ → List Token → List Token
tokens_by (Commanded command) here ts = ts
tokens_by (Begin turn instance configuration consumer callback chosen) here ts = ts
tokens_by (End turn outcome) here ts = ts
tokens_by (Drained instance) here ts = ts
tokens_by (Got bundle service) here ts = ts ++ record { place = here; bundle = bundle; service = service } ∷ []
tokens_by (Released place) here ts = filter (λ (t : Token). not (t.place == place)) ts

-- ---- listeners (OSGi Core 8, chapter 5, "Service Listeners")

abbrev pub listeners_by_command : Command → ListenerTable → ListenerTable
listeners_by_command (Install doc) t = t
listeners_by_command (Update bundle doc) t = t
listeners_by_command (Start bundle) t = t
listeners_by_command (Stop bundle) t = without_listeners_of bundle t
listeners_by_command (Uninstall bundle) t = t
listeners_by_command (Enable bundle name) t = t
listeners_by_command (Disable bundle name) t = t
listeners_by_command (Register bundle interfaces properties) t = t
listeners_by_command (Unregister bundle service) t = t
listeners_by_command (SetProperties bundle service properties) t = t
listeners_by_command (Get bundle service) t = t
listeners_by_command (Unget bundle service) t = t
listeners_by_command (Listen bundle filter) t = after_listen bundle filter t
listeners_by_command (Unlisten listener) t = after_unlisten listener t
listeners_by_command (Configure pid properties) t = t
listeners_by_command (ConfigureFactory factory name properties) t = t
listeners_by_command (Unconfigure pid) t = t

abbrev pub listeners_by : Step → ListenerTable → ListenerTable
listeners_by (Commanded command) t = listeners_by_command command t
listeners_by (Begin turn instance configuration consumer callback chosen) t = t
listeners_by (End turn outcome) t = t
listeners_by (Drained instance) t = t
listeners_by (Got bundle service) t = t
listeners_by (Released place) t = t
