-- What is asked for by the documents and configurations after a command, and by the bundles with the state that it gives.
use Rattle.std.proofs.Common.{◌≡◌, ◌+◌, List, ap, ◌∙◌, refl, true}
use Rattle.bundle_life.specs.declared.bundle.BundleState.TheVariants.{Installed}
use Rattle.bundle_life.specs.Lives.{in_state, renamed}
use Rattle.component_state.specs.ComponentConfigurations.{component_configurations}
use Rattle.component_state.specs.declared.rows.BundleRow.{BundleRow}
use Rattle.config_admin.specs.declared.configuration.Configuration.{Configuration}
use Rattle.scr_judgements.specs.Asked.{is_command, state_given}
use Rattle.scr_judgements.specs.Given.{rows_given}
use Rattle.scr_judgements.proofs.States.{renamed_state, same_states, with_bundle, without_bundle}
use Rattle.scr_world.specs.declared.command.Command.{Command}
use Rattle.scr_world.specs.declared.command.Command.TheVariants.{Install, Update, Start, Stop, Uninstall, Enable, Disable, Register, Unregister, SetProperties, Get, Unget, Listen, Unlisten, Configure, ConfigureFactory, Unconfigure}
use Rattle.scr_world.specs.declared.contents.Contents.{Contents as Held}
use Rattle.scr_world.specs.declared.step.Step.{Step}
use Rattle.scr_world.specs.declared.step.Step.TheVariants.{Command as Commanded, Begin, End, Drained, Got, Released}
use Rattle.scr_world.specs.declared.world.World.{World}
use Rattle.scr_world.specs.Stepping.{component_configurations_by}
use Rattle.scr_world.specs.Tables.{bundle_rows, configurations_by, contents_with, documents_by, replaced}
use Rattle.std.specs.Prelude.{◌++◌, ◌∷◌, [], map}

asks_then : (command : Command) (w : World) → component_configurations (bundle_rows (rows_given (state_given (Commanded command)) w.bundles.rows) (documents_by (Commanded command) (w.bundles.numbered + 1) w.documents)) (configurations_by (Commanded command) w.configurations) ≡ component_configurations_by (Commanded command) w
asks_then (Install doc) w = with_bundle w.configurations (w.bundles.numbered + 1) doc.location doc.name doc.version w.bundles.rows (w.documents ++ contents_with (w.bundles.numbered + 1) doc ∷ [])
asks_then (Update bundle doc) w = same_states w.configurations (map (in_state bundle Installed) w.bundles.rows) (map (renamed bundle doc.name doc.version) w.bundles.rows) (map (replaced bundle doc) w.documents)
    (λ c h. renamed_state bundle doc.name doc.version c.bundle w.bundles.rows)
asks_then (Start bundle) w = refl
asks_then (Stop bundle) w = refl
asks_then (Uninstall bundle) w = without_bundle w.configurations w.bundles.rows w.documents bundle
asks_then (Enable bundle name) w = refl
asks_then (Disable bundle name) w = refl
asks_then (Register bundle interfaces properties) w = refl
asks_then (Unregister bundle service) w = refl
asks_then (SetProperties bundle service properties) w = refl
asks_then (Get bundle service) w = refl
asks_then (Unget bundle service) w = refl
asks_then (Listen bundle filter) w = refl
asks_then (Unlisten listener) w = refl
asks_then (Configure pid properties) w = refl
asks_then (ConfigureFactory factory name properties) w = refl
asks_then (Unconfigure pid) w = refl

asks_after : (step : Step) (w : World) → is_command step ≡ true
    → component_configurations (bundle_rows (rows_given (state_given step) w.bundles.rows) (documents_by step (w.bundles.numbered + 1) w.documents)) (configurations_by step w.configurations) ≡ component_configurations_by step w
asks_after (Commanded command) w e = asks_then command w
asks_after (Begin turn instance configuration consumer callback chosen) w e = absurd cc
asks_after (End turn outcome) w e = absurd cc
asks_after (Drained instance) w e = absurd cc
asks_after (Got bundle service) w e = absurd cc
asks_after (Released place) w e = absurd cc

pub given_asks : (step : Step) (w : World) (views : List BundleRow) (documents : List Held) (cs : List Configuration) → is_command step ≡ true
    → views ≡ bundle_rows (rows_given (state_given step) w.bundles.rows) documents → documents ≡ documents_by step (w.bundles.numbered + 1) w.documents → cs ≡ configurations_by step w.configurations
    → component_configurations views cs ≡ component_configurations_by step w
given_asks step w views documents cs e are held configured =
    ap (λ (bundles : List BundleRow). component_configurations bundles cs) are
    ∙ ap (λ (contents : List Held). component_configurations (bundle_rows (rows_given (state_given step) w.bundles.rows) contents) cs) held
    ∙ ap (λ (these : List Configuration). component_configurations (bundle_rows (rows_given (state_given step) w.bundles.rows) (documents_by step (w.bundles.numbered + 1) w.documents)) these) configured
    ∙ asks_after step w e
