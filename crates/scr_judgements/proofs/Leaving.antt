-- Commands that leave what is asked for, and those after which the same is asked for.
use Rattle.std.proofs.Common.{◌≡◌, List, [], ap, sym, ◌∙◌, refl, true, ◌||◌}
use Rattle.std.specs.Prelude.{◌==◌, length}
use Rattle.std.specs.List.{list_any}
use Rattle.component_state.specs.declared.component.Component.{Component}
use Rattle.component_state.specs.ComponentConfigurations.{components_after, new_components}
use Rattle.scr_judgements.specs.Asked.{is_command, leaves_asked}
use Rattle.scr_judgements.specs.Lasting.{AsksAsBefore}
use Rattle.scr_laws.proofs.Asking.{forgetting_stays}
use Rattle.scr_laws.proofs.Histories.{asking_leaves}
use Rattle.scr_laws.specs.Askeds.{IsAsked, asked_in}
use Rattle.scr_world.specs.declared.command.Command.{Command}
use Rattle.scr_world.specs.declared.command.Command.TheVariants.{Install, Update, Start, Stop, Uninstall, Enable, Disable, Register, Unregister, SetProperties, Get, Unget, Listen, Unlisten, Configure, ConfigureFactory, Unconfigure}
use Rattle.scr_world.specs.declared.instance.Instance.{Instance}
use Rattle.scr_world.specs.declared.step.Step.{Step}
use Rattle.scr_world.specs.declared.step.Step.TheVariants.{Command as Commanded, Begin, End, Drained, Got, Released}
use Rattle.scr_world.specs.declared.world.World.{World}
use Rattle.scr_world.specs.Stepping.{component_configurations_by, components_added_by, components_by, counted_components, is_counted}

pub leaving_commands : (step : Step) → leaves_asked step ≡ true → is_command step ≡ true
leaving_commands (Commanded command) e = refl
leaving_commands (Begin turn instance configuration consumer callback chosen) e = absurd cc
leaving_commands (End turn outcome) e = absurd cc
leaving_commands (Drained instance) e = absurd cc
leaving_commands (Got bundle service) e = absurd cc
leaving_commands (Released place) e = absurd cc

still_asks : (command : Command) (w : World) → leaves_asked (Commanded command) ≡ true → component_configurations_by (Commanded command) w ≡ asked_in w
still_asks (Install doc) w e = absurd cc
still_asks (Update bundle doc) w e = absurd cc
still_asks (Start bundle) w e = absurd cc
still_asks (Stop bundle) w e = absurd cc
still_asks (Uninstall bundle) w e = absurd cc
still_asks (Enable bundle name) w e = absurd cc
still_asks (Disable bundle name) w e = absurd cc
still_asks (Register bundle interfaces properties) w e = refl
still_asks (Unregister bundle service) w e = refl
still_asks (SetProperties bundle service properties) w e = refl
still_asks (Get bundle service) w e = refl
still_asks (Unget bundle service) w e = refl
still_asks (Listen bundle filter) w e = refl
still_asks (Unlisten listener) w e = refl
still_asks (Configure pid properties) w e = absurd cc
still_asks (ConfigureFactory factory name properties) w e = absurd cc
still_asks (Unconfigure pid) w e = absurd cc

remembers_living : (is : List Instance) (c : Component) → c.exists ≡ true → is_counted is c ≡ true
remembers_living is c e = ap (λ b. b || list_any (λ (i : Instance). i.origin.configuration == c.number) is) e

none_new : (w : World) → IsAsked w → new_components (counted_components w) (asked_in w) ≡ []
none_new w asked = (forgetting_stays (asked_in w) w.components asked.components (is_counted w.instances) (λ c h lives. remembers_living w.instances c lives)).complete

pub leaving_asks : (step : Step) (w : World) → leaves_asked step ≡ true → AsksAsBefore step w
leaving_asks (Commanded command) w e = still_asks command w e
leaving_asks (Begin turn instance configuration consumer callback chosen) w e = absurd cc
leaving_asks (End turn outcome) w e = absurd cc
leaving_asks (Drained instance) w e = absurd cc
leaving_asks (Got bundle service) w e = absurd cc
leaving_asks (Released place) w e = absurd cc

-- ---- where the same is asked for, the component configurations are those that count

pub left_components : (step : Step) (w : World) → is_command step ≡ true → AsksAsBefore step w → IsAsked w → counted_components w ≡ components_by step w
left_components (Commanded command) w e same asked =
    sym (ap (λ these. components_after w.entries w.components_numbered these (counted_components w)) same ∙ asking_leaves w asked w.entries w.components_numbered)
left_components (Begin turn instance configuration consumer callback chosen) w e same asked = absurd cc
left_components (End turn outcome) w e same asked = absurd cc
left_components (Drained instance) w e same asked = absurd cc
left_components (Got bundle service) w e same asked = absurd cc
left_components (Released place) w e same asked = absurd cc

pub left_added : (step : Step) (w : World) → is_command step ≡ true → AsksAsBefore step w → IsAsked w → components_added_by step w ≡ 0
left_added (Commanded command) w e same asked =
    ap (λ these. length (new_components (counted_components w) these)) same ∙ ap length (none_new w asked)
left_added (Begin turn instance configuration consumer callback chosen) w e same asked = absurd cc
left_added (End turn outcome) w e same asked = absurd cc
left_added (Drained instance) w e same asked = absurd cc
left_added (Got bundle service) w e same asked = absurd cc
left_added (Released place) w e same asked = absurd cc
