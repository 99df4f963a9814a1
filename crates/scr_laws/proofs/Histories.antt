-- In every world of a legal history the component configurations are as they are asked for.
use Rattle.std.proofs.Common.{◌≡◌, ℕ, ◌+◌, List, [], ◌∷◌, ap, sym, ◌∙◌, refl, true, ◌||◌}
use Rattle.std.specs.Prelude.{◌==◌}
use Rattle.std.specs.List.{list_any}
use Rattle.component_state.specs.declared.component.Component.{Component}
use Rattle.component_state.specs.ComponentConfigurations.{components_after}
use Rattle.journal_core.specs.declared.entry.Entry.{Entry}
use Rattle.prop_map.specs.Words.{has}
use Rattle.scr_world.specs.declared.step.Step.{Step}
use Rattle.scr_world.specs.declared.step.Step.TheVariants.{Command as Commanded, Begin, End, Drained, Got, Released}
use Rattle.scr_world.specs.declared.instance.Instance.{Instance}
use Rattle.scr_world.specs.declared.world.World.{World}
use Rattle.scr_world.specs.Consequences.{stopped_by}
use Rattle.scr_world.specs.Legal.{IsLegal}
use Rattle.scr_world.specs.Lists.{world_after_entry, world_of}
use Rattle.scr_world.specs.Steps.{History}
use Rattle.scr_world.specs.Stepping.{component_configurations_by, components_by, is_counted, counted_components, world_after_step}
use Rattle.scr_world.specs.Tables.{bundles_by, configurations_by, documents_by}
use Rattle.scr_world.specs.Worlds.{empty_world}
use Rattle.component_state.proofs.Apart.{in_none}
use Rattle.scr_laws.specs.Askeds.{AreApart, AreAsked, IsAsked, asked_in}
use Rattle.scr_laws.proofs.Distinct.{world_apart, world_live}
use Rattle.scr_laws.proofs.Asking.{asking_asks, asking_stays, forgetting_stays}
use Rattle.scr_laws.proofs.Resting.{asked_rests, stopped_was_stopping}
use Rattle.scr_laws.proofs.Tables.{rested_apart, tables_apart}

pub remembers_living : (is : List Instance) (c : Component) → c.exists ≡ true → is_counted is c ≡ true
remembers_living is c e = ap (λ b. b || list_any (λ (i : Instance). i.origin.configuration == c.number) is) e

-- asking anew changes nothing but that those are forgotten that ceased without an instance
pub asking_leaves : (w : World) → IsAsked w → (place came : ℕ) → components_after place came (asked_in w) (counted_components w) ≡ counted_components w
asking_leaves w asked place came = asking_stays (asked_in w) (counted_components w) (forgetting_stays (asked_in w) w.components asked.components (is_counted w.instances) (λ c h lives. remembers_living w.instances c lives)) place came

module _ (w : World) (asked : IsAsked w) where
  -- steps of turns ask for the same; a command asks
  asked_then : (step : Step) → AreAsked (component_configurations_by step w) (components_by step w)
  asked_then (Commanded command) = let apart = tables_apart (Commanded command) w.bundles w.documents w.configurations asked.apart in
      asking_asks (component_configurations_by (Commanded command) w)
      (world_live (bundles_by (Commanded command) w.bundles).rows (documents_by (Commanded command) (w.bundles.numbered + 1) w.documents) (configurations_by (Commanded command) w.configurations) apart.one_configuration apart.one_document)
      (world_apart (bundles_by (Commanded command) w.bundles).rows (documents_by (Commanded command) (w.bundles.numbered + 1) w.documents) (configurations_by (Commanded command) w.configurations) apart.one_configuration apart.one_document)
      w.entries w.components_numbered (counted_components w)
  asked_then (Begin turn instance configuration consumer callback chosen) = asked.components
  asked_then (End turn outcome) = asked.components
  asked_then (Drained instance) = asked.components
  asked_then (Got bundle service) = asked.components
  asked_then (Released place) = asked.components

  -- the end of stopping asks for the same
  module _ (entry : Entry Step) (stopped : entry.stopped ≡ stopped_by entry.step w) where
    asks_same : asked_in (world_after_entry entry w) ≡ component_configurations_by entry.step w
    unfolding world_after_entry world_after_step
    asks_same = asked_rests entry.stopped (bundles_by entry.step w.bundles).rows (documents_by entry.step (w.bundles.numbered + 1) w.documents) (configurations_by entry.step w.configurations)
        (λ b h e. stopped_was_stopping entry.step w (tables_apart entry.step w.bundles w.documents w.configurations asked.apart).one_bundle b h (ap (λ ns. has ns b.number) (sym stopped) ∙ e))

    components_are : (world_after_entry entry w).components ≡ components_by entry.step w
    unfolding world_after_entry world_after_step
    components_are = refl

    apart_then : AreApart (world_after_entry entry w).bundles (world_after_entry entry w).documents (world_after_entry entry w).configurations
    unfolding world_after_entry world_after_step
    apart_then = rested_apart entry.stopped (bundles_by entry.step w.bundles) (documents_by entry.step (w.bundles.numbered + 1) w.documents) (configurations_by entry.step w.configurations) (tables_apart entry.step w.bundles w.documents w.configurations asked.apart)

    asked_after : IsAsked (world_after_entry entry w)
    asked_after = record { apart = apart_then; components = rw (asks_same, components_are) (asked_then entry.step) }

pub entry_keeps : (w : World) (entry : Entry Step) → IsAsked w → entry.stopped ≡ stopped_by entry.step w → IsAsked (world_after_entry entry w)
entry_keeps w entry asked stopped = asked_after w asked entry stopped

asked_at_first : IsAsked empty_world
asked_at_first = record {
  apart = record {
    one_bundle = λ a b h k e. absurd (in_none a h);
    bundles_so_far = λ a h. absurd (in_none a h);
    one_document = λ a b h k e. absurd (in_none a h);
    documents_so_far = λ a h. absurd (in_none a h);
    one_configuration = λ a b h k e. absurd (in_none a h);
  };
  components = record { stand = λ place c h. absurd (in_none c h); complete = refl };
}

pub legal_is_asked : (limit : ℕ) (past : History) → IsLegal limit past → IsAsked (world_of past)
unfolding world_of
legal_is_asked limit [] legal = asked_at_first
legal_is_asked limit (entry ∷ past) legal = entry_keeps (world_of past) entry (legal_is_asked limit past legal.1) legal.0.stopped
