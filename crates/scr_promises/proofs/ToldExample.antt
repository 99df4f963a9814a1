-- What the law on events says of a small journal: a service with v=1 and a listener for (v=1); then v is set to 2, and to
-- 1 again. MODIFIED_ENDMATCH is due, then MODIFIED, and a listener that was told nothing, or twice, wasn't told the truth.
use Rattle.std.proofs.Common.{◌≡◌, ℕ, List, [], ◌∷◌, refl, arith, true, false, None}
use Rattle.std.specs.Prelude.{◌↔◌, ◌≢◌, codes, pos}
use Rattle.std.specs.List.{AllPairs, Contains, list_any}
use Rattle.component_state.proofs.Apart.{in_none}
use Rattle.ldap_filter.specs.declared.comparison.Comparison.TheVariants.{Equal}
use Rattle.ldap_filter.specs.Trees.{Compare, Tree}
use Rattle.prop_map.specs.declared.properties.Property.{Property}
use Rattle.prop_map.specs.declared.value.Value.TheVariants.{Whole}
use Rattle.scr_promises.specs.Events.{tells_truth}
use Rattle.scr_world.specs.Lists.{world_after_entry, world_of}
use Rattle.scr_world.specs.Steps.{History}
use Rattle.scr_world.specs.Stepping.{world_after_step}
use Rattle.scr_world.specs.Worlds.{satisfied_in}
use Rattle.scr_world.specs.declared.command.Command.{Command}
use Rattle.scr_world.specs.declared.command.Command.TheVariants.{Install, Listen, Register, SetProperties, Start}
use Rattle.scr_world.specs.declared.step.Step.TheVariants.{Command as Commanded}
use Rattle.service_listeners.specs.declared.listener.ServiceEvent.{ServiceEvent}

-- a bundle without components
abbrev installed : Command
installed = Install
    (record {
      location = codes "d";
      name = codes "d";
      version = record { major = 0; minor = 0; micro = 0; qualifier = [] };
      manifest = None;
      activator = None;
      descriptions = [];
    })

abbrev asked : Tree
asked = Compare Equal (codes "v") (codes "1")

abbrev with_v : ℕ → List Property
with_v n = record { key = codes "v"; value = Whole (pos n) } ∷ []

-- an entry that closes and opens nothing
abbrev behind : Command → History → History
behind command past = record { step = Commanded command; closed = []; opened = []; stopped = [] } ∷ past

abbrev listening : History
listening = behind (Listen 1 asked) (behind (Register 1 (codes "X" ∷ []) (with_v 1)) (behind (Start 1) (behind installed [])))

abbrev set_to_2 : History
set_to_2 = behind (SetProperties 1 1 (with_v 2)) listening

abbrev set_to_1 : History
set_to_1 = behind (SetProperties 1 1 (with_v 1)) set_to_2

abbrev event : ℕ → ServiceEvent
event value = record { value = value; service = 1 }

ends_match : tells_truth (world_of listening) (world_of set_to_2) asked (event 8) ≡ true
unfolding world_of world_after_entry world_after_step satisfied_in
ends_match = refl

no_other_end : list_any (λ v. tells_truth (world_of listening) (world_of set_to_2) asked (event v)) (1 ∷ 2 ∷ 4 ∷ []) ≡ false
unfolding world_of world_after_entry world_after_step satisfied_in
no_other_end = refl

matches_again : tells_truth (world_of set_to_2) (world_of set_to_1) asked (event 2) ≡ true
unfolding world_of world_after_entry world_after_step satisfied_in
matches_again = refl

no_other_match : list_any (λ v. tells_truth (world_of set_to_2) (world_of set_to_1) asked (event v)) (1 ∷ 4 ∷ 8 ∷ []) ≡ false
unfolding world_of world_after_entry world_after_step satisfied_in
no_other_match = refl

-- whoever leaves that MODIFIED out, or tells it only where the service matched before, tells nothing here
abbrev TellsJust : List ServiceEvent → Type 0
TellsJust more = (e : ServiceEvent) → Contains more e ↔ (tells_truth (world_of set_to_2) (world_of set_to_1) asked e ≡ true)

nothing_is_wrong : TellsJust [] → ⊥
nothing_is_wrong just = in_none (event 2) ((just (event 2)).1 matches_again)

-- nor is it told twice
twice_is_wrong : AllPairs (λ (a b : ServiceEvent). a.service ≢ b.service) (event 2 ∷ event 2 ∷ []) → ⊥
twice_is_wrong apart = apart 0 1 (event 2) (omega arith) (omega arith) refl
