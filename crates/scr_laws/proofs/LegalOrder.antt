-- In the world of every legal journal the callbacks of each instance are in order, and speak of its references.
use Rattle.std.proofs.Common.{◌≡◌, ◌<◌, ◌≤◌, ℕ, ◌+◌, List, [], ◌∷◌, ap, sym, ◌∙◌, refl, subst, cond, arith, Bool, true, false, ◌||◌, inl, inr, Option, Some}
use Rattle.std.specs.Prelude.{map, ◌==◌}
use Rattle.std.specs.List.{Contains}
use Rattle.std.specs.Option.{option_map_or}
use Rattle.std.proofs.lemmas.Bool.{eq-eqb}
use Rattle.callback_orders.specs.declared.word.Called.{Called}
use Rattle.callback_orders.specs.Lives.{speaks_of}
use Rattle.callback_orders.specs.Sequences.{is_whiteboard_sequence}
use Rattle.component_dto.specs.declared.description.Reference.{Reference}
use Rattle.component_state.specs.declared.component.Component.{Component}
use Rattle.component_state.specs.declared.origin.Origin.{Origin}
use Rattle.component_state.specs.ComponentConfigurations.{component_after, new_components, with_numbers}
use Rattle.component_state.specs.Components.{are_numbered, component_of}
use Rattle.component_state.proofs.Apart.{any_from, in_cases, in_either, in_left, in_none, kept_from, kept_was, or_true}
use Rattle.component_state.proofs.Numbering.{kept_name}
use Rattle.journal_core.specs.declared.entry.Entry.{Entry}
use Rattle.scr_laws.proofs.TurnCallbacks.{are_told_apart}
use Rattle.scr_laws.proofs.Calm.{found_of}
use Rattle.scr_laws.proofs.Sounding.{legal_housed, legal_sound, told_of}
use Rattle.scr_laws.proofs.InstanceLemmas.{ended_same, mapped_in, mapped_was, told_same}
use Rattle.scr_world.specs.Dues.{names_of}
use Rattle.scr_world.specs.Legal.{IsLegal}
use Rattle.scr_world.specs.Lists.{world_after_entry, world_of}
use Rattle.scr_world.specs.Steps.{History}
use Rattle.scr_world.specs.Stepping.{before_turn, component_configurations_by, components_by, counted_components, instances_by, is_counted, whiteboard_by, world_after_step}
use Rattle.scr_world.specs.Whiteboard.{component_in, whiteboard_component}
use Rattle.scr_world.specs.declared.command.Command.{Command}
use Rattle.scr_world.specs.declared.instance.Instance.{Instance}
use Rattle.scr_world.specs.declared.step.Step.{Step}
use Rattle.scr_world.specs.declared.step.Step.TheVariants.{Command as Commanded, Begin, End, Drained, Got, Released}
use Rattle.scr_world.specs.declared.world.World.{World}
use Rattle.scr_laws.proofs.Ordered.{AreOrdered, InOrder, IsBoard}
use Rattle.scr_laws.proofs.Sequences.{board_after, comes_about}

-- ---- numbers of component configurations are positive

AllPositive : List Component → Type 0
AllPositive cs = (c : Component) → Contains cs c → 0 < c.number

numbered_high : (n : ℕ) (cs : List Component) (c : Component) → Contains (with_numbers n cs) c → n ≤ c.number
numbered_high n [] c h = absurd (in_none c h)
numbered_high n (d ∷ ds) c h = elim (in_cases _ (with_numbers (n + 1) ds) c h) [
  | inl same ↦ (let is = ap (λ (x : Component). x.number) same in omega (arith, is))
  | inr later ↦ (let high = numbered_high (n + 1) ds c later in omega (arith, high))
]

positive_by : (step : Step) (w : World) → AllPositive w.components → AllPositive (components_by step w)
unfolding AllPositive
positive_by (Commanded command) w positive c h =
    elim (in_either (map (component_after w.entries (component_configurations_by (Commanded command) w)) (counted_components w)) (with_numbers (w.components_numbered + 1) (new_components (counted_components w) (component_configurations_by (Commanded command) w))) c h) [
      | inl old ↦ (
          let found = mapped_was (component_after w.entries (component_configurations_by (Commanded command) w)) (counted_components w) c old in
          let high = positive found.0 (kept_was (is_counted w.instances) w.components found.0 found.1).0 in
          let same = ap (λ (x : Component). x.number) (sym found.2) ∙ (kept_name w.entries (component_configurations_by (Commanded command) w) found.0).number in
          omega (arith, high, same))
      | inr new ↦ (let high = numbered_high (w.components_numbered + 1) (new_components (counted_components w) (component_configurations_by (Commanded command) w)) c new in omega (arith, high))
    ]
positive_by (Begin turn instance configuration consumer callback chosen) w positive c h = positive c h
positive_by (End turn outcome) w positive c h = positive c h
positive_by (Drained instance) w positive c h = positive c h
positive_by (Got bundle service) w positive c h = positive c h
positive_by (Released place) w positive c h = positive c h

positive_in : (past : History) → AllPositive (world_of past).components
unfolding AllPositive world_of world_after_entry world_after_step
positive_in [] c h = absurd (in_none c h)
positive_in (entry ∷ past) c h = positive_by entry.step (world_of past) (positive_in past) c h

-- ---- the references of a component configuration stay as long as an instance lives

abbrev references_found : Option Component → List Reference
references_found o = option_map_or (λ (c : Component). c.description.references) o []

abbrev names_in : List Component → ℕ → List (List ℕ)
names_in cs number = map (λ (r : Reference). r.name) (references_found (component_in cs number))

either_found : (b : Bool) (c : Component) (o p : Option Component) → references_found o ≡ references_found p → references_found (cond b (Some c) o) ≡ references_found (cond b (Some c) p)
either_found true c o p same = refl
either_found false c o p same = same

module _ (limit : ℕ) (entry : Entry Step) (past : History) (legal : IsLegal limit (entry ∷ past)) where
  abbrev w : World
  w = world_of past

  components_then : (world_of (entry ∷ past)).components ≡ components_by entry.step w
  unfolding world_of world_after_entry world_after_step
  components_then = refl

  command_keeps : (command : Command) → entry.step ≡ Commanded command → (i : Instance) → Contains w.instances i
      → references_found (component_of (components_by (Commanded command) w) i.origin.configuration) ≡ references_found (component_of w.components i.origin.configuration)
  command_keeps command is i h =
      let these = component_configurations_by (Commanded command) w in
      let home = (legal_housed limit past legal.1).homes i h in
      let name = kept_name w.entries these home.0 in
      let counted : Contains (counted_components w) home.0 =
      kept_from (is_counted w.instances) w.components home.0 home.1.0
      (ap (λ b. home.0.exists || b) (any_from (λ (j : Instance). j.origin.configuration == home.0.number) w.instances i h (eq-eqb i.origin.configuration home.0.number (sym home.1.1.0))) ∙ or_true home.0.exists) in
      let there : Contains (components_by (Commanded command) w) (component_after w.entries these home.0) =
      in_left (map (component_after w.entries these) (counted_components w)) (with_numbers (w.components_numbered + 1) (new_components (counted_components w) these)) (component_after w.entries these home.0)
      (mapped_in (component_after w.entries these) (counted_components w) home.0 counted) in
      let numbered : are_numbered (components_by (Commanded command) w) ≡ true =
      ap are_numbered (sym (components_then ∙ ap (λ (s : Step). components_by s w) is)) ∙ (legal_sound limit (entry ∷ past) legal).numbered in
      let before : component_of w.components i.origin.configuration ≡ Some home.0 = ap (component_of w.components) (sym home.1.1.0) ∙ found_of w.components (legal_sound limit past legal.1).numbered home.0 home.1.0 in
      let after : component_of (components_by (Commanded command) w) i.origin.configuration ≡ Some (component_after w.entries these home.0) =
      ap (component_of (components_by (Commanded command) w)) (sym (name.number ∙ home.1.1.0)) ∙ found_of (components_by (Commanded command) w) numbered (component_after w.entries these home.0) there in
      ap references_found after ∙ ap (λ d. d.references) name.description ∙ sym (ap references_found before)

  step_keeps : (step : Step) → entry.step ≡ step → (i : Instance) → Contains w.instances i → names_in (components_by step w) i.origin.configuration ≡ names_in w.components i.origin.configuration
  step_keeps (Commanded command) is i h =
      ap (map (λ (r : Reference). r.name)) (either_found (whiteboard_component.number == i.origin.configuration) whiteboard_component (component_of (components_by (Commanded command) w) i.origin.configuration) (component_of w.components i.origin.configuration) (command_keeps command is i h))
  step_keeps (Begin turn instance configuration consumer callback chosen) is i h = refl
  step_keeps (End turn outcome) is i h = refl
  step_keeps (Drained instance) is i h = refl
  step_keeps (Got bundle service) is i h = refl
  step_keeps (Released place) is i h = refl

  names_kept : (i : Instance) → Contains w.instances i → names_in (world_of (entry ∷ past)).components i.origin.configuration ≡ names_in w.components i.origin.configuration
  names_kept i h = ap (λ (cs : List Component). names_in cs i.origin.configuration) components_then ∙ step_keeps entry.step refl i h

  -- ---- so their callbacks go on speaking of them

  module _ (ordered : AreOrdered w) where
    told_then : (i : Instance) → Contains (world_of (entry ∷ past)).instances i → Contains (instances_by entry.step w) i
    unfolding world_of world_after_entry world_after_step
    told_then i h = h

    in_order_then : (i : Instance) → Contains (world_of (entry ∷ past)).instances i → InOrder (names_of (world_of (entry ∷ past)) i) i.callbacks
    in_order_then i h = elim (comes_about w ordered entry.step legal.0.step i (told_of w entry.step i (told_then i h))) [
      | inl later ↦
          subst (λ (names : List (List ℕ)). InOrder names i.callbacks)
          (sym (ap (λ (o : Origin). names_in (world_of (entry ∷ past)).components o.configuration) later.2 ∙ names_kept later.0 later.1)) later.3
      | inr made ↦ subst (λ (calls : List Called). InOrder (names_of (world_of (entry ∷ past)) i) calls) (sym made) (record { some = omega arith; order = refl; spoken = refl })
    ]

    origin_by : (step : Step) → (whiteboard_by step w).origin ≡ w.whiteboard.origin
    origin_by (Commanded command) = refl
    origin_by (Begin turn instance configuration consumer callback chosen) = (told_same (before_turn w) turn instance callback w.whiteboard).origin
    origin_by (End turn outcome) = (ended_same turn outcome w.generations w.whiteboard).origin
    origin_by (Drained instance) = refl
    origin_by (Got bundle service) = refl
    origin_by (Released place) = refl

    number_by : (step : Step) → (whiteboard_by step w).number ≡ w.whiteboard.number
    number_by (Commanded command) = refl
    number_by (Begin turn instance configuration consumer callback chosen) = (told_same (before_turn w) turn instance callback w.whiteboard).number
    number_by (End turn outcome) = (ended_same turn outcome w.generations w.whiteboard).number
    number_by (Drained instance) = refl
    number_by (Got bundle service) = refl
    number_by (Released place) = refl

    board_is : (world_of (entry ∷ past)).whiteboard ≡ whiteboard_by entry.step w
    unfolding world_of world_after_entry world_after_step
    board_is = refl

    board_configuration : (world_of (entry ∷ past)).whiteboard.origin.configuration ≡ 0
    board_configuration = ap (λ (i : Instance). i.origin.configuration) board_is ∙ ap (λ (o : Origin). o.configuration) (origin_by entry.step) ∙ ordered.board.configuration

    board_names : names_of (world_of (entry ∷ past)) (world_of (entry ∷ past)).whiteboard ≡ names_of w w.whiteboard
    board_names = ap (names_in (world_of (entry ∷ past)).components) board_configuration ∙ sym (ap (names_in w.components) ordered.board.configuration)

    board_then : IsBoard (world_of (entry ∷ past))
    board_then =
        let after = board_after w ordered entry.step legal.0.step in
        record {
          number = ap (λ (i : Instance). i.number) board_is ∙ number_by entry.step ∙ ordered.board.number;
          configuration = board_configuration;
          order = subst (λ (i : Instance). is_whiteboard_sequence i.callbacks ≡ true) (sym board_is) after.order;
          spoken = ap (λ (names : List (List ℕ)). speaks_of names (world_of (entry ∷ past)).whiteboard.callbacks) board_names
              ∙ ap (λ (i : Instance). speaks_of (names_of w w.whiteboard) i.callbacks) board_is ∙ after.spoken;
        }

    ordered_then : AreOrdered (world_of (entry ∷ past))
    unfolding AllPositive
    ordered_then = record {
      each = in_order_then;
      living = (legal_sound limit (entry ∷ past) legal).living;
      board = board_then;
      apart = (are_told_apart limit (entry ∷ past) legal).numbers;
      positive = positive_in (entry ∷ past);
    }

pub legal_ordered : (limit : ℕ) (past : History) → IsLegal limit past → AreOrdered (world_of past)
unfolding world_of
legal_ordered limit [] legal = record { each = λ i h. absurd (in_none i h); living = λ i h. absurd (in_none i h); board = record { number = refl; configuration = refl; order = refl; spoken = refl }; apart = refl; positive = λ c h. absurd (in_none c h) }
legal_ordered limit (entry ∷ past) legal = ordered_then limit entry past legal (legal_ordered limit past legal.1)
