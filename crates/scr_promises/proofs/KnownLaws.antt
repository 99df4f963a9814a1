-- What an instance holds is known, and has the interface of its reference.
use Rattle.std.proofs.Common.{◌≡◌, ℕ, List, [], ◌∷◌, ◌++◌, ap, sym, ◌∙◌, refl, subst, Bool, true, false, ◌||◌, inl, inr, ◌⊎◌, Some}
use Rattle.std.specs.Prelude.{not, ◌==◌}
use Rattle.std.specs.List.{Contains, list_any}
use Rattle.std.specs.Str.{bytes_eq}
use Rattle.std.proofs.lemmas.Bool.{and_from, both_ways, cases_Bool, eq-eqb, eqb-true}
use Rattle.callback_orders.specs.declared.word.Called.{Called}
use Rattle.callback_orders.specs.Lives.{held_for}
use Rattle.component_dto.specs.declared.description.Reference.{Reference}
use Rattle.component_state.specs.Periods.{is_current}
use Rattle.component_state.specs.Reasons.{choice_at}
use Rattle.component_state.proofs.Apart.{any_found, any_from, in_cases, in_either, in_left, in_none, in_right}
use Rattle.journal_core.specs.declared.entry.Entry.{Entry}
use Rattle.prop_map.specs.Words.{has}
use Rattle.reference_match.specs.Needs.{need_of}
use Rattle.reference_match.specs.Targets.{is_multiple, is_static}
use Rattle.scr_promises.proofs.ChoiceLaws.{choices_stand}
use Rattle.scr_promises.proofs.Comings.{IsNext}
use Rattle.scr_promises.proofs.ViewedReferences.{has_sorted, placed_was}
use Rattle.scr_promises.specs.Endings.{outlives_consumer}
use Rattle.scr_promises.specs.Holdings.{HoldKnown, IsKnownWith}
use Rattle.scr_promises.proofs.HeldSteps.{IsBound, IsLater, board_references, from, held_next, later, new}
use Rattle.scr_promises.proofs.TargetRows.{desired_among, target_row}
use Rattle.scr_laws.proofs.Listed.{found_is}
use Rattle.scr_promises.specs.Services.{IsSameService, known_services}
use Rattle.scr_promises.proofs.ServiceLaws.{are_services, known_one, left_from, left_known, registered_known, stay_services}
use Rattle.scr_world.specs.Instances.{has_failed}
use Rattle.scr_world.specs.Legal.{IsLegal}
use Rattle.scr_world.specs.Lists.{holds, is_service_held, world_of}
use Rattle.scr_world.specs.Steps.{History}
use Rattle.scr_world.specs.Views.{ends, properties_in, references_in, targets_for}
use Rattle.scr_world.specs.Whiteboard.{whiteboard_references}
use Rattle.scr_world.specs.Worlds.{all_instances, is_registered, registered_services, row_known, sorted}
use Rattle.scr_world.specs.declared.instance.Instance.{Instance}
use Rattle.scr_world.specs.declared.step.Step.{Step}
use Rattle.scr_world.specs.declared.world.World.{World}
use Rattle.service_registry.specs.declared.row.ServiceRow.{ServiceRow}
use Rattle.service_registry.specs.Registries.{has_number}
use Rattle.service_registry.specs.Services.{has_interface}

-- a service that is held under a name
pub record IsHeldAs (w : World) (i : Instance) (name : List ℕ) (s : ℕ) : Type 0 where
  pub reference : Reference
  pub there : Contains (references_in w i) reference
  pub named : reference.name ≡ name
  pub row : ServiceRow
  pub known : Contains (known_services w) row
  pub number : row.id ≡ s
  pub interface : has_interface reference.interface_name row ≡ true

abbrev pub HoldAs : World → Type 0
HoldAs w = (i : Instance) → Contains (all_instances w) i → (r : Reference) → Contains (references_in w i) r → (s : ℕ) → has (held_for r.name i.callbacks) s ≡ true → IsHeldAs w i r.name s

-- ---- what is bound is a target

dynamic_all : (q : Reference) → Contains whiteboard_references q → is_static q.policy ≡ true → ⊥
dynamic_all q h static = both_ways (list_any (λ (r : Reference). is_static r.policy) whiteboard_references) refl (any_from (λ (r : Reference). is_static r.policy) whiteboard_references q h static)

pub current_from : (a b c : Bool) → (not a || b || c) ≡ false → a ≡ true
current_from true b c e = refl
current_from false b c e = cc

-- a service that is registered with an interface
pub record IsRegisteredWith (w : World) (s : ℕ) (interface : List ℕ) : Type 0 where
  pub row : ServiceRow
  pub there : Contains (registered_services w) row
  pub number : row.id ≡ s
  pub has_it : has_interface interface row ≡ true

module _ (limit : ℕ) (past : History) (legal : IsLegal limit past) where
  bound_target : (step : Step) (j : Instance) (name : List ℕ) (s : ℕ) → (b : IsBound (world_of past) step j name s) → has (targets_for (world_of past) j b.reference) s ≡ true
  bound_target step j name s b =
      let w = world_of past in
      let q = b.reference in
      desired_among q.policy q.policy_option (is_multiple q.cardinality) (sorted w (choice_at j.origin.chosen b.place)) (held_for q.name j.callbacks) (targets_for w j q) s (λ static chose. chosen_target static (sym (has_sorted w (choice_at j.origin.chosen b.place) s) ∙ chose) b.whose) b.desired
    where
      chosen_target : is_static b.reference.policy ≡ true → has (choice_at j.origin.chosen b.place) s ≡ true → (Contains (world_of past).instances j × (ends (world_of past) j ≡ false)) ⊎ (j ≡ (world_of past).whiteboard)
          → has (targets_for (world_of past) j b.reference) s ≡ true
      chosen_target static chose (inl made) =
          let w = world_of past in
          let current = current_from (is_current w.open_periods j.origin) (outlives_consumer w j) (has_failed j.callbacks) made.1 in
          (choices_stand limit past legal j made.0 current (b.place, b.reference) b.there static).targets s chose
      chosen_target static chose (inr board) =
          absurd (dynamic_all b.reference (subst (λ (rs : List Reference). Contains rs b.reference) (ap (references_in (world_of past)) board ∙ board_references past) (placed_was 0 (references_in (world_of past) j) b.place b.reference b.there)) static)

  pub bound_row : (step : Step) (j : Instance) (name : List ℕ) (s : ℕ) → (b : IsBound (world_of past) step j name s) → IsRegisteredWith (world_of past) s b.reference.interface_name
  bound_row step j name s b =
      let found = target_row (need_of (properties_in (world_of past) j) b.reference) (registered_services (world_of past)) s (bound_target step j name s b) in
      record { row = found.0; there = found.1; number = found.2; has_it = found.3 }

-- ---- over an entry

module _ (limit : ℕ) (entry : Entry Step) (past : History) (legal : IsLegal limit (entry ∷ past)) (before : HoldAs (world_of past)) where
  abbrev w : World
  w = world_of past

  abbrev then : World
  then = world_of (entry ∷ past)

  held_before : (j : Instance) → Contains (all_instances w) j → (calls : List Called) → IsNext w entry.step j calls → (r : Reference) → Contains (references_in w j) r → (s : ℕ) → has (held_for r.name calls) s ≡ true → IsHeldAs w j r.name s
  held_before j h calls next r in_r s held = elim (held_next w entry.step j r.name s calls next held) [
    | inl old ↦ before j h r in_r s old
    | inr bound ↦ (
        let row = bound_row limit past legal.1 entry.step j r.name s bound in
        record {
          reference = bound.reference;
          there = placed_was 0 (references_in w j) bound.place bound.reference bound.there;
          named = bound.named;
          row = row.row;
          known = registered_known w (are_services limit past legal.1) row.row row.there;
          number = row.number;
          interface = row.has_it;
        })
  ]

  -- a service that is held stays known
  pub goes_on : (i : Instance) → Contains (all_instances then) i → (r : Reference) → Contains (references_in then i) r → (s : ℕ) → has (held_for r.name i.callbacks) s ≡ true → (row : ServiceRow) → Contains (known_services w) row → row.id ≡ s
      → (x : ServiceRow) × Contains (known_services then) x × IsSameService row x
  goes_on i h r in_r s held row known number = elim (cases_Bool (is_registered then s)) [
    | inl on ↦ (
        let x = any_found (λ (y : ServiceRow). y.id == s) (registered_services then) on in
        let there = registered_known then (are_services limit (entry ∷ past) legal) x.0 x.1 in
        (x.0, there, stay_services limit entry past legal row x.0 known there (eqb-true x.0.id s x.2 ∙ sym number)))
    | inr off ↦ (
        let there = left_known then (are_services limit (entry ∷ past) legal) row (left_from limit entry past legal (are_services limit past legal.1) row (swapped known)
        (and_from (not (is_registered then row.id)) (is_service_held then row.id) (ap not (ap (is_registered then) number ∙ off)) (ap (is_service_held then) number ∙ held_now))) in
        (row, there, stay_services limit entry past legal row row known there refl))
  ]
    where
      held_now : is_service_held (world_of (entry ∷ past)) s ≡ true
      held_now = any_from (holds (world_of (entry ∷ past)).components s) (all_instances (world_of (entry ∷ past))) i h (any_from (λ (q : Reference). has (held_for q.name i.callbacks) s) (references_in (world_of (entry ∷ past)) i) r in_r held)

      swapped : Contains (known_services (world_of past)) row → Contains ((world_of past).unregistered_held ++ registered_services (world_of past)) row
      swapped k = elim (in_either (registered_services (world_of past)) (world_of past).unregistered_held row k) [
        | inl registered ↦ in_right (world_of past).unregistered_held (registered_services (world_of past)) row registered
        | inr left ↦ in_left (world_of past).unregistered_held (registered_services (world_of past)) row left
      ]

  held_if : (i : Instance) → Contains (all_instances then) i → IsLater limit entry past legal i → (r : Reference) → Contains (references_in then i) r → (s : ℕ) → has (held_for r.name i.callbacks) s ≡ true → IsHeldAs then i r.name s
  held_if i h (new is) r in_r s held = (let none : false ≡ true = ap (λ cs. has (held_for r.name cs) s) (sym is) ∙ held in cc)
  held_if i h (from j there refs bundle next) r in_r s held =
      let was = held_before j there i.callbacks next r (subst (λ (rs : List Reference). Contains rs r) refs in_r) s held in
      let row = goes_on i h r in_r s held was.row was.known was.number in
      record {
        reference = was.reference;
        there = subst (λ (rs : List Reference). Contains rs was.reference) (sym refs) was.there;
        named = was.named;
        row = row.0;
        known = row.1;
        number = row.2.number ∙ was.number;
        interface = ap (λ (is : List (List ℕ)). list_any (λ x. bytes_eq x was.reference.interface_name) is) row.2.interfaces ∙ was.interface;
      }

  held_then : HoldAs then
  held_then i h r in_r s held = held_if i h (later limit entry past legal i h) r in_r s held

pub none_held : (i : Instance) → Contains (all_instances (world_of [])) i → (name : List ℕ) (s : ℕ) → has (held_for name i.callbacks) s ≡ true → ⊥
unfolding world_of
none_held i h name s held = elim (in_cases (world_of []).whiteboard (world_of []).instances i h) [
  | inl board ↦ (let none : false ≡ true = ap (λ (x : Instance). has (held_for name x.callbacks) s) board ∙ held in cc)
  | inr one ↦ in_none i one
]

pub hold_as : (limit : ℕ) (past : History) → IsLegal limit past → HoldAs (world_of past)
hold_as limit [] legal = λ i h r in_r s held. absurd (none_held i h r.name s held)
hold_as limit (entry ∷ past) legal = held_then limit entry past legal (hold_as limit past legal.1)

-- ---- the law

-- a known service is found by its number
pub known_found : (limit : ℕ) (past : History) → IsLegal limit past → (row : ServiceRow) → Contains (known_services (world_of past)) row → (s : ℕ) → row.id ≡ s → row_known (world_of past) s ≡ Some row
known_found limit past legal row h s number = found_is (has_number s) (known_services (world_of past)) row h (eq-eqb row.id s number)
    (λ y k same. known_one (world_of past) (are_services limit past legal) y row k h (eqb-true y.id s same ∙ sym number))

pub hold_known : (limit : ℕ) (past : History) → IsLegal limit past → HoldKnown (world_of past)
hold_known limit past legal = record {
  by_name = λ i h r in_r s held. let held_as = hold_as limit past legal i h r in_r s held in record { reference = held_as.reference; there = held_as.there; named = held_as.named; known = with_it held_as.row held_as.known s held_as.number held_as.reference.interface_name held_as.interface };
  by_reference = λ i h one r in_r s held. let held_as = hold_as limit past legal i h r in_r s held in
      with_it held_as.row held_as.known s held_as.number r.interface_name (ap (λ (q : Reference). has_interface q.interface_name held_as.row) (sym (one held_as.reference r held_as.there in_r held_as.named)) ∙ held_as.interface);
}
  where
    with_it : (row : ServiceRow) → Contains (known_services (world_of past)) row → (s : ℕ) → row.id ≡ s → (interface : List ℕ) → has_interface interface row ≡ true → IsKnownWith (world_of past) s interface
    with_it row h s number interface on = record { row = row; known = known_found limit past legal row h s number; has_it = on }
