-- The services that left and are still held: a beginning, a drain, a get by token and its release take none of them away.
use Rattle.std.proofs.Common.{◌≡◌, ℕ, List, [], ◌∷◌, ◌++◌, ap, append-nil, sym, ◌∙◌, refl, subst, cond, Bool, true, false, ◌&&◌, ◌||◌, inl, inr, None}
use Rattle.std.specs.Prelude.{not, filter, map, ◌==◌}
use Rattle.std.specs.List.{Contains, list_any}
use Rattle.std.specs.Option.{option_map_or}
use Rattle.std.proofs.lemmas.Bool.{and_parts, eq-eqb, or_cases, or_left, or_right}
use Rattle.std.proofs.lemmas.List.Folds.{list_any-append}
use Rattle.callback_orders.specs.declared.callback.Callback.{Callback}
use Rattle.callback_orders.specs.declared.callback.Callback.TheVariants.{Create}
use Rattle.callback_orders.specs.declared.word.Called.{Called}
use Rattle.callback_orders.specs.Lives.{held_for}
use Rattle.component_dto.specs.declared.description.Reference.{Reference}
use Rattle.component_state.specs.declared.component.Component.{Component}
use Rattle.component_state.specs.declared.origin.Choice.{Choice}
use Rattle.component_state.specs.declared.origin.Origin.{Origin}
use Rattle.component_state.proofs.Among.{Among, among_contains, filter_all, filter_none, filter_same}
use Rattle.component_state.proofs.Apart.{any_found, any_from, in_none, kept_over, kept_was}
use Rattle.prop_map.specs.Words.{has}
use Rattle.scr_laws.proofs.Sequences.{told_calls}
use Rattle.scr_laws.specs.Gates.{shuts_nothing}
use Rattle.scr_laws.proofs.Listed.{in_mapped}
use Rattle.scr_laws.proofs.InstanceLemmas.{begun_cases, drained_same, told_same}
use Rattle.scr_still.proofs.HeldThrough.{held_begins}
use Rattle.scr_world.specs.Instances.{begun_by, created_at, drained_in, with_callback_begun}
use Rattle.scr_world.specs.Lists.{holds, is_service_held, unregistered_held_between, world_after_entry, world_of}
use Rattle.scr_world.specs.Steps.{History}
use Rattle.scr_world.specs.Stepping.{before_turn, world_after_step}
use Rattle.scr_world.specs.Whiteboard.{component_in}
use Rattle.scr_world.specs.Worlds.{is_registered, registered_services}
use Rattle.scr_world.specs.declared.instance.Instance.{Instance}
use Rattle.scr_world.specs.declared.step.Step.{Step}
use Rattle.scr_world.specs.declared.step.Step.TheVariants.{Command as Commanded, Begin, End, Drained, Got, Released}
use Rattle.scr_world.specs.declared.world.World.{World}
use Rattle.service_registry.specs.declared.row.ServiceRow.{ServiceRow}

-- ---- what left stays away where the same services are registered

is_there : (xs : List ServiceRow) (r : ServiceRow) → Among xs r → list_any (λ (q : ServiceRow). q.id == r.id) xs ≡ true
is_there [] r here = absurd here
is_there (x ∷ xs) r (inl same) = or_left (x.id == r.id) (list_any (λ (q : ServiceRow). q.id == r.id) xs) (eq-eqb x.id r.id (ap (λ (q : ServiceRow). q.id) same))
is_there (x ∷ xs) r (inr later) = or_right (x.id == r.id) (list_any (λ (q : ServiceRow). q.id == r.id) xs) (is_there xs r later)

-- in every world, what is kept of those that left isn't registered, and is held
pub left_stands : (past : History) (r : ServiceRow) → Contains (world_of past).unregistered_held r → (not (is_registered (world_of past) r.id) && is_service_held (world_of past) r.id) ≡ true
unfolding world_of world_after_entry
left_stands [] r h = absurd (in_none r h)
left_stands (entry ∷ past) r h =
    (kept_was (λ (x : ServiceRow). not (is_registered (world_of (entry ∷ past)) x.id) && is_service_held (world_of (entry ∷ past)) x.id)
    ((world_of past).unregistered_held ++ registered_services (world_of past)) r h).1

module _ (past : History) (m : World) (same : (n : ℕ) → is_registered m n ≡ is_registered (world_of past) n) where
  abbrev left : ServiceRow → Bool
  left r = not (is_registered m r.id) && is_service_held m r.id

  none_left : filter left (registered_services (world_of past)) ≡ []
  none_left = filter_none left (registered_services (world_of past))
      (λ r here. ap (λ b. not b && is_service_held m r.id) (same r.id ∙ is_there (registered_services (world_of past)) r here))

  still_away : filter left (world_of past).unregistered_held ≡ filter (λ (r : ServiceRow). is_service_held m r.id) (world_of past).unregistered_held
  still_away = filter_same left (λ (r : ServiceRow). is_service_held m r.id) (world_of past).unregistered_held
      (λ r here. ap (λ b. not b && is_service_held m r.id) (same r.id) ∙ ap (λ b. b && is_service_held m r.id)
      (and_parts (not (is_registered (world_of past) r.id)) (is_service_held (world_of past) r.id) (left_stands past r (among_contains (world_of past).unregistered_held r here))).0)

  -- those that left and are still held are those of before that are
  pub held_of : unregistered_held_between (world_of past) m ≡ filter (λ (r : ServiceRow). is_service_held m r.id) (world_of past).unregistered_held
  held_of =
      kept_over left (world_of past).unregistered_held (registered_services (world_of past))
      ∙ ap (λ (rows : List ServiceRow). filter left (world_of past).unregistered_held ++ rows) none_left
      ∙ append-nil (filter left (world_of past).unregistered_held)
      ∙ still_away

-- ---- steps that take nothing away

abbrev references_at : List Component → ℕ → List Reference
references_at cs configuration = option_map_or (λ (c : Component). c.description.references) (component_in cs configuration) []

holds_more : (cs : List Component) (s : ℕ) (i j : Instance) → j.origin ≡ i.origin → ((name : List ℕ) → has (held_for name i.callbacks) s ≡ true → has (held_for name j.callbacks) s ≡ true)
    → holds cs s i ≡ true → holds cs s j ≡ true
holds_more cs s i j origin more holding =
    let found = any_found (λ (r : Reference). has (held_for r.name i.callbacks) s) (references_at cs i.origin.configuration) holding in
    ap (λ (o : Origin). list_any (λ (r : Reference). has (held_for r.name j.callbacks) s) (references_at cs o.configuration)) origin
    ∙ any_from (λ (r : Reference). has (held_for r.name j.callbacks) s) (references_at cs i.origin.configuration) found.0 found.1 (more found.0.name found.2)

module _ (w : World) (s : ℕ) where
  abbrev holding : Instance → Bool
  holding i = holds w.components s i

  told_holds : (turn instance : ℕ) (callback : Callback) (i : Instance) → holding i ≡ true → holding (with_callback_begun (before_turn w) turn instance callback i) ≡ true
  told_holds turn instance callback i = holds_more w.components s i (with_callback_begun (before_turn w) turn instance callback i) (told_same (before_turn w) turn instance callback i).origin
      (λ name is. ap (λ (calls : List Called). has (held_for name calls) s) (told_calls (before_turn w) turn instance callback i) ∙ go name is (i.number == instance))
    where
      go : (name : List ℕ) → has (held_for name i.callbacks) s ≡ true → (b : Bool) → has (held_for name (cond b (i.callbacks ++ record { callback = callback; outcome = None } ∷ []) i.callbacks)) s ≡ true
      go name is true = held_begins name i.callbacks callback s is
      go name is false = is

  drained_holds : (instance : ℕ) (i : Instance) → holding i ≡ true → holding (drained_in instance i) ≡ true
  drained_holds instance i = go (i.number == instance)
    where
      go : (b : Bool) → holding i ≡ true → holding (cond b (record i { drained = true }) i) ≡ true
      go true is = is
      go false is = is

  mapped_holds : (f : Instance → Instance) → ((i : Instance) → holding i ≡ true → holding (f i) ≡ true) → (is : List Instance) → list_any holding is ≡ true → list_any holding (map f is) ≡ true
  mapped_holds f more is some =
      let found = any_found holding is some in
      any_from holding (map f is) (f found.0) (in_mapped f is found.0 found.1) (more found.0 found.2)

  begun_holds : (turn instance configuration consumer : ℕ) (callback : Callback) (chosen : List Choice) → list_any holding w.instances ≡ true
      → list_any holding (begun_by (before_turn w) turn instance configuration consumer callback chosen) ≡ true
  begun_holds turn instance configuration consumer callback chosen some = elim (begun_cases callback) [
    | inl create ↦ (
        let new = created_at (before_turn w) turn instance configuration consumer chosen in
        ap (λ (c : Callback). list_any holding (begun_by (before_turn w) turn instance configuration consumer c chosen)) create
        ∙ list_any-append holding w.instances (new ∷ []) ∙ or_left (list_any holding w.instances) (list_any holding (new ∷ [])) some)
    | inr tells ↦ ap (λ (is : List Instance). list_any holding is) (tells (before_turn w) turn instance configuration consumer chosen)
        ∙ mapped_holds (with_callback_begun (before_turn w) turn instance callback) (told_holds turn instance callback) w.instances some
  ]

  either_holds : (board : Instance) (is : List Instance) → (holding w.whiteboard ≡ true → holding board ≡ true) → (list_any holding w.instances ≡ true → list_any holding is ≡ true)
      → is_service_held w s ≡ true → list_any holding (board ∷ is) ≡ true
  either_holds board is one many held = elim (or_cases (holding w.whiteboard) (list_any holding w.instances) held) [
    | inl first ↦ or_left (holding board) (list_any holding is) (one first)
    | inr later ↦ or_right (holding board) (list_any holding is) (many later)
  ]

  held_through : (step : Step) → shuts_nothing step ≡ true → is_service_held w s ≡ true → is_service_held (world_after_step step w) s ≡ true
  unfolding world_after_step
  held_through (Commanded command) is = absurd cc
  held_through (Begin turn instance configuration consumer callback chosen) is =
      either_holds (with_callback_begun (before_turn w) turn instance callback w.whiteboard) (begun_by (before_turn w) turn instance configuration consumer callback chosen)
      (told_holds turn instance callback w.whiteboard) (begun_holds turn instance configuration consumer callback chosen)
  held_through (End turn outcome) is = absurd cc
  held_through (Drained instance) is = either_holds w.whiteboard (map (drained_in instance) w.instances) (λ one. one) (mapped_holds (drained_in instance) (drained_holds instance) w.instances)
  held_through (Got bundle service) is = λ held. held
  held_through (Released place) is = λ held. held

registered_same : (step : Step) (w : World) → shuts_nothing step ≡ true → (n : ℕ) → is_registered (world_after_step step w) n ≡ is_registered w n
unfolding world_after_step
registered_same (Commanded command) w is n = absurd cc
registered_same (Begin turn instance configuration consumer callback chosen) w is n = refl
registered_same (End turn outcome) w is n = absurd cc
registered_same (Drained instance) w is n = refl
registered_same (Got bundle service) w is n = refl
registered_same (Released place) w is n = refl

pub held_same : (past : History) (step : Step) → shuts_nothing step ≡ true → unregistered_held_between (world_of past) (world_after_step step (world_of past)) ≡ (world_of past).unregistered_held
held_same past step is =
    held_of past (world_after_step step (world_of past)) (registered_same step (world_of past) is)
    ∙ filter_all (λ (r : ServiceRow). is_service_held (world_after_step step (world_of past)) r.id) (world_of past).unregistered_held
    (λ r here. held_through (world_of past) r.id step is
    (and_parts (not (is_registered (world_of past) r.id)) (is_service_held (world_of past) r.id) (left_stands past r (among_contains (world_of past).unregistered_held r here))).1)
