-- The services that left and are still held behind the end of a turn.
use Rattle.std.proofs.Common.{◌≡◌, ℕ, List, [], ◌∷◌, ◌++◌, ap, append-nil, arith, sym, ◌∙◌, refl, subst, cond, Bool, true, false, ◌&&◌, ◌||◌, inl, inr, ◌⊎◌, Option, Some, None}
use Rattle.std.specs.Prelude.{not, filter, find, map, ◌==◌, option_and_then}
use Rattle.std.specs.List.{Contains, list_any}
use Rattle.std.specs.Option.{option_map_or}
use Rattle.std.proofs.lemmas.Bool.{and_from, and_parts, both_ways, cases_Bool, eqb-true, or_left}
use Rattle.callback_orders.specs.declared.callback.Callback.{Callback}
use Rattle.callback_orders.specs.declared.callback.Callback.TheVariants.{Create, Bind, Updated, Unbind, Activate, Modified, Deactivate, Destroy}
use Rattle.callback_orders.specs.declared.callback.Outcome.{Outcome}
use Rattle.callback_orders.specs.declared.word.Called.{Called}
use Rattle.callback_orders.specs.Lives.{held_for}
use Rattle.callback_orders.specs.Sequences.{ended, is_outstanding}
use Rattle.component_dto.specs.declared.description.Reference.{Reference}
use Rattle.component_state.specs.declared.component.Component.{Component}
use Rattle.component_state.proofs.Apart.{any_found, any_from, in_cases, in_none, in_rest, kept_from, kept_over, kept_was, not_true, one_of}
use Rattle.component_state.proofs.Among.{among_contains, any_same, contains_among, fails_each, filter_all, filter_none, filter_same}
use Rattle.prop_map.specs.Words.{has}
use Rattle.scr_laws.proofs.LegalOrder.{legal_ordered}
use Rattle.scr_laws.proofs.TurnOrder.{legal_turns_apart}
use Rattle.scr_laws.proofs.Listed.{found_is, in_mapped}
use Rattle.scr_still.specs.StillEnds.{ends_life, held_still, service_unbound, unbound_by, without}
use Rattle.scr_still.proofs.HeldThrough.{held_ends, unbinds}
use Rattle.scr_still.proofs.KeptHeld.{held_of, left_stands}
use Rattle.scr_still.proofs.LivesEnded.{holds_nothing, life_goes_on}
use Rattle.scr_world.specs.Instances.{ended_in, has_turn, last_callback, last_is, lives_on, with_outcome}
use Rattle.scr_world.specs.Legal.{IsLegal}
use Rattle.scr_world.specs.Lists.{holds, is_service_held, unregistered_held_between, world_after_entry, world_of}
use Rattle.scr_world.specs.Steps.{History}
use Rattle.scr_world.specs.Stepping.{world_after_step}
use Rattle.scr_world.specs.Whiteboard.{component_in}
use Rattle.scr_world.specs.Worlds.{all_instances, is_registered, registered_services}
use Rattle.scr_world.specs.declared.instance.Instance.{Instance}
use Rattle.scr_world.specs.declared.step.Step.TheVariants.{End}
use Rattle.scr_world.specs.declared.world.World.{World}
use Rattle.service_registry.specs.declared.row.ServiceRow.{ServiceRow}

unbinding : (n : ℕ) (calls : List Called) → last_is (unbinds n) calls ≡ true → option_and_then service_unbound (last_callback calls) ≡ Some n
unbinding n calls is = go (last_callback calls) is
  where
    go : (o : Option Callback) → option_map_or (unbinds n) o false ≡ true → option_and_then service_unbound o ≡ Some n
    go None e = absurd cc
    go (Some (Unbind r v)) e = ap (λ x. Some x) (eqb-true v n e)
    go (Some Create) e = absurd cc
    go (Some (Bind r v)) e = absurd cc
    go (Some (Updated r v)) e = absurd cc
    go (Some Activate) e = absurd cc
    go (Some Modified) e = absurd cc
    go (Some Deactivate) e = absurd cc
    go (Some Destroy) e = absurd cc

-- a service that isn't among those that left takes none of them away
pub none_lost : (m : World) (service : ℕ) → list_any (λ (r : ServiceRow). r.id == service) m.unregistered_held ≡ false → m.unregistered_held ≡ held_still m (Some service)
none_lost m service none = go (is_service_held m service)
  where
    go : (b : Bool) → m.unregistered_held ≡ cond b m.unregistered_held (filter (λ (r : ServiceRow). not (r.id == service)) m.unregistered_held)
    go true = refl
    go false = sym (filter_all (λ (r : ServiceRow). not (r.id == service)) m.unregistered_held (λ r here. ap not (fails_each (λ (x : ServiceRow). x.id == service) m.unregistered_held r none here)))

module _ (limit : ℕ) (past : History) (legal : IsLegal limit past) (turn : ℕ) (outcome : Outcome) where
  abbrev w : World
  w = world_of past

  abbrev m : World
  m = world_after_step (End turn outcome) (world_of past)

  abbrev g : Instance → Instance
  g i = ended_in turn outcome (world_of past).generations i

  abbrev unbinds_it : ℕ → Instance → Bool
  unbinds_it s i = has_turn turn i && last_is (unbinds s) i.callbacks

  -- what an instance holds it holds behind the end, unless that unbinds it
  holds_on : (s : ℕ) (i : Instance) → unbinds_it s i ≡ false → holds w.components s (g i) ≡ holds w.components s i
  holds_on s i off = go (has_turn turn i) refl
    where
      go : (b : Bool) → has_turn turn i ≡ b → holds w.components s (cond b (with_outcome outcome w.generations i) i) ≡ holds w.components s i
      go false is = refl
      go true is =
          any_same (λ (r : Reference). has (held_for r.name (ended outcome i.callbacks)) s) (λ (r : Reference). has (held_for r.name i.callbacks) s)
          (option_map_or (λ (c : Component). c.description.references) (component_in w.components i.origin.configuration) [])
          (λ r here. held_ends outcome r.name i.callbacks [] s (ap (λ b. b && last_is (unbinds s) i.callbacks) (sym is) ∙ off))

  -- and it lives on, where it holds anything
  holder_lives : (s : ℕ) (i : Instance) → Contains w.instances i → holds w.components s i ≡ true → lives_on (g i) ≡ true
  holder_lives s i here holding = go (has_turn turn i) refl
    where
      living : lives_on i ≡ true
      living = (legal_ordered limit past legal).living i here

      go : (b : Bool) → has_turn turn i ≡ b → lives_on (cond b (with_outcome outcome w.generations i) i) ≡ true
      go false is = living
      go true is = elim (cases_Bool (ends_life outcome i)) [
        | inl ending ↦ absurd (both_ways (holds w.components s i)
            (holds_nothing w.components s outcome i ((legal_ordered limit past legal).each i here).order (and_parts (i.turn == turn) (is_outstanding i.callbacks) is).1 ending) holding)
        | inr going ↦ life_goes_on outcome i living going
      ]

  held_on : (s : ℕ) → ((i : Instance) → Contains (all_instances w) i → unbinds_it s i ≡ false) → is_service_held w s ≡ true → is_service_held m s ≡ true
  unfolding world_after_step
  held_on s off held =
      let found = any_found (holds w.components s) (all_instances w) held in
      let so = holds_on s found.0 (off found.0 found.1) ∙ found.2 in
      elim (in_cases w.whiteboard w.instances found.0 found.1) [
        | inl board ↦ or_left (holds w.components s (g w.whiteboard)) (list_any (holds w.components s) (filter lives_on (map g w.instances))) (ap (λ (x : Instance). holds w.components s (g x)) board ∙ so)
        | inr there ↦ any_from (holds w.components s) (g w.whiteboard ∷ filter lives_on (map g w.instances)) (g found.0)
            (in_rest (g w.whiteboard) (filter lives_on (map g w.instances)) (g found.0)
            (kept_from lives_on (map g w.instances) (g found.0) (in_mapped g w.instances found.0 there) (holder_lives s found.0 there found.2))) so
      ]

  -- ---- the turn unbinds one service at most

  pub only_one : (i : Instance) → Contains (all_instances w) i → has_turn turn i ≡ true → find (has_turn turn) (all_instances w) ≡ Some i
  only_one i here its = found_is (has_turn turn) (all_instances w) i here its
      (λ j there on. one_of (λ (x : Instance). x.turn) (all_instances w) (legal_turns_apart limit past legal) j i there here
      (eqb-true j.turn turn (and_parts (j.turn == turn) (is_outstanding j.callbacks) on).0 ∙ sym (eqb-true i.turn turn (and_parts (i.turn == turn) (is_outstanding i.callbacks) its).0)))

  untouched : (n : ℕ) → (unbound_by turn w ≡ Some n → ⊥) → (i : Instance) → Contains (all_instances w) i → unbinds_it n i ≡ false
  untouched n other i here = elim (cases_Bool (unbinds_it n i)) [
    | inl is ↦ (
        let both = and_parts (has_turn turn i) (last_is (unbinds n) i.callbacks) is in
        absurd (other (ap (λ (o : Option Instance). option_and_then (λ (x : Instance). option_and_then service_unbound (last_callback x.callbacks)) o) (only_one i here both.0) ∙ unbinding n i.callbacks both.1)))
    | inr off ↦ off
  ]

  left_held : (r : ServiceRow) → Contains w.unregistered_held r → is_service_held w r.id ≡ true
  left_held r h = (and_parts (not (is_registered w r.id)) (is_service_held w r.id) (left_stands past r h)).1

  abbrev holding : ServiceRow → Bool
  holding r = is_service_held m r.id

  other_held : (r : ServiceRow) → Contains w.unregistered_held r → (unbound_by turn w ≡ Some r.id → ⊥) → holding r ≡ true
  other_held r h other = held_on r.id (untouched r.id other) (left_held r h)

  held_by_case : (o : Option ℕ) → unbound_by turn w ≡ o → filter holding w.unregistered_held ≡ held_still m o
  unfolding world_after_step
  held_by_case None is = filter_all holding w.unregistered_held (λ r here. other_held r (among_contains w.unregistered_held r here) (λ e. never r.id (sym is ∙ e)))
    where
      never : (n : ℕ) → None ≡ Some n → ⊥
      never n e = cc
  held_by_case (Some s) is = go (is_service_held m s) refl
    where
      other : (n : ℕ) → (n == s) ≡ false → Some s ≡ Some n → ⊥
      other n off e = both_ways (n == s) off (let same : s ≡ n = cc in subst (λ (k : ℕ). (k == s) ≡ true) same (eq-itself s))
        where
          eq-itself : (k : ℕ) → (k == k) ≡ true
          eq-itself k = grind (arith)

      go : (b : Bool) → is_service_held m s ≡ b → filter holding w.unregistered_held ≡ cond b w.unregistered_held (filter (λ (r : ServiceRow). not (r.id == s)) w.unregistered_held)
      go true on = filter_all holding w.unregistered_held (λ r here. elim (cases_Bool (r.id == s)) [
        | inl same ↦ ap (is_service_held m) (eqb-true r.id s same) ∙ on
        | inr off ↦ other_held r (among_contains w.unregistered_held r here) (λ e. other r.id off (sym is ∙ e))
      ])
      go false none = filter_same holding (λ (r : ServiceRow). not (r.id == s)) w.unregistered_held (λ r here. elim (cases_Bool (r.id == s)) [
        | inl same ↦ ap (is_service_held m) (eqb-true r.id s same) ∙ none ∙ sym (ap not same)
        | inr off ↦ other_held r (among_contains w.unregistered_held r here) (λ e. other r.id off (sym is ∙ e)) ∙ sym (ap not off)
      ])

  registered_same : (n : ℕ) → is_registered m n ≡ is_registered w n
  unfolding world_after_step
  registered_same n = refl

  pub held_then : unregistered_held_between (world_of past) (world_after_step (End turn outcome) (world_of past)) ≡ held_still (world_after_step (End turn outcome) (world_of past)) (unbound_by turn (world_of past))
  held_then = held_of past m registered_same ∙ held_by_case (unbound_by turn w) refl
