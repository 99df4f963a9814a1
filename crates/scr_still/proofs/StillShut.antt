-- The gates that are shut with the end of a turn by which nothing closes: that of an instance that becomes active by it, where it is ending.
use Rattle.std.proofs.Common.{◌≡◌, ℕ, List, [], ◌∷◌, ◌++◌, ap, sym, ◌∙◌, refl, subst, cond, Bool, true, false, ◌&&◌, ◌||◌, Option, Some, None}
use Rattle.std.specs.Prelude.{not, filter, map, ◌==◌}
use Rattle.std.specs.List.{Contains, list_any}
use Rattle.std.specs.Option.{option_map_or}
use Rattle.std.proofs.lemmas.Bool.{and_parts, both_ways, eq-eqb, eqb-true}
use Rattle.std.proofs.lemmas.List.Folds.{list_any-append}
use Rattle.bundle_life.specs.Lives.{is_active, state_is}
use Rattle.callback_orders.specs.declared.callback.Callback.{Callback}
use Rattle.callback_orders.specs.declared.callback.Callback.TheVariants.{Create, Bind, Updated, Unbind, Activate, Modified, Deactivate, Destroy}
use Rattle.callback_orders.specs.declared.callback.Outcome.{Outcome}
use Rattle.callback_orders.specs.declared.callback.Outcome.TheVariants.{Done, Refused, NoMemory}
use Rattle.callback_orders.specs.declared.instance_view.Phase.{Phase}
use Rattle.callback_orders.specs.declared.instance_view.Phase.TheVariants.{Making, Active, Left}
use Rattle.callback_orders.specs.declared.word.Called.{Called}
use Rattle.callback_orders.specs.Grammar.{is_activate, is_create, is_destroy}
use Rattle.callback_orders.specs.Lives.{phase_by, phase_of}
use Rattle.callback_orders.specs.Sequences.{begun, done_with, ended, have_ended, is_done, is_failed, is_outstanding, is_sequence}
use Rattle.component_state.specs.Inside.Ready.{are_apart}
use Rattle.component_state.specs.Periods.{is_current}
use Rattle.component_state.proofs.Apart.{in_first, in_rest, one_of}
use Rattle.prop_map.specs.Words.{has}
use Rattle.scr_consequences.specs.Ends.{opens_gate}
use Rattle.scr_laws.proofs.CallbackFronts.{IsFront, ended_front, front_of, is_making, phase_over}
use Rattle.scr_laws.proofs.DrainOrder.{activate_after, last_more, one_at_a_time_of, phase_before}
use Rattle.scr_laws.proofs.LegalOrder.{legal_ordered}
use Rattle.scr_laws.proofs.Ordered.{AreOrdered}
use Rattle.scr_laws.proofs.Reserved.{any_of_one}
use Rattle.scr_laws.proofs.InstanceLemmas.{ended_same}
use Rattle.scr_still.specs.StillEnds.{ends_life, key_opened, shut_by_end}
use Rattle.scr_still.proofs.LivesEnded.{life_goes_on}
use Rattle.scr_world.specs.Consequences.{begins_draining, gate_of, is_draining, shut_between}
use Rattle.scr_world.specs.Instances.{becomes_active, ended_in, has_failed, has_turn, is_active_instance, is_active_phase, last_callback, last_is, lives_on, next_generation, with_outcome}
use Rattle.scr_world.specs.Legal.{IsLegal}
use Rattle.scr_world.specs.Lists.{world_of}
use Rattle.scr_world.specs.Steps.{History}
use Rattle.scr_world.specs.Views.{ends, is_ending}
use Rattle.scr_world.specs.declared.instance.Instance.{Instance}
use Rattle.scr_world.specs.declared.world.World.{World}

or_false : (b : Bool) → (b || false) ≡ b
or_false true = refl
or_false false = refl

and_true : (b : Bool) → (b && true) ≡ b
and_true true = refl
and_true false = refl

and_off : (b : Bool) → (b && false) ≡ false
and_off true = refl
and_off false = refl

never_both : (b : Bool) → (b && not b) ≡ false
never_both true = refl
never_both false = refl

none_so : (a x : Bool) → ((a && false) && x) ≡ false
none_so true x = refl
none_so false x = refl

-- an Activate ends no life
activate_ends_none : (outcome : Outcome) (calls : List Called) → last_is is_activate calls ≡ true → (last_is is_destroy calls || (last_is is_create calls && is_failed (Some outcome))) ≡ false
activate_ends_none outcome calls is = go (last_callback calls) is
  where
    go : (o : Option Callback) → option_map_or is_activate o false ≡ true → (option_map_or is_destroy o false || (option_map_or is_create o false && is_failed (Some outcome))) ≡ false
    go None e = absurd cc
    go (Some Activate) e = refl
    go (Some Create) e = absurd cc
    go (Some (Bind r s)) e = absurd cc
    go (Some (Updated r s)) e = absurd cc
    go (Some (Unbind r s)) e = absurd cc
    go (Some Modified) e = absurd cc
    go (Some Deactivate) e = absurd cc
    go (Some Destroy) e = absurd cc

is_one : (c : Callback) → is_activate c ≡ true → c ≡ Activate
is_one Activate is = refl
is_one Create is = absurd cc
is_one (Bind r s) is = absurd cc
is_one (Updated r s) is = absurd cc
is_one (Unbind r s) is = absurd cc
is_one Modified is = absurd cc
is_one Deactivate is = absurd cc
is_one Destroy is = absurd cc

module _ (limit : ℕ) (past : History) (legal : IsLegal limit past) (turn : ℕ) (outcome : Outcome) where
  abbrev w : World
  w = world_of past

  abbrev g : Instance → Instance
  g i = ended_in turn outcome (world_of past).generations i

  ordered : AreOrdered (world_of past)
  ordered = legal_ordered limit past legal

  -- ---- one instance whose turn ends

  module _ (i : Instance) where
    -- it is to be drained where it is active, or its activation failed
    abbrev drains : Bool → Bool → Bool
    drains active failed = active && (not (is_current w.open_periods i.origin) || (not (i.consumer == 0) && not (state_is is_active w.bundles.rows i.consumer)) || failed)

    abbrev is_over : Bool → Bool
    is_over failed = not (is_current w.open_periods i.origin) || (not (i.consumer == 0) && not (state_is is_active w.bundles.rows i.consumer)) || failed

    stays : (active f : Bool) → (drains active (f || false) && not (drains active f)) ≡ ((is_done (Some outcome) && false) && is_over f)
    stays active f = ap (λ k. drains active k && not (drains active f)) (or_false f) ∙ never_both (drains active f) ∙ sym (none_so (is_done (Some outcome)) (is_over f))

    one_case : (last : Callback) (phase : Phase) (f : Bool) → (is_activate last ≡ true → is_making phase ≡ true)
        → (drains (is_active_phase (phase_by last (Some outcome) phase)) (f || (is_activate last && is_failed (Some outcome))) && not (drains (is_active_phase phase) f))
        ≡ ((is_done (Some outcome) && is_activate last) && is_over f)
    one_case Create phase f making = stays (is_active_phase phase) f
    one_case (Bind r s) phase f making = stays (is_active_phase phase) f
    one_case (Updated r s) phase f making = stays (is_active_phase phase) f
    one_case (Unbind r s) phase f making = stays (is_active_phase phase) f
    one_case Modified phase f making = stays (is_active_phase phase) f
    one_case Destroy phase f making = stays (is_active_phase phase) f
    one_case Deactivate phase f making = sym (none_so (is_done (Some outcome)) (is_over f))
    one_case Activate phase f making = go outcome phase (making refl)
      where
        go : (o : Outcome) (p : Phase) → is_making p ≡ true
            → (drains (is_active_phase (phase_by Activate (Some o) p)) (f || is_failed (Some o)) && not (drains (is_active_phase p) f)) ≡ ((is_done (Some o) && true) && is_over f)
        go Done Making is = and_true (is_over (f || false)) ∙ ap is_over (or_false f)
        go Refused Making is = refl
        go NoMemory Making is = refl
        go o Active is = absurd cc
        go o Left is = absurd cc

    module _ (order : is_sequence i.callbacks ≡ true) (out : is_outstanding i.callbacks ≡ true) where
      front : IsFront i.callbacks
      front = front_of i.callbacks (one_at_a_time_of i.callbacks order) out

      active_then : is_active_phase (phase_of (ended outcome i.callbacks)) ≡ is_active_phase (phase_by front.last (Some outcome) (phase_of front.before))
      active_then =
          ap (λ (cs : List Called). is_active_phase (phase_of (ended outcome cs))) front.whole
          ∙ ap (λ (cs : List Called). is_active_phase (phase_of cs)) (ended_front outcome front.before front.last)
          ∙ ap is_active_phase (phase_over front.before (done_with front.last outcome) Making)

      active_was : is_active_instance i ≡ is_active_phase (phase_of front.before)
      active_was = ap (λ (cs : List Called). is_active_phase (phase_of cs)) front.whole ∙ ap is_active_phase (phase_before front.before front.last)

      abbrev fails : Called → Bool
      fails c = is_activate c.callback && is_failed c.outcome

      failed_then : has_failed (ended outcome i.callbacks) ≡ (has_failed front.before || (is_activate front.last && is_failed (Some outcome)))
      failed_then =
          ap (λ (cs : List Called). has_failed (ended outcome cs)) front.whole
          ∙ ap has_failed (ended_front outcome front.before front.last)
          ∙ list_any-append fails front.before (done_with front.last outcome ∷ [])
          ∙ ap (λ b. has_failed front.before || b) (or_false (is_activate front.last && is_failed (Some outcome)))

      failed_was : has_failed i.callbacks ≡ has_failed front.before
      failed_was =
          ap has_failed front.whole
          ∙ list_any-append fails front.before (begun front.last ∷ [])
          ∙ ap (λ b. has_failed front.before || b) (or_false (is_activate front.last && false) ∙ and_off (is_activate front.last))
          ∙ or_false (has_failed front.before)

      activates : last_is is_activate i.callbacks ≡ is_activate front.last
      activates = ap (last_is is_activate) front.whole ∙ last_more is_activate front.before (begun front.last)

      making : is_activate front.last ≡ true → is_making (phase_of front.before) ≡ true
      making act = activate_after front.before front.over
          (subst (λ (c : Callback). is_sequence (front.before ++ begun c ∷ []) ≡ true) (is_one front.last act) (subst (λ (cs : List Called). is_sequence cs ≡ true) front.whole order))

      its_case : (is_draining w (with_outcome outcome w.generations i) && not (is_draining w i)) ≡ (becomes_active outcome i && ends w i)
      its_case =
          ap (λ b. drains b (has_failed (ended outcome i.callbacks)) && not (is_draining w i)) active_then
          ∙ ap (λ b. drains (is_active_phase (phase_by front.last (Some outcome) (phase_of front.before))) b && not (is_draining w i)) failed_then
          ∙ ap (λ b. drains (is_active_phase (phase_by front.last (Some outcome) (phase_of front.before))) (has_failed front.before || (is_activate front.last && is_failed (Some outcome))) && not (drains b (has_failed i.callbacks))) active_was
          ∙ ap (λ b. drains (is_active_phase (phase_by front.last (Some outcome) (phase_of front.before))) (has_failed front.before || (is_activate front.last && is_failed (Some outcome))) && not (drains (is_active_phase (phase_of front.before)) b)) failed_was
          ∙ one_case front.last (phase_of front.before) (has_failed front.before) making
          ∙ sym (ap (λ b. (is_done (Some outcome) && b) && is_over (has_failed front.before)) activates)
          ∙ sym (ap (λ b. becomes_active outcome i && is_over b) failed_was)

  -- ---- each instance

  begins_so : (i : Instance) → Contains w.instances i → (is_draining w (g i) && not (is_draining w i)) ≡ (opens_gate turn outcome i && ends w i)
  begins_so i here = go (has_turn turn i) refl
    where
      go : (b : Bool) → has_turn turn i ≡ b → (is_draining w (cond b (with_outcome outcome w.generations i) i) && not (is_draining w i)) ≡ ((b && becomes_active outcome i) && ends w i)
      go false is = never_both (is_draining w i)
      go true is = its_case i (ordered.each i here).order (and_parts (i.turn == turn) (is_outstanding i.callbacks) is).1

  key_then : (i : Instance) → opens_gate turn outcome i ≡ true → gate_of (g i) ≡ key_opened w.generations i
  key_then i is =
      let both = and_parts (has_turn turn i) (becomes_active outcome i) is in
      ap (λ b. gate_of (cond b (with_outcome outcome w.generations i) i)) both.0
      ∙ ap (λ b. gate_of (record i { callbacks = ended outcome i.callbacks; generation = cond b (next_generation w.generations i) i.generation })) both.1

  lives_then : (i : Instance) → Contains w.instances i → opens_gate turn outcome i ≡ true → lives_on (g i) ≡ true
  lives_then i here is =
      let both = and_parts (has_turn turn i) (becomes_active outcome i) is in
      let act = (and_parts (is_done (Some outcome)) (last_is is_activate i.callbacks) both.1).1 in
      ap (λ b. lives_on (cond b (with_outcome outcome w.generations i) i)) both.0 ∙ life_goes_on outcome i (ordered.living i here) (activate_ends_none outcome i.callbacks act)

  numbers_apart : are_apart (map (λ (i : Instance). i.number) w.instances) ≡ true
  numbers_apart = (and_parts (not (has (map (λ (i : Instance). i.number) w.instances) w.whiteboard.number)) (are_apart (map (λ (i : Instance). i.number) w.instances)) ordered.apart).1

  drained_was : (i : Instance) → Contains w.instances i → list_any (λ (j : Instance). (j.number == (g i).number) && is_draining w j) w.instances ≡ is_draining w i
  drained_was i here =
      ap (λ n. list_any (λ (j : Instance). (j.number == n) && is_draining w j) w.instances) (ended_same turn outcome w.generations i).number
      ∙ any_of_one (λ (j : Instance). j.number == i.number) (is_draining w) w.instances i here (eq-eqb i.number i.number refl)
      (λ j there same. one_of (λ (x : Instance). x.number) w.instances numbers_apart j i there here (eqb-true j.number i.number same))

  module _ (now : World) (rows : now.bundles.rows ≡ (world_of past).bundles.rows) (periods : now.open_periods ≡ (world_of past).open_periods)
      (instances : now.instances ≡ filter lives_on (map g (world_of past).instances)) where
    draining_as : (i : Instance) → is_draining now i ≡ is_draining w i
    draining_as i = ap (λ bs. is_active_instance i && is_ending bs now.open_periods i) rows ∙ ap (λ ps. is_active_instance i && is_ending w.bundles.rows ps i) periods

    begins : (i : Instance) → Contains w.instances i → begins_draining w now (g i) ≡ (opens_gate turn outcome i && ends w i)
    begins i here =
        ap (λ b. b && not (list_any (λ (j : Instance). (j.number == (g i).number) && is_draining w j) w.instances)) (draining_as (g i))
        ∙ ap (λ b. is_draining w (g i) && not b) (drained_was i here)
        ∙ begins_so i here

    abbrev opens : Instance → Bool
    opens i = opens_gate turn outcome i && ends w i

    listed : (is : List Instance) → ((i : Instance) → Contains is i → Contains w.instances i)
        → map gate_of (filter (begins_draining w now) (filter lives_on (map g is))) ≡ map (key_opened w.generations) (filter opens is)
    listed [] among = refl
    listed (i ∷ is) among = go (listed is (λ j there. among j (in_rest i is j there))) (lives_on (g i)) refl (opens i) refl
      where
        here : Contains w.instances i
        here = among i (in_first i is)

        go : map gate_of (filter (begins_draining w now) (filter lives_on (map g is))) ≡ map (key_opened w.generations) (filter opens is)
            → (l : Bool) → lives_on (g i) ≡ l → (o : Bool) → opens i ≡ o
            → map gate_of (filter (begins_draining w now) (cond l (g i ∷ filter lives_on (map g is)) (filter lives_on (map g is)))) ≡ map (key_opened w.generations) (cond o (i ∷ filter opens is) (filter opens is))
        go later true lives true on =
            ap (λ b. map gate_of (cond b (g i ∷ filter (begins_draining w now) (filter lives_on (map g is))) (filter (begins_draining w now) (filter lives_on (map g is))))) (begins i here ∙ on)
            ∙ ap (λ k. k ∷ map gate_of (filter (begins_draining w now) (filter lives_on (map g is)))) (key_then i (and_parts (opens_gate turn outcome i) (ends w i) on).0)
            ∙ ap (λ ks. key_opened w.generations i ∷ ks) later
        go later true lives false off =
            ap (λ b. map gate_of (cond b (g i ∷ filter (begins_draining w now) (filter lives_on (map g is))) (filter (begins_draining w now) (filter lives_on (map g is))))) (begins i here ∙ off) ∙ later
        go later false over false off = later
        go later false over true on = absurd (both_ways (lives_on (g i)) over (lives_then i here (and_parts (opens_gate turn outcome i) (ends w i) on).0))

    pub shut_is : shut_between (world_of past) now ≡ shut_by_end turn outcome (world_of past)
    unfolding shut_between
    shut_is = ap (λ (is : List Instance). map gate_of (filter (begins_draining w now) is)) instances ∙ listed w.instances (λ i here. here)
