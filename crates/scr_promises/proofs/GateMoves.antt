-- What a step makes of the gate of an instance: it stays, is reopened, is left by the instance, or its drain is posted.
use Rattle.std.proofs.Common.{◌≡◌, ℕ, List, [], ◌∷◌, ◌++◌, ap, sym, ◌∙◌, refl, subst, cond, arith, Bool, true, false, ◌&&◌, Some}
use Rattle.std.specs.Prelude.{not, ◌==◌}
use Rattle.std.specs.List.{Contains}
use Rattle.std.proofs.lemmas.Bool.{and_parts, both_ways, eqb-true}
use Rattle.callback_orders.specs.declared.callback.Callback.{Callback}
use Rattle.callback_orders.specs.declared.callback.Callback.TheVariants.{Create, Bind, Updated, Unbind, Activate, Modified, Deactivate, Destroy}
use Rattle.callback_orders.specs.declared.callback.Outcome.{Outcome}
use Rattle.callback_orders.specs.declared.callback.Outcome.TheVariants.{Done, Refused, NoMemory}
use Rattle.callback_orders.specs.declared.instance_view.Phase.{Phase}
use Rattle.callback_orders.specs.declared.instance_view.Phase.TheVariants.{Making, Active, Left}
use Rattle.callback_orders.specs.declared.word.Called.{Called}
use Rattle.callback_orders.specs.Grammar.{is_activate, is_create, is_deactivate, of}
use Rattle.callback_orders.specs.Lives.{is_living, phase_by, phase_of}
use Rattle.callback_orders.specs.Sequences.{begun, done_with, ended, have_ended, is_done, is_outstanding, is_sequence}
use Rattle.callback_orders.proofs.FollowLemmas.{may_follow}
use Rattle.component_state.proofs.Apart.{any_found, any_from, in_right, not_true, one_of}
use Rattle.scr_promises.specs.Endings.{has_deactivate}
use Rattle.scr_laws.proofs.CallbackFronts.{IsFront, ended_front, front_of, is_making, phase_over, sequence_may}
use Rattle.scr_laws.proofs.DrainOrder.{DrainsInTurn, activate_after, last_more, one_at_a_time_of, outstanding_may, phase_before}
use Rattle.scr_laws.proofs.Reserved.{never_ceases, never_created}
use Rattle.scr_laws.proofs.RoomAfter.{told_drained}
use Rattle.scr_laws.proofs.LivingLaws.{AreTold}
use Rattle.scr_laws.proofs.NothingShut.{told_drains}
use Rattle.scr_world.specs.Consequences.{is_draining}
use Rattle.scr_world.specs.Instances.{becomes_active, drained_in, ended_in, has_turn, is_active_instance, is_active_phase, last_is, lives_on, with_callback_begun, with_outcome}
use Rattle.scr_world.specs.Legal.{MayCome, awaits_drain}
use Rattle.scr_world.specs.Stepping.{before_turn}
use Rattle.scr_world.specs.Views.{ends}
use Rattle.scr_world.specs.declared.instance.Instance.{Instance}
use Rattle.scr_world.specs.declared.step.Step.{Step}
use Rattle.scr_world.specs.declared.step.Step.TheVariants.{Command as Commanded, Begin, End, Drained, Got, Released}
use Rattle.scr_world.specs.declared.world.World.{World}
use Rattle.scr_laws.proofs.GateKeyLaws.{reopens}

-- what a step makes of an instance that was there
abbrev pub moved : Step → World → Instance → Instance
moved (Begin turn instance configuration consumer callback chosen) w i = cond (is_create callback) i (with_callback_begun (before_turn w) turn instance callback i)
moved (End turn outcome) w i = ended_in turn outcome w.generations i
moved (Drained instance) w i = drained_in instance i
moved (Commanded command) w i = i
moved (Got bundle service) w i = i
moved (Released place) w i = i

-- its gate is reopened
abbrev pub is_opened : Step → Instance → Bool
is_opened (End turn outcome) i = reopens turn outcome i
is_opened (Commanded command) i = false
is_opened (Begin turn instance configuration consumer callback chosen) i = false
is_opened (Drained instance) i = false
is_opened (Got bundle service) i = false
is_opened (Released place) i = false

-- its drain is posted
abbrev pub is_posted : Step → Instance → Bool
is_posted (Drained instance) i = i.number == instance
is_posted (Commanded command) i = false
is_posted (Begin turn instance configuration consumer callback chosen) i = false
is_posted (End turn outcome) i = false
is_posted (Got bundle service) i = false
is_posted (Released place) i = false

pub data IsMove (opened posted : Bool) (w : World) (i j : Instance) : Type 0 where
  stays : opened ≡ false → posted ≡ false → is_active_instance j ≡ is_active_instance i → j.drained ≡ i.drained → IsMove opened posted w i j
  opens : opened ≡ true → posted ≡ false → is_active_instance i ≡ false → is_active_instance j ≡ true → j.drained ≡ false → IsMove opened posted w i j
  leaves : opened ≡ false → posted ≡ false → is_active_instance i ≡ true → is_active_instance j ≡ false → ends w i ≡ true → i.drained ≡ true → IsMove opened posted w i j
  drains : opened ≡ false → posted ≡ true → is_active_instance i ≡ true → is_active_instance j ≡ true → ends w i ≡ true → i.drained ≡ false → j.drained ≡ true → IsMove opened posted w i j

-- ---- the end of a turn, by the phase before its callback and what that was

making_inactive : (phase : Phase) → is_making phase ≡ true → is_active_phase phase ≡ false
making_inactive Making is = refl
making_inactive Active is = cc
making_inactive Left is = cc

deactivates_active : (phase : Phase) → may_follow phase Deactivate ≡ true → is_active_phase phase ≡ true
deactivates_active Making is = cc
deactivates_active Active is = refl
deactivates_active Left is = cc

destroys_inactive : (phase : Phase) → may_follow phase Destroy ≡ true → is_active_phase phase ≡ false
destroys_inactive Making is = refl
destroys_inactive Active is = cc
destroys_inactive Left is = refl

has_last : (before : List Called) → has_deactivate (before ++ begun Deactivate ∷ []) ≡ true
has_last before = any_from (of is_deactivate) (before ++ begun Deactivate ∷ []) (begun Deactivate) (in_right before (begun Deactivate ∷ []) (begun Deactivate) (0, omega arith, refl)) refl

-- how an end moves callbacks with these before it: whether they were active, and are
pub data EndMoves (before : List Called) (last : Callback) (o : Outcome) : Type 0 where
  same : (is_done (Some o) && is_activate last) ≡ false → is_active_phase (phase_by last (Some o) (phase_of before)) ≡ is_active_phase (phase_of before) → EndMoves before last o
  activates : (is_done (Some o) && is_activate last) ≡ true → is_making (phase_of before) ≡ true → is_active_phase (phase_by last (Some o) (phase_of before)) ≡ true → EndMoves before last o
  deactivates : (is_done (Some o) && is_activate last) ≡ false → last ≡ Deactivate → is_active_phase (phase_of before) ≡ true → is_active_phase (phase_by last (Some o) (phase_of before)) ≡ false → EndMoves before last o

never_done : (o : Outcome) → (is_done (Some o) && false) ≡ false
never_done o = go (is_done (Some o))
  where
    go : (b : Bool) → (b && false) ≡ false
    go true = refl
    go false = refl

end_moves : (before : List Called) (last : Callback) (o : Outcome) → have_ended before ≡ true → is_sequence (before ++ begun last ∷ []) ≡ true → EndMoves before last o
end_moves before Activate Done over order = activates refl (activate_after before over order) refl
end_moves before Activate Refused over order = same refl (sym (making_inactive (phase_of before) (activate_after before over order)))
end_moves before Activate NoMemory over order = same refl (sym (making_inactive (phase_of before) (activate_after before over order)))
end_moves before Deactivate o over order = deactivates (never_done o) refl (deactivates_active (phase_of before) (outstanding_may before Deactivate over order refl)) refl
end_moves before Create o over order = same (never_done o) refl
end_moves before (Bind r s) o over order = same (never_done o) refl
end_moves before (Updated r s) o over order = same (never_done o) refl
end_moves before (Unbind r s) o over order = same (never_done o) refl
end_moves before Modified o over order = same (never_done o) refl
end_moves before Destroy o over order = same (never_done o) refl

-- who ceases by it isn't active
ceases_by : (before : List Called) (last : Callback) (o : Outcome) → have_ended before ≡ true → is_sequence (before ++ begun last ∷ []) ≡ true → is_living (before ++ begun last ∷ []) ≡ true → is_living (before ++ done_with last o ∷ []) ≡ false
    → is_active_phase (phase_by last (Some o) (phase_of before)) ≡ false
ceases_by [] Create o over order lives off = refl
ceases_by (c ∷ rest) Create o over order lives off = absurd (never_created (phase_of (c ∷ rest)) (sequence_may (c ∷ rest) Create (omega arith) over order))
ceases_by before Destroy o over order lives off = destroys_inactive (phase_of before) (outstanding_may before Destroy over order refl)
ceases_by before Activate o over order lives off = never_ceases before Activate o refl lives off
ceases_by before (Bind r s) o over order lives off = never_ceases before (Bind r s) o refl lives off
ceases_by before (Updated r s) o over order lives off = never_ceases before (Updated r s) o refl lives off
ceases_by before (Unbind r s) o over order lives off = never_ceases before (Unbind r s) o refl lives off
ceases_by before Modified o over order lives off = never_ceases before Modified o refl lives off
ceases_by before Deactivate o over order lives off = never_ceases before Deactivate o refl lives off

-- ---- of an instance whose turn ends

module _ (w : World) (i : Instance) (order : is_sequence i.callbacks ≡ true) (drain : DrainsInTurn i.callbacks i.drained) (told_end : has_deactivate i.callbacks ≡ true → ends w i ≡ true) (turn : ℕ) (outcome : Outcome) where
  abbrev j : Instance
  j = with_outcome outcome w.generations i

  module _ (out : is_outstanding i.callbacks ≡ true) where
    front : IsFront i.callbacks
    front = front_of i.callbacks (one_at_a_time_of i.callbacks order) out

    whole_order : is_sequence (front.before ++ begun front.last ∷ []) ≡ true
    whole_order = subst (λ (cs : List Called). is_sequence cs ≡ true) front.whole order

    was_active : is_active_instance i ≡ is_active_phase (phase_of front.before)
    was_active = ap (λ (cs : List Called). is_active_phase (phase_of cs)) front.whole ∙ ap is_active_phase (phase_before front.before front.last)

    now_active : is_active_instance j ≡ is_active_phase (phase_by front.last (Some outcome) (phase_of front.before))
    now_active = ap (λ (cs : List Called). is_active_phase (phase_of (ended outcome cs))) front.whole
        ∙ ap (λ (cs : List Called). is_active_phase (phase_of cs)) (ended_front outcome front.before front.last) ∙ ap is_active_phase (phase_over front.before (done_with front.last outcome) Making)

    becomes : becomes_active outcome i ≡ (is_done (Some outcome) && is_activate front.last)
    becomes = ap (λ b. is_done (Some outcome) && b) (ap (last_is is_activate) front.whole ∙ last_more is_activate front.before (begun front.last))

    end_move : IsMove (becomes_active outcome i) false w i j
    end_move = elim (end_moves front.before front.last outcome front.over whole_order) [
      | same none alike ↦ stays (becomes ∙ none) refl (now_active ∙ alike ∙ sym was_active) refl
      | activates it making on ↦ opens (becomes ∙ it) refl (was_active ∙ making_inactive (phase_of front.before) making) (now_active ∙ on)
          (drain.making (ap (λ (cs : List Called). is_making (phase_of cs)) front.whole ∙ ap is_making (phase_before front.before front.last) ∙ making))
      | deactivates none it on off ↦ (
          let calls : i.callbacks ≡ front.before ++ begun Deactivate ∷ [] = front.whole ∙ ap (λ (c : Callback). front.before ++ begun c ∷ []) it in
          leaves (becomes ∙ none) refl (was_active ∙ on) (now_active ∙ off) (told_end (ap has_deactivate calls ∙ has_last front.before))
          (drain.deactivating (ap (last_is is_deactivate) calls ∙ last_more is_deactivate front.before (begun Deactivate))))
    ]

    -- who ceases isn't active
    ceases : is_living i.callbacks ≡ true → lives_on j ≡ false → is_active_instance j ≡ false
    ceases lives off =
        now_active ∙ ceases_by front.before front.last outcome front.over whole_order (ap is_living (sym front.whole) ∙ lives)
        (ap is_living (sym (ended_front outcome front.before front.last) ∙ ap (ended outcome) (sym front.whole)) ∙ off)

-- ---- each step

module _ (w : World) (told : AreTold w.instances w.instances_numbered w.turns_begun) (in_order : (i : Instance) → Contains w.instances i → is_sequence i.callbacks ≡ true) (living : (i : Instance) → Contains w.instances i → is_living i.callbacks ≡ true)
    (drain : (i : Instance) → Contains w.instances i → DrainsInTurn i.callbacks i.drained) (told_end : (i : Instance) → Contains w.instances i → has_deactivate i.callbacks ≡ true → ends w i ≡ true) where
  told_move : (turn instance : ℕ) (callback : Callback) (i : Instance) → IsMove false false w i (with_callback_begun (before_turn w) turn instance callback i)
  told_move turn instance callback i = stays refl refl (told_drains (before_turn w) turn instance callback i).active (told_drained (before_turn w) turn instance callback i)

  pub move_by : (step : Step) → MayCome w step → (i : Instance) → Contains w.instances i → IsMove (is_opened step i) (is_posted step i) w i (moved step w i)
  move_by (Commanded command) may i h = stays refl refl refl refl
  move_by (Begin turn instance configuration consumer Create chosen) may i h = stays refl refl refl refl
  move_by (Begin turn instance configuration consumer (Bind reference service) chosen) may i h = told_move turn instance (Bind reference service) i
  move_by (Begin turn instance configuration consumer (Updated reference service) chosen) may i h = told_move turn instance (Updated reference service) i
  move_by (Begin turn instance configuration consumer (Unbind reference service) chosen) may i h = told_move turn instance (Unbind reference service) i
  move_by (Begin turn instance configuration consumer Activate chosen) may i h = told_move turn instance Activate i
  move_by (Begin turn instance configuration consumer Modified chosen) may i h = told_move turn instance Modified i
  move_by (Begin turn instance configuration consumer Deactivate chosen) may i h = told_move turn instance Deactivate i
  move_by (Begin turn instance configuration consumer Destroy chosen) may i h = told_move turn instance Destroy i
  move_by (End turn outcome) may i h = go (has_turn turn i) refl
    where
      go : (b : Bool) → has_turn turn i ≡ b → IsMove (b && becomes_active outcome i) false w i (cond b (with_outcome outcome w.generations i) i)
      go true its = end_move w i (in_order i h) (drain i h) (told_end i h) turn outcome (and_parts (i.turn == turn) (is_outstanding i.callbacks) its).1
      go false other = stays refl refl refl refl
  move_by (Drained instance) may i h = go (i.number == instance) refl
    where
      go : (b : Bool) → (i.number == instance) ≡ b → IsMove false b w i (cond b (record i { drained = true }) i)
      go true its =
          let found = any_found (λ (k : Instance). (k.number == instance) && awaits_drain w k) w.instances may in
          let both = and_parts (found.0.number == instance) (awaits_drain w found.0) found.2 in
          let same : found.0 ≡ i = one_of (λ (k : Instance). k.number) w.instances told.numbers found.0 i found.1 h (eqb-true found.0.number instance both.0 ∙ sym (eqb-true i.number instance its)) in
          let waits : awaits_drain w i ≡ true = subst (λ (k : Instance). awaits_drain w k ≡ true) same both.1 in
          let parts = and_parts (is_draining w i) (not i.drained) waits in
          let active = and_parts (is_active_instance i) (ends w i) parts.0 in
          drains refl refl active.0 active.0 active.1 (not_true i.drained parts.1) refl
      go false other = stays refl refl refl refl
  move_by (Got bundle service) may i h = stays refl refl refl refl
  move_by (Released place) may i h = stays refl refl refl refl

  -- who ceases by an end isn't active
  pub ceased_inactive : (turn : ℕ) (outcome : Outcome) (i : Instance) → Contains w.instances i → lives_on (ended_in turn outcome w.generations i) ≡ false → is_active_instance (ended_in turn outcome w.generations i) ≡ false
  ceased_inactive turn outcome i h off = go (has_turn turn i) refl off
    where
      go : (b : Bool) → has_turn turn i ≡ b → lives_on (cond b (with_outcome outcome w.generations i) i) ≡ false → is_active_instance (cond b (with_outcome outcome w.generations i) i) ≡ false
      go true its ends_it = ceases w i (in_order i h) (drain i h) (told_end i h) turn outcome (and_parts (i.turn == turn) (is_outstanding i.callbacks) its).1 (living i h) ends_it
      go false other ends_it = absurd (both_ways (lives_on i) ends_it (living i h))
