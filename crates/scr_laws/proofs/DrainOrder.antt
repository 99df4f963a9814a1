-- When the drain of an instance's gate is posted: not before the instance is active, and before its Deactivate begins.
use Rattle.std.proofs.Common.{◌≡◌, ◌<◌, ℕ, List, [], ◌∷◌, ◌++◌, length, ap, sym, ◌∙◌, refl, subst, cond, arith, Bool, true, false, ◌&&◌, ◌||◌, inl, inr, ◌⊎◌, Some, None}
use Rattle.std.specs.Prelude.{map, not, ◌==◌}
use Rattle.std.specs.List.{Contains, list_any}
use Rattle.std.proofs.lemmas.Bool.{and_parts, both_ways, cases_Bool, eq-eqb, eqb-true, false≢true}
use Rattle.std.proofs.lemmas.List.Folds.{list_any-append}
use Rattle.callback_orders.specs.declared.callback.Callback.{Callback}
use Rattle.callback_orders.specs.declared.callback.Callback.TheVariants.{Create, Bind, Updated, Unbind, Activate, Modified, Deactivate, Destroy}
use Rattle.callback_orders.specs.declared.callback.Outcome.{Outcome}
use Rattle.callback_orders.specs.declared.callback.Outcome.TheVariants.{Done, Refused, NoMemory}
use Rattle.callback_orders.specs.declared.instance_view.Phase.{Phase}
use Rattle.callback_orders.specs.declared.instance_view.Phase.TheVariants.{Making, Active, Left}
use Rattle.callback_orders.specs.declared.word.Called.{Called}
use Rattle.callback_orders.specs.Grammar.{is_activate, is_create, is_deactivate}
use Rattle.callback_orders.specs.Lives.{MayComeNext, phase_by, phase_of}
use Rattle.callback_orders.specs.Sequences.{alternate, begun, created, done_with, ended, have_ended, is_failed, is_outstanding, is_sequence, one_at_a_time}
use Rattle.callback_orders.proofs.FollowLemmas.{may_follow}
use Rattle.component_state.specs.declared.origin.Choice.{Choice}
use Rattle.component_state.proofs.Apart.{any_found, in_either, in_none, in_rest, one_of}
use Rattle.scr_laws.proofs.NothingShut.{phase_stays}
use Rattle.scr_laws.proofs.Sounding.{told_of}
use Rattle.scr_laws.proofs.InstanceLemmas.{alone, begun_cases, mapped_was}
use Rattle.scr_world.specs.Consequences.{is_draining}
use Rattle.scr_world.specs.Dues.{names_of}
use Rattle.scr_world.specs.Instances.{begun_by, created_at, drained_in, ended_in, has_turn, is_activated, is_active_instance, is_active_phase, last_is, with_callback_begun, with_outcome}
use Rattle.scr_world.specs.Legal.{IsLegal, MayCome, awaits_drain}
use Rattle.scr_world.specs.Lists.{world_after_entry, world_of}
use Rattle.scr_world.specs.Steps.{History}
use Rattle.scr_world.specs.Stepping.{before_turn, instances_told, world_after_step}
use Rattle.scr_world.specs.Views.{ends}
use Rattle.scr_world.specs.Worlds.{all_instances}
use Rattle.scr_world.specs.declared.instance.Instance.{Instance}
use Rattle.scr_world.specs.declared.step.Step.{Step}
use Rattle.scr_world.specs.declared.step.Step.TheVariants.{Command as Commanded, Begin, End, Drained, Got, Released}
use Rattle.scr_world.specs.declared.world.World.{World}
use Rattle.scr_laws.proofs.Activated.{activated_begun, activated_ended, outstanding_begun}
use Rattle.scr_laws.proofs.Begins.{Makes, Tells, TellsBoard, begin_is}
use Rattle.scr_laws.proofs.CallbackFronts.{ended_front, front_of, is_making, never_by, phase_over, sequence_may, unactivated}
use Rattle.scr_laws.proofs.LegalOrder.{legal_ordered}
use Rattle.scr_laws.proofs.Ordered.{AreOrdered}
use Rattle.scr_laws.proofs.RoomAfter.{told_drained}
use Rattle.scr_laws.proofs.Sequences.{no_board, told_one, told_other}

abbrev pub is_left : Phase → Bool
is_left Making = false
is_left Active = false
is_left Left = true

pub record DrainsInTurn (calls : List Called) (drained : Bool) : Type 0 where
  pub making : is_making (phase_of calls) ≡ true → drained ≡ false
  pub left : is_left (phase_of calls) ≡ true → is_activated calls ≡ true → drained ≡ true
  pub deactivating : last_is is_deactivate calls ≡ true → drained ≡ true

-- ---- the last callback

pub last_more : (test : Callback → Bool) (calls : List Called) (c : Called) → last_is test (calls ++ c ∷ []) ≡ test c.callback
last_more test [] c = refl
last_more test (d ∷ []) c = refl
last_more test (d ∷ e ∷ rest) c = last_more test (e ∷ rest) c

pub last_ended : (test : Callback → Bool) (o : Outcome) (calls : List Called) → last_is test (ended o calls) ≡ last_is test calls
last_ended test o [] = refl
last_ended test o (c ∷ []) = refl
last_ended test o (c ∷ d ∷ rest) = go rest (last_ended test o (d ∷ rest))
  where
    go : (more : List Called) → last_is test (ended o (d ∷ more)) ≡ last_is test (d ∷ more) → last_is test (c ∷ ended o (d ∷ more)) ≡ last_is test (c ∷ d ∷ more)
    go [] e = e
    go (x ∷ xs) e = e

-- ---- in sequences

pub one_at_a_time_of : (calls : List Called) → is_sequence calls ≡ true → one_at_a_time calls ≡ true
one_at_a_time_of calls is = (and_parts (created calls) (one_at_a_time calls) (and_parts (created calls && one_at_a_time calls) (alternate [] calls) is).0).1

-- a first callback is a Create
first_creates : (callback : Callback) → is_sequence ([] ++ begun callback ∷ []) ≡ true → is_create callback ≡ true
first_creates Create is = refl
first_creates (Bind r s) is = cc
first_creates (Updated r s) is = cc
first_creates (Unbind r s) is = cc
first_creates Activate is = cc
first_creates Modified is = cc
first_creates Deactivate is = cc
first_creates Destroy is = cc

-- what is outstanding may follow those before it, unless it is a Create
pub outstanding_may : (before : List Called) (last : Callback) → have_ended before ≡ true → is_sequence (before ++ begun last ∷ []) ≡ true → is_create last ≡ false → may_follow (phase_of before) last ≡ true
outstanding_may [] last over is no_create = absurd (both_ways (is_create last) no_create (first_creates last is))
outstanding_may (c ∷ rest) last over is no_create = sequence_may (c ∷ rest) last (omega arith) over is

activates_making : (phase : Phase) → may_follow phase Activate ≡ true → is_making phase ≡ true
activates_making Making is = refl
activates_making Active is = cc
activates_making Left is = cc

-- an Activate comes after those of an instance in the making
pub activate_after : (before : List Called) → have_ended before ≡ true → is_sequence (before ++ begun Activate ∷ []) ≡ true → is_making (phase_of before) ≡ true
activate_after before over is = activates_making (phase_of before) (outstanding_may before Activate over is refl)

phase_none : (callback : Callback) (phase : Phase) → phase_by callback None phase ≡ phase
phase_none Create phase = refl
phase_none (Bind reference service) phase = refl
phase_none (Updated reference service) phase = refl
phase_none (Unbind reference service) phase = refl
phase_none Activate phase = refl
phase_none Modified phase = refl
phase_none Deactivate phase = refl
phase_none Destroy phase = refl

pub phase_before : (before : List Called) (last : Callback) → phase_of (before ++ begun last ∷ []) ≡ phase_of before
phase_before before last = phase_over before (begun last) Making ∙ phase_none last (phase_of before)

either_false : (a b : Bool) → a ≡ false → b ≡ false → (a || b) ≡ false
either_false false b one two = two
either_false true b one two = cc

-- ---- a callback that begins

begins_in_turn : (calls : List Called) (drained : Bool) (callback : Callback) → 0 < length calls → have_ended calls ≡ true → is_sequence (calls ++ begun callback ∷ []) ≡ true → (is_deactivate callback ≡ true → drained ≡ true)
    → DrainsInTurn calls drained → DrainsInTurn (calls ++ begun callback ∷ []) drained
begins_in_turn calls drained callback some over order drains was = record {
  making = λ on. was.making (ap is_making (sym (phase_stays callback Making calls)) ∙ on);
  left = λ on active. was.left (ap is_left (sym (phase_stays callback Making calls)) ∙ on) (go (is_activate callback) refl (sym (activated_begun calls callback) ∙ active) (ap is_left (sym (phase_stays callback Making calls)) ∙ on));
  deactivating = λ on. drains (sym (last_more is_deactivate calls (begun callback)) ∙ on);
}
  where
    left_not_making : (phase : Phase) → is_left phase ≡ true → is_making phase ≡ true → ⊥
    left_not_making Making on making = false≢true on
    left_not_making Active on making = false≢true on
    left_not_making Left on making = false≢true making

    is_one : (c : Callback) → is_activate c ≡ true → c ≡ Activate
    is_one Activate is = refl
    is_one Create is = cc
    is_one (Bind r s) is = cc
    is_one (Updated r s) is = cc
    is_one (Unbind r s) is = cc
    is_one Modified is = cc
    is_one Deactivate is = cc
    is_one Destroy is = cc

    go : (b : Bool) → is_activate callback ≡ b → (is_activated calls || b) ≡ true → is_left (phase_of calls) ≡ true → is_activated calls ≡ true
    go true it either on = absurd (left_not_making (phase_of calls) on (activate_after calls over (subst (λ (c : Callback). is_sequence (calls ++ begun c ∷ []) ≡ true) (is_one callback it) order)))
    go false it either on = or_none (is_activated calls) either
      where
        or_none : (a : Bool) → (a || false) ≡ true → a ≡ true
        or_none true e = refl
        or_none false e = e

-- ---- a callback that ends

ends_same : (before : List Called) (last : Callback) (o : Outcome) (drained : Bool) → phase_by last (Some o) (phase_of before) ≡ phase_of before → DrainsInTurn (before ++ begun last ∷ []) drained
    → is_left (phase_by last (Some o) (phase_of before)) ≡ true → is_activated (before ++ done_with last o ∷ []) ≡ true → drained ≡ true
ends_same before last o drained same was on active =
    was.left (ap is_left (phase_before before last ∙ sym same) ∙ on) (activated_ended o (before ++ begun last ∷ []) (outstanding_begun before last) (ap is_activated (ended_front o before last) ∙ active))

-- an Activate that failed leaves no activation
pub failed_activation : (before : List Called) (o : Outcome) → have_ended before ≡ true → is_sequence (before ++ begun Activate ∷ []) ≡ true → is_failed (Some o) ≡ true → is_activated (before ++ done_with Activate o ∷ []) ≡ false
failed_activation before o over order failed =
    list_any-append (λ (c : Called). is_activate c.callback && not (is_failed c.outcome)) before (done_with Activate o ∷ [])
    ∙ either_false (is_activated before) (not (is_failed (Some o)) || false) (unactivated before over (activate_after before over order)) (ap (λ b. not b || false) failed)

left_failed : (o : Outcome) (phase : Phase) → is_left (phase_by Activate (Some o) phase) ≡ true → is_failed (Some o) ≡ true
left_failed Done phase h = cc
left_failed Refused phase h = refl
left_failed NoMemory phase h = refl

ends_left : (before : List Called) (last : Callback) (o : Outcome) (drained : Bool) → have_ended before ≡ true → is_sequence (before ++ begun last ∷ []) ≡ true → DrainsInTurn (before ++ begun last ∷ []) drained
    → is_left (phase_by last (Some o) (phase_of before)) ≡ true → is_activated (before ++ done_with last o ∷ []) ≡ true → drained ≡ true
ends_left before Deactivate o drained over order was on active = was.deactivating (last_more is_deactivate before (begun Deactivate))
ends_left before Activate o drained over order was on active =
    absurd (both_ways (is_activated (before ++ done_with Activate o ∷ [])) (failed_activation before o over order (left_failed o (phase_of before) on)) active)
ends_left before Create o drained over order was on active = ends_same before Create o drained refl was on active
ends_left before (Bind r s) o drained over order was on active = ends_same before (Bind r s) o drained refl was on active
ends_left before (Updated r s) o drained over order was on active = ends_same before (Updated r s) o drained refl was on active
ends_left before (Unbind r s) o drained over order was on active = ends_same before (Unbind r s) o drained refl was on active
ends_left before Modified o drained over order was on active = ends_same before Modified o drained refl was on active
ends_left before Destroy o drained over order was on active = ends_same before Destroy o drained refl was on active

ends_front : (before : List Called) (last : Callback) (o : Outcome) (drained : Bool) → have_ended before ≡ true → is_sequence (before ++ begun last ∷ []) ≡ true → DrainsInTurn (before ++ begun last ∷ []) drained
    → DrainsInTurn (ended o (before ++ begun last ∷ [])) drained
ends_front before last o drained over order was = record {
  making = λ on. was.making (ap is_making (phase_before before last) ∙ still (cases_Bool (is_making (phase_of before))) (ap is_making (sym phase_then) ∙ on));
  left = λ on active. ends_left before last o drained over order was (ap is_left (sym phase_then) ∙ on) (ap is_activated (sym (ended_front o before last)) ∙ active);
  deactivating = λ on. was.deactivating (sym (last_ended is_deactivate o (before ++ begun last ∷ [])) ∙ on);
}
  where
    phase_then : phase_of (ended o (before ++ begun last ∷ [])) ≡ phase_by last (Some o) (phase_of before)
    phase_then = ap phase_of (ended_front o before last) ∙ phase_over before (done_with last o) Making

    still : (is_making (phase_of before) ≡ true) ⊎ (is_making (phase_of before) ≡ false) → is_making (phase_by last (Some o) (phase_of before)) ≡ true → is_making (phase_of before) ≡ true
    still (inl on) then = on
    still (inr off) then = absurd (both_ways (is_making (phase_by last (Some o) (phase_of before))) (never_by last (Some o) (phase_of before) off) then)

ends_in_turn : (calls : List Called) (o : Outcome) (drained : Bool) → is_sequence calls ≡ true → is_outstanding calls ≡ true → DrainsInTurn calls drained → DrainsInTurn (ended o calls) drained
ends_in_turn calls o drained order out was =
    let f = front_of calls (one_at_a_time_of calls order) out in
    subst (λ (cs : List Called). DrainsInTurn (ended o cs) drained) (sym f.whole)
    (ends_front f.before f.last o drained f.over (subst (λ (cs : List Called). is_sequence cs ≡ true) f.whole order) (subst (λ (cs : List Called). DrainsInTurn cs drained) f.whole was))

-- ---- a drain that is posted

active_neither : (phase : Phase) → is_active_phase phase ≡ true → is_making phase ≡ true → ⊥
active_neither Making active making = false≢true active
active_neither Active active making = false≢true making
active_neither Left active making = false≢true making

drains_now : (calls : List Called) → is_active_phase (phase_of calls) ≡ true → DrainsInTurn calls true
drains_now calls active = record { making = λ on. absurd (active_neither (phase_of calls) active on); left = λ on activated. refl; deactivating = λ on. refl }

-- ---- after a step

abbrev AllDrain : List Instance → Type 0
AllDrain is = (i : Instance) → Contains is i → DrainsInTurn i.callbacks i.drained

module _ (w : World) (ordered : AreOrdered w) (each : AllDrain w.instances) where
  mapped_drain : (f : Instance → Instance) → ((j : Instance) → Contains w.instances j → DrainsInTurn (f j).callbacks (f j).drained) → AllDrain (map f w.instances)
  mapped_drain f one i h = let found = mapped_was f w.instances i h in subst (λ (x : Instance). DrainsInTurn x.callbacks x.drained) found.2 (one found.0 found.1)

  module _ (turn instance : ℕ) (callback : Callback) where
    abbrev f : Instance → Instance
    f i = with_callback_begun (before_turn w) turn instance callback i

    told_drain : Tells w instance callback → (j : Instance) → Contains w.instances j → DrainsInTurn (f j).callbacks (f j).drained
    told_drain tells j h = elim (cases_Bool (j.number == instance)) [
      | inl its ↦ (
          let number : j.number ≡ instance = eqb-true j.number instance its in
          let same : tells.one ≡ j =
          one_of (λ (i : Instance). i.number) (all_instances w) ordered.apart tells.one j (in_rest w.whiteboard w.instances tells.one tells.there) (in_rest w.whiteboard w.instances j h) (sym tells.number ∙ sym number) in
          let may : MayComeNext (names_of w j) j.callbacks callback = subst (λ (i : Instance). MayComeNext (names_of w i) i.callbacks callback) same tells.may in
          let drains : is_deactivate callback ≡ true → j.drained ≡ true = subst (λ (i : Instance). is_deactivate callback ≡ true → i.drained ≡ true) same tells.drains in
          subst (λ (b : Bool). DrainsInTurn (f j).callbacks b) (sym (told_drained (before_turn w) turn instance callback j))
          (subst (λ (calls : List Called). DrainsInTurn calls j.drained) (sym (told_one (before_turn w) turn instance callback j number))
          (begins_in_turn j.callbacks j.drained callback (ordered.each j h).some may.ended may.order drains (each j h))))
      | inr other ↦ subst (λ (i : Instance). DrainsInTurn i.callbacks i.drained) (sym (told_other (before_turn w) turn instance callback j (λ e. both_ways (j.number == instance) other (eq-eqb j.number instance e)))) (each j h)
    ]

  module _ (turn instance configuration consumer : ℕ) (callback : Callback) (chosen : List Choice) where
    abbrev begins : Step
    begins = Begin turn instance configuration consumer callback chosen

    all_told : ((j : Instance) → Contains w.instances j → DrainsInTurn (f turn instance callback j).callbacks (f turn instance callback j).drained) → is_create callback ≡ false → AllDrain (instances_told begins w)
    all_told one no_create = elim (begun_cases callback) [
      | inl create ↦ absurd (both_ways (is_create callback) no_create (ap is_create create))
      | inr same ↦ subst (λ (is : List Instance). AllDrain is) (sym (same (before_turn w) turn instance configuration consumer chosen)) (mapped_drain (f turn instance callback) one)
    ]

    begun_drain : Makes w instance callback ⊎ (Tells w instance callback ⊎ TellsBoard w instance callback) → AllDrain (instances_told begins w)
    begun_drain (inl makes) = subst (λ (c : Callback). AllDrain (begun_by (before_turn w) turn instance configuration consumer c chosen)) (sym makes.creates)
        (λ i h. elim (in_either w.instances (created_at (before_turn w) turn instance configuration consumer chosen ∷ []) i h) [
          | inl old ↦ each i old
          | inr new ↦ subst (λ (x : Instance). DrainsInTurn x.callbacks x.drained) (alone (created_at (before_turn w) turn instance configuration consumer chosen) i new)
              (record { making = λ on. refl; left = λ on activated. absurd (false≢true on); deactivating = λ on. absurd (false≢true on) })
        ])
    begun_drain (inr (inl tells)) = all_told (told_drain turn instance callback tells) tells.no_create
    begun_drain (inr (inr board)) =
        all_told (λ j k. subst (λ (x : Instance). DrainsInTurn x.callbacks x.drained) (sym (told_other (before_turn w) turn instance callback j (λ e. no_board w ordered turn instance callback j k (e ∙ board.number)))) (each j k)) board.no_create

  ended_drain : (turn : ℕ) (outcome : Outcome) (j : Instance) → Contains w.instances j → DrainsInTurn (ended_in turn outcome w.generations j).callbacks (ended_in turn outcome w.generations j).drained
  ended_drain turn outcome j h = go (has_turn turn j) refl
    where
      go : (b : Bool) → has_turn turn j ≡ b → DrainsInTurn (cond b (with_outcome outcome w.generations j) j).callbacks (cond b (with_outcome outcome w.generations j) j).drained
      go true its = ends_in_turn j.callbacks outcome j.drained (ordered.each j h).order (and_parts (j.turn == turn) (is_outstanding j.callbacks) its).1 (each j h)
      go false other = each j h

  posted_drain : (instance : ℕ) → list_any (λ (i : Instance). (i.number == instance) && awaits_drain w i) w.instances ≡ true → (j : Instance) → Contains w.instances j → DrainsInTurn (drained_in instance j).callbacks (drained_in instance j).drained
  posted_drain instance some j h = go (j.number == instance) refl
    where
      go : (b : Bool) → (j.number == instance) ≡ b → DrainsInTurn (cond b (record j { drained = true }) j).callbacks (cond b (record j { drained = true }) j).drained
      go true its =
          let found = any_found (λ (i : Instance). (i.number == instance) && awaits_drain w i) w.instances some in
          let both = and_parts (found.0.number == instance) (awaits_drain w found.0) found.2 in
          let active = (and_parts (is_active_instance found.0) (ends w found.0) (and_parts (is_draining w found.0) (not found.0.drained) both.1).0).0 in
          let same : found.0 ≡ j = one_of (λ (i : Instance). i.number) (all_instances w) ordered.apart found.0 j (in_rest w.whiteboard w.instances found.0 found.1) (in_rest w.whiteboard w.instances j h) (eqb-true found.0.number instance both.0 ∙ sym (eqb-true j.number instance its)) in
          drains_now j.callbacks (ap is_active_instance (sym same) ∙ active)
      go false other = each j h

  drains_after : (step : Step) → MayCome w step → AllDrain (instances_told step w)
  drains_after (Commanded command) may = each
  drains_after (Begin turn instance configuration consumer callback chosen) may = begun_drain turn instance configuration consumer callback chosen (begin_is w ordered turn instance configuration consumer callback chosen may)
  drains_after (End turn outcome) may = mapped_drain (ended_in turn outcome w.generations) (ended_drain turn outcome)
  drains_after (Drained instance) may = mapped_drain (drained_in instance) (posted_drain instance may)
  drains_after (Got bundle service) may = each
  drains_after (Released place) may = each

pub legal_drains : (limit : ℕ) (past : History) → IsLegal limit past → (i : Instance) → Contains (world_of past).instances i → DrainsInTurn i.callbacks i.drained
unfolding world_of world_after_entry world_after_step
legal_drains limit [] legal i h = absurd (in_none i h)
legal_drains limit (entry ∷ past) legal i h =
    drains_after (world_of past) (legal_ordered limit past legal.1) (legal_drains limit past legal.1) entry.step legal.0.step i (told_of (world_of past) entry.step i h)
