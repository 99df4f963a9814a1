-- An instance is drained exactly where its drain stands in the journal.
use Rattle.std.proofs.Common.{◌≡◌, ◌<◌, ◌≤◌, ℕ, zero, suc, List, [], ◌∷◌, ◌++◌, ap, sym, ◌∙◌, refl, subst, cond, arith, Bool, true, false, ◌||◌, inl, inr}
use Rattle.std.specs.Prelude.{map, not, ◌&&◌, ◌==◌}
use Rattle.std.specs.List.{Contains}
use Rattle.std.proofs.lemmas.Bool.{and_parts, both_ways, cases_Bool, eq-eqb, eqb-true, ne_eqb, or_cases}
use Rattle.callback_orders.specs.declared.callback.Callback.{Callback}
use Rattle.callback_orders.specs.declared.callback.Callback.TheVariants.{Create, Bind, Updated, Unbind, Activate, Modified, Deactivate, Destroy}
use Rattle.callback_orders.specs.declared.callback.Outcome.{Outcome}
use Rattle.callback_orders.specs.Sequences.{begun}
use Rattle.component_state.specs.declared.origin.Choice.{Choice}
use Rattle.component_state.specs.Inside.Ready.{are_apart}
use Rattle.component_state.proofs.Apart.{any_found, in_either, in_none, kept_was, key_in, not_true}
use Rattle.journal_core.specs.declared.entry.Entry.{Entry}
use Rattle.prop_map.specs.Words.{has}
use Rattle.scr_promises.proofs.Comings.{its_number}
use Rattle.scr_promises.proofs.EndingLaws.{board_number}
use Rattle.scr_laws.proofs.LivingLaws.{legal_told}
use Rattle.scr_laws.proofs.TurnCallbacks.{are_told_apart}
use Rattle.scr_laws.proofs.Listed.{mapped_was, single}
use Rattle.scr_laws.proofs.InstanceLemmas.{begun_cases, drained_same, ended_same, told_same}
use Rattle.scr_laws.proofs.Numbering.{made_is_next}
use Rattle.scr_promises.specs.Reserves.{drains, has_drain}
use Rattle.scr_world.specs.Instances.{BeforeTurn, begun_by, created_at, drained_in, ended_in, has_turn, lives_on, with_callback_begun, with_effect_of_begin, with_outcome}
use Rattle.scr_world.specs.Legal.{IsLegal, MayCome, awaits_drain}
use Rattle.scr_world.specs.Lists.{world_after_entry, world_of}
use Rattle.scr_world.specs.Steps.{History}
use Rattle.scr_world.specs.Stepping.{before_turn, instances_by, instances_told, whiteboard_by, world_after_step}
use Rattle.scr_world.specs.declared.instance.Instance.{Instance}
use Rattle.scr_world.specs.declared.step.Step.{Step}
use Rattle.scr_world.specs.declared.step.Step.TheVariants.{Command as Commanded, Begin, End, Drained, Got, Released}
use Rattle.scr_world.specs.declared.world.World.{World}

-- ---- what is left as it is

taken_drained : (m : BeforeTurn) (callback : Callback) (i : Instance) → (with_effect_of_begin m callback i).drained ≡ i.drained
taken_drained m Create i = refl
taken_drained m (Bind reference service) i = refl
taken_drained m (Updated reference service) i = refl
taken_drained m (Unbind reference service) i = refl
taken_drained m Activate i = refl
taken_drained m Modified i = refl
taken_drained m Deactivate i = refl
taken_drained m Destroy i = refl

told_drained : (m : BeforeTurn) (turn instance : ℕ) (callback : Callback) (i : Instance) → (with_callback_begun m turn instance callback i).drained ≡ i.drained
told_drained m turn instance callback i = go (i.number == instance)
  where
    go : (b : Bool) → (cond b (with_effect_of_begin m callback (record i { turn = turn; callbacks = i.callbacks ++ begun callback ∷ [] })) i).drained ≡ i.drained
    go true = taken_drained m callback (record i { turn = turn; callbacks = i.callbacks ++ begun callback ∷ [] })
    go false = refl

ended_drained : (turn : ℕ) (outcome : Outcome) (generations : List ℕ) (i : Instance) → (ended_in turn outcome generations i).drained ≡ i.drained
ended_drained turn outcome generations i = go (has_turn turn i)
  where
    go : (b : Bool) → (cond b (with_outcome outcome generations i) i).drained ≡ i.drained
    go true = refl
    go false = refl

drained_by : (instance : ℕ) (i : Instance) (before : Bool) → i.drained ≡ before → (drained_in instance i).drained ≡ ((instance == i.number) || before)
drained_by instance i before is = go (i.number == instance) refl
  where
    go : (b : Bool) → (i.number == instance) ≡ b → (cond b (record i { drained = true }) i).drained ≡ ((instance == i.number) || before)
    go true mine = sym (ap (λ b. b || before) (eq-eqb instance i.number (sym (eqb-true i.number instance mine))))
    go false other = is ∙ sym (ap (λ b. b || before) (ne_eqb instance i.number (λ e. both_ways (i.number == instance) other (eq-eqb i.number instance (sym e)))))

-- ---- over a journal

record AreDrained (journal : History) : Type 0 where
  each : (i : Instance) → Contains (world_of journal).instances i → i.drained ≡ has_drain journal i.number
  board : (world_of journal).whiteboard.drained ≡ false
  made : (n : ℕ) → has_drain journal n ≡ true → (0 < n) × (n ≤ (world_of journal).instances_numbered)

module _ (limit : ℕ) (past : History) (legal : IsLegal limit past) (before : AreDrained past) where
  abbrev w : World
  w = world_of past

  abbrev Now : Step → Instance → Type 0
  Now step i = i.drained ≡ (drains i.number step || has_drain past i.number)

  of_map : (step : Step) (f : Instance → Instance) → ((i : Instance) → (f i).number ≡ i.number) → ((i : Instance) → i.drained ≡ has_drain past i.number → (f i).drained ≡ (drains i.number step || has_drain past i.number)) → (i : Instance) → Contains (map f w.instances) i → Now step i
  of_map step f number drained i h =
      let was = mapped_was f w.instances i h in
      subst (λ (x : Instance). Now step x) was.1.1 (drained was.0 (before.each was.0 was.1.0) ∙ ap (λ n. drains n step || has_drain past n) (sym (number was.0)))

  new_one : (turn instance configuration consumer : ℕ) (chosen : List Choice) → MayCome w (Begin turn instance configuration consumer Create chosen) → has_drain past instance ≡ false
  new_one turn instance configuration consumer chosen may = elim (cases_Bool (has_drain past instance)) [
    | inr off ↦ off
    | inl on ↦ (let low = before.made instance on in let next = made_is_next w turn instance configuration consumer chosen may in let high = low.1 in absurd (omega (arith, high, next)))
  ]

  begun_now : (turn instance configuration consumer : ℕ) (callback : Callback) (chosen : List Choice) → MayCome w (Begin turn instance configuration consumer callback chosen) → (i : Instance) → Contains (begun_by (before_turn w) turn instance configuration consumer callback chosen) i → i.drained ≡ has_drain past i.number
  begun_now turn instance configuration consumer callback chosen may i h = elim (begun_cases callback) [
    | inr tells ↦ of_map (Begin turn instance configuration consumer callback chosen) (with_callback_begun (before_turn w) turn instance callback) (λ j. (told_same (before_turn w) turn instance callback j).number) (λ j is. told_drained (before_turn w) turn instance callback j ∙ is) i
        (subst (λ (is : List Instance). Contains is i) (tells (before_turn w) turn instance configuration consumer chosen) h)
    | inl create ↦ (
        let new = created_at (before_turn w) turn instance configuration consumer chosen in
        elim (in_either w.instances (new ∷ []) i (subst (λ (c : Callback). Contains (begun_by (before_turn w) turn instance configuration consumer c chosen) i) create h)) [
          | inl old ↦ before.each i old
          | inr added ↦ subst (λ (x : Instance). x.drained ≡ has_drain past x.number) (single new i added) (sym (new_one turn instance configuration consumer chosen (subst (λ (c : Callback). MayCome w (Begin turn instance configuration consumer c chosen)) create may)))
        ])
  ]

  now_by : (step : Step) → MayCome w step → (i : Instance) → Contains (instances_by step w) i → Now step i
  now_by (Commanded command) may i h = before.each i h
  now_by (Begin turn instance configuration consumer callback chosen) may i h = begun_now turn instance configuration consumer callback chosen may i h
  now_by (End turn outcome) may i h = of_map (End turn outcome) (ended_in turn outcome w.generations) (λ j. (ended_same turn outcome w.generations j).number) (λ j is. ended_drained turn outcome w.generations j ∙ is) i (kept_was lives_on (instances_told (End turn outcome) w) i h).0
  now_by (Drained instance) may i h = of_map (Drained instance) (drained_in instance) (λ j. (drained_same instance j).number) (λ j is. drained_by instance j (has_drain past j.number) is) i h
  now_by (Got bundle service) may i h = before.each i h
  now_by (Released place) may i h = before.each i h

  board_by : (step : Step) → (whiteboard_by step w).drained ≡ false
  board_by (Commanded command) = before.board
  board_by (Begin turn instance configuration consumer callback chosen) = told_drained (before_turn w) turn instance callback w.whiteboard ∙ before.board
  board_by (End turn outcome) = ended_drained turn outcome w.generations w.whiteboard ∙ before.board
  board_by (Drained instance) = before.board
  board_by (Got bundle service) = before.board
  board_by (Released place) = before.board

  -- a made instance has a number above that of the whiteboard's
  no_zero : (i : Instance) → Contains w.instances i → i.number ≡ 0 → ⊥
  no_zero i h is =
      both_ways (has (map its_number w.instances) w.whiteboard.number) (not_true (has (map its_number w.instances) w.whiteboard.number) (and_parts (not (has (map its_number w.instances) w.whiteboard.number)) (are_apart (map its_number w.instances)) (are_told_apart limit past legal).numbers).0)
      (ap (has (map its_number w.instances)) (board_number past ∙ sym is) ∙ key_in its_number w.instances i h)

  above : (k : ℕ) → (k ≡ 0 → ⊥) → 0 < k
  above zero some = absurd (some refl)
  above (suc k) some = omega arith

  -- a drain is that of an instance
  drain_of : (step : Step) → MayCome w step → (n : ℕ) → drains n step ≡ true → (0 < n) × (n ≤ w.instances_numbered)
  drain_of (Commanded command) may n on = cc
  drain_of (Begin turn instance configuration consumer callback chosen) may n on = cc
  drain_of (End turn outcome) may n on = cc
  drain_of (Got bundle service) may n on = cc
  drain_of (Released place) may n on = cc
  drain_of (Drained instance) may n on =
      let i = any_found (λ (j : Instance). (j.number == instance) && awaits_drain w j) w.instances may in
      let number : i.0.number ≡ n = eqb-true i.0.number instance (and_parts (i.0.number == instance) (awaits_drain w i.0) i.2).0 ∙ eqb-true instance n on in
      let low = (legal_told limit past legal).numbered i.0 i.1 in
      (above n (λ zero. no_zero i.0 i.1 (number ∙ zero)), omega (arith, low, number))

  made_by : (entry : Entry Step) → MayCome w entry.step → (n : ℕ) → has_drain (entry ∷ past) n ≡ true → (0 < n) × (n ≤ w.instances_numbered)
  made_by entry may n on = elim (or_cases (drains n entry.step) (has_drain past n) on) [
    | inl now ↦ drain_of entry.step may n now
    | inr then ↦ before.made n then
  ]

drained_then : (limit : ℕ) (entry : Entry Step) (past : History) → IsLegal limit (entry ∷ past) → AreDrained past → AreDrained (entry ∷ past)
unfolding world_of world_after_entry world_after_step
drained_then limit entry past legal before = record {
  each = now_by limit past legal.1 before entry.step legal.0.step;
  board = board_by limit past legal.1 before entry.step;
  made = λ n on. (let low = made_by limit past legal.1 before entry legal.0.step n on in let high = low.1 in (low.0, omega (arith, high)));
}

drained_first : AreDrained []
unfolding world_of
drained_first = record { each = λ i h. absurd (in_none i h); board = refl; made = λ n on. cc }

are_drained : (limit : ℕ) (past : History) → IsLegal limit past → AreDrained past
are_drained limit [] legal = drained_first
are_drained limit (entry ∷ past) legal = drained_then limit entry past legal (are_drained limit past legal.1)

pub drained_is : (limit : ℕ) (past : History) → IsLegal limit past → (i : Instance) → Contains (world_of past).instances i → i.drained ≡ has_drain past i.number
drained_is limit past legal = (are_drained limit past legal).each

-- the whiteboard's instance is never drained
pub board_drained : (limit : ℕ) (past : History) → IsLegal limit past → (world_of past).whiteboard.drained ≡ has_drain past (world_of past).whiteboard.number
board_drained limit past legal = (are_drained limit past legal).board ∙ sym (ap (has_drain past) (board_number past) ∙ none)
  where
    none : has_drain past 0 ≡ false
    none = elim (cases_Bool (has_drain past 0)) [
      | inr off ↦ off
      | inl on ↦ (let high = ((are_drained limit past legal).made 0 on).0 in absurd (omega (arith, high)))
    ]
