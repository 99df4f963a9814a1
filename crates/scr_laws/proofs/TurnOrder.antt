-- No two living instances, that of the whiteboard among them, were told last by one turn.
use Rattle.std.proofs.Common.{◌≡◌, ◌≤◌, ℕ, ◌+◌, List, [], ◌∷◌, ◌++◌, ap, sym, ◌∙◌, refl, subst, cond, arith, Bool, true, false, inl, inr, ◌⊎◌}
use Rattle.std.specs.Prelude.{map, not, ◌==◌}
use Rattle.std.specs.List.{Contains}
use Rattle.std.proofs.lemmas.Bool.{and_from, both_ways, cases_Bool, eqb-true}
use Rattle.callback_orders.specs.declared.callback.Callback.{Callback}
use Rattle.callback_orders.specs.declared.callback.Callback.TheVariants.{Create, Bind, Updated, Unbind, Activate, Modified, Deactivate, Destroy}
use Rattle.callback_orders.specs.declared.callback.Outcome.{Outcome}
use Rattle.callback_orders.specs.Grammar.{is_create}
use Rattle.callback_orders.specs.Sequences.{begun}
use Rattle.component_state.specs.declared.origin.Choice.{Choice}
use Rattle.component_state.specs.Inside.Ready.{are_apart}
use Rattle.component_state.proofs.Apart.{in_either, in_none, keyed, kept_was}
use Rattle.prop_map.specs.Words.{has}
use Rattle.scr_laws.proofs.LivingLaws.{AreTold, legal_told}
use Rattle.scr_laws.proofs.InstanceLemmas.{alone, begun_cases, mapped_was}
use Rattle.scr_laws.proofs.Numbering.{next_turn}
use Rattle.scr_world.specs.Instances.{BeforeTurn, begun_by, created_at, drained_in, ended_in, has_turn, lives_on, with_callback_begun, with_effect_of_begin, with_outcome}
use Rattle.scr_world.specs.Legal.{IsLegal, MayCome}
use Rattle.scr_world.specs.Lists.{world_after_entry, world_of}
use Rattle.scr_world.specs.Steps.{History}
use Rattle.scr_world.specs.Stepping.{before_turn, begins_by, instances_by, instances_told, whiteboard_by, world_after_step}
use Rattle.scr_world.specs.Worlds.{all_instances}
use Rattle.scr_world.specs.declared.instance.Instance.{Instance}
use Rattle.scr_world.specs.declared.step.Step.{Step}
use Rattle.scr_world.specs.declared.step.Step.TheVariants.{Command as Commanded, Begin, End, Drained, Got, Released}
use Rattle.scr_world.specs.declared.world.World.{World}
use Rattle.scr_laws.proofs.Begins.{Makes, Tells, TellsBoard, begin_is}
use Rattle.scr_laws.proofs.LegalOrder.{legal_ordered}
use Rattle.scr_laws.proofs.Ordered.{AreOrdered}
use Rattle.scr_laws.proofs.Sequences.{no_board}

-- that of the whiteboard was told last by a turn that has begun, and by none of another instance
pub record IsBoardApart (board : Instance) (is : List Instance) (turns : ℕ) : Type 0 where
  pub begun_by_then : board.turn ≤ turns
  pub apart : (i : Instance) → Contains is i → i.turn ≡ board.turn → ⊥

taken_turn : (m : BeforeTurn) (callback : Callback) (i : Instance) → (with_effect_of_begin m callback i).turn ≡ i.turn
taken_turn m Create i = refl
taken_turn m (Bind reference service) i = refl
taken_turn m (Updated reference service) i = refl
taken_turn m (Unbind reference service) i = refl
taken_turn m Activate i = refl
taken_turn m Modified i = refl
taken_turn m Deactivate i = refl
taken_turn m Destroy i = refl

module _ (m : BeforeTurn) (turn instance : ℕ) (callback : Callback) where
  turn_of : (i : Instance) → (with_callback_begun m turn instance callback i).turn ≡ cond (i.number == instance) turn i.turn
  turn_of i = go (i.number == instance)
    where
      go : (b : Bool) → (cond b (with_effect_of_begin m callback (record i { turn = turn; callbacks = i.callbacks ++ begun callback ∷ [] })) i).turn ≡ cond b turn i.turn
      go true = taken_turn m callback (record i { turn = turn; callbacks = i.callbacks ++ begun callback ∷ [] })
      go false = refl

ended_turn : (turn : ℕ) (outcome : Outcome) (generations : List ℕ) (i : Instance) → (ended_in turn outcome generations i).turn ≡ i.turn
ended_turn turn outcome generations i = go (has_turn turn i)
  where
    go : (b : Bool) → (cond b (with_outcome outcome generations i) i).turn ≡ i.turn
    go true = refl
    go false = refl

drained_turn : (instance : ℕ) (i : Instance) → (drained_in instance i).turn ≡ i.turn
drained_turn instance i = go (i.number == instance)
  where
    go : (b : Bool) → (cond b (record i { drained = true }) i).turn ≡ i.turn
    go true = refl
    go false = refl

module _ (w : World) (told : AreTold w.instances w.instances_numbered w.turns_begun) (ordered : AreOrdered w) (was : IsBoardApart w.whiteboard w.instances w.turns_begun) where
  left : IsBoardApart w.whiteboard w.instances (w.turns_begun + 0)
  left = record { begun_by_then = (let low = was.begun_by_then in omega (arith, low)); apart = was.apart }

  same_turns : (board : Instance) (f : Instance → Instance) → board.turn ≡ w.whiteboard.turn → ((i : Instance) → (f i).turn ≡ i.turn) → IsBoardApart board (map f w.instances) (w.turns_begun + 0)
  same_turns board f own same = record {
    begun_by_then = (let low = was.begun_by_then in omega (arith, low, own));
    apart = λ i h e. let found = mapped_was f w.instances i h in
        was.apart found.0 found.1 (sym (same found.0) ∙ ap (λ (x : Instance). x.turn) found.2 ∙ e ∙ own);
  }

  module _ (turn instance configuration consumer : ℕ) (callback : Callback) (chosen : List Choice) (next : turn ≡ w.turns_begun + 1) where
    abbrev begins : Step
    begins = Begin turn instance configuration consumer callback chosen

    abbrev f : Instance → Instance
    f i = with_callback_begun (before_turn w) turn instance callback i

    board_low : (f w.whiteboard).turn ≤ w.turns_begun + 1
    board_low = go (w.whiteboard.number == instance) (turn_of (before_turn w) turn instance callback w.whiteboard)
      where
        go : (b : Bool) → (f w.whiteboard).turn ≡ cond b turn w.whiteboard.turn → (f w.whiteboard).turn ≤ w.turns_begun + 1
        go true is = omega (arith, is, next)
        go false is = (let low = was.begun_by_then in omega (arith, is, low))

    -- an instance and that of the whiteboard, not both of which are told
    both_apart : (i : Instance) → Contains w.instances i → (f i).turn ≡ (f w.whiteboard).turn → ⊥
    both_apart i h e = go (i.number == instance) (w.whiteboard.number == instance) refl refl (sym (turn_of (before_turn w) turn instance callback i) ∙ e ∙ turn_of (before_turn w) turn instance callback w.whiteboard)
      where
        go : (p q : Bool) → (i.number == instance) ≡ p → (w.whiteboard.number == instance) ≡ q → cond p turn i.turn ≡ cond q turn w.whiteboard.turn → ⊥
        go true true on also same = no_board w ordered turn instance callback i h (eqb-true i.number instance on ∙ sym (eqb-true w.whiteboard.number instance also))
        go true false on off same = let low = was.begun_by_then in omega (arith, low, same, next)
        go false true off on same = let low = told.told i h in omega (arith, low, same, next)
        go false false off also same = was.apart i h same

    new_apart : (w.whiteboard.number ≡ instance → ⊥) → turn ≡ (f w.whiteboard).turn → ⊥
    new_apart other e = go (w.whiteboard.number == instance) refl (turn_of (before_turn w) turn instance callback w.whiteboard)
      where
        go : (b : Bool) → (w.whiteboard.number == instance) ≡ b → (f w.whiteboard).turn ≡ cond b turn w.whiteboard.turn → ⊥
        go true its is = other (eqb-true w.whiteboard.number instance its)
        go false off is = let low = was.begun_by_then in omega (arith, low, is, e, next)

    begun_apart : MayCome w begins → (i : Instance) → Contains (instances_told begins w) i → i.turn ≡ (f w.whiteboard).turn → ⊥
    begun_apart may i h e = elim (begun_cases callback) [
      | inl create ↦ (
          let new = created_at (before_turn w) turn instance configuration consumer chosen in
          elim (in_either w.instances (new ∷ []) i (subst (λ (c : Callback). Contains (begun_by (before_turn w) turn instance configuration consumer c chosen) i) create h)) [
            | inl old ↦ both_old i old e
            | inr added ↦ new_apart (λ same. new_number same (begin_is w ordered turn instance configuration consumer callback chosen may) create) (ap (λ (x : Instance). x.turn) (alone new i added) ∙ e)
          ])
      | inr tells ↦ (
          let found = mapped_was f w.instances i (subst (λ (is : List Instance). Contains is i) (tells (before_turn w) turn instance configuration consumer chosen) h) in
          both_apart found.0 found.1 (ap (λ (x : Instance). x.turn) found.2 ∙ e))
    ]
      where
        both_old : (j : Instance) → Contains w.instances j → j.turn ≡ (f w.whiteboard).turn → ⊥
        both_old j k same = go (w.whiteboard.number == instance) (turn_of (before_turn w) turn instance callback w.whiteboard)
          where
            go : (b : Bool) → (f w.whiteboard).turn ≡ cond b turn w.whiteboard.turn → ⊥
            go true is = let low = told.told j k in omega (arith, low, same, is, next)
            go false is = was.apart j k (same ∙ is)

        new_number : w.whiteboard.number ≡ instance → Makes w instance callback ⊎ (Tells w instance callback ⊎ TellsBoard w instance callback) → callback ≡ Create → ⊥
        new_number same (inl makes) create = let zero = ordered.board.number in let number = makes.next in omega (arith, zero, number, same)
        new_number same (inr (inl tells)) create = no_board w ordered turn instance callback tells.one tells.there (sym tells.number ∙ sym same)
        new_number same (inr (inr board)) create = both_ways (is_create callback) board.no_create (ap is_create create)

  step_apart : (step : Step) → MayCome w step → IsBoardApart (whiteboard_by step w) (instances_told step w) (w.turns_begun + begins_by step)
  step_apart (Commanded command) may = left
  step_apart (Begin turn instance configuration consumer callback chosen) may =
      let next = next_turn w turn instance configuration consumer callback chosen may in
      record { begun_by_then = board_low turn instance configuration consumer callback chosen next; apart = begun_apart turn instance configuration consumer callback chosen next may }
  step_apart (End turn outcome) may = same_turns (ended_in turn outcome w.generations w.whiteboard) (ended_in turn outcome w.generations) (ended_turn turn outcome w.generations w.whiteboard) (ended_turn turn outcome w.generations)
  step_apart (Drained instance) may = same_turns w.whiteboard (drained_in instance) refl (drained_turn instance)
  step_apart (Got bundle service) may = left
  step_apart (Released place) may = left

fewer_apart : (step : Step) (w : World) → IsBoardApart (whiteboard_by step w) (instances_told step w) (w.turns_begun + begins_by step) → IsBoardApart (whiteboard_by step w) (instances_by step w) (w.turns_begun + begins_by step)
fewer_apart (Commanded command) w was = was
fewer_apart (Begin turn instance configuration consumer callback chosen) w was = was
fewer_apart (End turn outcome) w was = record { begun_by_then = was.begun_by_then; apart = λ i h e. was.apart i (kept_was lives_on (instances_told (End turn outcome) w) i h).0 e }
fewer_apart (Drained instance) w was = was
fewer_apart (Got bundle service) w was = was
fewer_apart (Released place) w was = was

legal_board_apart : (limit : ℕ) (past : History) → IsLegal limit past → IsBoardApart (world_of past).whiteboard (world_of past).instances (world_of past).turns_begun
unfolding world_of world_after_entry world_after_step
legal_board_apart limit [] legal = record { begun_by_then = omega arith; apart = λ i h. absurd (in_none i h) }
legal_board_apart limit (entry ∷ past) legal =
    fewer_apart entry.step (world_of past) (step_apart (world_of past) (legal_told limit past legal.1) (legal_ordered limit past legal.1) (legal_board_apart limit past legal.1) entry.step legal.0.step)

pub legal_turns_apart : (limit : ℕ) (past : History) → IsLegal limit past → are_apart (map (λ (i : Instance). i.turn) (all_instances (world_of past))) ≡ true
legal_turns_apart limit past legal =
    and_from (not (has (map (λ (i : Instance). i.turn) (world_of past).instances) (world_of past).whiteboard.turn)) (are_apart (map (λ (i : Instance). i.turn) (world_of past).instances))
    (ap not (off (cases_Bool (has (map (λ (i : Instance). i.turn) (world_of past).instances) (world_of past).whiteboard.turn)))) (legal_told limit past legal).turns
  where
    off : (has (map (λ (i : Instance). i.turn) (world_of past).instances) (world_of past).whiteboard.turn ≡ true) ⊎ (has (map (λ (i : Instance). i.turn) (world_of past).instances) (world_of past).whiteboard.turn ≡ false)
        → has (map (λ (i : Instance). i.turn) (world_of past).instances) (world_of past).whiteboard.turn ≡ false
    off (inr is) = is
    off (inl is) =
        let found = keyed (λ (i : Instance). i.turn) (world_of past).instances (world_of past).whiteboard.turn is in
        absurd ((legal_board_apart limit past legal).apart found.0 found.1 found.2)
