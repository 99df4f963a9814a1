-- The turns of a legal journal: each living instance was told last in a turn of its own, that of the whiteboard too, and has a number of its own.
use Rattle.std.proofs.Common.{◌≡◌, ◌≤◌, ℕ, ◌+◌, List, [], ◌∷◌, ◌++◌, ap, sym, ◌∙◌, refl, subst, cond, Bool, true, false, Option, Some, None, inl, inr, ◌⊎◌, arith}
use Rattle.std.specs.Prelude.{map, ◌==◌, option_map, option_and_then}
use Rattle.std.specs.List.{Contains}
use Rattle.std.proofs.lemmas.Bool.{eqb-true, eq-eqb, and_parts}
use Rattle.callback_orders.specs.declared.callback.Callback.{Callback}
use Rattle.callback_orders.specs.declared.callback.Callback.TheVariants.{Create, Bind, Updated, Unbind, Activate, Modified, Deactivate, Destroy}
use Rattle.callback_orders.specs.declared.due.DueRef.{DueRef}
use Rattle.callback_orders.specs.declared.due.DueRef.TheVariants.{Create as CreateDue, Bind as BindDue, Updated as UpdatedDue, Unbind as UnbindDue, Activate as ActivateDue, Modified as ModifiedDue, Deactivate as DeactivateDue, Destroy as DestroyDue}
use Rattle.callback_orders.specs.Grammar.{is_create}
use Rattle.callback_orders.specs.Sequences.{begun, have_ended, is_outstanding}
use Rattle.component_state.specs.declared.origin.Choice.{Choice}
use Rattle.component_state.specs.Inside.Ready.{are_apart}
use Rattle.component_state.proofs.Apart.{in_cases, in_first, in_rest, one_of}
use Rattle.scr_laws.proofs.Begins.{Makes, Tells, TellsBoard, begin_is}
use Rattle.scr_laws.proofs.LegalOrder.{legal_ordered}
use Rattle.scr_laws.proofs.Ordered.{AreOrdered}
use Rattle.scr_laws.proofs.Sequences.{no_board}
use Rattle.scr_laws.proofs.TurnOrder.{legal_turns_apart}
use Rattle.scr_laws.proofs.LivingLaws.{legal_told}
use Rattle.scr_laws.proofs.Numbering.{next_turn}
use Rattle.scr_world.specs.Dues.{begin_for, begin_of, due_in, next_begin}
use Rattle.scr_world.specs.Instances.{BeforeTurn, has_turn, with_callback_begun, with_effect_of_begin, with_outcome}
use Rattle.scr_world.specs.Legal.{IsLegal, MayCome}
use Rattle.scr_world.specs.Lists.{world_after_entry, world_of}
use Rattle.scr_world.specs.Stepping.{before_turn, begins_by, whiteboard_by, world_after_step}
use Rattle.scr_world.specs.Steps.{History}
use Rattle.scr_world.specs.Worlds.{all_instances}
use Rattle.scr_world.specs.declared.instance.Instance.{Instance}
use Rattle.scr_world.specs.declared.step.Step.{Step}
use Rattle.scr_world.specs.declared.step.Step.TheVariants.{Command as Commanded, Begin, End, Drained, Got, Released}
use Rattle.scr_world.specs.declared.world.World.{World}

-- callbacks are in order, and instances were told last in turns of their own, none of which is to come
pub record AreTold (w : World) : Type 0 where
  pub ordered : AreOrdered w
  pub alone : are_apart (map (λ (i : Instance). i.turn) (all_instances w)) ≡ true
  pub so_far : (i : Instance) → Contains (all_instances w) i → i.turn ≤ w.turns_begun

-- ---- the last turn of the whiteboard's instance

taken_turn : (m : BeforeTurn) (callback : Callback) (i : Instance) → (with_effect_of_begin m callback i).turn ≡ i.turn
taken_turn m Create i = refl
taken_turn m (Bind reference service) i = refl
taken_turn m (Updated reference service) i = refl
taken_turn m (Unbind reference service) i = refl
taken_turn m Activate i = refl
taken_turn m Modified i = refl
taken_turn m Deactivate i = refl
taken_turn m Destroy i = refl

-- an instance that is told of a callback
abbrev told_of : ℕ → Callback → Instance → Instance
told_of turn callback i = record i { turn = turn; callbacks = i.callbacks ++ begun callback ∷ [] }

board_turn : (step : Step) (w : World) → MayCome w step → w.whiteboard.turn ≤ w.turns_begun → (whiteboard_by step w).turn ≤ w.turns_begun + begins_by step
board_turn (Commanded command) w may low = omega (arith, low)
board_turn (Begin turn instance configuration consumer callback chosen) w may low = go (w.whiteboard.number == instance)
  where
    go : (b : Bool) → (cond b (with_effect_of_begin (before_turn w) callback (told_of turn callback w.whiteboard)) w.whiteboard).turn ≤ w.turns_begun + 1
    go true = (let same = taken_turn (before_turn w) callback (told_of turn callback w.whiteboard) in let next = next_turn w turn instance configuration consumer callback chosen may in omega (arith, same, next))
    go false = omega (arith, low)
board_turn (End turn outcome) w may low = go (has_turn turn w.whiteboard)
  where
    go : (b : Bool) → (cond b (with_outcome outcome w.generations w.whiteboard) w.whiteboard).turn ≤ w.turns_begun + 0
    go true = omega (arith, low)
    go false = omega (arith, low)
board_turn (Drained instance) w may low = omega (arith, low)
board_turn (Got bundle service) w may low = omega (arith, low)
board_turn (Released place) w may low = omega (arith, low)

board_legal : (limit : ℕ) (past : History) → IsLegal limit past → (world_of past).whiteboard.turn ≤ (world_of past).turns_begun
unfolding world_of world_after_entry world_after_step
board_legal limit [] legal = omega arith
board_legal limit (entry ∷ past) legal = board_turn entry.step (world_of past) legal.0.step (board_legal limit past legal.1)

-- ---- the turns of a legal journal

pub turns_legal : (limit : ℕ) (journal : History) → IsLegal limit journal → AreTold (world_of journal)
turns_legal limit journal legal = record {
  ordered = legal_ordered limit journal legal;
  alone = legal_turns_apart limit journal legal;
  so_far = λ i h. elim (in_cases (world_of journal).whiteboard (world_of journal).instances i h) [
    | inl board ↦ subst (λ (x : Instance). x.turn ≤ (world_of journal).turns_begun) board (board_legal limit journal legal)
    | inr other ↦ (legal_told limit journal legal).told i other
  ];
}

module _ (w : World) (are : AreTold w) where
  -- a number tells which instance it is
  pub same_number : (i j : Instance) → Contains (all_instances w) i → Contains (all_instances w) j → i.number ≡ j.number → i ≡ j
  same_number i j h k same = one_of (λ (x : Instance). x.number) (all_instances w) are.ordered.apart i j h k same

  -- that of the whiteboard alone has the number 0
  pub never_zero : (i : Instance) → Contains w.instances i → i.number ≡ 0 → ⊥
  never_zero i h zero = no_board w are.ordered 0 0 Create i h (zero ∙ sym are.ordered.board.number)

  -- a turn that is under way is that of one instance alone
  pub one_turn : (turn : ℕ) (i j : Instance) → Contains (all_instances w) i → Contains (all_instances w) j → has_turn turn i ≡ true → has_turn turn j ≡ true → i ≡ j
  one_turn turn i j h k its other =
      let a = eqb-true i.turn turn (and_parts (i.turn == turn) (is_outstanding i.callbacks) its).0 in
      let b = eqb-true j.turn turn (and_parts (j.turn == turn) (is_outstanding j.callbacks) other).0 in
      one_of (λ (x : Instance). x.turn) (all_instances w) are.alone i j h k (a ∙ sym b)

-- ---- the turn that begins next

-- it tells an instance, perhaps that of the whiteboard, whose callbacks have ended
pub record TellsOne (w : World) (instance : ℕ) (callback : Callback) : Type 0 where
  pub one : Instance
  pub there : Contains (all_instances w) one
  pub its_number : one.number ≡ instance
  pub over : have_ended one.callbacks ≡ true
  pub no_create : is_create callback ≡ false

as_one : (w : World) (instance : ℕ) (callback : Callback) → Makes w instance callback ⊎ (Tells w instance callback ⊎ TellsBoard w instance callback) → Makes w instance callback ⊎ TellsOne w instance callback
as_one w instance callback (inl makes) = inl makes
as_one w instance callback (inr (inl tells)) = inr (record {
  one = tells.one;
  there = in_rest w.whiteboard w.instances tells.one tells.there;
  its_number = sym tells.number;
  over = tells.may.ended;
  no_create = tells.no_create;
})
as_one w instance callback (inr (inr board)) = inr (record {
  one = w.whiteboard;
  there = in_first w.whiteboard w.instances;
  its_number = sym board.number;
  over = board.may.ended;
  no_create = board.no_create;
})

-- it makes an instance or tells one
pub makes_or_tells : (w : World) → AreTold w → (turn instance configuration consumer : ℕ) (callback : Callback) (chosen : List Choice) → next_begin w ≡ Some (Begin turn instance configuration consumer callback chosen)
    → Makes w instance callback ⊎ TellsOne w instance callback
makes_or_tells w are turn instance configuration consumer callback chosen is =
    as_one w instance callback (begin_is w are.ordered turn instance configuration consumer callback chosen is)

-- the instance that is told has this turn
pub turn_told : (m : BeforeTurn) (turn instance : ℕ) (callback : Callback) (i : Instance) → i.number ≡ instance → (with_callback_begun m turn instance callback i).turn ≡ turn
turn_told m turn instance callback i its =
    ap (λ b. (cond b (with_effect_of_begin m callback (told_of turn callback i)) i).turn) (eq-eqb i.number instance its) ∙ taken_turn m callback (told_of turn callback i)

-- what begins next is a turn
abbrev pub is_begin : Step → Bool
is_begin (Commanded command) = false
is_begin (Begin turn instance configuration consumer callback chosen) = true
is_begin (End turn outcome) = false
is_begin (Drained instance) = false
is_begin (Got bundle service) = false
is_begin (Released place) = false

module _ (w : World) (step : Step) where
  by_found : (d : DueRef) (found : Option Instance) → option_map (begin_for w d) found ≡ Some step → is_begin step ≡ true
  by_found d None is = cc
  by_found d (Some i) is = let same : begin_for w d i ≡ step = cc in ap is_begin (sym same)

  by_due : (d : DueRef) → begin_of w d ≡ Some step → is_begin step ≡ true
  by_due (CreateDue key) is = cc
  by_due (BindDue i r s) is = by_found (BindDue i r s) _ is
  by_due (UpdatedDue i r s) is = by_found (UpdatedDue i r s) _ is
  by_due (UnbindDue i r s) is = by_found (UnbindDue i r s) _ is
  by_due (ActivateDue i) is = by_found (ActivateDue i) _ is
  by_due (ModifiedDue i) is = by_found (ModifiedDue i) _ is
  by_due (DeactivateDue i) is = by_found (DeactivateDue i) _ is
  by_due (DestroyDue i) is = by_found (DestroyDue i) _ is

  pub begins_next : next_begin w ≡ Some step → is_begin step ≡ true
  begins_next is = go (due_in w) is
    where
      go : (o : Option DueRef) → option_and_then (begin_of w) o ≡ Some step → is_begin step ≡ true
      go None begins = cc
      go (Some d) begins = by_due d begins
