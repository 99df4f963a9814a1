-- No legal journal is stuck.
use Rattle.std.proofs.Common.{◌≡◌, ℕ, subst, sym, refl, arith, true, false, inl, inr, Option, Some, None}
use Rattle.std.specs.Prelude.{◌+◌, ◌==◌, ◌&&◌}
use Rattle.std.specs.List.{Contains, list_any}
use Rattle.std.proofs.lemmas.Bool.{and_from, cases_Bool, eq-eqb, le-leb}
use Rattle.callback_orders.specs.declared.callback.Outcome.{Outcome}
use Rattle.callback_orders.specs.declared.due.DueRef.{DueRef}
use Rattle.callback_orders.specs.Sequences.{is_outstanding}
use Rattle.component_state.proofs.Apart.{any_found, any_from}
use Rattle.scr_laws.proofs.CreatedLaws.{entries_of}
use Rattle.scr_laws.proofs.Reserved.{room_in}
use Rattle.scr_laws.proofs.SomeEntries.{some_entry}
use Rattle.scr_promises.specs.GoingOn.{FollowsWhereRoom, HasDueTurn, HasEntry, IsNotStuck, WaitsFor, for_callback, for_caller, for_nothing, for_platform, for_room}
use Rattle.scr_promises.proofs.DueTurns.{due_turn}
use Rattle.scr_world.specs.Dues.{due_in}
use Rattle.scr_world.specs.Instances.{has_turn}
use Rattle.scr_world.specs.Legal.{IsLegal, MayCome, awaits_drain, is_under_way}
use Rattle.scr_world.specs.Lists.{world_of}
use Rattle.scr_world.specs.Room.{has_room, needed_by, reserved}
use Rattle.scr_world.specs.Steps.{History}
use Rattle.scr_world.specs.Worlds.{all_instances}
use Rattle.scr_world.specs.declared.instance.Instance.{Instance}
use Rattle.scr_world.specs.declared.marks.Token.{Token}
use Rattle.scr_world.specs.declared.step.Step.{Step}
use Rattle.scr_world.specs.declared.step.Step.TheVariants.{End, Drained, Released}
use Rattle.scr_world.specs.declared.world.World.{World}

module _ (limit : ℕ) (past : History) (legal : IsLegal limit past) where
  abbrev w : World
  w = world_of past

  -- what is reserved has room
  reserved_room : has_room limit (world_of past) 0 ≡ true
  unfolding has_room
  reserved_room =
      let fits = room_in limit past legal in let size = entries_of past in
      le-leb ((world_of past).entries + reserved (world_of past) + 0) limit (omega (arith, fits, size))

  reserved_entry : (step : Step) → MayCome w step → needed_by step ≡ 0 → HasEntry limit past step
  reserved_entry step may none = some_entry limit past legal step may (subst (λ n. has_room limit (world_of past) n ≡ true) (sym none) reserved_room)

  ends : (turn : ℕ) → is_under_way w turn ≡ true → (outcome : Outcome) → HasEntry limit past (End turn outcome)
  ends turn on outcome = reserved_entry (End turn outcome) on refl

  drains : (i : Instance) → Contains w.instances i → awaits_drain w i ≡ true → HasEntry limit past (Drained i.number)
  drains i h on = reserved_entry (Drained i.number)
      (any_from (λ (j : Instance). (j.number == i.number) && awaits_drain w j) w.instances i h (and_from (i.number == i.number) (awaits_drain w i) (eq-eqb i.number i.number refl) on)) refl

  releases : (t : Token) → Contains w.tokens t → HasEntry limit past (Released t.place)
  releases t h = reserved_entry (Released t.place) (any_from (λ (s : Token). s.place == t.place) w.tokens t h (eq-eqb t.place t.place refl)) refl

  where_room : (step : Step) → MayCome w step → FollowsWhereRoom limit past step
  where_room step may = (λ entry. subst (λ (s : Step). has_room limit (world_of past) (needed_by s) ≡ true) entry.1 entry.2.room, λ fits. some_entry limit past legal step may fits)

  begins : (due : DueRef) → due_in w ≡ Some due → HasDueTurn limit past
  begins due is = let turn = due_turn w due is in (turn.0, turn.1, where_room turn.0 turn.2)

  -- ---- what it waits for

  waits_due : HasDueTurn limit past → WaitsFor limit past
  waits_due turn = elim (cases_Bool (has_room limit w (needed_by turn.0))) [
    | inl fits ↦ for_platform turn.0 turn.1 (turn.2.1 fits)
    | inr full ↦ for_room turn.0 turn.1 full
  ]

  waits_callback : list_any (λ (i : Instance). is_outstanding i.callbacks) (all_instances w) ≡ true → WaitsFor limit past
  waits_callback on =
      let i = any_found (λ (j : Instance). is_outstanding j.callbacks) (all_instances w) on in
      for_callback i.0.turn (any_from (has_turn i.0.turn) (all_instances w) i.0 i.1 (and_from (i.0.turn == i.0.turn) (is_outstanding i.0.callbacks) (eq-eqb i.0.turn i.0.turn refl) i.2))

  waits_caller : list_any (awaits_drain w) w.instances ≡ true → WaitsFor limit past
  waits_caller on = let i = any_found (awaits_drain w) w.instances on in for_caller i.0 i.1 i.2

  waits_undue : due_in w ≡ None → WaitsFor limit past
  waits_undue none = elim (cases_Bool (list_any (λ (i : Instance). is_outstanding i.callbacks) (all_instances w))) [
    | inl on ↦ waits_callback on
    | inr ended ↦ elim (cases_Bool (list_any (awaits_drain w) w.instances)) [
      | inl on ↦ waits_caller on
      | inr drained ↦ for_nothing (record { nothing_due = none; ended = ended; drained = drained })
    ]
  ]

  waits : WaitsFor limit past
  waits = go (due_in w) refl
    where
      go : (o : Option DueRef) → due_in w ≡ o → WaitsFor limit past
      go None is = waits_undue is
      go (Some due) is = waits_due (begins due is)

  pub is_not_stuck : IsNotStuck limit past
  is_not_stuck = record { ends = ends; drains = drains; releases = releases; begins = begins; waits = waits }
