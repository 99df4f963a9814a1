-- The callbacks of each living instance are the turns that told it.
use Rattle.std.proofs.Common.{◌≡◌, ◌<◌, ◌≤◌, ◌⊎◌, ℕ, ◌+◌, List, [], ◌∷◌, ◌++◌, ap, sym, ◌∙◌, refl, subst, cond, arith, Bool, true, false, ◌||◌, inl, inr, Option, Some, None, append-nil}
use Rattle.std.specs.Prelude.{filter, find, map, not, option_and_then, option_map, ◌==◌}
use Rattle.std.specs.List.{Contains, list_any, range_with_len}
use Rattle.std.proofs.lemmas.Bool.{and_from, and_parts, both_ways, cases_Bool, eq-eqb, eqb-true, ne_eqb}
use Rattle.callback_orders.specs.declared.callback.Callback.{Callback}
use Rattle.callback_orders.specs.declared.callback.Callback.TheVariants.{Create, Bind, Updated, Unbind, Activate, Modified, Deactivate, Destroy}
use Rattle.callback_orders.specs.declared.due.DueRef.{DueRef}
use Rattle.callback_orders.specs.declared.due.DueRef.TheVariants.{Create as CreateDue, Bind as BindDue, Updated as UpdatedDue, Unbind as UnbindDue, Activate as ActivateDue, Modified as ModifiedDue, Deactivate as DeactivateDue, Destroy as DestroyDue}
use Rattle.callback_orders.specs.Grammar.{is_create}
use Rattle.callback_orders.specs.declared.callback.Outcome.{Outcome}
use Rattle.callback_orders.specs.Sequences.{begun, ended, is_outstanding}
use Rattle.component_state.specs.declared.origin.Choice.{Choice}
use Rattle.component_state.specs.Inside.Ready.{are_apart}
use Rattle.component_state.proofs.Apart.{any_found, apart_kept, in_cases, in_either, in_first, in_none, in_rest, kept_over, kept_was, keyed, not_true, one_of, or_true}
use Rattle.journal_core.specs.declared.entry.Entry.{Entry}
use Rattle.prop_map.specs.Words.{has}
use Rattle.scr_laws.specs.Callbacks.{AreApart, HaveTheirTurns, called_in, callbacks_told}
use Rattle.scr_laws.proofs.LivingLaws.{AreTold, legal_told}
use Rattle.scr_laws.proofs.NothingShut.{taken_calls}
use Rattle.scr_laws.proofs.Listed.{found_was, mapped_was, single}
use Rattle.scr_laws.proofs.Counting.{range_joined}
use Rattle.scr_laws.proofs.InstanceLemmas.{drained_same, ended_same, mapped_alike, mapped_over, told_same}
use Rattle.scr_laws.proofs.Numbering.{made_is_next, next_turn}
use Rattle.scr_laws.proofs.SlotLaws.{range_apart}
use Rattle.scr_world.specs.Dues.{begin_for, begin_of, due_in}
use Rattle.scr_world.specs.Instances.{BeforeTurn, created_at, drained_in, ended_in, has_turn, lives_on, with_callback_begun, with_effect_of_begin, with_outcome}
use Rattle.scr_world.specs.Legal.{IsLegal, MayCome}
use Rattle.scr_world.specs.Lists.{world_after_entry, world_of}
use Rattle.scr_world.specs.Steps.{History}
use Rattle.scr_world.specs.Stepping.{before_turn, instances_by, instances_told, makes_by, world_after_step}
use Rattle.scr_world.specs.TurnLines.{ended_line, lines_by, turn_lines}
use Rattle.scr_world.specs.TurnSteps.{name_in}
use Rattle.scr_world.specs.Worlds.{all_instances}
use Rattle.scr_world.specs.declared.command.Command.{Command}
use Rattle.scr_world.specs.declared.instance.Instance.{Instance}
use Rattle.scr_world.specs.declared.lines.TurnLine.{TurnLine}
use Rattle.scr_world.specs.declared.step.Step.{Step}
use Rattle.scr_world.specs.declared.step.Step.TheVariants.{Command as Commanded, Begin, End, Drained, Got, Released}
use Rattle.scr_world.specs.declared.world.World.{World}

-- ---- lines of turns

abbrev told_line : ℕ → TurnLine → Bool
told_line n line = line.instance == n

abbrev lines_for : ℕ → List TurnLine → List TurnLine
lines_for n lines = filter (told_line n) lines

-- the last number of a list, or this one where it is empty
abbrev last_of : ℕ → List ℕ → ℕ
last_of last [] = last
last_of last (n ∷ ns) = last_of n ns

abbrev turn_in : TurnLine → ℕ
turn_in line = line.turn

ended_turn : (turn : ℕ) (outcome : Outcome) (line : TurnLine) → (ended_line turn outcome line).turn ≡ line.turn
ended_turn turn outcome line = go (line.turn == turn)
  where
    go : (b : Bool) → (cond b (record line { outcome = Some outcome }) line).turn ≡ line.turn
    go true = refl
    go false = refl

ended_instance : (turn : ℕ) (outcome : Outcome) (line : TurnLine) → (ended_line turn outcome line).instance ≡ line.instance
ended_instance turn outcome line = go (line.turn == turn)
  where
    go : (b : Bool) → (cond b (record line { outcome = Some outcome }) line).instance ≡ line.instance
    go true = refl
    go false = refl

-- an end leaves whom each line told
lines_ended : (turn : ℕ) (outcome : Outcome) (n : ℕ) (lines : List TurnLine) → lines_for n (map (ended_line turn outcome) lines) ≡ map (ended_line turn outcome) (lines_for n lines)
lines_ended turn outcome n [] = refl
lines_ended turn outcome n (l ∷ ls) =
    ap (λ k. cond (k == n) (ended_line turn outcome l ∷ lines_for n (map (ended_line turn outcome) ls)) (lines_for n (map (ended_line turn outcome) ls))) (ended_instance turn outcome l)
    ∙ go (l.instance == n) (lines_ended turn outcome n ls)
  where
    go : (b : Bool) → lines_for n (map (ended_line turn outcome) ls) ≡ map (ended_line turn outcome) (lines_for n ls)
        → cond b (ended_line turn outcome l ∷ lines_for n (map (ended_line turn outcome) ls)) (lines_for n (map (ended_line turn outcome) ls)) ≡ map (ended_line turn outcome) (cond b (l ∷ lines_for n ls) (lines_for n ls))
    go true rest = ap (λ xs. ended_line turn outcome l ∷ xs) rest
    go false rest = rest

-- lines of other turns stay
others_stay : (turn : ℕ) (outcome : Outcome) (lines : List TurnLine) → ((l : TurnLine) → Contains lines l → (l.turn == turn) ≡ false) → map called_in (map (ended_line turn outcome) lines) ≡ map called_in lines
others_stay turn outcome [] other = refl
others_stay turn outcome (l ∷ ls) other =
    ap (λ b. called_in (cond b (record l { outcome = Some outcome }) l) ∷ map called_in (map (ended_line turn outcome) ls)) (other l (in_first l ls))
    ∙ ap (λ cs. called_in l ∷ cs) (others_stay turn outcome ls (λ x h. other x (in_rest l ls x h)))

-- where the last line is of the turn, and no two are of one turn, the last callback gets the outcome
last_in : (first : ℕ) (l : TurnLine) (ls : List TurnLine) → has (map turn_in (l ∷ ls)) (last_of first (map turn_in (l ∷ ls))) ≡ true
last_in first l [] = ap (λ b. b || false) (eq-eqb l.turn l.turn refl)
last_in first l (m ∷ ls) = ap (λ b. (l.turn == last_of l.turn (map turn_in (m ∷ ls))) || b) (last_in l.turn m ls) ∙ or_true (l.turn == last_of l.turn (map turn_in (m ∷ ls)))

last_ends : (turn : ℕ) (outcome : Outcome) (first : ℕ) (lines : List TurnLine) → are_apart (map turn_in lines) ≡ true → last_of first (map turn_in lines) ≡ turn → map called_in (map (ended_line turn outcome) lines) ≡ ended outcome (map called_in lines)
last_ends turn outcome first [] apart is = refl
last_ends turn outcome first (l ∷ []) apart is = ap (λ b. called_in (cond b (record l { outcome = Some outcome }) l) ∷ []) (eq-eqb l.turn turn is)
last_ends turn outcome first (l ∷ m ∷ ls) apart is =
    let parts = and_parts (not (has (map turn_in (m ∷ ls)) l.turn)) (are_apart (map turn_in (m ∷ ls))) apart in
    ap (λ b. called_in (cond b (record l { outcome = Some outcome }) l) ∷ map called_in (map (ended_line turn outcome) (m ∷ ls)))
    (ne_eqb l.turn turn (λ e. both_ways (has (map turn_in (m ∷ ls)) l.turn) (not_true (has (map turn_in (m ∷ ls)) l.turn) parts.0) (ap (has (map turn_in (m ∷ ls))) (e ∙ sym is) ∙ last_in l.turn m ls)))
    ∙ ap (λ cs. called_in l ∷ cs) (last_ends turn outcome l.turn (m ∷ ls) parts.1 is)

-- ---- what is kept over a journal

record HasTurns (lines : List TurnLine) (i : Instance) : Type 0 where
  callbacks : i.callbacks ≡ callbacks_told i.number lines
  turn : i.turn ≡ last_of 0 (map turn_in (lines_for i.number lines))

record AreTurns (w : World) (lines : List TurnLine) : Type 0 where
  numbered : map turn_in lines ≡ range_with_len 1 w.turns_begun
  given : (n : ℕ) → w.instances_numbered < n → lines_for n lines ≡ []
  board : w.whiteboard.number ≡ 0
  board_turns : HasTurns lines w.whiteboard
  positive : (i : Instance) → Contains w.instances i → 0 < i.number
  turns : (i : Instance) → Contains w.instances i → HasTurns lines i

-- an instance with other fields
same_turns : (lines : List TurnLine) (i j : Instance) → j.number ≡ i.number → j.callbacks ≡ i.callbacks → j.turn ≡ i.turn → HasTurns lines i → HasTurns lines j
same_turns lines i j number callbacks turn was = record {
  callbacks = callbacks ∙ was.callbacks ∙ ap (λ n. callbacks_told n lines) (sym number);
  turn = turn ∙ was.turn ∙ ap (λ n. last_of 0 (map turn_in (lines_for n lines))) (sym number);
}

last_more : (first : ℕ) (these : List ℕ) (n : ℕ) → last_of first (these ++ n ∷ []) ≡ n
last_more first [] n = refl
last_more first (m ∷ ms) n = last_more m ms n

module _ (w : World) (lines : List TurnLine) (told : AreTold w.instances w.instances_numbered w.turns_begun) (are : AreTurns w lines) where
  apart : are_apart (map turn_in lines) ≡ true
  apart = ap are_apart are.numbered ∙ range_apart 1 w.turns_begun

  module _ (turn instance configuration consumer : ℕ) (callback : Callback) (chosen : List Choice) (next : turn ≡ w.turns_begun + 1) where
    abbrev line : TurnLine
    line = record { turn = turn; callback = callback; instance = instance; name = name_in w configuration; outcome = None }

    numbered_more : map turn_in (lines ++ line ∷ []) ≡ range_with_len 1 (w.turns_begun + 1)
    numbered_more = mapped_over turn_in lines (line ∷ []) ∙ ap (λ ns. ns ++ turn ∷ []) are.numbered ∙ ap (λ n. range_with_len 1 w.turns_begun ++ n ∷ []) (next ∙ omega arith) ∙ range_joined 1 w.turns_begun 1

    more_for : (n : ℕ) → lines_for n (lines ++ line ∷ []) ≡ lines_for n lines ++ cond (instance == n) (line ∷ []) []
    more_for n = kept_over (told_line n) lines (line ∷ [])

    -- an instance that isn't told
    others : (i : Instance) → (i.number == instance) ≡ false → HasTurns lines i → HasTurns (lines ++ line ∷ []) i
    others i other was =
        let same = more_for i.number ∙ ap (λ b. lines_for i.number lines ++ cond b (line ∷ []) []) (ne_eqb instance i.number (λ e. both_ways (i.number == instance) other (eq-eqb i.number instance (sym e)))) ∙ append-nil (lines_for i.number lines) in record {
          callbacks = was.callbacks ∙ ap (map called_in) (sym same);
          turn = was.turn ∙ ap (λ ls. last_of 0 (map turn_in ls)) (sym same);
        }

    -- the one that is told
    told_one : (i j : Instance) → (i.number == instance) ≡ true → j.number ≡ i.number → j.callbacks ≡ i.callbacks ++ begun callback ∷ [] → j.turn ≡ turn → HasTurns lines i → HasTurns (lines ++ line ∷ []) j
    told_one i j mine number callbacks turn_is was =
        let same = ap (λ n. lines_for n (lines ++ line ∷ [])) number ∙ more_for i.number ∙ ap (λ b. lines_for i.number lines ++ cond b (line ∷ []) []) (eq-eqb instance i.number (sym (eqb-true i.number instance mine))) in record {
          callbacks = callbacks ∙ ap (λ cs. cs ++ begun callback ∷ []) was.callbacks ∙ sym (ap (map called_in) same ∙ mapped_over called_in (lines_for i.number lines) (line ∷ []));
          turn = turn_is ∙ sym (ap (λ ls. last_of 0 (map turn_in ls)) same ∙ ap (last_of 0) (mapped_over turn_in (lines_for i.number lines) (line ∷ [])) ∙ last_more 0 (map turn_in (lines_for i.number lines)) turn);
        }

    taken_turn : (m : BeforeTurn) (c : Callback) (i : Instance) → (with_effect_of_begin m c i).turn ≡ i.turn
    taken_turn m Create i = refl
    taken_turn m (Bind reference service) i = refl
    taken_turn m (Updated reference service) i = refl
    taken_turn m (Unbind reference service) i = refl
    taken_turn m Activate i = refl
    taken_turn m Modified i = refl
    taken_turn m Deactivate i = refl
    taken_turn m Destroy i = refl

    told_turns : (i : Instance) → HasTurns lines i → HasTurns (lines ++ line ∷ []) (with_callback_begun (before_turn w) turn instance callback i)
    told_turns i was = go (i.number == instance) refl
      where
        go : (b : Bool) → (i.number == instance) ≡ b → HasTurns (lines ++ line ∷ []) (cond b (with_effect_of_begin (before_turn w) callback (record i { turn = turn; callbacks = i.callbacks ++ begun callback ∷ [] })) i)
        go true mine = told_one i (with_effect_of_begin (before_turn w) callback (record i { turn = turn; callbacks = i.callbacks ++ begun callback ∷ [] })) mine
            (ap (λ b. (cond b (with_effect_of_begin (before_turn w) callback (record i { turn = turn; callbacks = i.callbacks ++ begun callback ∷ [] })) i).number) (sym mine) ∙ (told_same (before_turn w) turn instance callback i).number)
            (taken_calls (before_turn w) callback (record i { turn = turn; callbacks = i.callbacks ++ begun callback ∷ [] }))
            (taken_turn (before_turn w) callback (record i { turn = turn; callbacks = i.callbacks ++ begun callback ∷ [] })) was
        go false other = others i other was

  -- ---- a Create

  made_turns : (turn instance configuration consumer : ℕ) (chosen : List Choice) → MayCome w (Begin turn instance configuration consumer Create chosen)
      → AreTurns (world_after_step (Begin turn instance configuration consumer Create chosen) w) (lines_by (Begin turn instance configuration consumer Create chosen) w lines)
  unfolding world_after_step
  made_turns turn instance configuration consumer chosen may = record {
    numbered = numbered_more turn instance configuration consumer Create chosen next;
    given = λ n high. more_for turn instance configuration consumer Create chosen next n ∙ ap (λ b. lines_for n lines ++ cond b (line turn instance configuration consumer Create chosen next ∷ []) []) (ne_eqb instance n (λ e. omega (arith, e, high, number)))
        ∙ append-nil (lines_for n lines) ∙ are.given n (omega (arith, high));
    board = (told_same (before_turn w) turn instance Create w.whiteboard).number ∙ are.board;
    board_turns = told_turns turn instance configuration consumer Create chosen next w.whiteboard are.board_turns;
    positive = λ i h. elim (in_either w.instances (new ∷ []) i h) [
      | inl old ↦ are.positive i old
      | inr added ↦ (let same = ap (λ (x : Instance). x.number) (single new i added) in omega (arith, same, number))
    ];
    turns = λ i h. elim (in_either w.instances (new ∷ []) i h) [
      | inl old ↦ others turn instance configuration consumer Create chosen next i (ne_eqb i.number instance (λ e. let low = told.numbered i old in omega (arith, low, e, number))) (are.turns i old)
      | inr added ↦ subst (λ (x : Instance). HasTurns (lines ++ line turn instance configuration consumer Create chosen next ∷ []) x) (single new i added) first
    ];
  }
    where
      number : instance ≡ w.instances_numbered + 1
      number = made_is_next w turn instance configuration consumer chosen may

      next : turn ≡ w.turns_begun + 1
      next = next_turn w turn instance configuration consumer Create chosen may

      new : Instance
      new = created_at (before_turn w) turn instance configuration consumer chosen

      fresh : lines_for instance (lines ++ line turn instance configuration consumer Create chosen next ∷ []) ≡ line turn instance configuration consumer Create chosen next ∷ []
      fresh = more_for turn instance configuration consumer Create chosen next instance ∙ ap (λ ls. ls ++ cond (instance == instance) (line turn instance configuration consumer Create chosen next ∷ []) []) (are.given instance (omega (arith, number)))
          ∙ ap (λ b. cond b (line turn instance configuration consumer Create chosen next ∷ []) []) (eq-eqb instance instance refl)

      first : HasTurns (lines ++ line turn instance configuration consumer Create chosen next ∷ []) (created_at (before_turn w) turn instance configuration consumer chosen)
      first = record { callbacks = sym (ap (map called_in) fresh); turn = sym (ap (λ ls. last_of 0 (map turn_in ls)) fresh) }

  -- ---- a turn that tells an instance

  module _ (turn instance configuration consumer : ℕ) (callback : Callback) (chosen : List Choice) where
    abbrev step : Step
    step = Begin turn instance configuration consumer callback chosen

    known_number : (d : DueRef) (n : ℕ) (found : Option Instance) → find (λ (j : Instance). j.number == n) (all_instances w) ≡ found → option_map (begin_for w d) found ≡ Some step → instance ≤ w.instances_numbered
    known_number d n None none e = absurd cc
    known_number d n (Some j) some e =
        let same : j.number ≡ instance = cc in
        let here = (found_was (λ (x : Instance). x.number == n) (all_instances w) j some).0 in
        elim (in_cases w.whiteboard w.instances j here) [
          | inl board ↦ (let zero_is = ap (λ (x : Instance). x.number) board in let b = are.board in omega (arith, zero_is, b, same))
          | inr old ↦ (let low = told.numbered j old in omega (arith, low, same))
        ]

    known_due : (o : Option DueRef) → is_create callback ≡ false → option_and_then (begin_of w) o ≡ Some step → instance ≤ w.instances_numbered
    known_due None off e = absurd cc
    known_due (Some (CreateDue key)) off e = (let same : Create ≡ callback = cc in absurd (both_ways (is_create callback) off (ap is_create (sym same))))
    known_due (Some (BindDue i r s)) off e = known_number (BindDue i r s) i (find (λ (j : Instance). j.number == i) (all_instances w)) refl e
    known_due (Some (UpdatedDue i r s)) off e = known_number (UpdatedDue i r s) i (find (λ (j : Instance). j.number == i) (all_instances w)) refl e
    known_due (Some (UnbindDue i r s)) off e = known_number (UnbindDue i r s) i (find (λ (j : Instance). j.number == i) (all_instances w)) refl e
    known_due (Some (ActivateDue i)) off e = known_number (ActivateDue i) i (find (λ (j : Instance). j.number == i) (all_instances w)) refl e
    known_due (Some (ModifiedDue i)) off e = known_number (ModifiedDue i) i (find (λ (j : Instance). j.number == i) (all_instances w)) refl e
    known_due (Some (DeactivateDue i)) off e = known_number (DeactivateDue i) i (find (λ (j : Instance). j.number == i) (all_instances w)) refl e
    known_due (Some (DestroyDue i)) off e = known_number (DestroyDue i) i (find (λ (j : Instance). j.number == i) (all_instances w)) refl e

    tells : MayCome w step → is_create callback ≡ false → (instances_by step w ≡ map (with_callback_begun (before_turn w) turn instance callback) w.instances) → makes_by step ≡ 0
        → AreTurns (world_after_step step w) (lines_by step w lines)
    unfolding world_after_step
    tells may off mapped none = record {
      numbered = numbered_more turn instance configuration consumer callback chosen next;
      given = λ n high. more_for turn instance configuration consumer callback chosen next n ∙ ap (λ b. lines_for n lines ++ cond b (line turn instance configuration consumer callback chosen next ∷ []) []) (ne_eqb instance n (λ e. omega (arith, e, high, low, none)))
          ∙ append-nil (lines_for n lines) ∙ are.given n (omega (arith, high, none));
      board = (told_same (before_turn w) turn instance callback w.whiteboard).number ∙ are.board;
      board_turns = told_turns turn instance configuration consumer callback chosen next w.whiteboard are.board_turns;
      positive = λ i h. let was = mapped_was (with_callback_begun (before_turn w) turn instance callback) w.instances i (subst (λ (is : List Instance). Contains is i) mapped h) in
          subst (λ n. 0 < n) (sym (told_same (before_turn w) turn instance callback was.0).number ∙ ap (λ (x : Instance). x.number) was.1.1) (are.positive was.0 was.1.0);
      turns = λ i h. let was = mapped_was (with_callback_begun (before_turn w) turn instance callback) w.instances i (subst (λ (is : List Instance). Contains is i) mapped h) in
          subst (λ (x : Instance). HasTurns (lines ++ line turn instance configuration consumer callback chosen next ∷ []) x) was.1.1 (told_turns turn instance configuration consumer callback chosen next was.0 (are.turns was.0 was.1.0));
    }
      where
        next : turn ≡ w.turns_begun + 1
        next = next_turn w turn instance configuration consumer callback chosen may

        low : instance ≤ w.instances_numbered
        low = known_due (due_in w) off may

  begun_turns : (turn instance configuration consumer : ℕ) (callback : Callback) (chosen : List Choice) → MayCome w (Begin turn instance configuration consumer callback chosen)
      → AreTurns (world_after_step (Begin turn instance configuration consumer callback chosen) w) (lines_by (Begin turn instance configuration consumer callback chosen) w lines)
  begun_turns turn instance configuration consumer Create chosen may = made_turns turn instance configuration consumer chosen may
  begun_turns turn instance configuration consumer (Bind reference service) chosen may = tells turn instance configuration consumer (Bind reference service) chosen may refl refl refl
  begun_turns turn instance configuration consumer (Updated reference service) chosen may = tells turn instance configuration consumer (Updated reference service) chosen may refl refl refl
  begun_turns turn instance configuration consumer (Unbind reference service) chosen may = tells turn instance configuration consumer (Unbind reference service) chosen may refl refl refl
  begun_turns turn instance configuration consumer Activate chosen may = tells turn instance configuration consumer Activate chosen may refl refl refl
  begun_turns turn instance configuration consumer Modified chosen may = tells turn instance configuration consumer Modified chosen may refl refl refl
  begun_turns turn instance configuration consumer Deactivate chosen may = tells turn instance configuration consumer Deactivate chosen may refl refl refl
  begun_turns turn instance configuration consumer Destroy chosen may = tells turn instance configuration consumer Destroy chosen may refl refl refl

  -- ---- the end of a turn

  all_apart : are_apart (map (λ (i : Instance). i.number) (all_instances w)) ≡ true
  all_apart = and_from (not (has (map (λ (i : Instance). i.number) w.instances) w.whiteboard.number)) (are_apart (map (λ (i : Instance). i.number) w.instances)) (ap not (off (cases_Bool (has (map (λ (i : Instance). i.number) w.instances) w.whiteboard.number)))) told.numbers
    where
      off : (has (map (λ (i : Instance). i.number) w.instances) w.whiteboard.number ≡ true) ⊎ (has (map (λ (i : Instance). i.number) w.instances) w.whiteboard.number ≡ false) → has (map (λ (i : Instance). i.number) w.instances) w.whiteboard.number ≡ false
      off (inr is) = is
      off (inl is) =
          let found = keyed (λ (i : Instance). i.number) w.instances w.whiteboard.number is in
          let high = are.positive found.0 found.1 in
          let board = are.board in
          let same = found.2 in
          absurd (omega (arith, high, board, same))

  has_turns : (i : Instance) → Contains (all_instances w) i → HasTurns lines i
  has_turns i h = elim (in_cases w.whiteboard w.instances i h) [
    | inl board ↦ subst (HasTurns lines) board are.board_turns
    | inr old ↦ are.turns i old
  ]

  module _ (turn : ℕ) (outcome : Outcome) (under_way : list_any (has_turn turn) (all_instances w) ≡ true) where
    -- a line of the turn tells the instance whose turn is under way
    own_line : (ls : List TurnLine) (k : Instance) → lines_for k.number lines ≡ ls → HasTurns lines k → has_turn turn k ≡ true → (l : TurnLine) × Contains (lines_for k.number lines) l × (l.turn ≡ turn)
    own_line [] k none has_it mine = absurd (both_ways (is_outstanding k.callbacks) (ap is_outstanding (has_it.callbacks ∙ ap (map called_in) none)) (and_parts (k.turn == turn) (is_outstanding k.callbacks) mine).1)
    own_line (l ∷ ls) k some has_it mine =
        let found = keyed turn_in (l ∷ ls) (last_of 0 (map turn_in (l ∷ ls))) (last_in 0 l ls) in (
          found.0,
          subst (λ (xs : List TurnLine). Contains xs found.0) (sym some) found.1,
          found.2 ∙ sym (ap (λ xs. last_of 0 (map turn_in xs)) some) ∙ sym has_it.turn ∙ eqb-true k.turn turn (and_parts (k.turn == turn) (is_outstanding k.callbacks) mine).0,
        )

    other_line : (i : Instance) → Contains (all_instances w) i → has_turn turn i ≡ false → (l : TurnLine) → Contains (lines_for i.number lines) l → (l.turn == turn) ≡ false
    other_line i h off l here = elim (cases_Bool (l.turn == turn)) [
      | inl on ↦ absurd (wrong on)
      | inr other ↦ other
    ]
      where
        wrong : (l.turn == turn) ≡ true → ⊥
        wrong on =
            let k = any_found (has_turn turn) (all_instances w) under_way in
            let m = own_line (lines_for k.0.number lines) k.0 refl (has_turns k.0 k.1) k.2 in
            let one = kept_was (told_line i.number) lines l here in
            let two = kept_was (told_line k.0.number) lines m.0 m.1 in
            let same = one_of turn_in lines apart l m.0 one.0 two.0 (eqb-true l.turn turn on ∙ sym m.2) in
            let number = sym (eqb-true l.instance i.number one.1) ∙ ap (λ (x : TurnLine). x.instance) same ∙ eqb-true m.0.instance k.0.number two.1 in
            both_ways (has_turn turn i) off (ap (has_turn turn) (one_of (λ (x : Instance). x.number) (all_instances w) all_apart i k.0 h k.1 number) ∙ k.2)

    ended_turns : (i : Instance) → Contains (all_instances w) i → HasTurns lines i → HasTurns (map (ended_line turn outcome) lines) (ended_in turn outcome w.generations i)
    ended_turns i h was = go (has_turn turn i) refl
      where
        turns_same : map turn_in (lines_for i.number (map (ended_line turn outcome) lines)) ≡ map turn_in (lines_for i.number lines)
        turns_same = ap (map turn_in) (lines_ended turn outcome i.number lines) ∙ mapped_alike turn_in (ended_line turn outcome) (ended_turn turn outcome) (lines_for i.number lines)

        go : (b : Bool) → has_turn turn i ≡ b → HasTurns (map (ended_line turn outcome) lines) (cond b (with_outcome outcome w.generations i) i)
        go true mine = record {
          callbacks = ap (ended outcome) was.callbacks
              ∙ sym (ap (map called_in) (lines_ended turn outcome i.number lines)
              ∙ last_ends turn outcome 0 (lines_for i.number lines) (apart_kept turn_in (told_line i.number) lines apart) (sym was.turn ∙ eqb-true i.turn turn (and_parts (i.turn == turn) (is_outstanding i.callbacks) mine).0));
          turn = was.turn ∙ ap (last_of 0) (sym turns_same);
        }
        go false other = record {
          callbacks = was.callbacks ∙ sym (ap (map called_in) (lines_ended turn outcome i.number lines) ∙ others_stay turn outcome (lines_for i.number lines) (other_line i h other));
          turn = was.turn ∙ ap (last_of 0) (sym turns_same);
        }

    end_turns : AreTurns (world_after_step (End turn outcome) w) (lines_by (End turn outcome) w lines)
    unfolding world_after_step
    end_turns = record {
      numbered = mapped_alike turn_in (ended_line turn outcome) (ended_turn turn outcome) lines ∙ are.numbered ∙ ap (range_with_len 1) (omega arith);
      given = λ n high. lines_ended turn outcome n lines ∙ ap (map (ended_line turn outcome)) (are.given n (omega (arith, high)));
      board = (ended_same turn outcome w.generations w.whiteboard).number ∙ are.board;
      board_turns = ended_turns w.whiteboard (in_first w.whiteboard w.instances) are.board_turns;
      positive = λ i h. let was = mapped_was (ended_in turn outcome w.generations) w.instances i (kept_was lives_on (instances_told (End turn outcome) w) i h).0 in
          subst (λ n. 0 < n) (sym (ended_same turn outcome w.generations was.0).number ∙ ap (λ (x : Instance). x.number) was.1.1) (are.positive was.0 was.1.0);
      turns = λ i h. let was = mapped_was (ended_in turn outcome w.generations) w.instances i (kept_was lives_on (instances_told (End turn outcome) w) i h).0 in
          subst (λ (x : Instance). HasTurns (map (ended_line turn outcome) lines) x) was.1.1 (ended_turns was.0 (in_rest w.whiteboard w.instances was.0 was.1.0) (are.turns was.0 was.1.0));
    }

  -- ---- the other steps

  drained_turns : (instance : ℕ) (i : Instance) → HasTurns lines i → HasTurns lines (drained_in instance i)
  drained_turns instance i was = go (i.number == instance)
    where
      go : (b : Bool) → HasTurns lines (cond b (record i { drained = true }) i)
      go true = record { callbacks = was.callbacks; turn = was.turn }
      go false = was

  drain_turns : (instance : ℕ) → AreTurns (world_after_step (Drained instance) w) lines
  unfolding world_after_step
  drain_turns instance = record {
    numbered = are.numbered ∙ ap (range_with_len 1) (omega arith);
    given = λ n high. are.given n (omega (arith, high));
    board = are.board;
    board_turns = are.board_turns;
    positive = λ i h. let was = mapped_was (drained_in instance) w.instances i h in
        subst (λ n. 0 < n) (sym (drained_same instance was.0).number ∙ ap (λ (x : Instance). x.number) was.1.1) (are.positive was.0 was.1.0);
    turns = λ i h. let was = mapped_was (drained_in instance) w.instances i h in subst (HasTurns lines) was.1.1 (drained_turns instance was.0 (are.turns was.0 was.1.0));
  }

  command_turns : (command : Command) → AreTurns (world_after_step (Commanded command) w) lines
  unfolding world_after_step
  command_turns command = record { numbered = are.numbered ∙ ap (range_with_len 1) (omega arith); given = λ n high. are.given n (omega (arith, high)); board = are.board; board_turns = are.board_turns; positive = are.positive; turns = are.turns }

  got_turns : (bundle service : ℕ) → AreTurns (world_after_step (Got bundle service) w) lines
  unfolding world_after_step
  got_turns bundle service = record { numbered = are.numbered ∙ ap (range_with_len 1) (omega arith); given = λ n high. are.given n (omega (arith, high)); board = are.board; board_turns = are.board_turns; positive = are.positive; turns = are.turns }

  released_turns : (place : ℕ) → AreTurns (world_after_step (Released place) w) lines
  unfolding world_after_step
  released_turns place = record { numbered = are.numbered ∙ ap (range_with_len 1) (omega arith); given = λ n high. are.given n (omega (arith, high)); board = are.board; board_turns = are.board_turns; positive = are.positive; turns = are.turns }

  step_turns : (step : Step) → MayCome w step → AreTurns (world_after_step step w) (lines_by step w lines)
  step_turns (Commanded command) may = command_turns command
  step_turns (Begin turn instance configuration consumer callback chosen) may = begun_turns turn instance configuration consumer callback chosen may
  step_turns (End turn outcome) may = end_turns turn outcome may
  step_turns (Drained instance) may = drain_turns instance
  step_turns (Got bundle service) may = got_turns bundle service
  step_turns (Released place) may = released_turns place

-- ---- over a journal

entry_turns : (entry : Entry Step) (w : World) (lines : List TurnLine) → AreTurns (world_after_step entry.step w) lines → AreTurns (world_after_entry entry w) lines
unfolding world_after_entry
entry_turns entry w lines are = record { numbered = are.numbered; given = are.given; board = are.board; board_turns = are.board_turns; positive = are.positive; turns = are.turns }

legal_turns : (limit : ℕ) (past : History) → IsLegal limit past → AreTurns (world_of past) (turn_lines past)
unfolding world_of
legal_turns limit [] legal = record { numbered = refl; given = λ n high. refl; board = refl; board_turns = record { callbacks = refl; turn = refl }; positive = λ i h. absurd (in_none i h); turns = λ i h. absurd (in_none i h) }
legal_turns limit (entry ∷ past) legal = entry_turns entry (world_of past) (lines_by entry.step (world_of past) (turn_lines past)) (step_turns (world_of past) (turn_lines past) (legal_told limit past legal.1) (legal_turns limit past legal.1) entry.step legal.0.step)

pub have_their_turns : (limit : ℕ) (journal : History) → IsLegal limit journal → HaveTheirTurns journal
have_their_turns limit journal legal i h = (has_turns (world_of journal) (turn_lines journal) (legal_told limit journal legal) (legal_turns limit journal legal) i h).callbacks

pub are_told_apart : (limit : ℕ) (journal : History) → IsLegal limit journal → AreApart (world_of journal)
are_told_apart limit journal legal = let told = legal_told limit journal legal in record {
  numbers = all_apart (world_of journal) (turn_lines journal) told (legal_turns limit journal legal);
  turns = told.turns;
}
