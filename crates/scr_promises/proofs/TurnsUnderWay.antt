-- A turn that has no end is under way for a living instance.
use Rattle.std.proofs.Common.{◌≡◌, ◌≤◌, ℕ, ◌+◌, List, [], ◌∷◌, ◌++◌, ap, sym, ◌∙◌, refl, subst, cond, arith, Bool, true, false, inl, inr, Some, None}
use Rattle.std.specs.Prelude.{map, ◌&&◌, ◌==◌}
use Rattle.std.specs.List.{Contains, list_any}
use Rattle.std.proofs.lemmas.Bool.{and_from, and_parts, both_ways, cases_Bool, eq-eqb, eqb-true, ne_eqb}
use Rattle.callback_orders.specs.declared.callback.Callback.{Callback}
use Rattle.callback_orders.specs.declared.callback.Outcome.{Outcome}
use Rattle.callback_orders.specs.declared.callback.Callback.TheVariants.{Create, Bind, Updated, Unbind, Activate, Modified, Deactivate, Destroy}
use Rattle.callback_orders.specs.declared.instance_view.InstanceView.{InstanceView}
use Rattle.callback_orders.specs.Grammar.{is_create}
use Rattle.scr_promises.proofs.Comings.{IsSeen, TellsDue, how_begun, its_number, one_made, whiteboard}
use Rattle.scr_promises.proofs.DueCallbacks.{due_ended}
use Rattle.scr_promises.proofs.EndingLaws.{board_number}
use Rattle.scr_laws.proofs.LivingLaws.{legal_told}
use Rattle.scr_laws.proofs.NothingShut.{taken_calls}
use Rattle.scr_laws.proofs.TurnCallbacks.{are_told_apart}
use Rattle.scr_laws.proofs.Sounding.{legal_sound}
use Rattle.scr_laws.proofs.InstanceLemmas.{begun_cases}
use Rattle.scr_world.specs.Instances.{BeforeTurn, created_at, drained_in, ended_in, has_turn, lives_on, with_callback_begun, with_effect_of_begin, with_outcome}
use Rattle.scr_world.specs.Stepping.{before_turn, instances_by, whiteboard_by, world_after_step}
use Rattle.scr_world.specs.declared.instance.Instance.{Instance}
use Rattle.scr_world.specs.declared.step.Step.TheVariants.{Command as Commanded, Begin, End, Drained, Got, Released}
use Rattle.scr_world.specs.declared.world.World.{World}
use Rattle.callback_orders.specs.declared.word.Called.{Called}
use Rattle.callback_orders.specs.Sequences.{begun, is_outstanding}
use Rattle.component_state.specs.declared.origin.Choice.{Choice}
use Rattle.component_state.proofs.Apart.{any_found, any_from, in_cases, in_either, in_first, in_left, in_none, in_rest, in_right, kept_from, one_of}
use Rattle.scr_laws.proofs.Legal.{in_map}
use Rattle.scr_laws.proofs.Listed.{mapped_was, single}
use Rattle.scr_world.specs.Lists.{world_after_entry, world_of}
use Rattle.scr_world.specs.Legal.{IsLegal, MayCome, is_under_way}
use Rattle.scr_world.specs.Steps.{History}
use Rattle.scr_world.specs.TurnLines.{ended_line, lines_by, turn_lines}
use Rattle.scr_world.specs.Worlds.{all_instances}
use Rattle.scr_world.specs.declared.lines.TurnLine.{TurnLine}
use Rattle.scr_world.specs.declared.step.Step.{Step}

-- a callback that begins is outstanding
outstanding_begun : (calls : List Called) (callback : Callback) → is_outstanding (calls ++ begun callback ∷ []) ≡ true
outstanding_begun [] callback = refl
outstanding_begun (c ∷ []) callback = refl
outstanding_begun (c ∷ d ∷ rest) callback = outstanding_begun (d ∷ rest) callback

taken_turn : (m : BeforeTurn) (c : Callback) (i : Instance) → (with_effect_of_begin m c i).turn ≡ i.turn
taken_turn m Create i = refl
taken_turn m (Bind reference service) i = refl
taken_turn m (Updated reference service) i = refl
taken_turn m (Unbind reference service) i = refl
taken_turn m Activate i = refl
taken_turn m Modified i = refl
taken_turn m Deactivate i = refl
taken_turn m Destroy i = refl

drained_same_turn : (n : ℕ) (i : Instance) (b : Bool) → has_turn n (cond b (record i { drained = true }) i) ≡ has_turn n i
drained_same_turn n i true = refl
drained_same_turn n i false = refl

-- an instance of a list has the turn under way
abbrev Has : ℕ → List Instance → Type 0
Has turn is = list_any (has_turn turn) is ≡ true

has_it : (turn : ℕ) (is : List Instance) (i : Instance) → Contains is i → has_turn turn i ≡ true → Has turn is
has_it turn is i h on = any_from (has_turn turn) is i h on

module _ (limit : ℕ) (past : History) (legal : IsLegal limit past) where
  abbrev w : World
  w = world_of past

  abbrev Then : Step → List Instance
  Then step = whiteboard_by step w ∷ instances_by step w

  -- ---- a turn that begins

  module _ (turn instance configuration consumer : ℕ) (callback : Callback) (chosen : List Choice) where
    abbrev begins : Step
    begins = Begin turn instance configuration consumer callback chosen

    abbrev told : Instance → Instance
    told i = with_callback_begun (before_turn w) turn instance callback i

    told_has : (i : Instance) → (i.number == instance) ≡ true → has_turn turn (told i) ≡ true
    told_has i mine = go (i.number == instance) mine
      where
        given : Instance
        given = record i { turn = turn; callbacks = i.callbacks ++ begun callback ∷ [] }

        go : (b : Bool) → b ≡ true → has_turn turn (cond b (with_effect_of_begin (before_turn (world_of past)) callback given) i) ≡ true
        go true on = and_from ((with_effect_of_begin (before_turn (world_of past)) callback given).turn == turn) (is_outstanding (with_effect_of_begin (before_turn (world_of past)) callback given).callbacks)
            (eq-eqb (with_effect_of_begin (before_turn (world_of past)) callback given).turn turn (taken_turn (before_turn (world_of past)) callback given))
            (ap is_outstanding (taken_calls (before_turn (world_of past)) callback given) ∙ outstanding_begun i.callbacks callback)
        go false off = cc

    told_keeps : (n : ℕ) (i : Instance) → (i.number == instance) ≡ false → has_turn n (told i) ≡ has_turn n i
    told_keeps n i other = ap (λ b. has_turn n (cond b (with_effect_of_begin (before_turn w) callback (record i { turn = turn; callbacks = i.callbacks ++ begun callback ∷ [] })) i)) other

    -- where the instances are those told
    in_told : instances_by begins w ≡ map told w.instances → (i : Instance) → Contains (all_instances w) i → Contains (Then begins) (told i)
    in_told same i h = elim (in_cases w.whiteboard w.instances i h) [
      | inl board ↦ subst (λ (x : Instance). Contains (Then begins) (told x)) board (in_first (told w.whiteboard) (instances_by begins w))
      | inr one ↦ in_rest (told w.whiteboard) (instances_by begins w) (told i) (subst (λ (is : List Instance). Contains is (told i)) (sym same) (in_map told w.instances i one))
    ]

    in_made : callback ≡ Create → (i : Instance) → Contains (instances_by (Begin turn instance configuration consumer Create chosen) w) i → Contains (instances_by begins w) i
    in_made create i h = subst (λ (c : Callback). Contains (instances_by (Begin turn instance configuration consumer c chosen) w) i) (sym create) h

    low_number : (i : Instance) → Contains (all_instances w) i → i.number ≤ w.instances_numbered
    low_number i h = elim (in_cases w.whiteboard w.instances i h) [
      | inl board ↦ (let none = ap its_number (sym board) ∙ board_number past in omega (arith, none))
      | inr one ↦ (legal_told limit past legal).numbered i one
    ]

    not_seen : (one : Instance) (v : InstanceView) → IsSeen w one v → v.outstanding ≡ false → is_outstanding one.callbacks ≡ false
    not_seen one v (one_made h is) off = ap (λ (x : InstanceView). x.outstanding) (sym is) ∙ off
    not_seen one v (whiteboard same is) off = ap (λ (x : Instance). is_outstanding x.callbacks) same ∙ ap (λ (x : InstanceView). x.outstanding) (sym is) ∙ off

    makes_it : (callback ≡ Create) × (instance ≡ w.instances_numbered + 1) → Has turn (Then begins) × ((n : ℕ) → Has n (all_instances w) → Has n (Then begins))
    makes_it makes = (
      has_it turn (Then begins) new (in_rest (told w.whiteboard) (instances_by begins w) new (in_made makes.0 new (in_right w.instances (new ∷ []) new (in_first new []))))
          (and_from (turn == turn) true (eq-eqb turn turn refl) refl),
      λ n on. let i = any_found (has_turn n) (all_instances w) on in stays n i.0 i.1 i.2,
    )
      where
        new : Instance
        new = created_at (before_turn (world_of past)) turn instance configuration consumer chosen

        other : (i : Instance) → Contains (all_instances (world_of past)) i → (i.number == instance) ≡ false
        other i h = ne_eqb i.number instance (λ e. let low = low_number i h in let next = makes.1 in omega (arith, low, next, e))

        stays : (n : ℕ) (i : Instance) → Contains (all_instances (world_of past)) i → has_turn n i ≡ true → Has n (Then begins)
        stays n i h on = elim (in_cases (world_of past).whiteboard (world_of past).instances i h) [
          | inl board ↦ has_it n (Then begins) (told (world_of past).whiteboard) (in_first (told (world_of past).whiteboard) (instances_by begins (world_of past)))
              (told_keeps n (world_of past).whiteboard (other (world_of past).whiteboard (in_first (world_of past).whiteboard (world_of past).instances)) ∙ ap (has_turn n) board ∙ on)
          | inr one ↦ has_it n (Then begins) i (in_rest (told (world_of past).whiteboard) (instances_by begins (world_of past)) i (in_made makes.0 i (in_left (world_of past).instances (new ∷ []) i one))) on
        ]

    tells_it : instances_by begins w ≡ map told w.instances → TellsDue w instance callback → Has turn (Then begins) × ((n : ℕ) → Has n (all_instances w) → Has n (Then begins))
    tells_it same tells = (
      has_it turn (Then begins) (told tells.one) (in_told same tells.one tells.there) (told_has tells.one (eq-eqb tells.one.number instance (sym tells.number))),
      λ n on. let i = any_found (has_turn n) (all_instances w) on in
          has_it n (Then begins) (told i.0) (in_told same i.0 i.1) (told_keeps n i.0 (other i.0 i.1 (and_parts (i.0.turn == n) (is_outstanding i.0.callbacks) i.2).1) ∙ i.2),
    )
      where
        other : (i : Instance) → Contains (all_instances (world_of past)) i → is_outstanding i.callbacks ≡ true → (i.number == instance) ≡ false
        other i h running = elim (cases_Bool (i.number == instance)) [
          | inr off ↦ off
          | inl mine ↦ (
              let is_one = one_of its_number (all_instances (world_of past)) (are_told_apart limit past legal).numbers i tells.one h tells.there (eqb-true i.number instance mine ∙ tells.number) in
              absurd (both_ways (is_outstanding tells.one.callbacks) (not_seen tells.one tells.view tells.seen (due_ended tells.view tells.due tells.is_due)) (ap (λ (x : Instance). is_outstanding x.callbacks) (sym is_one) ∙ running)))
        ]

    begun_has : MayCome w begins → Has turn (Then begins) × ((n : ℕ) → Has n (all_instances w) → Has n (Then begins))
    begun_has may = elim (how_begun w (are_told_apart limit past legal).numbers (board_number past) turn instance configuration consumer callback chosen may) [
      | inl makes ↦ makes_it makes
      | inr tells ↦ elim (begun_cases callback) [
        | inl create ↦ absurd (both_ways (is_create callback) tells.no_create (ap is_create create))
        | inr are ↦ tells_it (are (before_turn w) turn instance configuration consumer chosen) tells
      ]
    ]

  -- ---- the end of a turn, and a drain

  ended_has : (turn : ℕ) (outcome : Outcome) (n : ℕ) → (n == turn) ≡ false → Has n (all_instances w) → Has n (Then (End turn outcome))
  ended_has turn outcome n other on =
      let i = any_found (has_turn n) (all_instances w) on in
      let same = unchanged i.0 i.2 in
      elim (in_cases w.whiteboard w.instances i.0 i.1) [
        | inl board ↦ has_it n (Then (End turn outcome)) (f w.whiteboard) (in_first (f w.whiteboard) (instances_by (End turn outcome) w)) (ap (λ (x : Instance). has_turn n (f x)) board ∙ ap (has_turn n) same ∙ i.2)
        | inr one ↦ (
            let there = subst (λ (x : Instance). Contains (map f w.instances) x) same (in_map f w.instances i.0 one) in
            has_it n (Then (End turn outcome)) i.0 (in_rest (f w.whiteboard) (instances_by (End turn outcome) w) i.0 (kept_from lives_on (map f w.instances) i.0 there ((legal_sound limit past legal).living i.0 one))) i.2)
      ]
    where
      f : Instance → Instance
      f i = ended_in turn outcome (world_of past).generations i

      unchanged : (i : Instance) → has_turn n i ≡ true → ended_in turn outcome (world_of past).generations i ≡ i
      unchanged i on = ap (λ b. cond b (with_outcome outcome (world_of past).generations i) i) (ap (λ b. b && is_outstanding i.callbacks) (ap (λ m. m == turn) (eqb-true i.turn n (and_parts (i.turn == n) (is_outstanding i.callbacks) on).0) ∙ other))

  drained_has : (instance n : ℕ) → Has n (all_instances w) → Has n (Then (Drained instance))
  drained_has instance n on =
      let i = any_found (has_turn n) (all_instances w) on in
      elim (in_cases w.whiteboard w.instances i.0 i.1) [
        | inl board ↦ has_it n (Then (Drained instance)) w.whiteboard (in_first w.whiteboard (instances_by (Drained instance) w)) (ap (has_turn n) board ∙ i.2)
        | inr one ↦ has_it n (Then (Drained instance)) (drained_in instance i.0) (in_rest w.whiteboard (instances_by (Drained instance) w) (drained_in instance i.0) (in_map (drained_in instance) w.instances i.0 one)) (same i.0 ∙ i.2)
      ]
    where
      same : (i : Instance) → has_turn n (drained_in instance i) ≡ has_turn n i
      same i = drained_same_turn n i (i.number == instance)

  -- ---- each line behind a step

  abbrev Lines : List TurnLine → List Instance → Type 0
  Lines lines is = (line : TurnLine) → Contains lines line → line.outcome ≡ None → Has line.turn is

  none_ended : (turn : ℕ) (outcome : Outcome) (l : TurnLine) → (ended_line turn outcome l).outcome ≡ None → ((l.turn == turn) ≡ false) × (l.outcome ≡ None) × ((ended_line turn outcome l).turn ≡ l.turn)
  none_ended turn outcome l is = go (l.turn == turn) refl is
    where
      go : (b : Bool) → (l.turn == turn) ≡ b → (cond b (record l { outcome = Some outcome }) l).outcome ≡ None → ((l.turn == turn) ≡ false) × (l.outcome ≡ None) × ((cond b (record l { outcome = Some outcome }) l).turn ≡ l.turn)
      go true on e = cc
      go false off e = (off, e, refl)

  lines_then : (lines : List TurnLine) → Lines lines (all_instances w) → (step : Step) → MayCome w step → Lines (lines_by step w lines) (Then step)
  lines_then lines before (Commanded command) may line h is = before line h is
  lines_then lines before (Begin turn instance configuration consumer callback chosen) may line h is =
      let has_turns = begun_has turn instance configuration consumer callback chosen may in
      elim (in_either lines _ line h) [
        | inl old ↦ has_turns.1 line.turn (before line old is)
        | inr new ↦ subst (λ n. Has n (Then (Begin turn instance configuration consumer callback chosen))) (ap (λ (l : TurnLine). l.turn) (single _ line new)) has_turns.0
      ]
  lines_then lines before (End turn outcome) may line h is =
      let was = mapped_was (ended_line turn outcome) lines line h in
      let parts = none_ended turn outcome was.0 (ap (λ (l : TurnLine). l.outcome) was.1.1 ∙ is) in
      subst (λ n. Has n (Then (End turn outcome))) (sym parts.2 ∙ ap (λ (l : TurnLine). l.turn) was.1.1) (ended_has turn outcome was.0.turn parts.0 (before was.0 was.1.0 parts.1))
  lines_then lines before (Drained instance) may line h is = drained_has instance line.turn (before line h is)
  lines_then lines before (Got bundle service) may line h is = before line h is
  lines_then lines before (Released place) may line h is = before line h is

-- ---- over a journal

pub turns_under_way : (limit : ℕ) (journal : History) → IsLegal limit journal → (line : TurnLine) → Contains (turn_lines journal) line → line.outcome ≡ None → is_under_way (world_of journal) line.turn ≡ true
unfolding world_of world_after_entry world_after_step
turns_under_way limit [] legal line h is = absurd (in_none line h)
turns_under_way limit (entry ∷ past) legal line h is = lines_then limit past legal.1 (turn_lines past) (turns_under_way limit past legal.1) entry.step legal.0.step line h is
