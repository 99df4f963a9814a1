-- Each beginning of a turn in a settling leaves fewer turns to come, and every other entry no more.
use Rattle.std.proofs.Common.{◌≡◌, ◌≤◌, ◌<◌, ℕ, ◌+◌, List, [], ◌∷◌, ◌++◌, ap, sym, ◌∙◌, refl, subst, cond, arith, Bool, true, false, inl, inr, ◌⊎◌, Some}
use Rattle.std.specs.Prelude.{filter, map, nat_lt, not, ◌&&◌, ◌||◌, ◌==◌}
use Rattle.std.specs.List.{Contains, list_all}
use Rattle.std.proofs.lemmas.Bool.{and_from, and_parts, both_ways, cases_Bool, eq-eqb, eqb-true, lt-ltb}
use Rattle.callback_orders.specs.declared.callback.Callback.{Callback}
use Rattle.callback_orders.specs.declared.callback.Callback.TheVariants.{Create}
use Rattle.callback_orders.specs.declared.callback.Outcome.{Outcome}
use Rattle.callback_orders.specs.declared.word.Called.{Called}
use Rattle.callback_orders.specs.Grammar.{is_activate, is_create, is_destroy}
use Rattle.callback_orders.specs.Sequences.{begun, is_done, is_whiteboard_sequence}
use Rattle.callback_orders.proofs.SequenceLaws.{is_sequence-means, is_whiteboard_sequence-means}
use Rattle.component_state.specs.declared.component.Component.{Component}
use Rattle.component_state.specs.declared.origin.Choice.{Choice}
use Rattle.component_state.specs.Components.{existing}
use Rattle.component_state.proofs.Apart.{any_found, any_from, in_cases, in_first, in_left, in_none, in_rest, in_right, kept_was}
use Rattle.journal_core.specs.declared.entry.Entry.{Entry}
use Rattle.scr_promises.proofs.Comings.{TellsDue, how_begun}
use Rattle.scr_promises.proofs.EndingLaws.{board_number}
use Rattle.scr_promises.proofs.InstanceComponents.{component_for}
use Rattle.scr_laws.proofs.TurnCallbacks.{are_told_apart}
use Rattle.scr_laws.specs.Entries.{leaves_instance}
use Rattle.scr_laws.proofs.Ends.{instances_live}
use Rattle.scr_laws.proofs.Legal.{in_map}
use Rattle.scr_laws.proofs.Sounding.{legal_sound}
use Rattle.scr_laws.proofs.InstanceLemmas.{IsSame, begun_cases, drained_same, ended_same, told_same}
use Rattle.scr_promises.proofs.Waits.{all_to}
use Rattle.scr_promises.specs.Names.{HaveOwnNames}
use Rattle.scr_promises.specs.Settlings.{ends_well, is_settling}
use Rattle.scr_promises.proofs.BeginSteps.{begins_fewer}
use Rattle.scr_promises.proofs.CallbackKinds.{was_told}
use Rattle.scr_promises.proofs.EntryGrowth.{components_stay}
use Rattle.scr_promises.proofs.EntryMoves.{board_begun, board_moves, drain_moves, end_moves, made_begun, made_moves}
use Rattle.scr_promises.proofs.NewInstances.{consumer_counted, new_at_most}
use Rattle.scr_promises.proofs.NewKeys.{key_counted}
use Rattle.scr_promises.proofs.OwnNames.{instance_names}
use Rattle.scr_promises.proofs.PairMoves.{Moves, rests}
use Rattle.scr_promises.proofs.Potentials.{consumers_for, has_new, held_at, instance_left, is_new_of, key_full, key_left, keys_left, turns_left}
use Rattle.scr_promises.proofs.SettlingSteps.{board_low, board_now, board_was, ends_on, kept_low, kept_new, key_low, keys_low, left_then, left_was, made_low, mapped_is, mapped_low, mapped_new, one_low}
use Rattle.scr_promises.proofs.SettlingWorlds.{IsSettled}
use Rattle.scr_promises.proofs.Sums.{total, total_cons, total_drops, total_less, total_low, total_over}
use Rattle.scr_laws.proofs.KeyLaws.{key_made, none_yet}
use Rattle.scr_world.specs.Instances.{begun_by, created_at, drained_in, ended_in, has_turn, last_is, lives_on, with_callback_begun, with_effect_of_begin}
use Rattle.scr_world.specs.Legal.{IsLegal, MayCome}
use Rattle.scr_world.specs.Lists.{is_active_bundle, world_after_entry, world_of}
use Rattle.scr_world.specs.Steps.{History}
use Rattle.scr_world.specs.Stepping.{before_turn, begins_by, instances_by, instances_told as told_by, whiteboard_by, world_after_step}
use Rattle.scr_world.specs.Views.{ends}
use Rattle.scr_world.specs.declared.instance.Instance.{Instance}
use Rattle.scr_world.specs.declared.step.Step.{Step}
use Rattle.scr_world.specs.declared.step.Step.TheVariants.{Command as Commanded, Begin, End, Drained, Got, Released}
use Rattle.scr_world.specs.declared.world.World.{World}

-- the last callback is one that was begun
last_told : (kind : Callback → Bool) (calls : List Called) → last_is kind calls ≡ true → was_told kind calls ≡ true
last_told kind [] on = cc
last_told kind (c ∷ []) on = ap (λ b. b || false) on
last_told kind (c ∷ d ∷ rest) on = ap (λ b. kind c.callback || b) (last_told kind (d ∷ rest) on) ∙ or_on (kind c.callback)
  where
    or_on : (b : Bool) → (b || true) ≡ true
    or_on true = refl
    or_on false = refl

leaves_so : (h c a o d : Bool) → d ≡ false → (not (h && (c || a)) || o) ≡ true → (not h || (not d && (o || (not c && not a)))) ≡ true
leaves_so false c a o d off on = refl
leaves_so true c a o true off on = cc
leaves_so true c a true false off on = refl
leaves_so true true a false false off on = cc
leaves_so true false true false false off on = cc
leaves_so true false false false false off on = refl

itself : (i : Instance) → IsSame i i
itself i = record { number = refl; slot = refl; consumer = refl; service = refl; origin = refl }

module _ (start : World) (unheld : (number : ℕ) → start.instances_numbered < number → (name : List ℕ) → held_at start number name ≡ []) (limit : ℕ) (entry : Entry Step) (past : History) (legal : IsLegal limit (entry ∷ past))
    (settles : is_settling entry.step (world_of past) ≡ true) (closed : entry.closed ≡ []) (names : HaveOwnNames (world_of past)) (is : IsSettled start (world_of past)) where
  abbrev w : World
  w = world_of past

  abbrev then : World
  then = world_of (entry ∷ past)

  abbrev was : Instance → ℕ
  was = left_was start limit entry past legal settles closed names is

  abbrev now : Instance → ℕ
  now = left_then start limit entry past legal settles closed names is

  instances_are : then.instances ≡ instances_by entry.step w
  unfolding world_of world_after_entry world_after_step
  instances_are = refl

  board_is : then.whiteboard ≡ whiteboard_by entry.step w
  unfolding world_of world_after_entry world_after_step
  board_is = refl

  abbrev Falls : ℕ → Type 0
  Falls n = turns_left start then + n ≤ turns_left start w

  board_with : (x : Instance) → then.whiteboard ≡ x → IsSame x w.whiteboard → Moves false w w.whiteboard x → board_now start limit entry past legal settles closed names is ≤ board_was start limit entry past legal settles closed names is
  board_with x same one moves = board_low start limit entry past legal settles closed names is (subst (λ (y : Instance). IsSame y w.whiteboard) (sym same) one) (subst (λ (y : Instance). Moves false w w.whiteboard y) (sym same) moves)

  -- ---- a drain

  by_drain : (instance : ℕ) → entry.step ≡ Drained instance → Falls 0
  by_drain instance is_step =
      let instances : then.instances ≡ map (drained_in instance) w.instances = instances_are ∙ ap (λ (st : Step). instances_by st w) is_step in
      let moves : (i : Instance) → Contains w.instances i → Moves (ends w i) w i (drained_in instance i) = λ i h. drain_moves (ends w i) w instance i in
      let a = mapped_low start limit entry past legal settles closed names is (drained_in instance) (drained_same instance) moves instances in
      let b = board_with w.whiteboard (board_is ∙ ap (λ (st : Step). whiteboard_by st w) is_step) (itself w.whiteboard) (rests refl refl refl) in
      let c = keys_low start limit entry past legal settles closed names is (mapped_new start limit entry past legal settles closed names is (drained_in instance) (drained_same instance) moves instances) in
      omega (arith, a, b, c)

  -- ---- the end of a turn

  by_end : (turn : ℕ) (outcome : Outcome) → entry.step ≡ End turn outcome → list_all (ends_well turn outcome) w.instances ≡ true → Falls 0
  by_end turn outcome is_step well =
      let f = ended_in turn outcome w.generations in
      let instances : then.instances ≡ filter lives_on (map f w.instances) = instances_are ∙ ap (λ (st : Step). instances_by st w) is_step in
      let moves : (i : Instance) → Contains w.instances i → Moves (ends w i) w i (f i) = λ i h. end_moves (ends w i) w turn outcome i in
      let a = kept_low start limit entry past legal settles closed names is f (ended_same turn outcome w.generations) moves instances in
      let b = board_with (f w.whiteboard) (board_is ∙ ap (λ (st : Step). whiteboard_by st w) is_step) (ended_same turn outcome w.generations w.whiteboard) (end_moves false w turn outcome w.whiteboard) in
      let c = keys_low start limit entry past legal settles closed names is (kept_new start limit entry past legal settles closed names is f (ended_same turn outcome w.generations) moves instances live) in
      omega (arith, a, b, c)
    where
      live : (i : Instance) → Contains (world_of past).instances i → start.instances_numbered < i.number → lives_on (ended_in turn outcome (world_of past).generations i) ≡ true
      live i h new =
          let fresh = is.fresh i h new in
          let no_last : last_is is_destroy i.callbacks ≡ false = elim (cases_Bool (last_is is_destroy i.callbacks)) [
            | inl on ↦ absurd (both_ways (was_told is_destroy i.callbacks) fresh.1 (last_told is_destroy i.callbacks on))
            | inr off ↦ off
          ] in
          let leaves : leaves_instance turn outcome i ≡ true = leaves_so (has_turn turn i) (last_is is_create i.callbacks) (last_is is_activate i.callbacks) (is_done (Some outcome)) (last_is is_destroy i.callbacks) no_last
          (all_to (ends_well turn outcome) (world_of past).instances well i h) in
          (and_parts (lives_on (ended_in turn outcome (world_of past).generations i)) true (instances_live turn outcome (world_of past).generations (i ∷ [])
          (λ j k. elim (in_cases i [] j k) [
            | inl same ↦ ap lives_on (sym same) ∙ (legal_sound limit past legal.1).living i h
            | inr none ↦ absurd (in_none j none)
          ]) (and_from (leaves_instance turn outcome i) true leaves refl))).0

  -- ---- the beginning of a turn that tells an instance

  module _ (turn instance configuration consumer : ℕ) (callback : Callback) (chosen : List Choice) (is_step : entry.step ≡ Begin turn instance configuration consumer callback chosen) where
    abbrev told : Instance → Instance
    told i = with_callback_begun (before_turn w) turn instance callback i

    same : (i : Instance) → IsSame (told i) i
    same = told_same (before_turn w) turn instance callback

    board_told : then.whiteboard ≡ told w.whiteboard
    board_told = board_is ∙ ap (λ (st : Step). whiteboard_by st w) is_step

    module _ (tells : TellsDue w instance callback) where
      instances_told : then.instances ≡ map told w.instances
      instances_told = instances_are ∙ ap (λ (st : Step). instances_by st w) is_step ∙ elim (begun_cases callback) [
        | inl create ↦ absurd (both_ways (is_create callback) tells.no_create (ap is_create create))
        | inr are ↦ are (before_turn w) turn instance configuration consumer chosen
      ]

      moves : (i : Instance) → Contains w.instances i → Moves (ends w i) w i (told i)
      moves = made_moves w (are_told_apart limit past legal.1).numbers (board_number past) entry.step turn instance configuration consumer callback chosen is_step tells

      each_low : (i : Instance) → Contains w.instances i → now (told i) ≤ was i
      each_low = one_low start limit entry past legal settles closed names is told same moves instances_told

      keys : keys_left start then ≤ keys_left start w
      keys = keys_low start limit entry past legal settles closed names is (mapped_new start limit entry past legal settles closed names is told same moves instances_told)

      number_on : (i : Instance) → tells.one ≡ i → (i.number == instance) ≡ true
      number_on i one = eq-eqb i.number instance (ap (λ (x : Instance). x.number) (sym one) ∙ sym tells.number)

      by_made : Contains w.instances tells.one → Falls 1
      by_made h =
          let i = tells.one in
          let there = subst (λ (xs : List Instance). Contains xs (told i)) (sym instances_told) (in_map told w.instances i h) in
          let one = made_begun w (are_told_apart limit past legal.1).numbers (board_number past) entry.step turn instance configuration consumer callback chosen is_step tells i h (number_on i refl) in
          let ordered = inl ((is_sequence-means (told i).callbacks).1 (legal.0.order (told i) (subst (λ (st : Step). Contains (told_by st w) (told i)) (sym is_step) (in_begun i h)))) in
          let less = begins_fewer start limit entry past legal settles closed is.reaches is.tables is.accounted (ends w i) (ends then (told i))
          (ends_on start limit entry past legal settles closed names is i (told i) h there (same i).number) i (told i) (in_rest w.whiteboard w.instances i h) (same i).number (same i).origin
          (instance_names limit past legal.1 names i (in_rest w.whiteboard w.instances i h)) one ordered in
          let a = mapped_is start limit entry past legal settles closed names is told same moves instances_told in
          let b = total_less (λ x. now (told x)) was w.instances each_low i h less in
          let c = board_with (told w.whiteboard) board_told (same w.whiteboard) (board_moves w (are_told_apart limit past legal.1).numbers (board_number past) entry.step turn instance configuration consumer callback chosen is_step tells) in
          let d = keys in
          omega (arith, a, b, c, d)
        where
          in_begun : (i : Instance) → Contains (world_of past).instances i → Contains (begun_by (before_turn (world_of past)) turn instance configuration consumer callback chosen) (told i)
          in_begun i k = elim (begun_cases callback) [
            | inl create ↦ absurd (both_ways (is_create callback) tells.no_create (ap is_create create))
            | inr are ↦ subst (λ (xs : List Instance). Contains xs (told i)) (sym (are (before_turn (world_of past)) turn instance configuration consumer chosen)) (in_map told (world_of past).instances i k)
          ]

      by_board : tells.one ≡ w.whiteboard → Falls 1
      by_board one =
          let begun = board_begun w (are_told_apart limit past legal.1).numbers (board_number past) entry.step turn instance configuration consumer callback chosen is_step tells (number_on w.whiteboard one) in
          let ordered = inr (ap (λ (x : Instance). is_whiteboard_sequence x.callbacks) (sym board_told ∙ board_is) ∙ (is_whiteboard_sequence-means (whiteboard_by entry.step w).callbacks).1 legal.0.whiteboard) in
          let less = begins_fewer start limit entry past legal settles closed is.reaches is.tables is.accounted false false (λ on. on) w.whiteboard (told w.whiteboard) (in_first w.whiteboard w.instances) (same w.whiteboard).number (same w.whiteboard).origin
          (instance_names limit past legal.1 names w.whiteboard (in_first w.whiteboard w.instances)) begun ordered in
          let a = mapped_low start limit entry past legal settles closed names is told same moves instances_told in
          let b = ap (instance_left start false then) board_told in
          let c = keys in
          omega (arith, a, b, c, less)

      by_tells : Falls 1
      by_tells = elim (in_cases w.whiteboard w.instances tells.one tells.there) [
        | inl board ↦ by_board (sym board)
        | inr made ↦ by_made made
      ]

  -- ---- the beginning of a Create

  module _ (turn instance configuration consumer : ℕ) (chosen : List Choice) (is_step : entry.step ≡ Begin turn instance configuration consumer Create chosen) (number : instance ≡ w.instances_numbered + 1) where
    new : Instance
    new = created_at (before_turn w) turn instance configuration consumer chosen

    may : MayCome w (Begin turn instance configuration consumer Create chosen)
    may = subst (λ (st : Step). MayCome w st) is_step legal.0.step

    instances_new : then.instances ≡ w.instances ++ new ∷ []
    unfolding new
    instances_new = instances_are ∙ ap (λ (st : Step). instances_by st w) is_step

    there : (i : Instance) → Contains w.instances i → Contains then.instances i
    there i h = subst (λ (xs : List Instance). Contains xs i) (sym instances_new) (in_left w.instances (new ∷ []) i h)

    new_there : Contains then.instances new
    new_there = subst (λ (xs : List Instance). Contains xs new) (sym instances_new) (in_right w.instances (new ∷ []) new (in_first new []))

    new_number : start.instances_numbered < new.number
    unfolding new
    new_number = (let low = is.made in omega (arith, low, number))

    board_same : then.whiteboard ≡ w.whiteboard
    board_same = board_is ∙ ap (λ (st : Step). whiteboard_by st w) is_step ∙ ap (λ b. cond b (with_effect_of_begin (before_turn w) Create (record w.whiteboard { turn = turn; callbacks = w.whiteboard.callbacks ++ begun Create ∷ [] })) w.whiteboard) other
      where
        other : ((world_of past).whiteboard.number == instance) ≡ false
        other = elim (cases_Bool ((world_of past).whiteboard.number == instance)) [
          | inl on ↦ (let zero_is = board_number past in let same = eqb-true (world_of past).whiteboard.number instance on in absurd (omega (arith, zero_is, same, number)))
          | inr off ↦ off
        ]

    stay : (i : Instance) → Contains w.instances i → start.instances_numbered < i.number → (j : Instance) × Contains then.instances j × IsSame j i
    stay i h fresh = (i, there i h, itself i)

    olds : total now w.instances ≤ total was w.instances
    olds = total_low now was w.instances (λ i h. made_low start limit entry past legal settles closed names is i i h (there i h) (itself i) (rests refl refl refl))

    by_create : Falls 1
    unfolding new
    by_create =
        let key = key_made w turn instance configuration consumer chosen may in
        let counted = key_counted limit past legal.1 key.0 key.1.0 in
        let c = counted.component in
        let in_w = kept_was (λ (x : Component). x.exists) w.components c counted.there in
        let number_is : c.number ≡ configuration = counted.number ∙ key.1.1.0 in
        let consumer_is = key.1.1.1 in
        let in_start : Contains (existing start.components) c = subst (λ (cs : List Component). Contains (existing cs) c) is.tables.components counted.there in
        let consumers : Contains (consumers_for start c) consumer = subst (λ n. Contains (consumers_for start c) n) consumer_is (consumer_counted start c key.0.consumer (active_start key.0.consumer counted.active) counted.for_all) in
        let of_it = component_for limit (entry ∷ past) legal new c (subst (λ (cs : List Component). Contains cs c) (sym (components_stay limit entry past legal settles closed)) in_w.0) number_is in
        let low = new_at_most start (ends then new) then new c of_it.references (λ name. unheld new.number new_number name) in
        let one = key_drops c number_is in
        let inner = total_drops (key_full start c) (key_left start then c) (key_left start w c) (consumers_for start c) (λ n k. key_low start limit entry past legal settles closed names is stay c n) consumer consumers one in
        let keys = total_drops (key_full start c) (λ (x : Component). total (key_left start then x) (consumers_for start x)) (λ (x : Component). total (key_left start w x) (consumers_for start x)) (existing start.components)
        (λ x k. total_low (key_left start then x) (key_left start w x) (consumers_for start x) (λ n l. key_low start limit entry past legal settles closed names is stay x n)) c in_start inner in
        let a = ap (total now) instances_new ∙ total_over now w.instances (new ∷ []) in
        let b = total_cons now new [] in
        let d = olds in
        let e = board_with w.whiteboard board_same (itself w.whiteboard) (rests refl refl refl) in
        omega (arith, low, keys, a, b, d, e)
      where
        active_start : (n : ℕ) → (n ≡ 0) ⊎ (is_active_bundle (world_of past) n ≡ true) → (n ≡ 0) ⊎ (is_active_bundle start n ≡ true)
        active_start n (inl none) = inl none
        active_start n (inr on) = inr (is.active n on)

        key_drops : (c : Component) → c.number ≡ configuration → key_left start (world_of (entry ∷ past)) c consumer + key_full start c ≤ key_left start (world_of past) c consumer
        key_drops c number_is = (
            let gone = ap (λ b. cond b 0 (key_full start c)) now_there in
            let full = ap (λ b. cond b 0 (key_full start c)) none_there in
            omega (arith, gone, full))
          where
            now_there : has_new start (world_of (entry ∷ past)) c consumer ≡ true
            now_there = any_from (is_new_of start c consumer) (world_of (entry ∷ past)).instances new new_there
                (and_from (nat_lt start.instances_numbered new.number) ((new.origin.configuration == c.number) && (new.consumer == consumer)) (lt-ltb start.instances_numbered new.number new_number)
                (and_from (new.origin.configuration == c.number) (new.consumer == consumer) (eq-eqb new.origin.configuration c.number (sym number_is)) (eq-eqb new.consumer consumer refl)))

            none_there : has_new start (world_of past) c consumer ≡ false
            none_there = elim (cases_Bool (has_new start (world_of past) c consumer)) [
              | inr off ↦ off
              | inl on ↦ (
                  let i = any_found (is_new_of start c consumer) (world_of past).instances on in
                  let parts = and_parts (nat_lt start.instances_numbered i.0.number) ((i.0.origin.configuration == c.number) && (i.0.consumer == consumer)) i.2 in
                  let rest = and_parts (i.0.origin.configuration == c.number) (i.0.consumer == consumer) parts.1 in
                  absurd (none_yet (world_of past) turn instance configuration consumer chosen may i.0 i.1 (eqb-true i.0.origin.configuration c.number rest.0 ∙ number_is) (eqb-true i.0.consumer consumer rest.1)))
            ]

  -- ---- any entry

  by_step : (step : Step) → entry.step ≡ step → is_settling step w ≡ true → Falls (begins_by step)
  by_step (Commanded command) is_step on = cc
  by_step (Begin turn instance configuration consumer callback chosen) is_step on =
      elim (how_begun w (are_told_apart limit past legal.1).numbers (board_number past) turn instance configuration consumer callback chosen (subst (λ (st : Step). MayCome w st) is_step legal.0.step)) [
        | inl makes ↦ by_create turn instance configuration consumer chosen (is_step ∙ ap (λ (c : Callback). Begin turn instance configuration consumer c chosen) makes.0) makes.1
        | inr tells ↦ by_tells turn instance configuration consumer callback chosen is_step tells
      ]
  by_step (End turn outcome) is_step on = by_end turn outcome is_step on
  by_step (Drained instance) is_step on = by_drain instance is_step
  by_step (Got bundle service) is_step on = cc
  by_step (Released place) is_step on = cc

  pub turns_fall : turns_left start then + begins_by entry.step ≤ turns_left start w
  turns_fall = by_step entry.step refl settles
