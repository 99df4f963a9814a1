-- What is reserved after an entry has room: an entry and what it reserves need no more than what its step needs.
use Rattle.std.proofs.Common.{◌≡◌, ◌≤◌, ℕ, ◌+◌, List, [], ◌∷◌, ◌++◌, length, ap, sym, ◌∙◌, refl, subst, cond, arith, Bool, true, false, ◌&&◌, ◌||◌, inl, inr, ◌⊎◌}
use Rattle.std.specs.Prelude.{map, filter, not, ◌==◌}
use Rattle.std.specs.List.{Contains, list_any}
use Rattle.std.proofs.lemmas.Bool.{leb-true, le-leb, and_parts, cases_Bool, both_ways, cond-true, cond-false}
use Rattle.std.proofs.lemmas.List.{length-append}
use Rattle.callback_orders.specs.declared.callback.Callback.{Callback}
use Rattle.callback_orders.specs.declared.callback.Callback.TheVariants.{Create, Bind, Updated, Unbind, Activate, Modified, Deactivate, Destroy}
use Rattle.callback_orders.specs.declared.callback.Outcome.{Outcome}
use Rattle.callback_orders.specs.declared.word.Called.{Called}
use Rattle.callback_orders.specs.Grammar.{is_activate, is_create}
use Rattle.callback_orders.specs.Sequences.{begun, ended, is_outstanding}
use Rattle.component_state.specs.declared.origin.Choice.{Choice}
use Rattle.component_state.proofs.Apart.{any_found, in_first, in_rest, kept_short}
use Rattle.journal_core.specs.declared.entry.Entry.{Entry}
use Rattle.scr_laws.proofs.InstanceLemmas.{begun_cases}
use Rattle.scr_world.specs.Consequences.{is_draining}
use Rattle.scr_world.specs.Views.{ends}
use Rattle.scr_world.specs.Instances.{BeforeTurn, begun_by, created_at, drained_in, ended_in, has_turn, is_activated, is_active_instance, lives_on, with_callback_begun, with_effect_of_begin, with_outcome}
use Rattle.scr_world.specs.Legal.{MayCome, awaits_drain, is_under_way}
use Rattle.scr_world.specs.Lists.{is_active_bundle, with_lists_of, world_after_entry}
use Rattle.scr_world.specs.Room.{has_room, needed_by, reserved, reserved_for}
use Rattle.scr_world.specs.Stepping.{before_turn, instances_by, whiteboard_by, world_after_step}
use Rattle.scr_world.specs.Tables.{tokens_by}
use Rattle.scr_world.specs.Worlds.{all_instances, is_registered}
use Rattle.scr_world.specs.declared.instance.Instance.{Instance}
use Rattle.scr_world.specs.declared.marks.Token.{Token}
use Rattle.scr_world.specs.declared.step.Step.{Step}
use Rattle.scr_world.specs.declared.step.Step.TheVariants.{Command as Commanded, Begin, End, Drained, Got, Released}
use Rattle.scr_world.specs.declared.world.World.{World}
use Rattle.scr_laws.proofs.Activated.{activated_begun, activated_ended, active_activated, none_outstanding, outstanding_begun}
use Rattle.scr_laws.proofs.Begins.{Makes, Tells, TellsBoard, begin_is}
use Rattle.scr_laws.proofs.Ordered.{AreOrdered}
use Rattle.scr_laws.proofs.Sequences.{told_one, told_other}
use Rattle.scr_laws.proofs.Sums.{shorter, total, total-cons, total_changed, total_falls, total_kept, total_push}
use Rattle.prop_map.specs.Words.{one_if}

at_most_one : (b : Bool) → one_if b ≤ 1
at_most_one true = omega arith
at_most_one false = omega arith

no_more : (a b : Bool) → (a ≡ true → b ≡ true) → one_if a ≤ one_if b
no_more true b then = let is : b ≡ true = then refl in rw is (omega arith)
no_more false b then = omega arith

-- ---- at the beginning of a turn

one_more_activated : (a b d : Bool) → one_if ((a || b) && d) ≤ one_if (a && d) + one_if b
one_more_activated true b d = omega arith
one_more_activated false true d = omega (arith, at_most_one d)
one_more_activated false false d = omega arith

taken_drained : (m : BeforeTurn) (callback : Callback) (i : Instance) → (with_effect_of_begin m callback i).drained ≡ i.drained
taken_drained m Create i = refl
taken_drained m (Bind reference service) i = refl
taken_drained m (Updated reference service) i = refl
taken_drained m (Unbind reference service) i = refl
taken_drained m Activate i = refl
taken_drained m Modified i = refl
taken_drained m Deactivate i = refl
taken_drained m Destroy i = refl

pub told_drained : (m : BeforeTurn) (turn instance : ℕ) (callback : Callback) (i : Instance) → (with_callback_begun m turn instance callback i).drained ≡ i.drained
told_drained m turn instance callback i = go (i.number == instance)
  where
    go : (b : Bool) → (cond b (with_effect_of_begin m callback (record i { turn = turn; callbacks = i.callbacks ++ begun callback ∷ [] })) i).drained ≡ i.drained
    go true = taken_drained m callback (record i { turn = turn; callbacks = i.callbacks ++ begun callback ∷ [] })
    go false = refl

-- what is reserved for an instance with these callbacks
abbrev pub reserved_as : List Called → Bool → ℕ
reserved_as calls drained = one_if (is_outstanding calls) + one_if (is_activated calls && not drained)

pub reserved_is : (i : Instance) → reserved_for i ≡ reserved_as i.callbacks i.drained
reserved_is i = refl

-- with its end
pub told_reserved : (m : BeforeTurn) (turn instance : ℕ) (callback : Callback) (i : Instance) → i.number ≡ instance
    → reserved_for (with_callback_begun m turn instance callback i) ≡ 1 + one_if ((is_activated i.callbacks || is_activate callback) && not i.drained)
told_reserved m turn instance callback i its =
    reserved_is (with_callback_begun m turn instance callback i)
    ∙ ap (λ (calls : List Called). reserved_as calls (with_callback_begun m turn instance callback i).drained) (told_one m turn instance callback i its)
    ∙ ap (reserved_as (i.callbacks ++ begun callback ∷ [])) (told_drained m turn instance callback i)
    ∙ ap (λ b. one_if b + one_if (is_activated (i.callbacks ++ begun callback ∷ []) && not i.drained)) (outstanding_begun i.callbacks callback)
    ∙ ap (λ b. 1 + one_if (b && not i.drained)) (activated_begun i.callbacks callback)

told_more : (m : BeforeTurn) (turn instance : ℕ) (callback : Callback) (i : Instance) → i.number ≡ instance
    → reserved_for (with_callback_begun m turn instance callback i) ≤ reserved_for i + (1 + one_if (is_activate callback))
told_more m turn instance callback i its =
    omega (arith, told_reserved m turn instance callback i its, one_more_activated (is_activated i.callbacks) (is_activate callback) (not i.drained))

begin_needs : (b : Bool) → 1 + one_if b + 1 ≡ cond b 3 2
begin_needs true = refl
begin_needs false = refl

-- ---- at the end of a turn

module _ (turn : ℕ) (outcome : Outcome) (generations : List ℕ) where
  ended_one : (i : Instance) → has_turn turn i ≡ true → reserved_for (ended_in turn outcome generations i) + 1 ≤ reserved_for i
  ended_one i its =
      let out : is_outstanding i.callbacks ≡ true = (and_parts (i.turn == turn) (is_outstanding i.callbacks) its).1 in
      let now : ended_in turn outcome generations i ≡ with_outcome outcome generations i = cond-true (has_turn turn i) (with_outcome outcome generations i) i its in
      let over : one_if (is_outstanding (ended outcome i.callbacks)) ≡ 0 = ap one_if (none_outstanding outcome i.callbacks) in
      let was : one_if (is_outstanding i.callbacks) ≡ 1 = ap one_if out in
      omega (arith, ap reserved_for now, over, was, no_more (is_activated (ended outcome i.callbacks) && not i.drained) (is_activated i.callbacks && not i.drained) (still (is_activated (ended outcome i.callbacks)) (is_activated i.callbacks) (not i.drained) (activated_ended outcome i.callbacks out)))
    where
      still : (a b d : Bool) → (a ≡ true → b ≡ true) → (a && d) ≡ true → (b && d) ≡ true
      still true b d then e = rw (then refl) e
      still false b d then e = cc

  ended_others : (i : Instance) → reserved_for (ended_in turn outcome generations i) ≤ reserved_for i
  ended_others i = elim (cases_Bool (has_turn turn i)) [
    | inl its ↦ omega (arith, ended_one i its)
    | inr other ↦ omega (arith, ap reserved_for (cond-false (has_turn turn i) (with_outcome outcome generations i) i other))
  ]

-- ---- at a drain

module _ (instance : ℕ) where
  drained_now : (i : Instance) → reserved_for (record i { drained = true }) ≤ reserved_for i
  drained_now i = omega (arith, no_more (is_activated i.callbacks && false) (is_activated i.callbacks && not i.drained) (none (is_activated i.callbacks)))
    where
      none : (a : Bool) {b : Bool} → (a && false) ≡ true → b ≡ true
      none true e = cc
      none false e = cc

  drained_others : (i : Instance) → reserved_for (drained_in instance i) ≤ reserved_for i
  drained_others i = go (i.number == instance)
    where
      go : (b : Bool) → reserved_for (cond b (record i { drained = true }) i) ≤ reserved_for i
      go true = drained_now i
      go false = omega arith

  drained_one : (w : World) (i : Instance) → (i.number == instance) ≡ true → awaits_drain w i ≡ true → reserved_for (drained_in instance i) + 1 ≤ reserved_for i
  drained_one w i its waits =
      let parts = and_parts (is_draining w i) (not i.drained) waits in
      let active : is_active_instance i ≡ true = (and_parts (is_active_instance i) (ends w i) parts.0).0 in
      let now : drained_in instance i ≡ record i { drained = true } = cond-true (i.number == instance) (record i { drained = true }) i its in
      let was : one_if (is_activated i.callbacks && not i.drained) ≡ 1 = ap (λ b. one_if (b && not i.drained)) (active_activated i active) ∙ ap one_if parts.1 in
      let is : one_if (is_activated i.callbacks && false) ≡ 0 = ap (λ b. one_if (b && false)) (active_activated i active) in
      omega (arith, ap reserved_for now, was, is)

-- ---- after a step

module _ (w : World) (ordered : AreOrdered w) where
  abbrev in_use : ℕ
  in_use = total reserved_for (all_instances w)

  module _ (turn instance configuration consumer : ℕ) (callback : Callback) (chosen : List Choice) where
    abbrev begins : Step
    begins = Begin turn instance configuration consumer callback chosen

    abbrev f : Instance → Instance
    f i = with_callback_begun (before_turn w) turn instance callback i

    told_total : (one : Instance) → Contains (all_instances w) one → one.number ≡ instance → is_create callback ≡ false
        → total reserved_for (whiteboard_by begins w ∷ instances_by begins w) + 1 ≤ in_use + cond (is_activate callback) 3 2
    told_total one h number no_create = elim (begun_cases callback) [
      | inl create ↦ absurd (both_ways (is_create callback) no_create (ap is_create create))
      | inr same ↦ (
          let same_total = ap (λ (is : List Instance). total reserved_for (f w.whiteboard ∷ is)) (same (before_turn w) turn instance configuration consumer chosen) in
          let changed = total_changed reserved_for (λ (i : Instance). i.number) f instance (λ i other. ap reserved_for (told_other (before_turn w) turn instance callback i other)) (all_instances w) ordered.apart one h number in
          let more = told_more (before_turn w) turn instance callback one number in
          omega (arith, same_total, changed, more, begin_needs (is_activate callback)))
    ]

    begun_total : Makes w instance callback ⊎ (Tells w instance callback ⊎ TellsBoard w instance callback) → total reserved_for (whiteboard_by begins w ∷ instances_by begins w) + 1 ≤ in_use + cond (is_activate callback) 3 2
    begun_total (inl makes) = subst (λ (c : Callback). total reserved_for (with_callback_begun (before_turn w) turn instance c w.whiteboard ∷ begun_by (before_turn w) turn instance configuration consumer c chosen) + 1 ≤ in_use + cond (is_activate c) 3 2) (sym makes.creates) made
      where
        other : w.whiteboard.number ≡ instance → ⊥
        other e = let zero = ordered.board.number in let next = makes.next in omega (arith, zero, next, e)

        made : total reserved_for (with_callback_begun (before_turn w) turn instance Create w.whiteboard ∷ begun_by (before_turn w) turn instance configuration consumer Create chosen) + 1 ≤ in_use + 2
        made =
            let new = created_at (before_turn w) turn instance configuration consumer chosen in
            let board = ap reserved_for (told_other (before_turn w) turn instance Create w.whiteboard other) in
            let first = total-cons reserved_for (with_callback_begun (before_turn w) turn instance Create w.whiteboard) (w.instances ++ new ∷ []) in
            let push = total_push reserved_for w.instances new in
            let was = total-cons reserved_for w.whiteboard w.instances in
            let one : reserved_for new ≡ 1 = refl in
            omega (arith, board, first, push, was, one)
    begun_total (inr (inl tells)) = told_total tells.one (in_rest w.whiteboard w.instances tells.one tells.there) (sym tells.number) tells.no_create
    begun_total (inr (inr board)) = told_total w.whiteboard (in_first w.whiteboard w.instances) (sym board.number) board.no_create

  ended_total : (turn : ℕ) (outcome : Outcome) → is_under_way w turn ≡ true → total reserved_for (whiteboard_by (End turn outcome) w ∷ instances_by (End turn outcome) w) + 1 ≤ in_use
  ended_total turn outcome some =
      let g = ended_in turn outcome w.generations in
      let found = any_found (has_turn turn) (all_instances w) some in
      let falls = total_falls reserved_for g (all_instances w) (ended_others turn outcome w.generations) found.0 found.1 (ended_one turn outcome w.generations found.0 found.2) in
      let first = total-cons reserved_for (g w.whiteboard) (filter lives_on (map g w.instances)) in
      let all = total-cons reserved_for (g w.whiteboard) (map g w.instances) in
      let kept = total_kept reserved_for lives_on (map g w.instances) in
      omega (arith, falls, first, all, kept)

  drained_total : (instance : ℕ) → list_any (λ (i : Instance). (i.number == instance) && awaits_drain w i) w.instances ≡ true → total reserved_for (whiteboard_by (Drained instance) w ∷ instances_by (Drained instance) w) + 1 ≤ in_use
  drained_total instance some =
      let found = any_found (λ (i : Instance). (i.number == instance) && awaits_drain w i) w.instances some in
      let both = and_parts (found.0.number == instance) (awaits_drain w found.0) found.2 in
      let falls = total_falls reserved_for (drained_in instance) w.instances (drained_others instance) found.0 found.1 (drained_one instance w found.0 both.0 both.1) in
      omega (arith, falls, total-cons reserved_for w.whiteboard (map (drained_in instance) w.instances), total-cons reserved_for w.whiteboard w.instances)

  pub reserved_by : (step : Step) → MayCome w step → total reserved_for (whiteboard_by step w ∷ instances_by step w) + length (tokens_by step w.entries w.tokens) + 1 ≤ reserved w + needed_by step
  reserved_by (Commanded command) may = omega arith
  reserved_by (Begin turn instance configuration consumer callback chosen) may =
      let less = begun_total turn instance configuration consumer callback chosen (begin_is w ordered turn instance configuration consumer callback chosen may) in omega (arith, less)
  reserved_by (End turn outcome) may = let less = ended_total turn outcome may in omega (arith, less)
  reserved_by (Drained instance) may = let less = drained_total instance may in omega (arith, less)
  reserved_by (Got bundle service) may = omega (arith, length-append w.tokens (record { place = w.entries; bundle = bundle; service = service } ∷ []))
  reserved_by (Released place) may = let less = shorter (λ (t : Token). t.place == place) w.tokens may in omega (arith, less)

  pub reserved_then : (entry : Entry Step) → MayCome w entry.step → reserved (world_after_entry entry w) + 1 ≤ reserved w + needed_by entry.step
  unfolding world_after_entry world_after_step
  reserved_then entry may =
      let now = with_lists_of entry (world_after_step entry.step w) in
      let fewer = kept_short (λ (t : Token). is_registered now t.service && is_active_bundle now t.bundle) (tokens_by entry.step w.entries w.tokens) in
      let less = reserved_by entry.step may in
      omega (arith, fewer, less)

  -- what is reserved after an entry has room
  pub room_then : (limit : ℕ) (entry : Entry Step) → MayCome w entry.step → has_room limit w (needed_by entry.step) ≡ true → has_room limit (world_after_entry entry w) 0 ≡ true
  unfolding world_after_entry world_after_step has_room
  room_then limit entry may room =
      let before = leb-true (w.entries + reserved w + needed_by entry.step) limit room in
      let less = reserved_then entry may in
      le-leb (w.entries + 1 + reserved (world_after_entry entry w) + 0) limit (omega (arith, before, less))
