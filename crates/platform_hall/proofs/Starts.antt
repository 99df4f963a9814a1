-- A turn that begins is under way, no other turn begins or ends with it, and no object comes or goes.
use Rattle.std.proofs.Common.{◌≡◌, ℕ, ◌+◌, List, [], ◌∷◌, ◌++◌, ap, sym, ◌∙◌, refl, subst, Bool, true, false, ◌&&◌, ◌||◌, Option, Some, None, inl, inr, arith}
use Rattle.std.specs.Prelude.{map, find, not, ◌==◌, option_map, option_and_then}
use Rattle.std.specs.List.{Contains, list_any}
use Rattle.std.proofs.lemmas.Bool.{and_from, and_parts, and_left, and_right, both_ways, or_right, cases_Bool, cases_eq, eqb-true, eq-eqb, ne_eqb}
use Rattle.std.proofs.lemmas.List.Folds.{list_any-append}
use Rattle.callback_orders.specs.declared.callback.Callback.{Callback}
use Rattle.callback_orders.specs.declared.callback.Callback.TheVariants.{Create}
use Rattle.callback_orders.specs.Grammar.{is_create}
use Rattle.callback_orders.specs.Sequences.{is_outstanding}
use Rattle.component_state.specs.declared.origin.Choice.{Choice}
use Rattle.component_state.proofs.Apart.{any_found, any_from, either_way, in_cases, in_rest}
use Rattle.journal_core.specs.declared.entry.Entry.{Entry}
use Rattle.turn_work.specs.declared.work.TurnWork.{TurnWork}
use Rattle.turn_runner.specs.Outcomes.{needs_object}
use Rattle.scr_laws.proofs.Activated.{outstanding_begun}
use Rattle.scr_laws.proofs.Begins.{Makes}
use Rattle.scr_laws.proofs.CallbackFronts.{none_out}
use Rattle.scr_laws.proofs.Sequences.{told_one, told_other}
use Rattle.scr_laws.proofs.Listed.{found_was}
use Rattle.scr_laws.proofs.InstanceLemmas.{begun_cases, mapped_in, told_same}
use Rattle.scr_laws.proofs.Numbering.{next_turn}
use Rattle.scr_world.specs.Calls.{Takes, world_at}
use Rattle.scr_world.specs.Dues.{next_begin}
use Rattle.scr_world.specs.Instances.{begun_by, created_at, has_turn, last_callback, with_callback_begun}
use Rattle.scr_world.specs.Legal.{IsLegal}
use Rattle.scr_world.specs.Stepping.{before_turn}
use Rattle.scr_world.specs.Steps.{history_of}
use Rattle.scr_world.specs.TurnSteps.{work_for, work_under_way}
use Rattle.scr_world.specs.Worlds.{all_instances}
use Rattle.scr_world.specs.declared.instance.Instance.{Instance}
use Rattle.scr_world.specs.declared.step.Step.{Step}
use Rattle.scr_world.specs.declared.step.Step.TheVariants.{Command as Commanded, Begin, End, Drained, Got, Released}
use Rattle.scr_world.specs.declared.world.World.{World}
use Rattle.platform_hall.specs.Platforms.{is_made}
use Rattle.platform_hall.proofs.Lists.{any_alike, any_none, any_over}
use Rattle.platform_hall.proofs.Steps.{IsAfter, grown_after, grown_legal}
use Rattle.platform_hall.proofs.Turns.{AreTold, TellsOne, begins_next, is_begin, makes_or_tells, never_zero, same_number, turn_told, turns_legal}
use Rattle.platform_hall.proofs.Words.{made_more, made_while}

-- an instance has this number and its object
abbrev pub made_for : ℕ → Instance → Bool
made_for n i = (i.number == n) && is_made i.callbacks

and_true : (b : Bool) → ((b && true) || false) ≡ b
and_true true = refl
and_true false = refl

and_false : (b : Bool) → ((b && false) || false) ≡ false
and_false true = refl
and_false false = refl

or_none : (b : Bool) → (b || false) ≡ b
or_none true = refl
or_none false = refl

module _ (w now : World) (are : AreTold w) (turn instance configuration consumer : ℕ) (callback : Callback) (chosen : List Choice)
    (is : next_begin w ≡ Some (Begin turn instance configuration consumer callback chosen)) (grew : IsAfter w (Begin turn instance configuration consumer callback chosen) now) where
  abbrev new : Instance
  new = created_at (before_turn w) turn instance configuration consumer chosen

  abbrev g : Instance → Instance
  g = with_callback_begun (before_turn w) turn instance callback

  now_makes : callback ≡ Create → now.instances ≡ w.instances ++ new ∷ []
  now_makes creates = grew.instances ∙ ap (λ (c : Callback). begun_by (before_turn w) turn instance configuration consumer c chosen) creates

  now_tells : is_create callback ≡ false → now.instances ≡ map g w.instances
  now_tells no_create = elim (begun_cases callback) [
    | inl create ↦ absurd (both_ways (is_create callback) no_create (ap is_create create))
    | inr as_told ↦ grew.instances ∙ as_told (before_turn w) turn instance configuration consumer chosen
  ]

  -- with that of the whiteboard
  all_made : Makes w instance callback → all_instances now ≡ all_instances w ++ new ∷ []
  all_made makes =
      ap (λ (i : Instance). i ∷ now.instances)
      (grew.whiteboard ∙ told_other (before_turn w) turn instance callback w.whiteboard (λ e. let zero = are.ordered.board.number in let next = makes.next in omega (arith, zero, next, e)))
      ∙ ap (λ (is : List Instance). w.whiteboard ∷ is) (now_makes makes.creates)

  all_told : is_create callback ≡ false → all_instances now ≡ map g (all_instances w)
  all_told no_create = ap (λ (i : Instance). i ∷ now.instances) grew.whiteboard ∙ ap (λ (is : List Instance). g w.whiteboard ∷ is) (now_tells no_create)

  -- ---- turns under way

  told_has : (tells : TellsOne w instance callback) → has_turn turn (g tells.one) ≡ true
  told_has tells =
      and_from ((g tells.one).turn == turn) (is_outstanding (g tells.one).callbacks)
      (eq-eqb (g tells.one).turn turn (turn_told (before_turn w) turn instance callback tells.one tells.its_number))
      (ap is_outstanding (told_one (before_turn w) turn instance callback tells.one tells.its_number) ∙ outstanding_begun tells.one.callbacks callback)

  told_alike : (tells : TellsOne w instance callback) (n : ℕ) → (turn ≡ n → ⊥) → (i : Instance) → Contains (all_instances w) i → has_turn n (g i) ≡ has_turn n i
  told_alike tells n differ i h = elim (cases_Bool (i.number == instance)) [
    | inl its ↦ (
        let number : i.number ≡ instance = eqb-true i.number instance its in
        let one : i ≡ tells.one = same_number w are i tells.one h tells.there (number ∙ sym tells.its_number) in
        let out : is_outstanding i.callbacks ≡ false = ap (λ (x : Instance). is_outstanding x.callbacks) one ∙ none_out tells.one.callbacks tells.over in
        and_left ((g i).turn == n) (is_outstanding (g i).callbacks) (ne_eqb (g i).turn n (λ e. differ (sym (turn_told (before_turn w) turn instance callback i number) ∙ e)))
        ∙ sym (and_right (i.turn == n) (is_outstanding i.callbacks) out))
    | inr other ↦ ap (has_turn n) (told_other (before_turn w) turn instance callback i (λ e. both_ways (i.number == instance) other (eq-eqb i.number instance e)))
  ]

  pub starts_under_way : (n : ℕ) → list_any (has_turn n) (all_instances now) ≡ (list_any (has_turn n) (all_instances w) || (turn == n))
  starts_under_way n = elim (makes_or_tells w are turn instance configuration consumer callback chosen is) [
    | inl makes ↦
        ap (list_any (has_turn n)) (all_made makes)
        ∙ list_any-append (has_turn n) (all_instances w) (new ∷ [])
        ∙ ap (λ b. list_any (has_turn n) (all_instances w) || b) (and_true (turn == n))
    | inr tells ↦ elim (cases_eq turn n) [
      | inl same ↦
          ap (list_any (has_turn n)) (all_told tells.no_create)
          ∙ any_from (has_turn n) (map g (all_instances w)) (g tells.one) (mapped_in g (all_instances w) tells.one tells.there) (subst (λ m. has_turn m (g tells.one) ≡ true) same (told_has tells))
          ∙ sym (or_right (list_any (has_turn n) (all_instances w)) (turn == n) (eq-eqb turn n same))
      | inr differ ↦
          ap (list_any (has_turn n)) (all_told tells.no_create)
          ∙ any_over (has_turn n) g (all_instances w)
          ∙ any_alike (λ i. has_turn n (g i)) (has_turn n) (all_instances w) (told_alike tells n differ)
          ∙ sym (or_none (list_any (has_turn n) (all_instances w)))
          ∙ ap (λ b. list_any (has_turn n) (all_instances w) || b) (sym (ne_eqb turn n differ))
    ]
  ]

  -- ---- objects

  told_made : (n : ℕ) (i : Instance) → Contains w.instances i → made_for n (g i) ≡ made_for n i
  told_made n i h = elim (cases_Bool (i.number == instance)) [
    | inl its ↦
        ap (λ k. (k == n) && is_made (g i).callbacks) (told_same (before_turn w) turn instance callback i).number
        ∙ ap (λ cs. (i.number == n) && is_made cs) (told_one (before_turn w) turn instance callback i (eqb-true i.number instance its))
        ∙ ap (λ b. (i.number == n) && b) (made_more i.callbacks callback (are.ordered.each i h).some)
    | inr other ↦ ap (made_for n) (told_other (before_turn w) turn instance callback i (λ e. both_ways (i.number == instance) other (eq-eqb i.number instance e)))
  ]

  pub starts_objects : (n : ℕ) → list_any (made_for n) now.instances ≡ list_any (made_for n) w.instances
  starts_objects n = elim (makes_or_tells w are turn instance configuration consumer callback chosen is) [
    | inl makes ↦
        ap (list_any (made_for n)) (now_makes makes.creates)
        ∙ list_any-append (made_for n) w.instances (new ∷ [])
        ∙ ap (λ b. list_any (made_for n) w.instances || b) (and_false (instance == n))
        ∙ or_none (list_any (made_for n) w.instances)
    | inr tells ↦
        ap (list_any (made_for n)) (now_tells tells.no_create)
        ∙ any_over (made_for n) g w.instances
        ∙ any_alike (λ i. made_for n (g i)) (made_for n) w.instances (told_made n)
  ]

-- ---- a turn that is under way

-- the instance that it tells
pub record Runs (w : World) (turn : ℕ) (work : TurnWork) : Type 0 where
  pub one : Instance
  pub there : Contains (all_instances w) one
  pub its : has_turn turn one ≡ true
  pub last : last_callback one.callbacks ≡ Some work.callback
  pub instance : one.number ≡ work.instance
  pub number : work.number ≡ turn

pub runs_as : (w : World) (turn : ℕ) (work : TurnWork) → work_under_way w turn ≡ Some work → Runs w turn work
runs_as w turn work is = go (find (has_turn turn) (all_instances w)) refl is
  where
    last_of : (i : Instance) → Contains (all_instances w) i → has_turn turn i ≡ true → (o : Option Callback) → last_callback i.callbacks ≡ o → option_map (work_for w turn i) o ≡ Some work → Runs w turn work
    last_of i h its None last told = cc
    last_of i h its (Some callback) last told =
        let here : work_for w turn i callback ≡ work = cc in
        record {
          one = i;
          there = h;
          its = its;
          last = last ∙ ap (λ (x : TurnWork). Some x.callback) here;
          instance = ap (λ (x : TurnWork). x.instance) here;
          number = ap (λ (x : TurnWork). x.number) (sym here);
        }

    go : (o : Option Instance) → find (has_turn turn) (all_instances w) ≡ o → option_and_then (λ (i : Instance). option_map (work_for w turn i) (last_callback i.callbacks)) o ≡ Some work → Runs w turn work
    go None found told = cc
    go (Some i) found told = let there = found_was (has_turn turn) (all_instances w) i found in last_of i there.0 there.1 (last_callback i.callbacks) refl told

module _ (w : World) (are : AreTold w) where
  -- an instance has its object by its callbacks
  pub own_object : (i : Instance) → Contains w.instances i → list_any (made_for i.number) w.instances ≡ is_made i.callbacks
  own_object i h =
      either_way (list_any (made_for i.number) w.instances) (is_made i.callbacks)
      (λ is.
      let found = any_found (made_for i.number) w.instances is in
      let parts = and_parts (found.0.number == i.number) (is_made found.0.callbacks) found.2 in
      ap (λ (x : Instance). is_made x.callbacks) (same_number w are i found.0 (in_rest w.whiteboard w.instances i h) (in_rest w.whiteboard w.instances found.0 found.1) (sym (eqb-true found.0.number i.number parts.0))) ∙ parts.1)
      (λ is. any_from (made_for i.number) w.instances i h (and_from (i.number == i.number) (is_made i.callbacks) (eq-eqb i.number i.number refl) is))

  -- that of the whiteboard has none
  pub no_object : list_any (made_for 0) w.instances ≡ false
  no_object = any_none (made_for 0) w.instances (λ i h its. never_zero w are i h (eqb-true i.number 0 (and_parts (i.number == 0) (is_made i.callbacks) its).0))

  module _ (turn : ℕ) (work : TurnWork) (runs : Runs w turn work) where
    pub runs_made : Contains w.instances runs.one → list_any (made_for work.instance) w.instances ≡ not (is_create work.callback)
    runs_made h =
        ap (λ n. list_any (made_for n) w.instances) (sym runs.instance)
        ∙ own_object runs.one h
        ∙ made_while runs.one.callbacks work.callback (are.ordered.each runs.one h).order (and_parts (runs.one.turn == turn) (is_outstanding runs.one.callbacks) runs.its).1 runs.last

    pub runs_positive : Contains w.instances runs.one → (work.instance == 0) ≡ false
    runs_positive h = ne_eqb work.instance 0 (λ e. never_zero w are runs.one h (runs.instance ∙ e))

    pub runs_board : w.whiteboard ≡ runs.one → work.instance ≡ 0
    runs_board same = sym runs.instance ∙ ap (λ (x : Instance). x.number) (sym same) ∙ are.ordered.board.number

    -- an object is there where the turn needs one
    pub runs_fits : list_any (made_for work.instance) w.instances ≡ needs_object work
    runs_fits = elim (in_cases w.whiteboard w.instances runs.one runs.there) [
      | inl board ↦
          ap (λ n. list_any (made_for n) w.instances) (runs_board board)
          ∙ no_object
          ∙ sym (ap (λ b. not (b || is_create work.callback)) (eq-eqb work.instance 0 (runs_board board)))
      | inr h ↦ runs_made h ∙ ap (λ b. not (b || is_create work.callback)) (sym (runs_positive h))
    ]

    pub runs_under_way : list_any (has_turn turn) (all_instances w) ≡ true
    runs_under_way = any_from (has_turn turn) (all_instances w) runs.one runs.there runs.its

-- ---- a turn that was taken

-- it is under way with its work, no other turn begins or ends, and no object comes or goes
pub record IsBegun (w : World) (work : TurnWork) (now : World) : Type 0 where
  pub running : work_under_way now work.number ≡ Some work
  pub under_way : (n : ℕ) → list_any (has_turn n) (all_instances now) ≡ (list_any (has_turn n) (all_instances w) || (work.number == n))
  pub objects : (n : ℕ) → list_any (made_for n) now.instances ≡ list_any (made_for n) w.instances
  pub fresh : list_any (has_turn work.number) (all_instances w) ≡ false

-- no turn of the next number is under way
next_fresh : (w : World) → AreTold w → (turn : ℕ) → turn ≡ w.turns_begun + 1 → list_any (has_turn turn) (all_instances w) ≡ false
next_fresh w are turn next = any_none (has_turn turn) (all_instances w) (λ i h its.
    let here = eqb-true i.turn turn (and_parts (i.turn == turn) (is_outstanding i.callbacks) its).0 in
    let low = are.so_far i h in omega (arith, here, low, next))

never_begins : {A : Type 0} (w : World) (step : Step) → next_begin w ≡ Some step → is_begin step ≡ false → A
never_begins w step is other = absurd (both_ways (is_begin step) other (begins_next w step is))

begun_as : (w now : World) (step : Step) (work : TurnWork) → AreTold w → next_begin w ≡ Some step → work.number ≡ w.turns_begun + 1 → work_under_way now work.number ≡ Some work → IsAfter w step now → IsBegun w work now
begun_as w now (Begin turn instance configuration consumer callback chosen) work are is next named grew =
    let same : turn ≡ work.number = next_turn w turn instance configuration consumer callback chosen is ∙ sym next in
    record {
      running = named;
      under_way = λ n. starts_under_way w now are turn instance configuration consumer callback chosen is grew n ∙ ap (λ m. list_any (has_turn n) (all_instances w) || (m == n)) same;
      objects = starts_objects w now are turn instance configuration consumer callback chosen is grew;
      fresh = next_fresh w are work.number next;
    }
begun_as w now (Commanded command) work are is next named grew = never_begins w (Commanded command) is refl
begun_as w now (End turn outcome) work are is next named grew = never_begins w (End turn outcome) is refl
begun_as w now (Drained instance) work are is next named grew = never_begins w (Drained instance) is refl
begun_as w now (Got bundle service) work are is next named grew = never_begins w (Got bundle service) is refl
begun_as w now (Released place) work are is next named grew = never_begins w (Released place) is refl

pub takes_legal : (limit : ℕ) (old new : List (Entry Step)) (work : TurnWork) → IsLegal limit (history_of old) → Takes limit old work new → IsLegal limit (history_of new)
takes_legal limit old new work legal (step, is, named, grown) = grown_legal limit old new step legal grown

pub takes_begun : (limit : ℕ) (old new : List (Entry Step)) (work : TurnWork) → IsLegal limit (history_of old) → work.number ≡ (world_at old).turns_begun + 1 → Takes limit old work new → IsBegun (world_at old) work (world_at new)
takes_begun limit old new work legal next (step, is, named, grown) =
    begun_as (world_at old) (world_at new) step work (turns_legal limit (history_of old) legal) is next named (grown_after limit old new step grown)
