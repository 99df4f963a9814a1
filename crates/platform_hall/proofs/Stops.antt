-- A turn that ends is under way no more, no other one ends with it, and what becomes of its object; drains and commands leave turns and objects alone.
use Rattle.std.proofs.Common.{◌≡◌, ℕ, List, ap, sym, ◌∙◌, refl, subst, cond, Bool, true, false, ◌&&◌, ◌||◌, inl, inr, ◌⊎◌}
use Rattle.std.specs.Prelude.{map, not, ◌==◌}
use Rattle.std.specs.List.{Contains, list_any}
use Rattle.std.proofs.lemmas.Bool.{and_from, and_parts, both_ways, cases_Bool, cases_eq, eqb-true, eq-eqb, ne_eqb, cond-true, cond-false}
use Rattle.callback_orders.specs.declared.callback.Callback.{Callback}
use Rattle.callback_orders.specs.declared.callback.Callback.TheVariants.{Create, Bind, Updated, Unbind, Activate, Modified, Deactivate, Destroy}
use Rattle.callback_orders.specs.declared.callback.Outcome.{Outcome}
use Rattle.callback_orders.specs.declared.callback.Outcome.TheVariants.{Done, Refused, NoMemory}
use Rattle.callback_orders.specs.Grammar.{is_create, is_destroy}
use Rattle.callback_orders.specs.Sequences.{is_outstanding}
use Rattle.component_state.proofs.Apart.{any_found, any_from, either_way, in_cases, in_first, in_rest, kept_from, kept_was}
use Rattle.turn_work.specs.declared.work.TurnWork.{TurnWork}
use Rattle.turn_runner.specs.Outcomes.{is_done as is_done_told, makes_object}
use Rattle.scr_laws.proofs.Activated.{none_outstanding}
use Rattle.scr_laws.proofs.InstanceLemmas.{ended_same, mapped_in, mapped_was}
use Rattle.scr_world.specs.Instances.{drained_in, ended_in, has_turn, lives_on, with_outcome}
use Rattle.scr_world.specs.Worlds.{all_instances}
use Rattle.scr_world.specs.declared.command.Command.{Command}
use Rattle.scr_world.specs.declared.instance.Instance.{Instance}
use Rattle.scr_world.specs.declared.step.Step.TheVariants.{Command as Commanded, End, Drained}
use Rattle.scr_world.specs.declared.world.World.{World}
use Rattle.platform_hall.specs.Platforms.{is_made}
use Rattle.platform_hall.proofs.Lists.{any_alike, any_none, any_over}
use Rattle.platform_hall.proofs.Starts.{Runs, made_for, no_object, runs_board, runs_made, runs_positive}
use Rattle.platform_hall.proofs.Steps.{IsAfter}
use Rattle.platform_hall.proofs.Turns.{AreTold, never_zero, one_turn, same_number}
use Rattle.platform_hall.proofs.Words.{ended_keeps, keeps_object}

-- what becomes of an object once a turn has ended: that of its instance, where it made one it is there, and where it was its Destroy it is gone
abbrev pub object_after : TurnWork → Outcome → (ℕ → Bool) → ℕ → Bool
object_after work outcome before n = (before n || (makes_object work outcome && (work.instance == n))) && not (is_destroy work.callback && (work.instance == n))

stays_where_not : (b makes destroys : Bool) → b ≡ ((b || (makes && false)) && not (destroys && false))
stays_where_not true true true = refl
stays_where_not true true false = refl
stays_where_not true false true = refl
stays_where_not true false false = refl
stays_where_not false true true = refl
stays_where_not false true false = refl
stays_where_not false false true = refl
stays_where_not false false false = refl

stays_as : (b makes destroys here : Bool) → here ≡ false → b ≡ ((b || (makes && here)) && not (destroys && here))
stays_as b makes destroys here is = stays_where_not b makes destroys ∙ ap (λ h. (b || (makes && h)) && not (destroys && h)) (sym is)

-- that of its own instance, by cases
abbrev made_by : Callback → Outcome → Bool
made_by callback outcome = is_create callback && is_done_told outcome

own_object_after : (callback : Callback) (outcome : Outcome) → keeps_object callback outcome ≡ ((not (is_create callback) || ((not false && made_by callback outcome) && true)) && not (is_destroy callback && true))
own_object_after Create Done = refl
own_object_after Create Refused = refl
own_object_after Create NoMemory = refl
own_object_after (Bind r s) outcome = refl
own_object_after (Updated r s) outcome = refl
own_object_after (Unbind r s) outcome = refl
own_object_after Activate outcome = refl
own_object_after Modified outcome = refl
own_object_after Deactivate outcome = refl
own_object_after Destroy outcome = refl

module _ (w now : World) (are : AreTold w) (turn : ℕ) (outcome : Outcome) (grew : IsAfter w (End turn outcome) now) (work : TurnWork) (runs : Runs w turn work) where
  abbrev g : Instance → Instance
  g = ended_in turn outcome w.generations

  ended_is : (i : Instance) → has_turn turn i ≡ true → g i ≡ with_outcome outcome w.generations i
  ended_is i its = cond-true (has_turn turn i) (with_outcome outcome w.generations i) i its

  ended_other : (i : Instance) → has_turn turn i ≡ false → g i ≡ i
  ended_other i its = cond-false (has_turn turn i) (with_outcome outcome w.generations i) i its

  -- each one was there before
  was : (x : Instance) → Contains now.instances x → (i : Instance) × Contains w.instances i × (g i ≡ x) × (lives_on x ≡ true)
  was x h =
      let there = kept_was lives_on (map g w.instances) x (subst (λ (xs : List Instance). Contains xs x) grew.instances h) in
      let found = mapped_was g w.instances x there.0 in
      (found.0, found.1, found.2, there.1)

  still : (i : Instance) → Contains w.instances i → lives_on (g i) ≡ true → Contains now.instances (g i)
  still i h lives = subst (λ (xs : List Instance). Contains xs (g i)) (sym grew.instances) (kept_from lives_on (map g w.instances) (g i) (mapped_in g w.instances i h) lives)

  still_other : (i : Instance) → Contains w.instances i → has_turn turn i ≡ false → Contains now.instances i
  still_other i h other =
      let same = ended_other i other in
      subst (λ (x : Instance). Contains now.instances x) same (still i h (ap lives_on same ∙ are.ordered.living i h))

  -- that of the whiteboard too
  any_was : (x : Instance) → Contains (all_instances now) x → (i : Instance) × Contains (all_instances w) i × (g i ≡ x)
  any_was x h = elim (in_cases now.whiteboard now.instances x h) [
    | inl board ↦ (w.whiteboard, in_first w.whiteboard w.instances, sym grew.whiteboard ∙ board)
    | inr other ↦ (let before = was x other in (before.0, in_rest w.whiteboard w.instances before.0 before.1, before.2))
  ]

  any_still : (i : Instance) → Contains (all_instances w) i → has_turn turn i ≡ false → Contains (all_instances now) i
  any_still i h other = elim (in_cases w.whiteboard w.instances i h) [
    | inl board ↦
        subst (λ (x : Instance). Contains (all_instances now) x) (grew.whiteboard ∙ ap g board ∙ ended_other i other) (in_first now.whiteboard now.instances)
    | inr old ↦ in_rest now.whiteboard now.instances i (still_other i old other)
  ]

  its_end : (i : Instance) → has_turn turn i ≡ true → is_outstanding (g i).callbacks ≡ false
  its_end i its = ap (λ (x : Instance). is_outstanding x.callbacks) (ended_is i its) ∙ none_outstanding outcome i.callbacks

  -- ---- turns under way

  out_of : (n : ℕ) (i : Instance) → has_turn n i ≡ true → is_outstanding i.callbacks ≡ true
  out_of n i its = (and_parts (i.turn == n) (is_outstanding i.callbacks) its).1

  turn_of : (n : ℕ) (i : Instance) → has_turn n i ≡ true → i.turn ≡ n
  turn_of n i its = eqb-true i.turn n (and_parts (i.turn == n) (is_outstanding i.callbacks) its).0

  -- one that is told in a turn after it wasn't told in this one
  stays_out : (n : ℕ) (x : Instance) (i : Instance) → g i ≡ x → has_turn n x ≡ true → has_turn turn i ≡ false
  stays_out n x i same its = elim (cases_Bool (has_turn turn i)) [
    | inl this ↦ absurd (both_ways (is_outstanding x.callbacks) (sym (ap (λ (y : Instance). is_outstanding y.callbacks) same) ∙ its_end i this) (out_of n x its))
    | inr other ↦ other
  ]

  pub stops_it : list_any (has_turn turn) (all_instances now) ≡ false
  stops_it = any_none (has_turn turn) (all_instances now) (λ x h its.
      let before = any_was x h in
      let other = stays_out turn x before.0 before.2 its in
      both_ways (has_turn turn before.0) other (ap (has_turn turn) (sym (ended_other before.0 other) ∙ before.2) ∙ its))

  pub stops_others : (n : ℕ) → (turn ≡ n → ⊥) → list_any (has_turn n) (all_instances now) ≡ list_any (has_turn n) (all_instances w)
  stops_others n differ =
      either_way (list_any (has_turn n) (all_instances now)) (list_any (has_turn n) (all_instances w))
      (λ is.
      let found = any_found (has_turn n) (all_instances now) is in
      let before = any_was found.0 found.1 in
      let other = stays_out n found.0 before.0 before.2 found.2 in
      any_from (has_turn n) (all_instances w) before.0 before.1 (ap (has_turn n) (sym (ended_other before.0 other) ∙ before.2) ∙ found.2))
      (λ is.
      let found = any_found (has_turn n) (all_instances w) is in
      elim (cases_Bool (has_turn turn found.0)) [
        | inl this ↦ absurd (differ (sym (turn_of turn found.0 this) ∙ turn_of n found.0 found.2))
        | inr other ↦ any_from (has_turn n) (all_instances now) found.0 (any_still found.0 found.1 other) found.2
      ])

  -- ---- objects

  number_of : (i : Instance) → (g i).number ≡ i.number
  number_of i = (ended_same turn outcome w.generations i).number

  is_it : (i : Instance) → Contains w.instances i → has_turn turn i ≡ true → i ≡ runs.one
  is_it i h its = one_turn w are turn i runs.one (in_rest w.whiteboard w.instances i h) runs.there its runs.its

  objects_others : (n : ℕ) → (work.instance ≡ n → ⊥) → list_any (made_for n) now.instances ≡ list_any (made_for n) w.instances
  objects_others n differ =
      either_way (list_any (made_for n) now.instances) (list_any (made_for n) w.instances)
      (λ is.
      let found = any_found (made_for n) now.instances is in
      let before = was found.0 found.1 in
      elim (cases_Bool (has_turn turn before.0)) [
        | inl this ↦ absurd (not_its before.0 before.1 this (sym (number_of before.0) ∙ ap (λ (x : Instance). x.number) before.2 ∙ eqb-true found.0.number n (and_parts (found.0.number == n) (is_made found.0.callbacks) found.2).0))
        | inr other ↦ any_from (made_for n) w.instances before.0 before.1 (ap (made_for n) (sym (ended_other before.0 other) ∙ before.2) ∙ found.2)
      ])
      (λ is.
      let found = any_found (made_for n) w.instances is in
      elim (cases_Bool (has_turn turn found.0)) [
        | inl this ↦ absurd (not_its found.0 found.1 this (eqb-true found.0.number n (and_parts (found.0.number == n) (is_made found.0.callbacks) found.2).0))
        | inr other ↦ any_from (made_for n) now.instances found.0 (still_other found.0 found.1 other) found.2
      ])
    where
      not_its : (i : Instance) → Contains w.instances i → has_turn turn i ≡ true → i.number ≡ n → ⊥
      not_its i h this same = differ (sym runs.instance ∙ ap (λ (x : Instance). x.number) (sym (is_it i h this)) ∙ same)

  abbrev its_then : Instance
  its_then = with_outcome outcome w.generations runs.one

  own_test : Contains w.instances runs.one → list_any (made_for work.instance) now.instances ≡ (lives_on its_then && is_made its_then.callbacks)
  own_test there =
      either_way (list_any (made_for work.instance) now.instances) (lives_on its_then && is_made its_then.callbacks)
      (λ is.
      let found = any_found (made_for work.instance) now.instances is in
      let before = was found.0 found.1 in
      let parts = and_parts (found.0.number == work.instance) (is_made found.0.callbacks) found.2 in
      let number : before.0.number ≡ runs.one.number = sym (number_of before.0) ∙ ap (λ (x : Instance). x.number) before.2 ∙ eqb-true found.0.number work.instance parts.0 ∙ sym runs.instance in
      let same : found.0 ≡ its_then = sym before.2 ∙ ap g (same_number w are before.0 runs.one (in_rest w.whiteboard w.instances before.0 before.1) runs.there number) ∙ ended_is runs.one runs.its in
      and_from (lives_on its_then) (is_made its_then.callbacks) (sym (ap lives_on same) ∙ before.3) (sym (ap (λ (x : Instance). is_made x.callbacks) same) ∙ parts.1))
      (λ is.
      let parts = and_parts (lives_on its_then) (is_made its_then.callbacks) is in
      let same = ended_is runs.one runs.its in
      let here : Contains now.instances its_then = subst (λ (x : Instance). Contains now.instances x) same (still runs.one there (ap lives_on same ∙ parts.0)) in
      any_from (made_for work.instance) now.instances its_then here (and_from (its_then.number == work.instance) (is_made its_then.callbacks) (eq-eqb runs.one.number work.instance runs.instance) parts.1))

  objects_own : Contains w.instances runs.one → list_any (made_for work.instance) now.instances ≡ keeps_object work.callback outcome
  objects_own there =
      own_test there ∙ ended_keeps runs.one.callbacks work.callback outcome (are.ordered.each runs.one there).order (are.ordered.living runs.one there) runs.last

  -- that of the whiteboard goes on without one
  no_object_now : list_any (made_for 0) now.instances ≡ false
  no_object_now = any_none (made_for 0) now.instances (λ x h its.
      let before = was x h in
      never_zero w are before.0 before.1 (sym (number_of before.0) ∙ ap (λ (y : Instance). y.number) before.2 ∙ eqb-true x.number 0 (and_parts (x.number == 0) (is_made x.callbacks) its).0))

  abbrev had : ℕ → Bool
  had m = list_any (made_for m) w.instances

  board_object : work.instance ≡ 0 → list_any (made_for work.instance) now.instances ≡ object_after work outcome had work.instance
  board_object zero =
      ap (λ m. list_any (made_for m) now.instances) zero
      ∙ no_object_now
      ∙ none_after (had work.instance) (work.instance == 0) (made_by work.callback outcome) (work.instance == work.instance) (is_destroy work.callback)
      (ap had zero ∙ no_object w are) (eq-eqb work.instance 0 zero)
    where
      none_after : (b zero makes here destroys : Bool) → b ≡ false → zero ≡ true → false ≡ ((b || ((not zero && makes) && here)) && not (destroys && here))
      none_after true zero makes here destroys none is = cc
      none_after false true makes here destroys none is = refl
      none_after false false makes here destroys none is = cc

  own_object_then : Contains w.instances runs.one → list_any (made_for work.instance) now.instances ≡ object_after work outcome had work.instance
  own_object_then there =
      objects_own there
      ∙ own_object_after work.callback outcome
      ∙ ap (λ b. (b || ((not false && made_by work.callback outcome) && true)) && not (is_destroy work.callback && true)) (sym (runs_made w are turn work runs there))
      ∙ ap (λ z. (had work.instance || ((not z && made_by work.callback outcome) && true)) && not (is_destroy work.callback && true)) (sym (runs_positive w are turn work runs there))
      ∙ ap (λ h. (had work.instance || (makes_object work outcome && h)) && not (is_destroy work.callback && h)) (sym (eq-eqb work.instance work.instance refl))

  pub stops_objects : (n : ℕ) → list_any (made_for n) now.instances ≡ object_after work outcome had n
  stops_objects n = elim (cases_eq work.instance n) [
    | inl same ↦ subst (λ m. list_any (made_for m) now.instances ≡ object_after work outcome had m) same (own (in_cases w.whiteboard w.instances runs.one runs.there))
    | inr differ ↦
        objects_others n differ
        ∙ stays_as (list_any (made_for n) w.instances) (makes_object work outcome) (is_destroy work.callback) (work.instance == n) (ne_eqb work.instance n differ)
  ]
    where
      own : (w.whiteboard ≡ runs.one) ⊎ Contains w.instances runs.one → list_any (made_for work.instance) now.instances ≡ object_after work outcome had work.instance
      own (inl board) = board_object (runs_board w are turn work runs board)
      own (inr there) = own_object_then there

-- ---- drains and commands

drained_made : (instance n : ℕ) (i : Instance) → made_for n (drained_in instance i) ≡ made_for n i
drained_made instance n i = elim (i.number == instance) as (λ b. made_for n (cond b (record i { drained = true }) i) ≡ made_for n i) [ true ↦ refl | false ↦ refl ]

drained_turn : (instance n : ℕ) (i : Instance) → has_turn n (drained_in instance i) ≡ has_turn n i
drained_turn instance n i = elim (i.number == instance) as (λ b. has_turn n (cond b (record i { drained = true }) i) ≡ has_turn n i) [ true ↦ refl | false ↦ refl ]

-- the same turns are under way, and the same instances have their object
pub record IsAlike (w now : World) : Type 0 where
  pub under_way : (n : ℕ) → list_any (has_turn n) (all_instances now) ≡ list_any (has_turn n) (all_instances w)
  pub objects : (n : ℕ) → list_any (made_for n) now.instances ≡ list_any (made_for n) w.instances

pub alike_itself : (w : World) → IsAlike w w
alike_itself w = record { under_way = λ n. refl; objects = λ n. refl }

pub alike_then : (w between now : World) → IsAlike w between → IsAlike between now → IsAlike w now
alike_then w between now first second = record { under_way = λ n. second.under_way n ∙ first.under_way n; objects = λ n. second.objects n ∙ first.objects n }

pub drained_alike : (w now : World) (instance : ℕ) → IsAfter w (Drained instance) now → IsAlike w now
drained_alike w now instance grew = record {
  under_way = λ n. ap (λ (i : Instance). has_turn n i || list_any (has_turn n) now.instances) grew.whiteboard
      ∙ ap (λ (is : List Instance). has_turn n w.whiteboard || list_any (has_turn n) is) grew.instances
      ∙ ap (λ b. has_turn n w.whiteboard || b) (any_over (has_turn n) (drained_in instance) w.instances
      ∙ any_alike (λ i. has_turn n (drained_in instance i)) (has_turn n) w.instances (λ i h. drained_turn instance n i));
  objects = λ n. ap (list_any (made_for n)) grew.instances ∙ any_over (made_for n) (drained_in instance) w.instances
      ∙ any_alike (λ i. made_for n (drained_in instance i)) (made_for n) w.instances (λ i h. drained_made instance n i);
}

pub commanded_alike : (w now : World) (command : Command) → IsAfter w (Commanded command) now → IsAlike w now
commanded_alike w now command grew = record {
  under_way = λ n. ap (λ (i : Instance). has_turn n i || list_any (has_turn n) now.instances) grew.whiteboard
      ∙ ap (λ (is : List Instance). has_turn n w.whiteboard || list_any (has_turn n) is) grew.instances;
  objects = λ n. ap (list_any (made_for n)) grew.instances;
}
