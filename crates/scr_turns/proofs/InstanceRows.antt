-- One of the living instances is another after the step of a turn.
use Rattle.std.proofs.Common.{◌≡◌, ℕ, zero, suc, List, [], ◌∷◌, Bool, true, false, Some, None, get_or, ap, sym, ◌∙◌, refl, cond}
use Rattle.std.specs.Prelude.{◌==◌, filter, find, map, not, remove}
use Rattle.std.specs.List.{Contains, position}
use Rattle.std.specs.Option.{option_to_list}
use Rattle.std.proofs.Math.ListN.{set}
use Rattle.std.proofs.lemmas.Bool.{and_parts, eqb-true}
use Rattle.std.proofs.lemmas.List.Elements.{Contains-get_or}
use Rattle.callback_orders.specs.declared.callback.Callback.{Callback}
use Rattle.callback_orders.specs.declared.callback.Outcome.{Outcome}
use Rattle.component_state.proofs.Apart.{in_first, in_rest, one_of}
use Rattle.row_places.specs.RowPlaces.{OnlyAt}
use Rattle.row_places.proofs.RowPlaceLaws.{filter_only, map_none, map_only, only_passes, only_within}
use Rattle.scr_turns.specs.TurnDrafts.{AreKnown, HaveOwnNumbers, told_in}
use Rattle.scr_turns.proofs.Places.{none_placed, only_placed}
use Rattle.scr_world.specs.Instances.{drained_in, ended_in, has_turn, lives_on, with_callback_begun, with_outcome}
use Rattle.scr_world.specs.Stepping.{before_turn, reopened_for}
use Rattle.scr_world.specs.declared.instance.Instance.{Instance}
use Rattle.scr_world.specs.declared.world.World.{World}
use Rattle.callback_orders.specs.Sequences.{is_outstanding}

-- ---- of a number

module _ (is : List Instance) (own : HaveOwnNumbers is) (n : ℕ) where
  pub told_none : (w : World) (turn : ℕ) (callback : Callback) → position (λ (i : Instance). i.number == n) is ≡ None → map (with_callback_begun (before_turn w) turn n callback) is ≡ is
  told_none w turn callback e = map_none (λ (i : Instance). i.number == n) (told_in w turn callback) is (none_placed (λ (i : Instance). i.number == n) is e)

  only_one : (k : ℕ) (i : Instance) → position (λ (i : Instance). i.number == n) is ≡ Some k → OnlyAt (λ (i : Instance). i.number == n) k is
  only_one k i e = only_placed (λ (i : Instance). i.number == n) (λ (i : Instance). i.number) n (λ j same. eqb-true j.number n same) is k own e i

  pub told_one : (w : World) (turn : ℕ) (callback : Callback) (k : ℕ) (i : Instance) → position (λ (i : Instance). i.number == n) is ≡ Some k → i ≡ get_or is k i
      → set is k (told_in w turn callback i) ≡ map (with_callback_begun (before_turn w) turn n callback) is
  told_one w turn callback k i e at =
      ap (λ (x : Instance). set is k (told_in w turn callback x)) at ∙ sym (map_only (λ (i : Instance). i.number == n) (told_in w turn callback) k is i (only_one k i e))

  pub drained_none : position (λ (i : Instance). i.number == n) is ≡ None → map (drained_in n) is ≡ is
  drained_none e = map_none (λ (i : Instance). i.number == n) (λ (i : Instance). record i { drained = true }) is (none_placed (λ (i : Instance). i.number == n) is e)

  pub drained_one : (k : ℕ) (i : Instance) → position (λ (i : Instance). i.number == n) is ≡ Some k → i ≡ get_or is k i → set is k (record i { drained = true }) ≡ map (drained_in n) is
  drained_one k i e at =
      ap (λ (x : Instance). set is k (record x { drained = true })) at ∙ sym (map_only (λ (i : Instance). i.number == n) (λ (i : Instance). record i { drained = true }) k is i (only_one k i e))

-- ---- by a turn

kept_all : {X : Type 0} (p : X → Bool) (xs : List X) → ((x : X) → Contains xs x → p x ≡ true) → filter p xs ≡ xs
kept_all p [] all = refl
kept_all p (x ∷ xs) all = ap (λ b. cond b (x ∷ filter p xs) (filter p xs)) (all x (in_first x xs)) ∙ ap (λ ys. x ∷ ys) (kept_all p xs (λ y h. all y (in_rest x xs y h)))

kept_set : {X : Type 0} (p : X → Bool) (xs : List X) (k : ℕ) (y : X) → ((x : X) → Contains xs x → p x ≡ true) → p y ≡ true → filter p (set xs k y) ≡ set xs k y
kept_set p [] k y all here = refl
kept_set p (x ∷ xs) zero y all here = ap (λ b. cond b (y ∷ filter p xs) (filter p xs)) here ∙ ap (λ ys. y ∷ ys) (kept_all p xs (λ z h. all z (in_rest x xs z h)))
kept_set p (x ∷ xs) (suc k) y all here =
    ap (λ b. cond b (x ∷ filter p (set xs k y)) (filter p (set xs k y))) (all x (in_first x xs)) ∙ ap (λ ys. x ∷ ys) (kept_set p xs k y (λ z h. all z (in_rest x xs z h)) here)

-- where just the one that passes a test is changed, and goes by that
gone : {X : Type 0} (test p : X → Bool) (f : X → X) (xs : List X) → ((x : X) → Contains xs x → test x ≡ true → p (f x) ≡ false) → ((x : X) → Contains xs x → test x ≡ false → p x ≡ true)
    → filter p (map (λ x. cond (test x) (f x) x) xs) ≡ filter (λ x. not (test x)) xs
gone test p f [] dies lives = refl
gone {X = X} test p f (x ∷ xs) dies lives = go (gone test p f xs (λ z h. dies z (in_rest x xs z h)) (λ z h. lives z (in_rest x xs z h))) (test x) refl
  where
    go : filter p (map (λ z. cond (test z) (f z) z) xs) ≡ filter (λ z. not (test z)) xs
        → (b : Bool) → test x ≡ b → filter p (cond b (f x) x ∷ map (λ z. cond (test z) (f z) z) xs) ≡ cond (not b) (x ∷ filter (λ z. not (test z)) xs) (filter (λ z. not (test z)) xs)
    go later true e = ap (λ c. cond c (f x ∷ filter p (map (λ z. cond (test z) (f z) z) xs)) (filter p (map (λ z. cond (test z) (f z) z) xs))) (dies x (in_first x xs) e) ∙ later
    go later false e = ap (λ c. cond c (x ∷ filter p (map (λ z. cond (test z) (f z) z) xs)) (filter p (map (λ z. cond (test z) (f z) z) xs))) (lives x (in_first x xs) e) ∙ ap (λ ys. x ∷ ys) later

module _ (w : World) (known : AreKnown w) (turn : ℕ) (outcome : Outcome) where
  pub ended_none : position (has_turn turn) w.instances ≡ None → filter lives_on (map (ended_in turn outcome w.generations) w.instances) ≡ w.instances
  ended_none e = ap (filter lives_on) (map_none (has_turn turn) (with_outcome outcome w.generations) w.instances (none_placed (has_turn turn) w.instances e)) ∙ kept_all lives_on w.instances known.living

  only_turn : (k : ℕ) (i : Instance) → position (has_turn turn) w.instances ≡ Some k → OnlyAt (has_turn turn) k w.instances
  only_turn k i e = only_placed (has_turn turn) (λ (j : Instance). j.turn) turn (λ j has. eqb-true j.turn turn (and_parts (j.turn == turn) (is_outstanding j.callbacks) has).0) w.instances k known.turns e i

  module _ (k : ℕ) (i : Instance) (placed : position (has_turn turn) w.instances ≡ Some k) (at : i ≡ get_or w.instances k i) where
    pub ended_one : lives_on (with_outcome outcome w.generations i) ≡ true → set w.instances k (with_outcome outcome w.generations i) ≡ filter lives_on (map (ended_in turn outcome w.generations) w.instances)
    ended_one lives =
        sym (kept_set lives_on w.instances k (with_outcome outcome w.generations i) known.living lives)
        ∙ ap (λ (x : Instance). filter lives_on (set w.instances k (with_outcome outcome w.generations x))) at
        ∙ ap (filter lives_on) (sym (map_only (has_turn turn) (with_outcome outcome w.generations) k w.instances i (only_turn k i placed)))

    pub outstanding_there : is_outstanding i.callbacks ≡ true
    outstanding_there = (and_parts (i.turn == turn) (is_outstanding i.callbacks) (ap (has_turn turn) at ∙ only_passes (has_turn turn) k w.instances i (only_turn k i placed))).1

    turn_of : (j : Instance) → has_turn turn j ≡ true → j.turn ≡ turn
    turn_of j here = eqb-true j.turn turn (and_parts (j.turn == turn) (is_outstanding j.callbacks) here).0

    the_one : (j : Instance) → Contains w.instances j → has_turn turn j ≡ true → j ≡ i
    the_one j h here =
        one_of (λ (x : Instance). x.turn) w.instances known.turns j (get_or w.instances k i) h (Contains-get_or w.instances k i (only_within (has_turn turn) k w.instances (only_turn k i placed)))
        (turn_of j here ∙ sym (turn_of (get_or w.instances k i) (only_passes (has_turn turn) k w.instances i (only_turn k i placed))))
        ∙ sym at

    pub ended_last : lives_on (with_outcome outcome w.generations i) ≡ false → remove w.instances k ≡ filter lives_on (map (ended_in turn outcome w.generations) w.instances)
    ended_last dies =
        sym (filter_only (has_turn turn) k w.instances (only_turn k i placed))
        ∙ sym (gone (has_turn turn) lives_on (with_outcome outcome w.generations) w.instances
        (λ j h here. ap (λ (x : Instance). lives_on (with_outcome outcome w.generations x)) (the_one j h here) ∙ dies)
        (λ j h off. known.living j h))

-- ---- the gate that is reopened

pub reopened_first : (p : Instance → Bool) (is : List Instance) (generations : List ℕ) → reopened_for (filter p is) generations ≡ reopened_for (option_to_list (find p is)) generations
reopened_first p [] generations = refl
reopened_first p (i ∷ is) generations = go (reopened_first p is generations) (p i)
  where
    go : reopened_for (filter p is) generations ≡ reopened_for (option_to_list (find p is)) generations
        → (b : Bool) → reopened_for (cond b (i ∷ filter p is) (filter p is)) generations ≡ reopened_for (option_to_list (cond b (Some i) (find p is))) generations
    go later true = refl
    go later false = later
