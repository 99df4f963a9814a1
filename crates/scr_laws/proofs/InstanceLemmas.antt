-- The instances after a step: each is an earlier one, with its number, its slot and all else that stays, or the one that a Create made.
use Rattle.std.proofs.Common.{◌≡◌, ◌⊎◌, ℕ, List, [], ◌∷◌, ◌++◌, ap, sym, ◌∙◌, refl, subst, cond, Bool, true, false, inl, inr, Some}
use Rattle.std.specs.Prelude.{find, map, ◌==◌}
use Rattle.std.specs.List.{Contains}
use Rattle.callback_orders.specs.declared.callback.Callback.{Callback}
use Rattle.callback_orders.specs.declared.callback.Callback.TheVariants.{Create, Bind, Updated, Unbind, Activate, Modified, Deactivate, Destroy}
use Rattle.callback_orders.specs.declared.callback.Outcome.{Outcome}
use Rattle.callback_orders.specs.Sequences.{begun}
use Rattle.component_state.specs.declared.origin.Choice.{Choice}
use Rattle.component_state.proofs.Apart.{in_cases, in_either, in_first, in_none, in_rest, kept_was}
use Rattle.scr_world.specs.declared.instance.Instance.{Instance}
use Rattle.scr_world.specs.declared.step.Step.{Step}
use Rattle.scr_world.specs.declared.step.Step.TheVariants.{Command as Commanded, Begin, End, Drained, Got, Released}
use Rattle.scr_world.specs.declared.world.World.{World}
use Rattle.scr_world.specs.Instances.{BeforeTurn, begun_by, created_at, drained_in, ended_in, has_turn, lives_on, with_callback_begun, with_effect_of_begin, with_outcome}
use Rattle.scr_world.specs.Stepping.{before_turn, instances_by, instances_told}

-- one instance, at two times
pub record IsSame (i j : Instance) : Type 0 where
  pub number : i.number ≡ j.number
  pub slot : i.slot ≡ j.slot
  pub consumer : i.consumer ≡ j.consumer
  pub service : i.service ≡ j.service
  pub origin : i.origin ≡ j.origin

itself : (i : Instance) → IsSame i i
itself i = record { number = refl; slot = refl; consumer = refl; service = refl; origin = refl }

one_of : (b : Bool) (i j : Instance) → IsSame j i → IsSame (cond b j i) i
one_of true i j same = same
one_of false i j same = itself i

taken_same : (m : BeforeTurn) (callback : Callback) (turn : ℕ) (i : Instance) → IsSame (with_effect_of_begin m callback (record i { turn = turn; callbacks = i.callbacks ++ begun callback ∷ [] })) i
taken_same m Create turn i = record { number = refl; slot = refl; consumer = refl; service = refl; origin = refl }
taken_same m (Bind reference service) turn i = record { number = refl; slot = refl; consumer = refl; service = refl; origin = refl }
taken_same m (Updated reference service) turn i = record { number = refl; slot = refl; consumer = refl; service = refl; origin = refl }
taken_same m (Unbind reference service) turn i = record { number = refl; slot = refl; consumer = refl; service = refl; origin = refl }
taken_same m Activate turn i = record { number = refl; slot = refl; consumer = refl; service = refl; origin = refl }
taken_same m Modified turn i = record { number = refl; slot = refl; consumer = refl; service = refl; origin = refl }
taken_same m Deactivate turn i = record { number = refl; slot = refl; consumer = refl; service = refl; origin = refl }
taken_same m Destroy turn i = record { number = refl; slot = refl; consumer = refl; service = refl; origin = refl }

pub told_same : (m : BeforeTurn) (turn instance : ℕ) (callback : Callback) (i : Instance) → IsSame (with_callback_begun m turn instance callback i) i
told_same m turn instance callback i = one_of (i.number == instance) i (with_effect_of_begin m callback (record i { turn = turn; callbacks = i.callbacks ++ begun callback ∷ [] })) (taken_same m callback turn i)

pub ended_same : (turn : ℕ) (outcome : Outcome) (generations : List ℕ) (i : Instance) → IsSame (ended_in turn outcome generations i) i
ended_same turn outcome generations i = one_of (has_turn turn i) i (with_outcome outcome generations i) (record { number = refl; slot = refl; consumer = refl; service = refl; origin = refl })

pub drained_same : (instance : ℕ) (i : Instance) → IsSame (drained_in instance i) i
drained_same instance i = one_of (i.number == instance) i (record i { drained = true }) (record { number = refl; slot = refl; consumer = refl; service = refl; origin = refl })

-- a turn that begins makes an instance by a Create, and tells one by any other callback
pub begun_cases : (callback : Callback)
    → (callback ≡ Create) ⊎ ((m : BeforeTurn) (turn instance configuration consumer : ℕ) (chosen : List Choice)
    → begun_by m turn instance configuration consumer callback chosen ≡ map (with_callback_begun m turn instance callback) m.instances)
begun_cases Create = inl refl
begun_cases (Bind r s) = inr (λ m t i c b h. refl)
begun_cases (Updated r s) = inr (λ m t i c b h. refl)
begun_cases (Unbind r s) = inr (λ m t i c b h. refl)
begun_cases Activate = inr (λ m t i c b h. refl)
begun_cases Modified = inr (λ m t i c b h. refl)
begun_cases Deactivate = inr (λ m t i c b h. refl)
begun_cases Destroy = inr (λ m t i c b h. refl)

module _ {X Y : Type 0} where
  pub mapped_was : (f : X → Y) (xs : List X) (y : Y) → Contains (map f xs) y → (x : X) × Contains xs x × (f x ≡ y)
  mapped_was f [] y h = absurd (in_none y h)
  mapped_was f (x ∷ xs) y h = elim (in_cases (f x) (map f xs) y h) [
    | inl same ↦ (x, in_first x xs, same)
    | inr later ↦ (let found = mapped_was f xs y later in (found.0, in_rest x xs found.0 found.1, found.2))
  ]

  pub mapped_in : (f : X → Y) (xs : List X) (x : X) → Contains xs x → Contains (map f xs) (f x)
  mapped_in f [] x h = absurd (in_none x h)
  mapped_in f (z ∷ zs) x h = elim (in_cases z zs x h) [
    | inl same ↦ subst (λ (y : X). Contains (f z ∷ map f zs) (f y)) same (in_first (f z) (map f zs))
    | inr later ↦ in_rest (f z) (map f zs) (f x) (mapped_in f zs x later)
  ]

  pub mapped_over : (f : X → Y) (xs ys : List X) → map f (xs ++ ys) ≡ map f xs ++ map f ys
  mapped_over f [] ys = refl
  mapped_over f (x ∷ xs) ys = ap (λ zs. f x ∷ zs) (mapped_over f xs ys)

  pub mapped_alike : (f : X → Y) (g : X → X) → ((x : X) → f (g x) ≡ f x) → (xs : List X) → map f (map g xs) ≡ map f xs
  mapped_alike f g same [] = refl
  mapped_alike f g same (x ∷ xs) = ap (λ y. y ∷ map f (map g xs)) (same x) ∙ ap (λ ys. f x ∷ ys) (mapped_alike f g same xs)

module _ {X : Type 0} where
  pub alone : (x y : X) → Contains (x ∷ []) y → x ≡ y
  alone x y h = elim (in_cases x [] y h) [ inl same ↦ same | inr none ↦ absurd (in_none y none) ]

  pub found_was : (t : X → Bool) (xs : List X) (x : X) → find t xs ≡ Some x → Contains xs x × (t x ≡ true)
  found_was t [] x is = cc
  found_was t (y ∷ ys) x is = go (t y) refl is (found_was t ys x)
    where
      go : (b : Bool) → t y ≡ b → cond b (Some y) (find t ys) ≡ Some x → (find t ys ≡ Some x → Contains ys x × (t x ≡ true)) → Contains (y ∷ ys) x × (t x ≡ true)
      go true here found later = let same : y ≡ x = cc in (subst (λ (z : X). Contains (y ∷ ys) z) same (in_first y ys), ap t (sym same) ∙ here)
      go false none found later = let was = later found in (in_rest y ys x was.0, was.1)

-- an earlier instance
abbrev pub Was : World → Instance → Type 0
Was w i = (j : Instance) × Contains w.instances j × IsSame i j

-- the instance that a Create makes
abbrev pub IsMade : Step → World → Instance → Type 0
IsMade step w i = (turn instance configuration consumer : ℕ) × ((chosen : List Choice) × ((step ≡ Begin turn instance configuration consumer Create chosen) × (created_at (before_turn w) turn instance configuration consumer chosen ≡ i)))

was_one : (w : World) (g : Instance → Instance) → ((j : Instance) → IsSame (g j) j) → (i : Instance) → Contains (map g w.instances) i → Was w i
was_one w g same i h =
    let found = mapped_was g w.instances i h in
    (found.0, found.1, subst (λ (x : Instance). IsSame x found.0) found.2 (same found.0))

begun_was : (w : World) (turn instance configuration consumer : ℕ) (callback : Callback) (chosen : List Choice) (i : Instance)
    → Contains (begun_by (before_turn w) turn instance configuration consumer callback chosen) i → Was w i ⊎ IsMade (Begin turn instance configuration consumer callback chosen) w i
begun_was w turn instance configuration consumer callback chosen i h = elim (begun_cases callback) [
  | inl create ↦ (
      let new = created_at (before_turn w) turn instance configuration consumer chosen in
      elim (in_either w.instances (new ∷ []) i (subst (λ (c : Callback). Contains (begun_by (before_turn w) turn instance configuration consumer c chosen) i) create h)) [
        | inl old ↦ inl (i, old, itself i)
        | inr added ↦ elim (in_cases new [] i added) [
          | inl same ↦ inr (turn, instance, configuration, consumer, (chosen, (ap (λ (c : Callback). Begin turn instance configuration consumer c chosen) create, same)))
          | inr none ↦ absurd (in_none i none)
        ]
      ])
  | inr tells ↦ inl (was_one w (with_callback_begun (before_turn w) turn instance callback) (told_same (before_turn w) turn instance callback) i
      (subst (λ (is : List Instance). Contains is i) (tells (before_turn w) turn instance configuration consumer chosen) h))
]

pub instance_was : (w : World) (step : Step) (i : Instance) → Contains (instances_by step w) i → Was w i ⊎ IsMade step w i
instance_was w (Commanded command) i h = inl (i, h, itself i)
instance_was w (Begin turn instance configuration consumer callback chosen) i h = begun_was w turn instance configuration consumer callback chosen i h
instance_was w (End turn outcome) i h =
    inl (was_one w (ended_in turn outcome w.generations) (ended_same turn outcome w.generations) i (kept_was lives_on (instances_told (End turn outcome) w) i h).0)
instance_was w (Drained instance) i h = inl (was_one w (drained_in instance) (drained_same instance) i h)
instance_was w (Got bundle service) i h = inl (i, h, itself i)
instance_was w (Released place) i h = inl (i, h, itself i)
