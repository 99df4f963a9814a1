-- What an answer that is there tells of how it came about.
use Rattle.std.proofs.Common.{◌≡◌, ℕ, Bool, true, false, cond, eqb, eqb-true, ◌⊎◌, inl, inr, Option, Some, None, refl}
use Rattle.std.specs.Option.{option_and_then, option_map}

pub bind_gives : {A B : Type 0} (f : A → Option B) (o : Option A) (y : B) → option_and_then f o ≡ Some y → (x : A) × (o ≡ Some x) × (f x ≡ Some y)
bind_gives f None y e = absurd (cc)
bind_gives f (Some x) y e = (x, refl, e)

pub map_gives : {A B : Type 0} (f : A → B) (o : Option A) (y : B) → option_map f o ≡ Some y → (x : A) × (o ≡ Some x) × (f x ≡ y)
map_gives f None y e = absurd (cc)
map_gives f (Some x) y e = (x, refl, (cc))

pub same_some : {A : Type 0} {x y : A} → Some x ≡ Some y → x ≡ y
same_some e = cc

-- which way a choice went
pub chosen : {A : Type 0} (b : Bool) (x y z : A) → cond b x y ≡ z → ((b ≡ true) × (x ≡ z)) ⊎ ((b ≡ false) × (y ≡ z))
chosen true x y z e = inl (refl, e)
chosen false x y z e = inr (refl, e)

-- the same at a test of numbers
pub chosen_eq : {A : Type 0} (a b : ℕ) (x y z : A) → cond (eqb a b) x y ≡ z → ((a ≡ b) × (x ≡ z)) ⊎ ((eqb a b ≡ false) × (y ≡ z))
chosen_eq a b x y z e = elim (chosen (eqb a b) x y z e) [ inl same ↦ inl (eqb-true a b same.0, same.1) | inr other ↦ inr other ]
