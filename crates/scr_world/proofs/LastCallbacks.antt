-- The last callback stands at the last place.
use Rattle.std.proofs.Common.{◌≡◌, ℕ, ◌-◌, suc, length, List, [], ◌∷◌, refl, subst, arith}
use Rattle.std.specs.Prelude.{option_map}
use Rattle.std.specs.List.{slice_get}
use Rattle.callback_orders.specs.declared.word.Called.{Called}
use Rattle.scr_world.specs.Instances.{last_callback}

last_at : (c : Called) (rest : List Called) → last_callback (c ∷ rest) ≡ option_map (λ (c : Called). c.callback) (slice_get (c ∷ rest) (length rest))
last_at c [] = refl
last_at c (d ∷ rest) = last_at d rest

pub last_callback_at : (calls : List Called) → last_callback calls ≡ option_map (λ (c : Called). c.callback) (slice_get calls (length calls - 1))
last_callback_at [] = refl
last_callback_at (c ∷ rest) =
    let e : length rest ≡ suc (length rest) - 1 = omega arith in
    subst (λ (i : ℕ). last_callback (c ∷ rest) ≡ option_map (λ (c : Called). c.callback) (slice_get (c ∷ rest) i)) e (last_at c rest)
