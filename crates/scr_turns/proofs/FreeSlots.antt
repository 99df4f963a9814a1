-- The first free slot, place by place.
use Rattle.std.proofs.Common.{◌≡◌, ◌<◌, ◌≤◌, ◌-◌, ℕ, zero, suc, ◌+◌, List, [], ◌∷◌, ap, ◌∙◌, refl, arith, cond, length, Bool, true, false, ◌||◌}
use Rattle.std.specs.List.{list_any}
use Rattle.std.specs.Prelude.{map}
use Rattle.prop_map.specs.Words.{has}
use Rattle.scr_world.specs.Instances.{first_free_from, first_free_slot}
use Rattle.scr_world.specs.declared.instance.Instance.{Instance}

one_more : (taken : List ℕ) (n k : ℕ) → has taken k ≡ true → first_free_from taken (suc n) k ≡ first_free_from taken n (k + 1)
one_more taken n k is = rw is refl

one_free : (taken : List ℕ) (n k : ℕ) → has taken k ≡ false → first_free_from taken (suc n) k ≡ k
one_free taken n k is = rw is refl

pub free_later : (taken : List ℕ) (n k : ℕ) → k < n → has taken k ≡ true → first_free_from taken (n - k) k ≡ first_free_from taken (n - (k + 1)) (k + 1)
free_later taken n k low is =
    let left : n - k ≡ suc (n - (k + 1)) = omega (arith, low) in ap (λ m. first_free_from taken m k) left ∙ one_more taken (n - (k + 1)) k is

pub free_here : (taken : List ℕ) (n k : ℕ) → k < n → has taken k ≡ false → first_free_from taken (n - k) k ≡ k
free_here taken n k low is =
    let left : n - k ≡ suc (n - (k + 1)) = omega (arith, low) in ap (λ m. first_free_from taken m k) left ∙ one_free taken (n - (k + 1)) k is

pub any_mapped : {X Y : Type 0} (p : Y → Bool) (f : X → Y) (xs : List X) → list_any p (map f xs) ≡ list_any (λ x. p (f x)) xs
any_mapped p f [] = refl
any_mapped p f (x ∷ xs) = ap (λ b. p (f x) || b) (any_mapped p f xs)

from_low : (taken : List ℕ) (n k : ℕ) → first_free_from taken n k ≤ k + n
from_low taken zero k = omega arith
from_low taken (suc n) k = go (has taken k) (from_low taken n (k + 1))
  where
    go : (b : Bool) → first_free_from taken n (k + 1) ≤ k + 1 + n → cond b (first_free_from taken n (k + 1)) k ≤ k + suc n
    go true later = omega (arith, later)
    go false later = omega arith

-- it is no higher than there are instances
pub slot_low : (is : List Instance) → first_free_slot is ≤ length is
slot_low is = let low = from_low (map (λ (i : Instance). i.slot) is) (length is) 0 in omega (arith, low)
