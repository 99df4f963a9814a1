-- The gates that begin to be drained, by the numbers of the instances that were to be drained before.
use Rattle.std.proofs.Common.{◌≡◌, ℕ, Bool, true, false, List, [], ◌∷◌, ◌∙◌, ap, refl, cond}
use Rattle.std.specs.Prelude.{◌==◌, ◌&&◌, ◌||◌, filter, map, not}
use Rattle.std.specs.List.{list_any}
use Rattle.std.proofs.lemmas.List.Elements.{filter_agree}
use Rattle.prop_map.specs.Words.{has}
use Rattle.scr_consequences.specs.Ends.{begins_draining_from, draining_in}
use Rattle.scr_world.specs.Consequences.{begins_draining, gate_of, is_draining, shut_between}
use Rattle.scr_world.specs.declared.instance.Instance.{Instance}
use Rattle.scr_world.specs.declared.world.World.{World}

module _ {X Y : Type 0} (f : X → Y) (p : X → Bool) (q : Y → Bool) where
  any_by : (x : X) (kept : List X) (rest : Bool) (b t : Bool) → q (f x) ≡ t → list_any q (map f kept) ≡ rest → list_any q (map f (cond b (x ∷ kept) kept)) ≡ ((t && b) || rest)
  any_by x kept rest true true is e = ap (λ t. t || list_any q (map f kept)) is
  any_by x kept rest true false is e = ap (λ t. t || list_any q (map f kept)) is ∙ e
  any_by x kept rest false true is e = e
  any_by x kept rest false false is e = e

  -- a test of what the items of a filter give
  pub any_of_kept : (xs : List X) → list_any q (map f (filter p xs)) ≡ list_any (λ x. q (f x) && p x) xs
  any_of_kept [] = refl
  any_of_kept (x ∷ xs) = any_by x (filter p xs) (list_any (λ x. q (f x) && p x) xs) (p x) (q (f x)) refl (any_of_kept xs)

drained_numbers : (was : World) (n : ℕ) → has (draining_in was) n ≡ list_any (λ (j : Instance). (j.number == n) && is_draining was j) was.instances
unfolding draining_in
drained_numbers was n = any_of_kept (λ (i : Instance). i.number) (is_draining was) (λ m. m == n) was.instances

pub shut_is : (was now : World) (sorted given : List ℕ) (instances : List Instance) → ((n : ℕ) → has sorted n ≡ has given n) → instances ≡ now.instances → given ≡ draining_in was
    → map gate_of (filter (begins_draining_from sorted now) instances) ≡ shut_between was now
unfolding shut_between
shut_is was now sorted given instances all same e =
    ap (λ (is : List Instance). map gate_of (filter (begins_draining_from sorted now) is)) same
    ∙ ap (map gate_of) (filter_agree (begins_draining_from sorted now) (begins_draining was now) (λ i. ap (λ b. is_draining now i && not b) (all i.number ∙ ap (λ (ns : List ℕ). has ns i.number) e ∙ drained_numbers was i.number)) now.instances)
