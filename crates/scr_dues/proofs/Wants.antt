-- What is due is the same by views of references that want the same.
use Rattle.std.proofs.Common.{◌≡◌, ◌∙◌, ap, refl, cond, ℕ, ◌+◌, List, [], ◌∷◌, ◌++◌, Bool, true, false, Option, Some, map}
use Rattle.std.specs.Prelude.{find, option_map}
use Rattle.std.specs.List.{enumerate_from}
use Rattle.std.specs.Option.{option_or, option_map_or}
use Rattle.callback_orders.specs.declared.due.DueRef.{DueRef}
use Rattle.callback_orders.specs.declared.due.DueRef.TheVariants.{Activate, Bind, Unbind, Updated}
use Rattle.callback_orders.specs.declared.instance_view.InstanceView.{InstanceView}
use Rattle.callback_orders.specs.declared.instance_view.Phase.TheVariants.{Making, Active}
use Rattle.callback_orders.specs.declared.instance_view.ReferenceView.{ReferenceView}
use Rattle.callback_orders.specs.Due.{bind_at, bind_or_unbind, due_in_phase, modified_if_stale, tell_at, unbind_at}
use Rattle.callback_orders.specs.References.{differs, to_bind, to_tell, to_unbind}
use Rattle.prop_map.specs.Words.{first_some}

-- a reference of an instance that goes on wants the same by both
pub record WantsAs (r q : ReferenceView) : Type 0 where
  pub bind : to_bind r ≡ to_bind q
  pub unbind : to_unbind r ≡ to_unbind q
  pub tell : to_tell r ≡ to_tell q
  pub same : differs r ≡ differs q

module _ {X : Type 0} (g h : X → ReferenceView) (same : (x : X) → WantsAs (g x) (h x)) where
  binds_from : (n k : ℕ) (xs : List X) → map (bind_at n) (enumerate_from k (map g xs)) ≡ map (bind_at n) (enumerate_from k (map h xs))
  binds_from n k [] = refl
  binds_from n k (x ∷ xs) = (λ j. option_map (λ s. Bind n k s) ((same x).bind j) ∷ binds_from n (k + 1) xs j)

  unbinds_from : (n k : ℕ) (xs : List X) → map (unbind_at n) (enumerate_from k (map g xs)) ≡ map (unbind_at n) (enumerate_from k (map h xs))
  unbinds_from n k [] = refl
  unbinds_from n k (x ∷ xs) = (λ j. option_map (λ s. Unbind n k s) ((same x).unbind j) ∷ unbinds_from n (k + 1) xs j)

  tells_from : (n k : ℕ) (xs : List X) → map (tell_at n) (enumerate_from k (map g xs)) ≡ map (tell_at n) (enumerate_from k (map h xs))
  tells_from n k [] = refl
  tells_from n k (x ∷ xs) = (λ j. option_map (λ s. Updated n k s) ((same x).tell j) ∷ tells_from n (k + 1) xs j)

  either : (n k : ℕ) (x : X) → bind_or_unbind n (k, g x) ≡ bind_or_unbind n (k, h x)
  either n k x = (λ j. option_or (option_map (λ s. Bind n k s) ((same x).bind j)) (option_map (λ s. Unbind n k s) ((same x).unbind j)))

  module _ (n : ℕ) where
    abbrev made_from : ℕ → List ReferenceView → Option DueRef
    made_from k rs = option_map_or (bind_or_unbind n) (find (λ (q : ℕ × ReferenceView). differs q.1) (enumerate_from k rs)) (Some (Activate n))

    made_by : (k : ℕ) (x : X) (some rest : List ReferenceView) (d : Bool) → made_from (k + 1) some ≡ made_from (k + 1) rest
        → option_map_or (bind_or_unbind n) (cond d (Some (k, g x)) (find (λ (q : ℕ × ReferenceView). differs q.1) (enumerate_from (k + 1) some))) (Some (Activate n))
        ≡ option_map_or (bind_or_unbind n) (cond d (Some (k, h x)) (find (λ (q : ℕ × ReferenceView). differs q.1) (enumerate_from (k + 1) rest))) (Some (Activate n))
    made_by k x some rest true same_rest = either n k x
    made_by k x some rest false same_rest = same_rest

    making_from : (k : ℕ) (xs : List X) → made_from k (map g xs) ≡ made_from k (map h xs)
    making_from k [] = refl
    making_from k (x ∷ xs) =
        ap (λ b. option_map_or (bind_or_unbind n) (cond b (Some (k, g x)) (find (λ (q : ℕ × ReferenceView). differs q.1) (enumerate_from (k + 1) (map g xs)))) (Some (Activate n))) (same x).same
        ∙ made_by k x (map g xs) (map h xs) (differs (h x)) (making_from (k + 1) xs)

  -- in the making
  pub in_making : (v : InstanceView) (xs : List X) → due_in_phase (record v { references = map g xs }) Making ≡ due_in_phase (record v { references = map h xs }) Making
  in_making v xs = making_from v.instance 0 xs

  -- an active one
  pub while_active : (v : InstanceView) (xs : List X) → due_in_phase (record v { references = map g xs }) Active ≡ due_in_phase (record v { references = map h xs }) Active
  while_active v xs = (λ j. first_some (binds_from v.instance 0 xs j ++ unbinds_from v.instance 0 xs j ++ tells_from v.instance 0 xs j ++ modified_if_stale v ∷ []))
