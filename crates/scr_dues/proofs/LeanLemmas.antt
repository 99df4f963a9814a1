-- What is due is the same by a view without what isn't looked at.
use Rattle.std.proofs.Common.{◌≡◌, ◌∙◌, ◌+◌, ap, refl, cond, ℕ, List, [], ◌∷◌, ◌++◌, Bool, true, false, ◌&&◌, ◌||◌, Option, Some, None, if◌then◌else◌, map, filter}
use Rattle.std.specs.Prelude.{not, find, filter_map, option_map, ◌==◌}
use Rattle.std.specs.List.{list_any, list_all, last_or, enumerate_from, cons_option}
use Rattle.std.specs.Option.{option_or, option_map_or}
use Rattle.callback_orders.specs.declared.due.DueRef.TheVariants.{Bind, Updated, Unbind, Activate, Destroy}
use Rattle.callback_orders.specs.declared.instance_view.HeldService.{HeldService}
use Rattle.callback_orders.specs.declared.instance_view.InstanceView.{InstanceView}
use Rattle.callback_orders.specs.declared.instance_view.Phase.{Phase}
use Rattle.callback_orders.specs.declared.instance_view.Phase.TheVariants.{Making, Active, Left}
use Rattle.callback_orders.specs.declared.instance_view.ReferenceView.{ReferenceView}
use Rattle.callback_orders.specs.declared.instance_view.Wish.{Wish}
use Rattle.callback_orders.specs.Due.{bind_at, bind_or_unbind, due_in_phase, due_of, due_while_ending, let_go_at, modified_if_stale, tell_at, unbind_at}
use Rattle.callback_orders.specs.References.{desires_all, differs, holds_all, is_desired, is_held, to_bind, to_let_go, to_tell, to_unbind}
use Rattle.prop_map.specs.Words.{first_some, with_places}
use Rattle.scr_dues.specs.LeanViews.{lean, lean_held, lean_view, lean_wish}

-- ---- lists of which each item is exchanged for another

module _ {X Y : Type 0} (g : X → X) (value : X → Y) (same : (x : X) → value (g x) ≡ value x) where
  mapped : (xs : List X) → map value (map g xs) ≡ map value xs
  mapped [] = refl
  mapped (x ∷ xs) = (λ j. same x j ∷ mapped xs j)

  module _ (p q : X → Bool) (tests : (x : X) → p (g x) ≡ q x) where
    found_by : (x : X) (xs : List X) (b : Bool) → option_map value (find p (map g xs)) ≡ option_map value (find q xs) → option_map value (cond b (Some (g x)) (find p (map g xs))) ≡ option_map value (cond b (Some x) (find q xs))
    found_by x xs true rest = ap (λ y. Some y) (same x)
    found_by x xs false rest = rest

    found : (xs : List X) → option_map value (find p (map g xs)) ≡ option_map value (find q xs)
    found [] = refl
    found (x ∷ xs) = ap (λ b. option_map value (cond b (Some (g x)) (find p (map g xs)))) (tests x) ∙ found_by x xs (q x) (found xs)

    kept_by : (x : X) (xs : List X) (b : Bool) → map value (filter p (map g xs)) ≡ map value (filter q xs) → map value (cond b (g x ∷ filter p (map g xs)) (filter p (map g xs))) ≡ map value (cond b (x ∷ filter q xs) (filter q xs))
    kept_by x xs true rest = (λ j. same x j ∷ rest j)
    kept_by x xs false rest = rest

    kept : (xs : List X) → map value (filter p (map g xs)) ≡ map value (filter q xs)
    kept [] = refl
    kept (x ∷ xs) = ap (λ b. map value (cond b (g x ∷ filter p (map g xs)) (filter p (map g xs)))) (tests x) ∙ kept_by x xs (q x) (kept xs)

module _ {X : Type 0} (g : X → X) (p q : X → Bool) (tests : (x : X) → p (g x) ≡ q x) where
  any_same : (xs : List X) → list_any p (map g xs) ≡ list_any q xs
  any_same [] = refl
  any_same (x ∷ xs) = (λ j. tests x j || any_same xs j)

  all_same : (xs : List X) → list_all p (map g xs) ≡ list_all q xs
  all_same [] = refl
  all_same (x ∷ xs) = (λ j. tests x j && all_same xs j)

-- ---- one reference

twice : (a b c : Bool) → c ≡ a → ((not a && b) && not c) ≡ (b && not a)
twice true true c e = refl
twice true false c e = refl
twice false b c e = ap (λ x. b && not x) e

module _ (r : ReferenceView) where
  held_same : (s : ℕ) → is_held (lean r) s ≡ is_held r s
  unfolding lean
  held_same s = any_same (lean_held r) (λ (h : HeldService). h.service == s) (λ (h : HeldService). h.service == s) (λ h. refl) r.held

  desired_same : (s : ℕ) → is_desired (lean r) s ≡ is_desired r s
  unfolding lean
  desired_same s = any_same (lean_wish r) (λ (x : Wish). x.service == s) (λ (x : Wish). x.service == s) (λ x. refl) r.desired

  holds_same : holds_all (lean r) ≡ holds_all r
  unfolding lean
  holds_same = all_same (lean_wish r) (λ (x : Wish). is_held (lean r) x.service) (λ (x : Wish). is_held r x.service) (λ x. held_same x.service) r.desired

  desires_same : desires_all (lean r) ≡ desires_all r
  unfolding lean
  desires_same = all_same (lean_held r) (λ (h : HeldService). is_desired (lean r) h.service) (λ (h : HeldService). is_desired r h.service) (λ h. desired_same h.service) r.held

  pub differs_same : differs (lean r) ≡ differs r
  differs_same = (λ j. not (holds_same j) || not (desires_same j))

  bind_same : to_bind (lean r) ≡ to_bind r
  unfolding lean
  bind_same = found (lean_wish r) (λ (x : Wish). x.service) (λ x. refl) (λ (x : Wish). x.ready && not (is_held (lean r) x.service)) (λ (x : Wish). x.ready && not (is_held r x.service))
      (λ x. twice (is_held r x.service) x.ready (is_held (lean r) x.service) (held_same x.service)) r.desired

  worst_same : map (λ (h : HeldService). h.service) (filter (λ (h : HeldService). not (is_desired (lean r) h.service)) (map (lean_held r) r.held)) ≡ map (λ (h : HeldService). h.service) (filter (λ (h : HeldService). not (is_desired r h.service)) r.held)
  worst_same = kept (lean_held r) (λ (h : HeldService). h.service) (λ h. refl) (λ (h : HeldService). not (is_desired (lean r) h.service)) (λ (h : HeldService). not (is_desired r h.service)) (λ h. ap not (desired_same h.service)) r.held

  unbind_same : to_unbind (lean r) ≡ to_unbind r
  unfolding lean
  unbind_same = (λ j. if holds_same j then last_or None (worst_same j) else None)

  told_by : (b : Bool) → (if b then option_map (λ (h : HeldService). h.service) (find (λ (h : HeldService). h.changed) (map (λ (h : HeldService). record { service = h.service; changed = b && h.changed }) r.held)) else None)
      ≡ (if b then option_map (λ (h : HeldService). h.service) (find (λ (h : HeldService). h.changed) r.held) else None)
  told_by true = found (λ (h : HeldService). record { service = h.service; changed = h.changed }) (λ (h : HeldService). h.service) (λ h. refl) (λ (h : HeldService). h.changed) (λ (h : HeldService). h.changed) (λ h. refl) r.held
  told_by false = refl

  tell_same : to_tell (lean r) ≡ to_tell r
  unfolding lean
  tell_same = told_by r.told

  let_go_same : to_let_go (lean r) ≡ to_let_go r
  unfolding lean
  let_go_same = ap (last_or None) (mapped (lean_held r) (λ (h : HeldService). h.service) (λ h. refl) r.held)

-- ---- all references of an instance

module _ {Y : Type 0} (f : (ℕ × ReferenceView) → Y) (same : (k : ℕ) (r : ReferenceView) → f (k, lean r) ≡ f (k, r)) where
  each_same : (k : ℕ) (rs : List ReferenceView) → map f (enumerate_from k (map lean rs)) ≡ map f (enumerate_from k rs)
  each_same k [] = refl
  each_same k (r ∷ rs) = (λ j. same k r j ∷ each_same (k + 1) rs j)

module _ {Y : Type 0} (f : (ℕ × ReferenceView) → Option Y) (same : (k : ℕ) (r : ReferenceView) → f (k, lean r) ≡ f (k, r)) where
  some_same : (k : ℕ) (rs : List ReferenceView) → filter_map f (enumerate_from k (map lean rs)) ≡ filter_map f (enumerate_from k rs)
  some_same k [] = refl
  some_same k (r ∷ rs) = (λ j. cons_option (same k r j) (some_same (k + 1) rs j))

module _ (n : ℕ) where
  pub either_same : (k : ℕ) (r : ReferenceView) → bind_or_unbind n (k, lean r) ≡ bind_or_unbind n (k, r)
  either_same k r = (λ j. option_or (option_map (λ s. Bind n k s) (bind_same r j)) (option_map (λ s. Unbind n k s) (unbind_same r j)))

  first_by : (k : ℕ) (r : ReferenceView) (rs : List ReferenceView) (b : Bool)
      → option_map_or (bind_or_unbind n) (find (λ (q : ℕ × ReferenceView). differs q.1) (enumerate_from (k + 1) (map lean rs))) (Some (Activate n)) ≡ option_map_or (bind_or_unbind n) (find (λ (q : ℕ × ReferenceView). differs q.1) (enumerate_from (k + 1) rs)) (Some (Activate n))
      → option_map_or (bind_or_unbind n) (cond b (Some (k, lean r)) (find (λ (q : ℕ × ReferenceView). differs q.1) (enumerate_from (k + 1) (map lean rs)))) (Some (Activate n))
      ≡ option_map_or (bind_or_unbind n) (cond b (Some (k, r)) (find (λ (q : ℕ × ReferenceView). differs q.1) (enumerate_from (k + 1) rs))) (Some (Activate n))
  first_by k r rs true rest = either_same k r
  first_by k r rs false rest = rest

  making_from : (k : ℕ) (rs : List ReferenceView) → option_map_or (bind_or_unbind n) (find (λ (q : ℕ × ReferenceView). differs q.1) (enumerate_from k (map lean rs))) (Some (Activate n)) ≡ option_map_or (bind_or_unbind n) (find (λ (q : ℕ × ReferenceView). differs q.1) (enumerate_from k rs)) (Some (Activate n))
  making_from k [] = refl
  making_from k (r ∷ rs) =
      ap (λ b. option_map_or (bind_or_unbind n) (cond b (Some (k, lean r)) (find (λ (q : ℕ × ReferenceView). differs q.1) (enumerate_from (k + 1) (map lean rs)))) (Some (Activate n))) (differs_same r)
      ∙ first_by k r rs (differs r) (making_from (k + 1) rs)

  binds : (rs : List ReferenceView) → map (bind_at n) (with_places 0 (map lean rs)) ≡ map (bind_at n) (with_places 0 rs)
  binds rs = each_same (bind_at n) (λ k r. ap (option_map (λ s. Bind n k s)) (bind_same r)) 0 rs

  unbinds : (rs : List ReferenceView) → map (unbind_at n) (with_places 0 (map lean rs)) ≡ map (unbind_at n) (with_places 0 rs)
  unbinds rs = each_same (unbind_at n) (λ k r. ap (option_map (λ s. Unbind n k s)) (unbind_same r)) 0 rs

  tells : (rs : List ReferenceView) → map (tell_at n) (with_places 0 (map lean rs)) ≡ map (tell_at n) (with_places 0 rs)
  tells rs = each_same (tell_at n) (λ k r. ap (option_map (λ s. Updated n k s)) (tell_same r)) 0 rs

  lets_go : (rs : List ReferenceView) → filter_map (let_go_at n) (with_places 0 (map lean rs)) ≡ filter_map (let_go_at n) (with_places 0 rs)
  lets_go rs = some_same (let_go_at n) (λ k r. ap (option_map (λ s. Unbind n k s)) (let_go_same r)) 0 rs

module _ (v : InstanceView) where
  ending_same : (phase : Phase) → due_while_ending (lean_view v) phase ≡ due_while_ending v phase
  unfolding lean_view
  ending_same Active = refl
  ending_same Making = ap (last_or (Some (Destroy v.instance))) (lets_go v.instance v.references)
  ending_same Left = ap (last_or (Some (Destroy v.instance))) (lets_go v.instance v.references)

  phase_same : (phase : Phase) → due_in_phase (lean_view v) phase ≡ due_in_phase v phase
  unfolding lean_view
  phase_same Making = making_from v.instance 0 v.references
  phase_same Active = (λ j. first_some (binds v.instance v.references j ++ unbinds v.instance v.references j ++ tells v.instance v.references j ++ modified_if_stale v ∷ []))
  phase_same Left = refl

  pub lean_due : due_of (lean_view v) ≡ due_of v
  unfolding lean_view
  lean_due = (λ j. if v.outstanding then None else (if v.ending then ending_same v.phase j else phase_same v.phase j))
