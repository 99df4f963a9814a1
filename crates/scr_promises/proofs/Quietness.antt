-- What a quiet world says of its instances one by one: nothing is due, nothing is under way and nothing is missing.
use Rattle.std.proofs.Common.{◌≡◌, List, [], ◌∷◌, ◌++◌, ap, refl, Bool, true, false, inl, inr, Option, Some, None}
use Rattle.std.specs.Prelude.{map, not}
use Rattle.std.specs.List.{Contains, list_any}
use Rattle.std.proofs.lemmas.Bool.{both_ways, cases_Bool}
use Rattle.callback_orders.specs.declared.due.DueRef.{DueRef}
use Rattle.callback_orders.specs.declared.due.DueRef.TheVariants.{Create}
use Rattle.callback_orders.specs.declared.instance_view.InstanceView.{InstanceView}
use Rattle.callback_orders.specs.declared.instance_view.Key.{Key}
use Rattle.callback_orders.specs.Due.{due_of}
use Rattle.callback_orders.specs.Sequences.{is_outstanding}
use Rattle.component_state.proofs.Apart.{any_from, in_first, in_left, in_right, kept_from}
use Rattle.scr_laws.proofs.Legal.{in_map}
use Rattle.scr_promises.proofs.Waits.{each_none}
use Rattle.scr_world.specs.Quiet.{IsQuiet}
use Rattle.scr_world.specs.Views.{views_of}
use Rattle.scr_world.specs.Wanted.{has_instance, missing, wanted}
use Rattle.scr_world.specs.Worlds.{all_instances}
use Rattle.scr_world.specs.declared.instance.Instance.{Instance}
use Rattle.scr_world.specs.declared.world.World.{World}

pub none_passes : {X : Type 0} (p : X → Bool) (xs : List X) → list_any p xs ≡ false → (x : X) → Contains xs x → p x ≡ false
none_passes p xs none x h = elim (cases_Bool (p x)) [
  | inl on ↦ absurd (both_ways (list_any p xs) none (any_from p xs x h on))
  | inr off ↦ off
]

module _ (w : World) (quiet : IsQuiet w) where
  abbrev views : List (Option DueRef)
  views = map due_of (views_of w)

  abbrev creates : List (Option DueRef)
  creates = map (λ (key : Key). Some (Create key)) (missing w)

  pub none_due : (v : InstanceView) → Contains (views_of w) v → due_of v ≡ None
  none_due v h = each_none (views ++ creates) quiet.nothing_due (due_of v) (in_left views creates (due_of v) (in_map due_of (views_of w) v h))

  pub none_outstanding : (i : Instance) → Contains (all_instances w) i → is_outstanding i.callbacks ≡ false
  none_outstanding i h = none_passes (λ (x : Instance). is_outstanding x.callbacks) (all_instances w) quiet.ended i h

  not_missing : (key : Key) → Contains (missing w) key → ⊥
  not_missing key h =
      let none : Some (Create key) ≡ None = each_none (views ++ creates) quiet.nothing_due (Some (Create key)) (in_right views creates (Some (Create key)) (in_map (λ (k : Key). Some (Create k)) (missing w) key h)) in
      cc

  pub none_missing : missing w ≡ []
  none_missing = go (missing w) not_missing
    where
      go : (keys : List Key) → ((key : Key) → Contains keys key → ⊥) → keys ≡ []
      go [] none = refl
      go (k ∷ ks) none = absurd (none k (in_first k ks))

  pub wanted_there : (key : Key) → Contains (wanted w) key → has_instance w.instances key ≡ true
  wanted_there key h = elim (cases_Bool (has_instance w.instances key)) [
    | inl on ↦ on
    | inr off ↦ absurd (not_missing key (kept_from (λ (k : Key). not (has_instance w.instances k)) (wanted w) key h (ap not off)))
  ]
