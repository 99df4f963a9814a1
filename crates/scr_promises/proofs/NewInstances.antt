-- A new instance has no more turns to come than were counted for its key.
use Rattle.std.proofs.Common.{◌≡◌, ◌≤◌, ℕ, ◌+◌, ◌*◌, List, [], ◌∷◌, ap, sym, ◌∙◌, refl, subst, cond, arith, length, Bool, true, false, inl, inr, ◌⊎◌, Option, Some, None}
use Rattle.std.specs.Prelude.{filter, map, not, ◌==◌, ◌||◌}
use Rattle.std.specs.List.{Contains}
use Rattle.std.specs.Option.{option_map_or}
use Rattle.std.proofs.lemmas.Bool.{eqb-true}
use Rattle.bundle_life.specs.declared.bundle.BundleLife.{BundleLife}
use Rattle.bundle_life.specs.Lives.{bundle_of, is_active as is_active_state}
use Rattle.callback_orders.specs.Grammar.{is_activate, is_deactivate, is_destroy}
use Rattle.component_dto.specs.declared.description.Reference.{Reference}
use Rattle.component_state.specs.declared.component.Component.{Component}
use Rattle.component_state.specs.Components.{has_singleton_scope, provides_no_service}
use Rattle.component_state.specs.Periods.{is_open}
use Rattle.component_state.specs.Rows.{service_in}
use Rattle.component_state.proofs.Apart.{in_first, in_rest, kept_from}
use Rattle.prop_map.specs.Words.{one_if, with_places}
use Rattle.scr_laws.proofs.Legal.{in_map}
use Rattle.scr_laws.proofs.Listed.{found_was}
use Rattle.scr_promises.proofs.CallbackKinds.{was_told}
use Rattle.scr_promises.proofs.PairSteps.{value_low}
use Rattle.scr_promises.proofs.Potentials.{component_left, components_with, consumers_for, direct_with, held_at, instance_left, key_full, life_left, pair_left, reference_left}
use Rattle.scr_promises.proofs.Sums.{total, total_cons, total_count, total_low}
use Rattle.scr_world.specs.Bounds.{providers_of}
use Rattle.scr_world.specs.Lists.{is_active_bundle}
use Rattle.scr_world.specs.Views.{awaits_modified, references_in}
use Rattle.scr_world.specs.declared.instance.Instance.{Instance}
use Rattle.scr_world.specs.declared.world.World.{World}
use Rattle.service_registry.specs.declared.row.ServiceRow.{ServiceRow}

one_at_most : (b : Bool) → one_if b ≤ 1
one_at_most true = omega arith
one_at_most false = omega arith

pub life_at_most : (w : World) (i : Instance) → life_left w i ≤ 4
life_at_most w i =
    let a = one_at_most (not (was_told is_activate i.callbacks)) in
    let b = one_at_most (not (was_told is_deactivate i.callbacks)) in
    let c = one_at_most (not (was_told is_destroy i.callbacks)) in
    let d = one_at_most (awaits_modified w i) in
    omega (arith, a, b, c, d)

two_at_most : (b : Bool) (n : ℕ) → n ≤ 2 → cond b n 2 ≤ 2
two_at_most true n low = low
two_at_most false n low = omega arith

-- two for each provider, and for each service that it held
pub reference_at_most : (start : World) (e : Bool) (w : World) (i : Instance) (r : ℕ × Reference) → reference_left start e w i r ≤ 2 * providers_of start r.1.interface_name + 2 * length (held_at start i.number r.1.name)
reference_at_most start e w i r =
    let a = total_count (λ (q : ServiceRow). pair_left e w i r q.id) 2 (direct_with start r.1.interface_name) (λ q h. value_low _ _ _) in
    let b = total_count (component_left e w i r) 2 (components_with start r.1.interface_name) (λ c h. two_at_most (is_open w.open_periods c.number) (pair_left e w i r (service_in w.open_periods c.number)) (value_low _ _ _)) in
    let c = total_count (pair_left e w i r) 2 (held_at start i.number r.1.name) (λ s h. value_low _ _ _) in
    omega (arith, a, b, c)

-- places don't matter to it
pub total_placed : (g : Reference → ℕ) (k : ℕ) (rs : List Reference) → total (λ (r : ℕ × Reference). g r.1) (with_places k rs) ≡ total g rs
total_placed g k [] = refl
total_placed g k (r ∷ rs) = total_cons (λ (x : ℕ × Reference). g x.1) (k, r) (with_places (k + 1) rs) ∙ ap (λ n. g r + n) (total_placed g (k + 1) rs) ∙ sym (total_cons g r rs)

pub new_at_most : (start : World) (e : Bool) (w : World) (i : Instance) (c : Component) → references_in w i ≡ c.description.references → ((name : List ℕ) → held_at start i.number name ≡ []) → instance_left start e w i + 1 ≤ key_full start c
new_at_most start e w i c refs none =
    let each = total_low (reference_left start e w i) (λ (r : ℕ × Reference). 2 * providers_of start r.1.interface_name) (with_places 0 (references_in w i))
    (λ r h. (let low = reference_at_most start e w i r in let gone = ap (λ (ns : List ℕ). length ns) (none r.1.name) in omega (arith, low, gone))) in
    let placed = total_placed (λ (r : Reference). 2 * providers_of start r.interface_name) 0 (references_in w i) in
    let same = ap (λ (rs : List Reference). total (λ (r : Reference). 2 * providers_of start r.interface_name) rs) refs in
    let life = life_at_most w i in
    omega (arith, each, placed, same, life)

-- its consumer is one of those that are counted
pub consumer_counted : (start : World) (c : Component) (n : ℕ) → (n ≡ 0) ⊎ (is_active_bundle start n ≡ true) → ((has_singleton_scope c.description.scope || provides_no_service c) ≡ true → n ≡ 0) → Contains (consumers_for start c) n
consumer_counted start c n active for_all = go (has_singleton_scope c.description.scope || provides_no_service c) refl
  where
    listed : (o : Option BundleLife) → bundle_of start.bundles.rows n ≡ o → option_map_or (λ (b : BundleLife). is_active_state b.state) o false ≡ true → Contains (map (λ (b : BundleLife). b.number) (filter (λ (b : BundleLife). is_active_state b.state) start.bundles.rows)) n
    listed None is on = cc
    listed (Some b) is on =
        let found = found_was (λ (x : BundleLife). x.number == n) start.bundles.rows b is in
        let rows = filter (λ (x : BundleLife). is_active_state x.state) start.bundles.rows in
        subst (λ m. Contains (map (λ (x : BundleLife). x.number) rows) m) (eqb-true b.number n found.1)
        (in_map (λ (x : BundleLife). x.number) rows b (kept_from (λ (x : BundleLife). is_active_state x.state) start.bundles.rows b found.0 on))

    by_active : (n ≡ 0) ⊎ (is_active_bundle start n ≡ true) → Contains (0 ∷ map (λ (b : BundleLife). b.number) (filter (λ (b : BundleLife). is_active_state b.state) start.bundles.rows)) n
    by_active (inl none) = subst (λ m. Contains (0 ∷ map (λ (b : BundleLife). b.number) (filter (λ (b : BundleLife). is_active_state b.state) start.bundles.rows)) m) (sym none) (in_first 0 _)
    by_active (inr on) = in_rest 0 _ n (listed (bundle_of start.bundles.rows n) refl on)

    go : (b : Bool) → (has_singleton_scope c.description.scope || provides_no_service c) ≡ b → Contains (cond b (0 ∷ []) (0 ∷ map (λ (x : BundleLife). x.number) (filter (λ (x : BundleLife). is_active_state x.state) start.bundles.rows))) n
    go true is = subst (λ m. Contains (0 ∷ []) m) (sym (for_all is)) (in_first 0 [])
    go false is = by_active active
