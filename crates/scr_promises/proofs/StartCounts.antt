-- When a settling begins, at most as many turns are to come as the settle bound says.
use Rattle.std.proofs.Common.{◌≡◌, ◌≤◌, ◌<◌, ℕ, ◌+◌, ◌*◌, List, [], ◌∷◌, ap, sym, ◌∙◌, refl, cond, arith, length, Bool, true, false, inl, inr, Option, Some, None}
use Rattle.std.specs.Prelude.{filter, find, map, ◌==◌, ◌||◌}
use Rattle.std.specs.List.{Contains}
use Rattle.std.specs.Option.{option_map_or}
use Rattle.std.proofs.lemmas.Bool.{eq-eqb, eqb-true}
use Rattle.bundle_life.specs.declared.bundle.BundleLife.{BundleLife}
use Rattle.bundle_life.specs.Lives.{is_active as is_active_state}
use Rattle.callback_orders.specs.Lives.{held_for}
use Rattle.component_dto.specs.declared.description.Description.{Description}
use Rattle.component_dto.specs.declared.description.Reference.{Reference}
use Rattle.component_state.specs.declared.component.Component.{Component}
use Rattle.component_state.specs.Components.{existing, has_singleton_scope, provides_no_service}
use Rattle.component_state.specs.Inside.Ready.{are_apart}
use Rattle.component_state.proofs.Apart.{any_from, in_cases, in_first, in_left, in_none, in_rest, mapped_long, one_of}
use Rattle.prop_map.specs.Words.{has, with_places}
use Rattle.reference_match.specs.Needs.{condition_interface}
use Rattle.scr_promises.proofs.EndingLaws.{board_number}
use Rattle.scr_laws.proofs.LivingLaws.{legal_told}
use Rattle.scr_laws.proofs.TurnCallbacks.{are_told_apart}
use Rattle.scr_laws.proofs.Listed.{found_is, found_was}
use Rattle.scr_promises.proofs.ServiceLaws.{are_services, known_given, registered_known}
use Rattle.component_state.specs.Rows.{rows_of}
use Rattle.scr_promises.proofs.HeldNumbers.{held_given}
use Rattle.scr_promises.proofs.NewInstances.{life_at_most, reference_at_most, total_placed}
use Rattle.scr_promises.proofs.Potentials.{consumers_for, has_new, held_at, instance_left, key_full, key_left, reference_left, turns_left}
use Rattle.scr_promises.proofs.SettlingWorlds.{IsSettled}
use Rattle.scr_promises.proofs.Sums.{total, total_both, total_cons, total_count, total_over, total_times}
use Rattle.scr_world.specs.Bounds.{keys_at_most, pairs_of, providers_of, settle_bound}
use Rattle.scr_world.specs.Legal.{IsLegal}
use Rattle.scr_world.specs.Lists.{world_of}
use Rattle.scr_world.specs.Steps.{History}
use Rattle.scr_world.specs.Views.{ends, references_in}
use Rattle.scr_world.specs.Whiteboard.{component_in}
use Rattle.scr_world.specs.Worlds.{all_instances, direct_services}
use Rattle.scr_world.specs.declared.instance.Instance.{Instance}
use Rattle.scr_world.specs.declared.world.World.{World}
use Rattle.service_registry.specs.declared.row.ServiceRow.{ServiceRow}

abbrev number_of_it : Instance → ℕ
number_of_it i = i.number

module _ (limit : ℕ) (past : History) (legal : IsLegal limit past) where
  abbrev start : World
  start = world_of past

  -- ---- what was held

  apart : are_apart (map number_of_it (all_instances start)) ≡ true
  apart = (are_told_apart limit past legal).numbers

  held_own : (i : Instance) → Contains (all_instances start) i → (name : List ℕ) → held_at start i.number name ≡ held_for name i.callbacks
  held_own i h name = ap (λ (o : Option Instance). option_map_or (λ (x : Instance). held_for name x.callbacks) o [])
      (found_is (λ (x : Instance). x.number == i.number) (all_instances start) i h (eq-eqb i.number i.number refl) (λ x k same. one_of number_of_it (all_instances start) apart x i k h (eqb-true x.number i.number same)))

  numbered : (i : Instance) → Contains (all_instances start) i → i.number ≤ start.instances_numbered
  numbered i h = elim (in_cases start.whiteboard start.instances i h) [
    | inl board ↦ (let none = board_number past in let same = ap number_of_it board in omega (arith, none, same))
    | inr made ↦ (legal_told limit past legal).numbered i made
  ]

  pub unheld : (number : ℕ) → start.instances_numbered < number → (name : List ℕ) → held_at start number name ≡ []
  unheld number high name = go (find (λ (x : Instance). x.number == number) (all_instances start)) refl
    where
      go : (o : Option Instance) → find (λ (x : Instance). x.number == number) (all_instances (world_of past)) ≡ o → option_map_or (λ (x : Instance). held_for name x.callbacks) o [] ≡ []
      go None is = refl
      go (Some i) is =
          let found = found_was (λ (x : Instance). x.number == number) (all_instances (world_of past)) i is in
          let low = numbered i found.0 in
          let same = eqb-true i.number number found.1 in
          absurd (omega (arith, low, same, high))

  -- ---- the world in which it begins

  direct_given : (q : ServiceRow) → Contains (direct_services start) q → q.id ≤ start.registry.numbered
  direct_given q h = known_given start (are_services limit past legal) q (registered_known start (are_services limit past legal) q (in_left (direct_services start) (rows_of start.open_periods) q h))

  none_named : (number : ℕ) (name : List ℕ) (s : ℕ) → Contains (held_at start number name) s → s ≤ start.registry.numbered
  none_named number name s h = go (find (λ (x : Instance). x.number == number) (all_instances start)) refl h
    where
      go : (o : Option Instance) → find (λ (x : Instance). x.number == number) (all_instances (world_of past)) ≡ o → Contains (option_map_or (λ (x : Instance). held_for name x.callbacks) o []) s → s ≤ (world_of past).registry.numbered
      go None is k = absurd (in_none s k)
      go (Some i) is k = held_given limit past legal i (found_was (λ (x : Instance). x.number == number) (all_instances (world_of past)) i is).0 name s (any_from (λ n. n == s) (held_for name i.callbacks) s k (eq-eqb s s refl))

  pub settled_at : IsSettled start start
  settled_at = record {
    tables = record { direct = refl; components = refl };
    documents = refl;
    reaches = record { direct = direct_given; held = none_named };
    accounted = λ i h r in_r s on. inl (ap (λ (ns : List ℕ). has ns s) (held_own i h r.1.name) ∙ on);
    fresh = λ i h new. (let low = (legal_told limit past legal).numbered i h in absurd (omega (arith, low, new)));
    made = omega arith;
    active = λ n on. on;
  }

  -- ---- how many turns are to come

  asked_length : (i : Instance) → ℕ
  asked_length i = option_map_or (λ (c : Component). pairs_of start c.description) (component_in start.components i.origin.configuration) 0

  held_length : (i : Instance) → ℕ
  held_length i = total (λ (r : Reference). length (held_for r.name i.callbacks)) (references_in start i)

  total_of : {X Y : Type 0} (g : X → Y) (f : Y → ℕ) (xs : List X) → total f (map g xs) ≡ total (λ x. f (g x)) xs
  total_of g f [] = refl
  total_of g f (x ∷ xs) = total_cons f (g x) (map g xs) ∙ ap (λ n. f (g x) + n) (total_of g f xs) ∙ sym (total_cons (λ y. f (g y)) x xs)

  total_ones : {X : Type 0} (xs : List X) → total (λ x. 1) xs ≡ length xs
  total_ones [] = refl
  total_ones (x ∷ xs) = (let rest = total_ones xs in let a = total_cons (λ y. 1) x xs in omega (arith, rest, a))

  pairs_low : (d : Description) → total (λ (r : Reference). providers_of start r.interface_name) d.references ≤ pairs_of start d
  pairs_low d =
      let own = map (λ (r : Reference). r.interface_name) d.references in
      let more = cond d.implicit (condition_interface ∷ []) [] in
      let a = total_over (providers_of start) own more in
      let b = total_of (λ (r : Reference). r.interface_name) (providers_of start) d.references in
      omega (arith, a, b)

  asked_low : (i : Instance) → total (λ (r : Reference). providers_of start r.interface_name) (references_in start i) ≤ asked_length i
  unfolding asked_length
  asked_low i = go (component_in start.components i.origin.configuration)
    where
      go : (o : Option Component) → total (λ (r : Reference). providers_of (world_of past) r.interface_name) (option_map_or (λ (c : Component). c.description.references) o []) ≤ option_map_or (λ (c : Component). pairs_of (world_of past) c.description) o 0
      go None = omega arith
      go (Some c) = pairs_low c.description

  instance_at_most : (e : Bool) (i : Instance) → Contains (all_instances start) i → instance_left start e start i ≤ 4 * (1 + (asked_length i + held_length i))
  unfolding held_length
  instance_at_most e i h =
      let life = life_at_most start i in
      let provided = λ (r : Reference). providers_of start r.interface_name in
      let held = λ (r : Reference). length (held_for r.name i.callbacks) in
      let each = total_times (reference_left start e start i) (λ (r : ℕ × Reference). provided r.1 + held r.1) 2 (with_places 0 (references_in start i))
      (λ r k. (let low = reference_at_most start e start i r in let same = ap (λ (ns : List ℕ). length ns) (held_own i h r.1.name) in omega (arith, low, same))) in
      let placed = total_placed (λ (r : Reference). provided r + held r) 0 (references_in start i) in
      let both = total_both provided held (references_in start i) in
      let asked = asked_low i in
      omega (arith, life, each, placed, both, asked)

  consumers_long : (c : Component) → length (consumers_for start c) ≡ keys_at_most start c
  consumers_long c = go (has_singleton_scope c.description.scope || provides_no_service c)
    where
      go : (b : Bool) → length (cond b (0 ∷ []) (0 ∷ map (λ (x : BundleLife). x.number) (filter (λ (x : BundleLife). is_active_state x.state) (world_of past).bundles.rows)))
          ≡ cond b 1 (1 + length (filter (λ (x : BundleLife). is_active_state x.state) (world_of past).bundles.rows))
      go true = refl
      go false = (let same = mapped_long (λ (x : BundleLife). x.number) (filter (λ (x : BundleLife). is_active_state x.state) (world_of past).bundles.rows) in omega (arith, same))

  key_at_most : (c : Component) (n : ℕ) → key_left start start c n ≤ 5 + 2 * pairs_of start c.description
  key_at_most c n =
      let provided = λ (r : Reference). providers_of start r.interface_name in
      let twice = total_times (λ (r : Reference). 2 * provided r) provided 2 c.description.references (λ r h. omega arith) in
      let low = pairs_low c.description in
      let full : key_full start c ≤ 5 + 2 * pairs_of start c.description = omega (arith, twice, low) in
      let some = no_more (has_new start start c n) (key_full start c) in
      omega (arith, full, some)
    where
      no_more : (b : Bool) (m : ℕ) → cond b 0 m ≤ m
      no_more true m = omega arith
      no_more false m = omega arith

  component_at_most : (c : Component) → total (key_left start start c) (consumers_for start c) ≤ 5 * (keys_at_most start c + keys_at_most start c * pairs_of start c.description)
  component_at_most c =
      let counted = total_count (key_left start start c) (5 + 2 * pairs_of start c.description) (consumers_for start c) (λ n h. key_at_most c n) in
      let long = ap (λ m. (5 + 2 * pairs_of start c.description) * m) (consumers_long c) in
      let spread : (5 + 2 * pairs_of start c.description) * keys_at_most start c ≡ 5 * keys_at_most start c + 2 * (keys_at_most start c * pairs_of start c.description) = omega arith in
      omega (arith, counted, long, spread)

  pub start_at_most : turns_left start start ≤ settle_bound start
  unfolding asked_length held_length
  start_at_most =
      let weight = λ (i : Instance). 1 + (asked_length i + held_length i) in
      let board = instance_at_most false start.whiteboard (in_first start.whiteboard start.instances) in
      let made = total_times (λ (i : Instance). instance_left start (ends start i) start i) weight 4 start.instances (λ i h. instance_at_most (ends start i) i (in_rest start.whiteboard start.instances i h)) in
      let all = total_cons weight start.whiteboard start.instances in
      let split = total_both (λ (i : Instance). 1) (λ (i : Instance). asked_length i + held_length i) (all_instances start) in
      let parts = total_both asked_length held_length (all_instances start) in
      let ones = total_ones (all_instances start) in
      let per_key = λ (c : Component). keys_at_most start c + keys_at_most start c * pairs_of start c.description in
      let keys = total_times (λ (c : Component). total (key_left start start c) (consumers_for start c)) per_key 5 (existing start.components) (λ c h. component_at_most c) in
      let key_parts = total_both (keys_at_most start) (λ (c : Component). keys_at_most start c * pairs_of start c.description) (existing start.components) in
      omega (arith, board, made, all, split, parts, ones, keys, key_parts)
