-- A component configuration has a wanted key exactly where it is immediate, or somebody asks for its service for whom there can be an instance.
use Rattle.std.proofs.Common.{◌≡◌, ◌<◌, ℕ, suc, ◌+◌, List, [], ◌∷◌, ap, sym, ◌∙◌, refl, cond, drop, length, get_or, map, Bool, true, false, ◌&&◌, ◌||◌, not, drop-cons, add-one, Option, Some, None}
use Rattle.std.specs.Prelude.{filter, find, ◌==◌}
use Rattle.std.specs.List.{list_any}
use Rattle.std.specs.Option.{option_map_or}
use Rattle.std.proofs.lemmas.Bool.{and_from, and_parts, eq-eqb, eqb-true}
use Rattle.bundle_life.specs.declared.bundle.BundleLife.{BundleLife}
use Rattle.callback_orders.specs.declared.instance_view.ReferenceView.{ReferenceView}
use Rattle.callback_orders.specs.declared.instance_view.Wish.{Wish}
use Rattle.callback_orders.specs.References.{is_desired}
use Rattle.component_dto.specs.declared.description.Reference.{Reference}
use Rattle.component_dto.specs.declared.description.Scope.{Scope}
use Rattle.component_dto.specs.declared.description.Scope.TheVariants.{Singleton, Bundle, Prototype}
use Rattle.component_state.specs.declared.component.Component.{Component}
use Rattle.component_state.specs.declared.open_period.OpenPeriod.{OpenPeriod}
use Rattle.component_state.specs.Components.{consumer_for, has_singleton_scope}
use Rattle.component_state.proofs.Apart.{any_found, any_from, either_way}
use Rattle.component_state.proofs.AskingLemmas.{any_mapped}
use Rattle.prop_map.specs.Words.{has, is_empty, with_places}
use Rattle.scr_world.specs.declared.instance.Instance.{Instance}
use Rattle.scr_world.specs.declared.world.World.{World}
use Rattle.scr_world.specs.Views.{bundle_of_instance, desired_unless_ending, ends, is_ready, reference_view, references_in, view_of, whiteboard_view}
use Rattle.scr_world.specs.Wanted.{ConsumerView, consumer_views, consumers_of, desires, is_desired_by, is_got_by, is_immediate, is_used, is_wanted, keys_of}
use Rattle.use_counts.specs.declared.uses.UseRow.{UseRow}
use Rattle.scr_causes.specs.Standings.{has_wanted}
use Rattle.scr_causes.specs.WantedHere.{asks, desires_for, desires_here, gets, is_asked_for, is_wanted_here, serves_users}

-- ---- lists

any_same : {X : Type 0} (p q : X → Bool) → ((x : X) → p x ≡ q x) → (xs : List X) → list_any p xs ≡ list_any q xs
any_same p q each [] = refl
any_same p q each (x ∷ xs) = ap (λ b. b || list_any p xs) (each x) ∙ ap (λ b. q x || b) (any_same p q each xs)

any_or : {X : Type 0} (p q : X → Bool) (xs : List X) → list_any (λ x. p x || q x) xs ≡ (list_any p xs || list_any q xs)
any_or p q [] = refl
any_or p q (x ∷ xs) = ap (λ b. (p x || q x) || b) (any_or p q xs) ∙ mixed (p x) (q x) (list_any p xs) (list_any q xs)
  where
    mixed : (a b c d : Bool) → ((a || b) || (c || d)) ≡ ((a || c) || (b || d))
    mixed true b c d = refl
    mixed false true true d = refl
    mixed false true false d = refl
    mixed false false c d = refl

any_and : {X : Type 0} (a : Bool) (p : X → Bool) (xs : List X) → list_any (λ x. a && p x) xs ≡ (a && list_any p xs)
any_and true p xs = refl
any_and false p [] = refl
any_and false p (x ∷ xs) = any_and false p xs

-- one of some numbers is that of one that passes exactly where that of one that passes is among them
any_swapped : {X : Type 0} (g : X → ℕ) (d : X → Bool) (xs : List X) (ks : List ℕ) → list_any (λ k. list_any (λ x. (g x == k) && d x) xs) ks ≡ list_any (λ x. has ks (g x) && d x) xs
any_swapped {X = X} g d xs ks = either_way (list_any (λ k. list_any (λ x. (g x == k) && d x) xs) ks) (list_any (λ x. has ks (g x) && d x) xs) one to
  where
    one : list_any (λ k. list_any (λ x. (g x == k) && d x) xs) ks ≡ true → list_any (λ x. has ks (g x) && d x) xs ≡ true
    one is =
        let k = any_found (λ k. list_any (λ x. (g x == k) && d x) xs) ks is in
        let x = any_found (λ x. (g x == k.0) && d x) xs k.2 in
        let both = and_parts (g x.0 == k.0) (d x.0) x.2 in
        any_from (λ y. has ks (g y) && d y) xs x.0 x.1 (and_from (has ks (g x.0)) (d x.0)
        (any_from (λ n. n == g x.0) ks k.0 k.1 (eq-eqb k.0 (g x.0) (sym (eqb-true (g x.0) k.0 both.0)))) both.1)

    to : list_any (λ x. has ks (g x) && d x) xs ≡ true → list_any (λ k. list_any (λ x. (g x == k) && d x) xs) ks ≡ true
    to is =
        let x = any_found (λ x. has ks (g x) && d x) xs is in
        let both = and_parts (has ks (g x.0)) (d x.0) x.2 in
        let k = any_found (λ n. n == g x.0) ks both.0 in
        any_from (λ n. list_any (λ y. (g y == n) && d y) xs) ks k.0 k.1
        (any_from (λ y. (g y == k.0) && d y) xs x.0 x.1 (and_from (g x.0 == k.0) (d x.0) (eq-eqb (g x.0) k.0 (sym (eqb-true k.0 (g x.0) k.2))) both.1))

some_mapped : {X Y : Type 0} (f : X → Y) (t : X → Bool) (xs : List X) → not (is_empty (map f (filter t xs))) ≡ list_any t xs
some_mapped f t [] = refl
some_mapped f t (x ∷ xs) = go (t x) (some_mapped f t xs)
  where
    go : (b : Bool) → not (is_empty (map f (filter t xs))) ≡ list_any t xs → not (is_empty (map f (cond b (x ∷ filter t xs) (filter t xs)))) ≡ (b || list_any t xs)
    go true rest = refl
    go false rest = rest

-- the next item and the rest
pub any_rest : {X : Type 0} (t : X → Bool) (xs : List X) (i : ℕ) (x : X) → i < length xs → x ≡ get_or xs i x → list_any t (drop i xs) ≡ (t x || list_any t (drop (i + 1) xs))
any_rest t xs i x within is =
    ap (list_any t) (drop-cons xs i x within)
    ∙ ap (λ y. t y || list_any t (drop (suc i) xs)) (sym is)
    ∙ ap (λ k. t x || list_any t (drop k xs)) (sym (add-one i))

-- ---- who desires a service

seen : (ending : Bool) (w : World) (i : Instance) (service : ℕ) (r : ℕ × Reference) → is_desired (reference_view ending w i r) service ≡ desires_for ending w i service r
seen ending w i service r =
    any_mapped (λ s. record { service = s; ready = is_ready w (bundle_of_instance w i) s }) (λ (x : Wish). x.service == service) (desired_unless_ending ending w i r.0 r.1)

desires_seen : (ending : Bool) (w : World) (i : Instance) (service : ℕ)
    → list_any (λ (r : ReferenceView). is_desired r service) (map (reference_view ending w i) (with_places 0 (references_in w i))) ≡ desires_here ending w i service
desires_seen ending w i service =
    any_mapped (reference_view ending w i) (λ (r : ReferenceView). is_desired r service) (with_places 0 (references_in w i))
    ∙ any_same (λ r. is_desired (reference_view ending w i r) service) (desires_for ending w i service) (seen ending w i service) (with_places 0 (references_in w i))

-- ---- a component configuration

module _ (w : World) (c : Component) where
  -- there can always be an instance for the platform
  pub serves_platform : serves_users w c 0 ≡ true
  serves_platform = go c.description.scope
    where
      go : (s : Scope) → has (cond (has_singleton_scope s) (0 ∷ []) (0 ∷ map (λ (b : BundleLife). b.number) w.bundles.rows)) (cond (has_singleton_scope s) 0 0) ≡ true
      go Singleton = refl
      go Bundle = refl
      go Prototype = refl

  immediate_first : list_any (λ k. is_immediate c && (k == 0)) (consumers_of w c) ≡ is_immediate c
  immediate_first = any_and (is_immediate c) (λ k. k == 0) (consumers_of w c) ∙ ap (λ b. is_immediate c && b) (first (has_singleton_scope c.description.scope)) ∙ alone (is_immediate c)
    where
      first : (b : Bool) → list_any (λ k. k == 0) (cond b (0 ∷ []) (0 ∷ map (λ (x : BundleLife). x.number) w.bundles.rows)) ≡ true
      first true = refl
      first false = refl

      alone : (b : Bool) → (b && true) ≡ b
      alone true = refl
      alone false = refl

  module _ (service : ℕ) where
    -- who asks, of all views
    views_ask : list_any (λ (s : ConsumerView). serves_users w c s.0 && desires service s.1) (consumer_views w) ≡ (desires_here false w w.whiteboard service || list_any (asks w c service) w.instances)
    views_ask =
        ap (λ b. (b && desires service (whiteboard_view w)) || list_any (λ (s : ConsumerView). serves_users w c s.0 && desires service s.1) (map (λ i. (bundle_of_instance w i, view_of w i)) w.instances)) serves_platform
        ∙ ap (λ b. b || list_any (λ (s : ConsumerView). serves_users w c s.0 && desires service s.1) (map (λ i. (bundle_of_instance w i, view_of w i)) w.instances)) (desires_seen false w w.whiteboard service)
        ∙ ap (λ b. desires_here false w w.whiteboard service || b)
        (any_mapped (λ (i : Instance). (bundle_of_instance w i, view_of w i)) (λ (s : ConsumerView). serves_users w c s.0 && desires service s.1) w.instances
        ∙ any_same (λ (i : Instance). serves_users w c (bundle_of_instance w i) && desires service (view_of w i)) (asks w c service)
        (λ i. ap (λ b. serves_users w c (bundle_of_instance w i) && b) (desires_seen (ends w i) w i service)) w.instances)

    desired_by_some : list_any (λ k. list_any (is_desired_by c service k) (consumer_views w)) (consumers_of w c) ≡ (desires_here false w w.whiteboard service || list_any (asks w c service) w.instances)
    desired_by_some = any_swapped (λ (s : ConsumerView). consumer_for c s.0) (λ (s : ConsumerView). desires service s.1) (consumer_views w) (consumers_of w c) ∙ views_ask

    got_by_some : list_any (λ k. list_any (is_got_by c service k) w.uses) (consumers_of w c) ≡ list_any (gets w c service) w.uses
    got_by_some =
        any_same (λ k. list_any (is_got_by c service k) w.uses) (λ k. list_any (λ (u : UseRow). (consumer_for c u.bundle == k) && (u.service == service)) w.uses)
        (λ k. any_same (is_got_by c service k) (λ (u : UseRow). (consumer_for c u.bundle == k) && (u.service == service)) (λ u. turned (u.service == service) (consumer_for c u.bundle == k)) w.uses) (consumers_of w c)
        ∙ any_swapped (λ (u : UseRow). consumer_for c u.bundle) (λ (u : UseRow). u.service == service) w.uses (consumers_of w c)
        ∙ any_same (λ (u : UseRow). serves_users w c u.bundle && (u.service == service)) (gets w c service) (λ u. turned (serves_users w c u.bundle) (u.service == service)) w.uses
      where
        turned : (a b : Bool) → (a && b) ≡ (b && a)
        turned true true = refl
        turned true false = refl
        turned false true = refl
        turned false false = refl

    used_by_some : list_any (is_used w (consumer_views w) c service) (consumers_of w c) ≡ is_asked_for w c service
    used_by_some =
        any_and (not (service == 0)) (λ k. list_any (is_desired_by c service k) (consumer_views w) || list_any (is_got_by c service k) w.uses) (consumers_of w c)
        ∙ ap (λ b. not (service == 0) && b)
        (any_or (λ k. list_any (is_desired_by c service k) (consumer_views w)) (λ k. list_any (is_got_by c service k) w.uses) (consumers_of w c)
        ∙ ap (λ b. b || list_any (λ k. list_any (is_got_by c service k) w.uses) (consumers_of w c)) desired_by_some
        ∙ ap (λ b. (desires_here false w w.whiteboard service || list_any (asks w c service) w.instances) || b) got_by_some
        ∙ turned (desires_here false w w.whiteboard service || list_any (asks w c service) w.instances) (list_any (gets w c service) w.uses))
      where
        turned : (a b : Bool) → (a || b) ≡ (b || a)
        turned true true = refl
        turned true false = refl
        turned false true = refl
        turned false false = refl

  wanted_here : (p : OpenPeriod) → not (is_empty (keys_of w (consumer_views w) c p)) ≡ is_wanted_here w c p
  wanted_here p =
      some_mapped (λ k. record { configuration = c.number; consumer = k }) (is_wanted w (consumer_views w) c p) (consumers_of w c)
      ∙ any_or (λ k. is_immediate c && (k == 0)) (is_used w (consumer_views w) c p.row.id) (consumers_of w c)
      ∙ ap (λ b. b || list_any (is_used w (consumer_views w) c p.row.id) (consumers_of w c)) immediate_first
      ∙ ap (λ b. is_immediate c || b) (used_by_some p.row.id)

  -- by its open period
  pub wanted_by : (o : Option OpenPeriod) → find (λ (p : OpenPeriod). p.configuration == c.number) w.open_periods ≡ o → has_wanted w c ≡ option_map_or (is_wanted_here w c) o false
  wanted_by None is = ap (λ o. not (is_empty (option_map_or (keys_of w (consumer_views w) c) o []))) is
  wanted_by (Some p) is = ap (λ o. not (is_empty (option_map_or (keys_of w (consumer_views w) c) o []))) is ∙ wanted_here p
