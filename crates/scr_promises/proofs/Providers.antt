-- A service of an open period that an instance desires: the key of the instance that is to serve it is wanted, and an instance of this key serves it, isn't ending and stands lower.
use Rattle.std.proofs.Common.{◌≡◌, ◌<◌, ◌⊎◌, ℕ, List, [], ◌∷◌, ap, sym, ◌∙◌, refl, subst, cond, arith, Bool, true, false, ◌&&◌, ◌||◌, inl, inr, Option, Some, None}
use Rattle.std.specs.Prelude.{filter, find, flat_map, map, not, ◌==◌}
use Rattle.std.specs.List.{Contains, list_any}
use Rattle.std.specs.Option.{option_map_or}
use Rattle.std.specs.Str.{bytes_eq}
use Rattle.std.proofs.lemmas.Bool.{and_from, eq-eqb, eqb-true, ne_eqb, or_left, or_right}
use Rattle.bundle_life.specs.declared.bundle.BundleLife.{BundleLife}
use Rattle.bundle_life.specs.Lives.{bundle_of, is_active}
use Rattle.callback_orders.specs.declared.instance_view.InstanceView.{InstanceView}
use Rattle.callback_orders.specs.declared.instance_view.Key.{Key}
use Rattle.callback_orders.specs.declared.instance_view.ReferenceView.{ReferenceView}
use Rattle.callback_orders.specs.References.{is_desired}
use Rattle.component_dto.specs.declared.description.Reference.{Reference}
use Rattle.component_state.specs.declared.component.Component.{Component}
use Rattle.component_state.specs.declared.open_period.OpenPeriod.{OpenPeriod}
use Rattle.component_state.specs.Components.{component_of, consumer_for, has_singleton_scope}
use Rattle.component_state.specs.Periods.{is_current}
use Rattle.component_state.specs.Rows.{service_in}
use Rattle.component_state.proofs.Apart.{any_from, in_cases, in_first, in_left, in_none, in_rest, in_right, kept_from, one_of}
use Rattle.level_order.specs.Levels.{provides}
use Rattle.prop_map.specs.Words.{has, with_places}
use Rattle.scr_promises.proofs.InstanceComponents.{IsComponentOf, component_for}
use Rattle.scr_promises.proofs.ViewedReferences.{desires_seen}
use Rattle.scr_laws.proofs.OpenServices.{open_services}
use Rattle.scr_promises.proofs.ServingLaws.{serving_goes_on}
use Rattle.scr_laws.proofs.Calm.{of_number}
use Rattle.scr_laws.proofs.Legal.{in_map, legal_scratch}
use Rattle.scr_laws.proofs.Listed.{found_is, found_was}
use Rattle.scr_laws.proofs.ReadyStages.{open_current_one}
use Rattle.scr_laws.proofs.Sounding.{legal_sound}
use Rattle.scr_promises.proofs.GoingOn.{GoesOn}
use Rattle.scr_promises.proofs.InstanceInterfaces.{period_interfaces}
use Rattle.scr_world.specs.Legal.{IsLegal}
use Rattle.scr_world.specs.Lists.{is_active_bundle, world_of}
use Rattle.scr_world.specs.Steps.{History}
use Rattle.scr_world.specs.Views.{bundle_of_instance, desired_services, ends, reference_view, references_in, serves}
use Rattle.scr_world.specs.Wanted.{consumer_views, consumers_of, desires, is_desired_by, is_got_by, is_immediate, is_used, is_wanted, keys_for, keys_of, wanted}
use Rattle.scr_world.specs.declared.instance.Instance.{Instance}
use Rattle.scr_world.specs.declared.world.World.{World}
use Rattle.service_registry.specs.Services.{has_interface}

joined_in : {X Y : Type 0} (f : X → List Y) (xs : List X) (x : X) (y : Y) → Contains xs x → Contains (f x) y → Contains (flat_map f xs) y
joined_in f [] x y h k = absurd (in_none x h)
joined_in {X = X} f (z ∷ zs) x y h k = elim (in_cases z zs x h) [
  | inl same ↦ in_left (f z) (flat_map f zs) y (subst (λ (q : X). Contains (f q) y) (sym same) k)
  | inr later ↦ in_right (f z) (flat_map f zs) y (joined_in f zs x y later k)
]

some_number : (n : ℕ) → 0 < n → not (n == 0) ≡ true
some_number n low = ap not (ne_eqb n 0 (λ e. omega (arith, e, low)))

-- ---- the consumers that there can be

abbrev numbers_in : World → List ℕ
numbers_in w = map (λ (b : BundleLife). b.number) w.bundles.rows

active_listed : (w : World) (bundle : ℕ) → is_active_bundle w bundle ≡ true → Contains (numbers_in w) bundle
active_listed w bundle on = go (bundle_of w.bundles.rows bundle) refl on
  where
    go : (o : Option BundleLife) → bundle_of w.bundles.rows bundle ≡ o → option_map_or (λ (b : BundleLife). is_active b.state) o false ≡ true → Contains (numbers_in w) bundle
    go None is e = cc
    go (Some b) is e =
        let found = found_was (λ (x : BundleLife). x.number == bundle) w.bundles.rows b is in
        subst (λ n. Contains (numbers_in w) n) (eqb-true b.number bundle found.1) (in_map (λ (x : BundleLife). x.number) w.bundles.rows b found.0)

consumer_listed : (w : World) (c : Component) (bundle : ℕ) → (bundle ≡ 0) ⊎ (is_active_bundle w bundle ≡ true) → Contains (consumers_of w c) (consumer_for c bundle)
consumer_listed w c bundle up = go (has_singleton_scope c.description.scope) up
  where
    go : (b : Bool) → (bundle ≡ 0) ⊎ (is_active_bundle w bundle ≡ true) → Contains (cond b (0 ∷ []) (0 ∷ numbers_in w)) (cond b 0 bundle)
    go true u = in_first 0 []
    go false (inl none) = subst (λ n. Contains (0 ∷ numbers_in w) n) (sym none) (in_first 0 (numbers_in w))
    go false (inr on) = in_rest 0 (numbers_in w) bundle (active_listed w bundle on)

-- ---- who is to serve

-- an instance serves the service that another one desires: it isn't ending, and its component has the interface
pub record IsServedBy (w : World) (i : Instance) (s : ℕ) (interface : List ℕ) (x : Instance) : Type 0 where
  pub there : Contains w.instances x
  pub serving : serves w (bundle_of_instance w i) s x ≡ true
  pub going_on : ends w x ≡ false
  pub component : Component
  pub its : IsComponentOf w x component
  pub has_it : provides component.description interface ≡ true

module _ (limit : ℕ) (past : History) (legal : IsLegal limit past) where
  abbrev w : World
  w = world_of past

  module _ (i : Instance) (v : InstanceView) (on : GoesOn w i v) (r : ℕ × Reference) (in_r : Contains (with_places 0 (references_in w i)) r) (s : ℕ) (wish : has (desired_services w i r.0 r.1) s ≡ true)
      (p : OpenPeriod) (here : Contains w.open_periods p) (number : p.row.id ≡ s) (some : 0 < s) (has_it : has_interface r.1.interface_name p.row ≡ true) where
    pub home : (c : Component) × (Contains w.components c × (c.number ≡ p.configuration))
    home = of_number w.components p.configuration ((legal_sound limit past legal).periods p here).known

    abbrev pub c : Component
    c = home.0

    abbrev pub consumer : ℕ
    consumer = consumer_for c (bundle_of_instance w i)

    abbrev pub key : Key
    key = record { configuration = c.number; consumer = consumer }

    -- the period is found by the number of its component configuration
    period_found : find (λ (q : OpenPeriod). q.configuration == c.number) w.open_periods ≡ Some p
    period_found = found_is (λ (q : OpenPeriod). q.configuration == c.number) w.open_periods p here (eq-eqb p.configuration c.number (sym home.1.1))
        (λ q k same. one_of (λ (x : OpenPeriod). x.configuration) w.open_periods (legal_sound limit past legal).plain.apart q p k here (eqb-true q.configuration c.number same ∙ home.1.1))

    -- ---- its key is wanted

    wished : desires s v ≡ true
    wished =
        let shown = reference_view false w i r in
        any_from (λ (q : ReferenceView). is_desired q s) v.references shown
        (subst (λ (qs : List ReferenceView). Contains qs shown) (sym on.references) (in_map (reference_view false w i) (with_places 0 (references_in w i)) r in_r)) (desires_seen w i false r s ∙ wish)

    used : is_used w (consumer_views w) c p.row.id consumer ≡ true
    used =
        let by_views = list_any (is_desired_by c p.row.id consumer) (consumer_views w) in
        let by_gets = list_any (is_got_by c p.row.id consumer) w.uses in
        let by_it = and_from (consumer_for c (bundle_of_instance w i) == consumer) (desires p.row.id v) (eq-eqb consumer consumer refl) (ap (λ n. desires n v) number ∙ wished) in
        and_from (not (p.row.id == 0)) (by_views || by_gets) (some_number p.row.id (subst (λ n. 0 < n) (sym number) some))
        (or_left by_views by_gets (any_from (is_desired_by c p.row.id consumer) (consumer_views w) (bundle_of_instance w i, v) on.listed by_it))

    pub key_wanted : Contains (wanted w) key
    key_wanted =
        let views = consumer_views w in
        let is = or_right (is_immediate c && (consumer == 0)) (is_used w views c p.row.id consumer) used in
        let kept = kept_from (is_wanted w views c p) (consumers_of w c) consumer (consumer_listed w c (bundle_of_instance w i) on.bundle) is in
        joined_in (keys_for w views) w.components c key home.1.0
        (subst (λ (o : Option OpenPeriod). Contains (option_map_or (keys_of w views c) o []) key) (sym period_found)
        (in_map (λ n. record { configuration = c.number; consumer = n }) (filter (is_wanted w views c p) (consumers_of w c)) consumer kept))

    -- ---- an instance of this key serves it

    module _ (x : Instance) (h : Contains w.instances x) (same : x.origin.configuration ≡ c.number) (for_it : x.consumer ≡ consumer) where
      its : IsComponentOf w x c
      its = component_for limit past legal x c home.1.0 (sym same)

      current : is_current w.open_periods x.origin ≡ true
      current = open_current_one w (legal_scratch limit past legal) x h
          (any_from (λ (q : OpenPeriod). q.configuration == x.origin.configuration) w.open_periods p here (eq-eqb p.configuration x.origin.configuration (sym (same ∙ home.1.1))))

      service : x.service ≡ s
      service = open_services limit past legal x h current ∙ ap (service_in w.open_periods) same ∙ ap (λ (o : Option OpenPeriod). option_map_or (λ (q : OpenPeriod). q.row.id) o 0) period_found ∙ number

      serving : serves w (bundle_of_instance w i) s x ≡ true
      serving =
          let for_one = λ (d : Component). x.consumer == consumer_for d (bundle_of_instance w i) in
          and_from (x.service == s) (option_map_or for_one (component_of w.components x.origin.configuration) false) (eq-eqb x.service s service)
          (ap (λ (o : Option Component). option_map_or for_one o false) its.found ∙ eq-eqb x.consumer consumer for_it)

      pub served : IsServedBy w i s r.1.interface_name x
      served = record {
        there = h;
        serving = serving;
        going_on = serving_goes_on limit past legal p here s number some (bundle_of_instance w i) on.bundle x h serving;
        component = c;
        its = its;
        has_it = ap (λ (names : List (List ℕ)). list_any (λ name. bytes_eq name r.1.interface_name) names) (sym (period_interfaces w (legal_sound limit past legal) p here c home.1.0 home.1.1)) ∙ has_it;
      }
