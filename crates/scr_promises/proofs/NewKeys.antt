-- The key of an instance that is to be made is one of those that the settle bound counts: its component configuration exists, and its consumer is all, or a bundle that is active.
use Rattle.std.proofs.Common.{◌≡◌, ℕ, List, [], ◌∷◌, ap, sym, ◌∙◌, refl, subst, cond, Bool, true, false, ◌&&◌, ◌||◌, inl, inr, ◌⊎◌, Option, Some, None}
use Rattle.std.specs.Prelude.{filter, find, map, not, ◌==◌}
use Rattle.std.specs.List.{Contains, list_any}
use Rattle.std.specs.Option.{option_map_or}
use Rattle.std.proofs.lemmas.Bool.{and_parts, both_ways, cases_Bool, eq-eqb, eqb-true, or_cases}
use Rattle.callback_orders.specs.declared.instance_view.Key.{Key}
use Rattle.callback_orders.specs.declared.instance_view.ReferenceView.{ReferenceView}
use Rattle.callback_orders.specs.References.{is_desired}
use Rattle.component_dto.specs.declared.description.Reference.{Reference}
use Rattle.component_state.specs.declared.component.Component.{Component}
use Rattle.component_state.specs.declared.open_period.OpenPeriod.{OpenPeriod}
use Rattle.component_state.specs.Components.{consumer_for, existing, has_singleton_scope, provides_no_service}
use Rattle.component_state.specs.Periods.{is_open}
use Rattle.component_state.proofs.Apart.{any_found, any_from, in_cases, in_none, kept_from, kept_was, not_true, one_of}
use Rattle.component_state.proofs.Below.{number_of}
use Rattle.component_state.proofs.Seen.{numbered_apart}
use Rattle.prop_map.specs.Words.{is_empty, with_places}
use Rattle.scr_laws.proofs.Calm.{open_lives}
use Rattle.scr_laws.proofs.Legal.{legal_scratch}
use Rattle.scr_laws.proofs.Listed.{found_was, joined_was, mapped_was}
use Rattle.scr_laws.proofs.Sounding.{legal_sound}
use Rattle.scr_promises.proofs.GoingOn.{made_goes_on}
use Rattle.scr_promises.proofs.NothingCloses.{is_offered}
use Rattle.scr_promises.proofs.SilentServices.{are_silent}
use Rattle.scr_laws.proofs.OwnerLaws.{active_owners}
use Rattle.scr_world.specs.Legal.{IsLegal}
use Rattle.scr_world.specs.Lists.{is_active_bundle, world_of}
use Rattle.scr_world.specs.Steps.{History}
use Rattle.scr_world.specs.Views.{bundle_of_instance, ends, reference_view, references_in, view_of, whiteboard_view}
use Rattle.scr_world.specs.Wanted.{ConsumerView, consumer_views, consumers_of, desires, has_instance, is_desired_by, is_got_by, is_immediate, is_used, is_wanted, keys_for, keys_of, missing, wanted}
use Rattle.scr_world.specs.declared.instance.Instance.{Instance}
use Rattle.scr_world.specs.declared.world.World.{World}

-- for all, or for a bundle that is active
abbrev pub IsForActive : World → ℕ → Type 0
IsForActive w n = (n ≡ 0) ⊎ (is_active_bundle w n ≡ true)

-- a key that is counted
pub record IsCountedKey (w : World) (configuration consumer : ℕ) : Type 0 where
  pub component : Component
  pub there : Contains (existing w.components) component
  pub number : component.number ≡ configuration
  pub active : IsForActive w consumer
  pub for_all : (has_singleton_scope component.description.scope || provides_no_service component) ≡ true → consumer ≡ 0

module _ (limit : ℕ) (past : History) (legal : IsLegal limit past) where
  abbrev w : World
  w = world_of past

  none_desired : (service : ℕ) (rs : List (ℕ × Reference)) (i : Instance) → list_any (λ (r : ReferenceView). is_desired r service) (map (reference_view true w i) rs) ≡ false
  none_desired service [] i = refl
  none_desired service (r ∷ rs) i = none_desired service rs i

  of_view : (service : ℕ) (s : ConsumerView) → Contains (consumer_views w) s → desires service s.1 ≡ true → IsForActive w s.0
  of_view service s h on = elim (in_cases (0, whiteboard_view w) (map (λ (i : Instance). (bundle_of_instance w i, view_of w i)) w.instances) s h) [
    | inl same ↦ inl (ap (λ (v : ConsumerView). v.0) (sym same))
    | inr later ↦ (
        let was = mapped_was (λ (i : Instance). (bundle_of_instance w i, view_of w i)) w.instances s later in
        let wish : desires service (view_of w was.0) ≡ true = ap (λ (v : ConsumerView). desires service v.1) was.1.1 ∙ on in
        subst (λ n. IsForActive w n) (ap (λ (v : ConsumerView). v.0) was.1.1) (made_goes_on limit past legal was.0 was.1.0 (goes_on was.0 wish)).bundle)
  ]
    where
      goes_on : (i : Instance) → desires service (view_of (world_of past) i) ≡ true → ends (world_of past) i ≡ false
      goes_on i wish = elim (cases_Bool (ends (world_of past) i)) [
        | inr off ↦ off
        | inl ending ↦ absurd (both_ways (desires service (view_of (world_of past) i))
            (ap (λ (e : Bool). list_any (λ (r : ReferenceView). is_desired r service) (map (reference_view e (world_of past) i) (with_places 0 (references_in (world_of past) i)))) ending ∙ none_desired service (with_places 0 (references_in (world_of past) i)) i) wish)
      ]

  for_consumer : (c : Component) (bundle consumer : ℕ) → IsForActive w bundle → consumer_for c bundle ≡ consumer → IsForActive w consumer × (has_singleton_scope c.description.scope ≡ true → consumer ≡ 0)
  for_consumer c bundle consumer is same = go (has_singleton_scope c.description.scope) same
    where
      go : (b : Bool) → cond b 0 bundle ≡ consumer → IsForActive (world_of past) consumer × (b ≡ true → consumer ≡ 0)
      go true none = (inl (sym none), λ on. sym none)
      go false one = (subst (λ n. IsForActive (world_of past) n) one is, λ on. (let never : false ≡ true = on in cc))

  for_used : (c : Component) (service consumer : ℕ) → is_used w (consumer_views w) c service consumer ≡ true → IsForActive w consumer × (has_singleton_scope c.description.scope ≡ true → consumer ≡ 0)
  for_used c service consumer is = elim (or_cases (list_any (is_desired_by c service consumer) (consumer_views w)) (list_any (is_got_by c service consumer) w.uses)
      (and_parts (not (service == 0)) (list_any (is_desired_by c service consumer) (consumer_views w) || list_any (is_got_by c service consumer) w.uses) is).1) [
        | inl desired ↦ (
            let s = any_found (is_desired_by c service consumer) (consumer_views w) desired in
            let both = and_parts (consumer_for c s.0.0 == consumer) (desires service s.0.1) s.2 in
            for_consumer c s.0.0 consumer (of_view service s.0 s.1 both.1) (eqb-true (consumer_for c s.0.0) consumer both.0))
        | inr got ↦ (
            let u = any_found (is_got_by c service consumer) w.uses got in
            let both = and_parts (u.0.service == service) (consumer_for c u.0.bundle == consumer) u.2 in
            for_consumer c u.0.bundle consumer (inr ((active_owners limit past legal).uses u.0 u.1)) (eqb-true (consumer_for c u.0.bundle) consumer both.1))
      ]

  pub key_counted : (key : Key) → Contains (missing w) key → IsCountedKey w key.configuration key.consumer
  key_counted key h =
      let views = consumer_views w in
      let c = joined_was (keys_for w views) w.components key (kept_was (λ (k : Key). not (has_instance w.instances k)) (wanted w) key h).0 in
      by_period c.0 c.1.0 (find (λ (p : OpenPeriod). p.configuration == c.0.number) w.open_periods) refl c.1.1
    where
      by_period : (c : Component) → Contains (world_of past).components c → (o : Option OpenPeriod) → find (λ (p : OpenPeriod). p.configuration == c.number) (world_of past).open_periods ≡ o
          → Contains (option_map_or (keys_of (world_of past) (consumer_views (world_of past)) c) o []) key → IsCountedKey (world_of past) key.configuration key.consumer
      by_period c there None is k = absurd (in_none key k)
      by_period c there (Some p) is k =
          let views = consumer_views (world_of past) in
          let found = found_was (λ (q : OpenPeriod). q.configuration == c.number) (world_of past).open_periods p is in
          let opened : is_open (world_of past).open_periods c.number ≡ true = any_from (λ (q : OpenPeriod). q.configuration == c.number) (world_of past).open_periods p found.0 found.1 in
          let lives = open_lives (world_of past) (legal_scratch limit past legal) (legal_sound limit past legal).numbered c opened there in
          let n = mapped_was (λ consumer. record { configuration = c.number; consumer = consumer }) (filter (is_wanted (world_of past) views c p) (consumers_of (world_of past) c)) key k in
          let want = (kept_was (is_wanted (world_of past) views c p) (consumers_of (world_of past) c) n.0 n.1.0).1 in
          let consumer : n.0 ≡ key.consumer = ap (λ (x : Key). x.consumer) n.1.1 in
          let who = by_want c p n.0 want in
          record {
            component = c;
            there = kept_from (λ (x : Component). x.exists) (world_of past).components c there lives;
            number = ap (λ (x : Key). x.configuration) n.1.1;
            active = subst (λ m. IsForActive (world_of past) m) consumer who.0;
            for_all = λ on. sym consumer ∙ who.1 (is_silent c there p found.0 (eqb-true p.configuration c.number found.1)) on;
          }
        where
          by_want : (c : Component) (p : OpenPeriod) (n : ℕ) → is_wanted (world_of past) (consumer_views (world_of past)) c p n ≡ true
              → IsForActive (world_of past) n × ((provides_no_service c ≡ true → p.row.id ≡ 0) → (has_singleton_scope c.description.scope || provides_no_service c) ≡ true → n ≡ 0)
          by_want c p n want = elim (or_cases (is_immediate c && (n == 0)) (is_used (world_of past) (consumer_views (world_of past)) c p.row.id n) want) [
            | inl at_once ↦ (let none = eqb-true n 0 (and_parts (is_immediate c) (n == 0) at_once).1 in (inl none, λ silent on. none))
            | inr used ↦ (let who = for_used c p.row.id n used in (
              who.0,
              λ silent on. elim (or_cases (has_singleton_scope c.description.scope) (provides_no_service c) on) [
                | inl singleton ↦ who.1 singleton
                | inr none ↦ absurd (both_ways (p.row.id == 0) (not_true (p.row.id == 0) (and_parts (not (p.row.id == 0)) (list_any (is_desired_by c p.row.id n) (consumer_views (world_of past)) || list_any (is_got_by c p.row.id n) (world_of past).uses) used).0)
                    (eq-eqb p.row.id 0 (silent none)))
              ],
            ))
          ]

          empty_is : (xs : List (List ℕ)) → is_empty xs ≡ true → xs ≡ []
          empty_is [] on = refl
          empty_is (x ∷ xs) on = cc

          is_silent : (c : Component) → Contains (world_of past).components c → (p : OpenPeriod) → Contains (world_of past).open_periods p → p.configuration ≡ c.number → provides_no_service c ≡ true → p.row.id ≡ 0
          is_silent c there p h same none =
              let sound = legal_sound limit past legal in
              let by = is_offered (world_of past) sound p (sound.periods p h) in
              let one : by.by ≡ c = one_of number_of (world_of past).components (numbered_apart (world_of past).components sound.numbered) by.by c by.there there (by.number ∙ same) in
              are_silent limit past legal p h (ap (λ r. r.interfaces) by.row ∙ ap (λ (x : Component). x.description.service_interfaces) one ∙ empty_is c.description.service_interfaces none)
