-- The configurations that count for a component configuration are those of which it is made.
use Rattle.std.proofs.Common.{◌≡◌, ◌⊎◌, ℕ, List, [], ◌∷◌, ap, sym, ◌∙◌, refl, subst, cond, Bool, true, false, ◌&&◌, ◌||◌, inl, inr, Option, Some, None}
use Rattle.std.specs.Prelude.{filter_map, map, not}
use Rattle.std.specs.List.{Contains, list_any}
use Rattle.std.specs.Option.{option_and_then, option_map_or}
use Rattle.std.specs.Str.{bytes_eq}
use Rattle.std.proofs.lemmas.Bool.{and_from, and_parts, both_ways}
use Rattle.std.proofs.lemmas.Slice.Eq.{bytes_eq-Decides}
use Rattle.prop_map.specs.Words.{is_empty}
use Rattle.component_dto.specs.declared.description.ConfigurationPolicy.{ConfigurationPolicy}
use Rattle.component_dto.proofs.TextListLemmas.{same_text, text_itself}
use Rattle.component_state.specs.declared.component.Component.{Component}
use Rattle.component_state.specs.ComponentConfigurations.{counting, counting_for, factory_of}
use Rattle.component_state.proofs.Apart.{any_found, any_from, either_way, in_cases, in_first, in_none, in_rest, kept_was, not_true, or_true}
use Rattle.component_state.proofs.AskingLemmas.{any_kept}
use Rattle.config_admin.specs.declared.configuration.Configuration.{Configuration}
use Rattle.config_admin.specs.Configurations.{of_factory, of_pid}
use Rattle.scr_laws.specs.Askeds.{HasOneOfEach}
use Rattle.scr_laws.proofs.Listed.{found_is, found_was}
use Rattle.scr_promises.specs.Counts.{is_part, made_of}
use Rattle.scr_readers.specs.Counting.{counts_for, is_asked_for, is_factory, lets_count, names}

-- ---- lists

module _ {X Y : Type 0} (g : X → Option Y) where
  pub chosen_was : (xs : List X) (y : Y) → Contains (filter_map (λ o. o) (map g xs)) y → (x : X) × (Contains xs x × (g x ≡ Some y))
  chosen_was [] y h = absurd (in_none y h)
  chosen_was (x ∷ xs) y h = go (g x) refl h (chosen_was xs y)
    where
      go : (o : Option Y) → g x ≡ o → Contains (filter_map (λ o. o) (o ∷ map g xs)) y → (Contains (filter_map (λ o. o) (map g xs)) y → (z : X) × (Contains xs z × (g z ≡ Some y))) → (z : X) × (Contains (x ∷ xs) z × (g z ≡ Some y))
      go None is k later = let back = later k in (back.0, (in_rest x xs back.0 back.1.0, back.1.1))
      go (Some z) is k later = elim (in_cases z (filter_map (λ o. o) (map g xs)) y k) [
        | inl same ↦ (x, (in_first x xs, is ∙ ap (λ v. Some v) same))
        | inr rest ↦ (let back = later rest in (back.0, (in_rest x xs back.0 back.1.0, back.1.1)))
      ]

  pub chosen_in : (xs : List X) (x : X) (y : Y) → Contains xs x → g x ≡ Some y → Contains (filter_map (λ o. o) (map g xs)) y
  chosen_in [] x y h is = absurd (in_none x h)
  chosen_in (z ∷ zs) x y h is = elim (in_cases z zs x h) [
    | inl same ↦ subst (λ o. Contains (filter_map (λ o. o) (o ∷ map g zs)) y) (sym (ap g same ∙ is)) (in_first y (filter_map (λ o. o) (map g zs)))
    | inr later ↦ go (g z) (chosen_in zs x y later is)
  ]
    where
      go : (o : Option Y) → Contains (filter_map (λ o. o) (map g zs)) y → Contains (filter_map (λ o. o) (o ∷ map g zs)) y
      go None k = k
      go (Some v) k = in_rest v (filter_map (λ o. o) (map g zs)) y k

-- ---- who names a component configuration of these PIDs

-- what counts, by policy, PIDs and the PID of the factory's configuration that names it
abbrev pub counting_at : List Configuration → ConfigurationPolicy → List (List ℕ) → Option (List ℕ) → List (Option Configuration)
counting_at ks policy pids pid = cond (lets_count policy) (counting ks (factory_of ks pids) (option_and_then (λ (p : List ℕ). of_pid p ks) pid) pids) []

-- nobody where nothing counts, or no PID is a factory's; else one of that factory's configurations
pub data IsNamed (ks : List Configuration) (policy : ConfigurationPolicy) (pids : List (List ℕ)) (pid : Option (List ℕ)) : Type 0 where
  without : lets_count policy ≡ false → IsNamed ks policy pids pid
  by_none : lets_count policy ≡ true → factory_of ks pids ≡ None → pid ≡ None → IsNamed ks policy pids pid
  by_one : (factory : List ℕ) (named : Configuration) → lets_count policy ≡ true → factory_of ks pids ≡ Some factory → Contains (of_factory factory ks) named → pid ≡ Some named.pid → IsNamed ks policy pids pid

module _ (ks : List Configuration) (one : HasOneOfEach (λ (k : Configuration). k.pid) ks) where
  -- the configuration of a PID is the one that has it
  pub found_of : (k : Configuration) → Contains ks k → of_pid k.pid ks ≡ Some k
  found_of k here = found_is (λ (other : Configuration). bytes_eq other.pid k.pid) ks k here (text_itself k.pid) (λ other there same. one other k there here (same_text other.pid k.pid same))

  abbrev own_for : List ℕ → Option Configuration
  own_for pid = cond (is_empty (of_factory pid ks)) (of_pid pid ks) None

  own_was : (pid : List ℕ) (k : Configuration) → own_for pid ≡ Some k → Contains ks k × ((k.pid ≡ pid) × (is_factory ks pid ≡ false))
  own_was pid k is = go (is_empty (of_factory pid ks)) (any_kept (λ (other : Configuration). option_map_or (bytes_eq pid) other.factory false) ks) is
    where
      go : (b : Bool) → is_factory ks pid ≡ not b → cond b (of_pid pid ks) None ≡ Some k → Contains ks k × ((k.pid ≡ pid) × (is_factory ks pid ≡ false))
      go true none found = let was = found_was (λ (other : Configuration). bytes_eq other.pid pid) ks k found in (was.0, (same_text k.pid pid was.1, none))
      go false some found = absurd (nothing found)
        where
          nothing : None ≡ Some k → ⊥
          nothing e = cc

  own_from : (k : Configuration) → Contains ks k → is_factory ks k.pid ≡ false → own_for k.pid ≡ Some k
  own_from k here none = go (is_empty (of_factory k.pid ks)) (any_kept (λ (other : Configuration). option_map_or (bytes_eq k.pid) other.factory false) ks)
    where
      go : (b : Bool) → is_factory ks k.pid ≡ not b → cond b (of_pid k.pid ks) None ≡ Some k
      go true empty = found_of k here
      go false some = absurd (both_ways (is_factory ks k.pid) none some)

  -- ---- one way and the other

  module _ (c : Component) where
    abbrev pids : List (List ℕ)
    pids = c.description.configuration_pids

    asked_was : (k : Configuration) → is_asked_for ks k c ≡ true → Contains pids k.pid × (is_factory ks k.pid ≡ false)
    asked_was k is =
        let parts = and_parts (list_any (bytes_eq k.pid) pids) (not (is_factory ks k.pid)) is in
        let found = any_found (bytes_eq k.pid) pids parts.0 in
        (subst (λ p. Contains pids p) (sym (same_text k.pid found.0 found.2)) found.1, not_true (is_factory ks k.pid) parts.1)

    asked_from : (k : Configuration) (pid : List ℕ) → Contains pids pid → k.pid ≡ pid → is_factory ks pid ≡ false → is_asked_for ks k c ≡ true
    asked_from k pid here same none =
        and_from (list_any (bytes_eq k.pid) pids) (not (is_factory ks k.pid)) (any_from (bytes_eq k.pid) pids pid here ((bytes_eq-Decides k.pid pid).1 same))
        (ap (λ p. not (is_factory ks p)) same ∙ ap not none)

    counts_from : (k : Configuration) → lets_count c.description.configuration_policy ≡ true → (names k c ≡ true) ⊎ (is_asked_for ks k c ≡ true) → counts_for ks k c ≡ true
    counts_from k lets (inl named) = ap (λ b. b && (names k c || is_asked_for ks k c)) lets ∙ ap (λ b. b || is_asked_for ks k c) named
    counts_from k lets (inr asked) = ap (λ b. b && (names k c || is_asked_for ks k c)) lets ∙ ap (λ b. names k c || b) asked ∙ or_true (names k c)

    counts_was : (k : Configuration) → counts_for ks k c ≡ true → (names k c ≡ true) ⊎ (is_asked_for ks k c ≡ true)
    counts_was k is = go (names k c) refl (and_parts (lets_count c.description.configuration_policy) (names k c || is_asked_for ks k c) is).1
      where
        go : (b : Bool) → names k c ≡ b → (b || is_asked_for ks k c) ≡ true → (names k c ≡ true) ⊎ (is_asked_for ks k c ≡ true)
        go true on rest = inl on
        go false off rest = inr rest

    -- what is made where it lets configurations count
    made_is : (o : Option (List ℕ)) (named : Option Configuration) → lets_count c.description.configuration_policy ≡ true → factory_of ks pids ≡ o → option_and_then (λ (p : List ℕ). of_pid p ks) c.pid ≡ named
        → filter_map (λ k. k) (map (counting_for ks o named) pids) ≡ made_of ks c
    made_is o named lets factory naming =
        sym (ap (λ b. filter_map (λ k. k) (cond b (counting ks (factory_of ks pids) (option_and_then (λ (p : List ℕ). of_pid p ks) c.pid) pids) [])) lets
        ∙ ap (λ f. filter_map (λ k. k) (counting ks f (option_and_then (λ (p : List ℕ). of_pid p ks) c.pid) pids)) factory
        ∙ ap (λ n. filter_map (λ k. k) (counting ks o n pids)) naming)

    module _ (lets : lets_count c.description.configuration_policy ≡ true) (none : factory_of ks pids ≡ None) (unnamed : c.pid ≡ None) where
      plain_made : filter_map (λ k. k) (map (counting_for ks None None) pids) ≡ made_of ks c
      plain_made = made_is None None lets none (ap (option_and_then (λ (p : List ℕ). of_pid p ks)) unnamed)

      plain_was : (k : Configuration) → Contains (made_of ks c) k → Contains ks k × (counts_for ks k c ≡ true)
      plain_was k h =
          let was = chosen_was (counting_for ks None None) pids k (subst (λ these. Contains these k) (sym plain_made) h) in
          let own = own_was was.0 k was.1.1 in
          (own.0, counts_from k lets (inr (asked_from k was.0 was.1.0 own.1.0 own.1.1)))

      plain_in : (k : Configuration) → Contains ks k → counts_for ks k c ≡ true → Contains (made_of ks c) k
      plain_in k here is = go (counts_was k is)
        where
          go : (names k c ≡ true) ⊎ (is_asked_for ks k c ≡ true) → Contains (made_of ks c) k
          go (inl named) = absurd (both_ways (names k c) (ap (λ p. option_map_or (bytes_eq k.pid) p false) unnamed) named)
          go (inr asked) = let was = asked_was k asked in
              subst (λ these. Contains these k) plain_made (chosen_in (counting_for ks None None) pids k.pid k was.0 (own_from k here was.1))

    module _ (factory : List ℕ) (named : Configuration) (lets : lets_count c.description.configuration_policy ≡ true) (first : factory_of ks pids ≡ Some factory) (there : Contains (of_factory factory ks) named) (names_it : c.pid ≡ Some named.pid) where
      known : Contains ks named
      known = (kept_was (λ (other : Configuration). option_map_or (bytes_eq factory) other.factory false) ks named there).0

      named_made : filter_map (λ k. k) (map (counting_for ks (Some factory) (Some named)) pids) ≡ made_of ks c
      named_made = made_is (Some factory) (Some named) lets first (ap (option_and_then (λ (p : List ℕ). of_pid p ks)) names_it ∙ found_of named known)

      is_named : (k : Configuration) → names k c ≡ bytes_eq k.pid named.pid
      is_named k = ap (λ p. option_map_or (bytes_eq k.pid) p false) names_it

      factory_among : Contains pids factory × (is_factory ks factory ≡ true)
      factory_among =
          let was = found_was (λ (pid : List ℕ). not (is_empty (of_factory pid ks))) pids factory first in
          (was.0, any_kept (λ (other : Configuration). option_map_or (bytes_eq factory) other.factory false) ks ∙ was.1)

      some_same : (x y : Configuration) → Some x ≡ Some y → x ≡ y
      some_same x y e = cc

      one_was : (pid : List ℕ) (k : Configuration) → Contains pids pid → counting_for ks (Some factory) (Some named) pid ≡ Some k → Contains ks k × (counts_for ks k c ≡ true)
      one_was pid k here is = go (bytes_eq pid factory) is
        where
          go : (b : Bool) → cond b (Some named) (own_for pid) ≡ Some k → Contains ks k × (counts_for ks k c ≡ true)
          go true found = let same = some_same named k found in
              (subst (λ x. Contains ks x) same known, counts_from k lets (inl (is_named k ∙ (bytes_eq-Decides k.pid named.pid).1 (ap (λ (x : Configuration). x.pid) (sym same)))))
          go false found = let own = own_was pid k found in (own.0, counts_from k lets (inr (asked_from k pid here own.1.0 own.1.1)))

      named_was : (k : Configuration) → Contains (made_of ks c) k → Contains ks k × (counts_for ks k c ≡ true)
      named_was k h = let was = chosen_was (counting_for ks (Some factory) (Some named)) pids k (subst (λ these. Contains these k) (sym named_made) h) in one_was was.0 k was.1.0 was.1.1

      named_in : (k : Configuration) → Contains ks k → counts_for ks k c ≡ true → Contains (made_of ks c) k
      named_in k here is = subst (λ these. Contains these k) named_made (go (counts_was k is))
        where
          apart : is_factory ks k.pid ≡ false → (b : Bool) → bytes_eq k.pid factory ≡ b → cond b (Some named) (own_for k.pid) ≡ Some k
          apart none true same = absurd (both_ways (is_factory ks factory) (ap (is_factory ks) (sym (same_text k.pid factory same)) ∙ none) factory_among.1)
          apart none false other = own_from k here none

          go : (names k c ≡ true) ⊎ (is_asked_for ks k c ≡ true) → Contains (filter_map (λ k. k) (map (counting_for ks (Some factory) (Some named)) pids)) k
          go (inl by) =
              let same = one named k known here (sym (same_text k.pid named.pid (sym (is_named k) ∙ by))) in
              chosen_in (counting_for ks (Some factory) (Some named)) pids factory k factory_among.0
              (ap (λ b. cond b (Some named) (own_for factory)) (text_itself factory) ∙ ap (λ (x : Configuration). Some x) same)
          go (inr asked) = let was = asked_was k asked in
              chosen_in (counting_for ks (Some factory) (Some named)) pids k.pid k was.0 (apart was.1 (bytes_eq k.pid factory) refl)

    -- where nothing counts it is made of none
    none_made : lets_count c.description.configuration_policy ≡ false → made_of ks c ≡ []
    none_made off = ap (λ b. filter_map (λ k. k) (cond b (counting ks (factory_of ks pids) (option_and_then (λ (p : List ℕ). of_pid p ks) c.pid) pids) [])) off

    pub made_counts : IsNamed ks c.description.configuration_policy pids c.pid → (k : Configuration) → Contains (made_of ks c) k → Contains ks k × (counts_for ks k c ≡ true)
    made_counts (without off) k h = absurd (in_none k (subst (λ these. Contains these k) (none_made off) h))
    made_counts (by_none lets none unnamed) k h = plain_was lets none unnamed k h
    made_counts (by_one factory named lets first there names_it) k h = named_was factory named lets first there names_it k h

    pub counts_made : IsNamed ks c.description.configuration_policy pids c.pid → (k : Configuration) → Contains ks k → counts_for ks k c ≡ true → Contains (made_of ks c) k
    counts_made (without off) k here is = absurd (both_ways (lets_count c.description.configuration_policy) off (and_parts (lets_count c.description.configuration_policy) (names k c || is_asked_for ks k c) is).0)
    counts_made (by_none lets none unnamed) k here is = plain_in lets none unnamed k here is
    counts_made (by_one factory named lets first there names_it) k here is = named_in factory named lets first there names_it k here is

    -- so it counts exactly where it is part
    pub counts_as_part : IsNamed ks c.description.configuration_policy pids c.pid → (k : Configuration) → Contains ks k → counts_for ks k c ≡ is_part k (made_of ks c)
    counts_as_part naming k here = either_way (counts_for ks k c) (is_part k (made_of ks c))
        (λ on. any_from (λ (other : Configuration). bytes_eq other.pid k.pid) (made_of ks c) k (counts_made naming k here on) (text_itself k.pid))
        (λ on. (let found = any_found (λ (other : Configuration). bytes_eq other.pid k.pid) (made_of ks c) on in
        let was = made_counts naming found.0 found.1 in
        subst (λ x. counts_for ks x c ≡ true) (one found.0 k was.0 here (same_text found.0.pid k.pid found.2)) was.1))
