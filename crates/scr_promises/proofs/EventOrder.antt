-- In which order the events of an entry are told: direct services first, by number, then those of components in the
-- order of the pass, each service once.
use Rattle.std.proofs.Common.{◌≡◌, ◌<◌, ◌⊎◌, ℕ, List, [], ◌∷◌, ◌++◌, ap, sym, ◌∙◌, refl, subst, cond, arith, Bool, true, false, ◌&&◌, ◌||◌, inl, inr, Option, Some, None}
use Rattle.std.specs.Prelude.{filter, flat_map, nat_lt, not, ◌==◌, ◌≢◌}
use Rattle.std.specs.List.{Contains, list_any}
use Rattle.std.proofs.lemmas.Bool.{and_from, both_ways, eq-eqb, lt-ltb, ltb-true}
use Rattle.std.proofs.lemmas.Grind.{flat_map-append}
use Rattle.component_state.specs.declared.component.Component.{Component}
use Rattle.component_state.specs.declared.open_period.OpenPeriod.{OpenPeriod}
use Rattle.component_state.specs.Components.{level_of}
use Rattle.component_state.proofs.Apart.{any_from, in_cases, in_either, in_left, in_none, in_right, key_in, kept_was, not_true, or_true}
use Rattle.component_state.proofs.Plain.{pass_was}
use Rattle.component_state.proofs.Seen.{numbered_apart}
use Rattle.journal_core.specs.declared.entry.Entry.{Entry}
use Rattle.ldap_filter.specs.Matching.{matches}
use Rattle.ldap_filter.specs.Trees.{Tree}
use Rattle.prop_map.specs.Words.{has}
use Rattle.scr_laws.proofs.Calm.{one_of_number}
use Rattle.scr_laws.proofs.Listed.{joined_was, mapped_was}
use Rattle.scr_laws.proofs.Sounding.{legal_sound}
use Rattle.scr_promises.specs.Events.{is_behind, is_commanded, is_of, is_told_before, passes_before}
use Rattle.scr_promises.proofs.Orders.{AreOrdered, ordered_flat, ordered_join, ordered_kept, ordered_map}
use Rattle.scr_promises.proofs.RegistrySteps.{number_of}
use Rattle.scr_promises.proofs.Rising.{ComesBefore, RowBelow, components_rise, pass_ordered, services_rise}
use Rattle.scr_promises.proofs.RowsAt.{numbered_was, row_at_was}
use Rattle.scr_promises.proofs.ServiceLaws.{direct_was}
use Rattle.scr_promises.proofs.ServicePairs.{are, by_component, by_number, in_turn, not_commanded, one_configuration, same_at}
use Rattle.scr_world.specs.Legal.{IsLegal}
use Rattle.scr_world.specs.Levels.{levels_of}
use Rattle.scr_world.specs.Lists.{change_between, changes_between, direct_between, row_at, world_of}
use Rattle.scr_world.specs.Steps.{History}
use Rattle.scr_world.specs.Tables.{descriptions_of}
use Rattle.scr_world.specs.declared.step.Step.{Step}
use Rattle.scr_world.specs.declared.world.World.{World}
use Rattle.service_listeners.specs.declared.listener.ServiceEvent.{ServiceEvent}
use Rattle.service_listeners.specs.Listening.{Change, events_for, one_event}
use Rattle.service_registry.specs.declared.row.ServiceRow.{ServiceRow}
use Rattle.service_registry.specs.Registries.{row_of}
use Rattle.service_registry.specs.Services.{ids}

-- lists of lists, made one
flat_twice : {X Y Z : Type 0} (f : Y → List Z) (g : X → List Y) (xs : List X)
    → flat_map f (flat_map g xs) ≡ flat_map (λ x. flat_map f (g x)) xs
flat_twice f g [] = refl
flat_twice f g (x ∷ xs) = flat_map-append f (g x) (flat_map g xs) ∙ ap (λ zs. flat_map f (g x) ++ zs)
    (flat_twice f g xs)

-- a service is one of a pair
pub data IsOfPair (before after : Option ServiceRow) (s : ℕ) : Type 0 where
  of_old : (old : ServiceRow) → before ≡ Some old → old.id ≡ s → IsOfPair before after s
  of_fresh : (fresh : ServiceRow) → after ≡ Some fresh → fresh.id ≡ s → IsOfPair before after s

module _ (tree : Tree) (e : ServiceEvent) where
  its_service : (value service : ℕ) → Contains (one_event value service) e → service ≡ e.service
  its_service value service h = elim (in_cases (record { value = value; service = service }) [] e h) [
    | inl same ↦ ap (λ (x : ServiceEvent). x.service) same
    | inr none ↦ absurd (in_none e none)
  ]

  -- an event of a change is of one of its services
  of_change : (c : Change) → Contains (events_for tree c) e → IsOfPair c.0 c.1 e.service
  of_change (None, None) h = absurd (in_none e h)
  of_change (None, Some fresh) h = go (matches tree fresh.properties) h
    where
      go : (b : Bool) → Contains (cond b (one_event 1 fresh.id) []) e → IsOfPair None (Some fresh) e.service
      go true k = of_fresh fresh refl (its_service 1 fresh.id k)
      go false k = absurd (in_none e k)
  of_change (Some old, None) h = go (matches tree old.properties) h
    where
      go : (b : Bool) → Contains (cond b (one_event 4 old.id) []) e → IsOfPair (Some old) None e.service
      go true k = of_old old refl (its_service 4 old.id k)
      go false k = absurd (in_none e k)
  of_change (Some old, Some fresh) h = go (matches tree fresh.properties) (matches tree old.properties) h
    where
      go : (a b : Bool) → Contains (cond a (one_event 2 fresh.id) (cond b (one_event 8 fresh.id) [])) e
          → IsOfPair (Some old) (Some fresh) e.service
      go true b k = of_fresh fresh refl (its_service 2 fresh.id k)
      go false true k = of_fresh fresh refl (its_service 8 fresh.id k)
      go false false k = absurd (in_none e k)

  left_of : (old fresh : ServiceRow) (s : ℕ) → IsOfPair (Some old) None s → IsOfPair (Some old) (Some fresh) s
  left_of old fresh s (of_old x is number) = of_old x is number
  left_of old fresh s (of_fresh x is number) = absurd cc

  came_of : (old fresh : ServiceRow) (s : ℕ) → IsOfPair None (Some fresh) s → IsOfPair (Some old) (Some fresh) s
  came_of old fresh s (of_old x is number) = absurd cc
  came_of old fresh s (of_fresh x is number) = of_fresh x is number

  single_of : (c d : Change) (s : ℕ) → Contains (c ∷ []) d → IsOfPair d.0 d.1 s → IsOfPair c.0 c.1 s
  single_of c d s h it = elim (in_cases c [] d h) [
    | inl same ↦ subst (λ (x : Change). IsOfPair x.0 x.1 s) (sym same) it
    | inr none ↦ absurd (in_none d none)
  ]

  of_between : (before after : Option ServiceRow) (c : Change) → Contains (change_between before after) c → (s : ℕ)
      → IsOfPair c.0 c.1 s → IsOfPair before after s
  of_between None None c h s it = absurd (in_none c h)
  of_between None (Some fresh) c h s it = single_of (None, Some fresh) c s h it
  of_between (Some old) None c h s it = single_of (Some old, None) c s h it
  of_between (Some old) (Some fresh) c h s it = go (old.id == fresh.id) (old.revision == fresh.revision) h
    where
      go : (a b : Bool)
          → Contains (cond a (cond b [] ((Some old, Some fresh) ∷ [])) ((Some old, None) ∷ (None, Some fresh) ∷ [])) c
          → IsOfPair (Some old) (Some fresh) s
      go true true k = absurd (in_none c k)
      go true false k = single_of (Some old, Some fresh) c s k it
      go false b k = elim (in_cases (Some old, None) ((None, Some fresh) ∷ []) c k) [
        | inl same ↦ left_of old fresh s (subst (λ (x : Change). IsOfPair x.0 x.1 s) (sym same) it)
        | inr later ↦ came_of old fresh s (single_of (None, Some fresh) c s later it)
      ]

  -- an event of the changes of a pair is of one of the pair
  pub of_pair : (before after : Option ServiceRow)
      → Contains (flat_map (events_for tree) (change_between before after)) e → IsOfPair before after e.service
  of_pair before after h =
      let c = joined_was (events_for tree) (change_between before after) e h in
      of_between before after c.0 c.1.0 e.service (of_change c.0 c.1.1)

-- no component configuration stands before itself
neither_below : (a b : Bool) (level number : ℕ) → nat_lt level level ≡ a → nat_lt number number ≡ b
    → (a || ((level == level) && b)) ≡ true → ⊥
neither_below true b level number x y on = let low = ltb-true level level x in omega (arith, low)
neither_below false true level number x y on = let low = ltb-true number number y in omega (arith, low)
neither_below false false level number x y on = both_ways ((level == level) && false) (and_none (level == level)) on
  where
    and_none : (b : Bool) → (b && false) ≡ false
    and_none true = refl
    and_none false = refl

not_itself : (w : World) (c : Component) → passes_before w c c ≡ true → ⊥
not_itself w c on =
    let level = level_of (descriptions_of w.documents) (levels_of (descriptions_of w.documents)) c in
    neither_below (nat_lt level level) (nat_lt c.number c.number) level c.number refl refl on

module _ (limit : ℕ) (entry : Entry Step) (past : History) (legal : IsLegal limit (entry ∷ past)) (tree : Tree) where
  abbrev w : World
  w = world_of past

  abbrev then : World
  then = world_of (entry ∷ past)

  abbrev pub IsBehind : ServiceEvent → ServiceEvent → Type 0
  IsBehind e f = (e.service ≢ f.service) × (is_told_before w then e.service f.service ≡ true)

  -- ---- the events of one pair: one at most

  one_told : (value service : ℕ) → AreOrdered IsBehind (one_event value service)
  one_told value service = (λ y h. absurd (in_none y h), tt)

  change_told : (c : Change) → AreOrdered IsBehind (events_for tree c)
  change_told (None, None) = tt
  change_told (None, Some fresh) = go (matches tree fresh.properties)
    where
      go : (b : Bool) → AreOrdered IsBehind (cond b (one_event 1 fresh.id) [])
      go true = one_told 1 fresh.id
      go false = tt
  change_told (Some old, None) = go (matches tree old.properties)
    where
      go : (b : Bool) → AreOrdered IsBehind (cond b (one_event 4 old.id) [])
      go true = one_told 4 old.id
      go false = tt
  change_told (Some old, Some fresh) = go (matches tree fresh.properties) (matches tree old.properties)
    where
      go : (a b : Bool) → AreOrdered IsBehind (cond a (one_event 2 fresh.id) (cond b (one_event 8 fresh.id) []))
      go true b = one_told 2 fresh.id
      go false true = one_told 8 fresh.id
      go false false = tt

  single_told : (c : Change) → AreOrdered IsBehind (flat_map (events_for tree) (c ∷ []))
  single_told c = ordered_join IsBehind (events_for tree c) [] (change_told c) tt (λ x y h k. absurd (in_none y k))

  pair_told : (before after : Option ServiceRow)
      → ((old fresh : ServiceRow) → before ≡ Some old → after ≡ Some fresh → old.id ≡ fresh.id)
      → AreOrdered IsBehind (flat_map (events_for tree) (change_between before after))
  pair_told None None same = tt
  pair_told None (Some fresh) same = single_told (None, Some fresh)
  pair_told (Some old) None same = single_told (Some old, None)
  pair_told (Some old) (Some fresh) same = go (old.id == fresh.id) (eq-eqb old.id fresh.id (same old fresh refl refl))
      (old.revision == fresh.revision)
    where
      go : (a : Bool) → a ≡ true → (b : Bool)
          → AreOrdered IsBehind
          (flat_map (events_for tree)
          (cond a (cond b [] ((Some old, Some fresh) ∷ [])) ((Some old, None) ∷ (None, Some fresh) ∷ [])))
      go true is true = tt
      go true is false = single_told (Some old, Some fresh)
      go false is b = absurd cc

  -- ---- services that commands registered

  abbrev number_told : ℕ → List ServiceEvent
  number_told n = flat_map (events_for tree) (by_number limit entry past legal n)

  of_number : (n : ℕ) (e : ServiceEvent) → Contains (number_told n) e → e.service ≡ n
  of_number n e h = go (of_pair tree e (row_of w.registry.rows n) (row_of then.registry.rows n) h)
    where
      go : IsOfPair (row_of (world_of past).registry.rows n) (row_of (world_of (entry ∷ past)).registry.rows n)
          e.service → e.service ≡ n
      go (of_old old is number) = sym number ∙ (numbered_was (world_of past).registry.rows n old is).1
      go (of_fresh fresh is number) = sym number ∙ (numbered_was (world_of (entry ∷ past)).registry.rows n fresh is).1

  number_ordered : (n : ℕ) → AreOrdered IsBehind (number_told n)
  number_ordered n = pair_told (row_of w.registry.rows n) (row_of then.registry.rows n)
      (λ old fresh before after. (numbered_was w.registry.rows n old before).1 ∙ sym
      (numbered_was then.registry.rows n fresh after).1)

  listed_has : (ns : List ℕ) (n : ℕ) → Contains ns n → has ns n ≡ true
  listed_has ns n h = any_from (λ m. m == n) ns n h (eq-eqb n n refl)

  from_command : (n : ℕ) → Contains (direct_between w then) n → is_commanded w then n ≡ true
  from_command n h = elim
      (in_either (ids w.registry.rows) (filter (λ m. not (has (ids w.registry.rows) m)) (ids then.registry.rows)) n h) [
        | inl old ↦ ap (λ b. b || has (ids then.registry.rows) n) (listed_has (ids w.registry.rows) n old)
        | inr new ↦ ap (λ b. has (ids w.registry.rows) n || b)
            (listed_has (ids then.registry.rows) n
            (kept_was (λ m. not (has (ids w.registry.rows) m)) (ids then.registry.rows) n new).0) ∙ or_true
            (has (ids w.registry.rows) n)
      ]

  abbrev Below : ℕ → ℕ → Type 0
  Below n m = n < m

  -- a new number is above all that were given
  new_above : (n m : ℕ) → Contains (ids w.registry.rows) n
      → Contains (filter (λ k. not (has (ids w.registry.rows) k)) (ids then.registry.rows)) m → n < m
  new_above n m h k =
      let kept = kept_was (λ j. not (has (ids w.registry.rows) j)) (ids then.registry.rows) m k in
      let old = mapped_was number_of w.registry.rows n h in
      let new = mapped_was number_of then.registry.rows m kept.0 in
      elim (direct_was limit entry past legal (are limit entry past legal) new.0 new.1.0) [
        | inl was ↦ absurd (both_ways (has (ids w.registry.rows) m) (not_true (has (ids w.registry.rows) m) kept.1)
            (ap (has (ids w.registry.rows)) (sym (sym was.same.number ∙ new.1.1)) ∙ key_in number_of w.registry.rows
            was.was was.there))
        | inr is ↦ (
            let low = ((are limit entry past legal).direct_given old.0 old.1.0).1 in
            let next = is.number in
            let a = old.1.1 in
            let b = new.1.1 in
            omega (arith, low, next, a, b))
      ]

  numbers_ordered : AreOrdered Below (direct_between w then)
  numbers_ordered =
      ordered_join Below (ids w.registry.rows)
      (filter (λ m. not (has (ids w.registry.rows) m)) (ids then.registry.rows))
      (ordered_map RowBelow Below number_of w.registry.rows (services_rise limit past legal.1) (λ a b low. low))
      (ordered_kept Below (λ m. not (has (ids w.registry.rows) m)) (ids then.registry.rows)
      (ordered_map RowBelow Below number_of then.registry.rows (services_rise limit (entry ∷ past) legal)
      (λ a b low. low)))
      new_above

  both_before : (n m : ℕ) → is_commanded w then n ≡ true → n < m → is_told_before w then n m ≡ true
  both_before n m on low =
      ap (λ b. cond b (not (is_commanded w then m) || nat_lt n m)
      (not (is_commanded w then m) && list_any (λ (c : Component). is_of w then n c && is_behind w then m c)
      then.components)) on
      ∙ ap (λ b. not (is_commanded w then m) || b) (lt-ltb n m low) ∙ or_true (not (is_commanded w then m))

  across_numbers : (n m : ℕ) → Contains (direct_between w then) n → Contains (direct_between w then) m → n < m
      → (e f : ServiceEvent) → Contains (number_told n) e → Contains (number_told m) f → IsBehind e f
  across_numbers n m h k low e f p q =
      let a = of_number n e p in
      let b = of_number m f q in (
        λ same. omega (arith, same, a, b, low),
        ap (λ x. is_told_before w then x f.service) a ∙ ap (is_told_before w then n) b ∙ both_before n m
            (from_command n h) low,
      )

  numbers_told : AreOrdered IsBehind (flat_map number_told (direct_between w then))
  numbers_told = ordered_flat Below IsBehind number_told (direct_between w then) numbers_ordered
      (λ n h. number_ordered n) across_numbers

  -- ---- services of components

  abbrev component_told : Component → List ServiceEvent
  component_told c = flat_map (events_for tree) (by_component limit entry past legal c)

  abbrev OfComponent : Component → ℕ → Type 0
  OfComponent c s = (p : OpenPeriod) × (Contains w.open_periods p ⊎ Contains then.open_periods p) ×
      (p.configuration ≡ c.number) × (p.row.id ≡ s) × (0 < p.row.id)

  of_component : (c : Component) (e : ServiceEvent) → Contains (component_told c) e → OfComponent c e.service
  of_component c e h = go (of_pair tree e (row_at w.open_periods c.number) (row_at then.open_periods c.number) h)
    where
      go : IsOfPair (row_at (world_of past).open_periods c.number)
          (row_at (world_of (entry ∷ past)).open_periods c.number) e.service → OfComponent c e.service
      go (of_old old is number) =
          let p = row_at_was (world_of past).open_periods c.number old is in
          (p.0, inl p.1, p.2, ap number_of p.3 ∙ number, subst (λ m. 0 < m) (ap number_of (sym p.3)) p.4)
      go (of_fresh fresh is number) =
          let p = row_at_was (world_of (entry ∷ past)).open_periods c.number fresh is in
          (p.0, inr p.1, p.2, ap number_of p.3 ∙ number, subst (λ m. 0 < m) (ap number_of (sym p.3)) p.4)

  component_ordered : (c : Component) → AreOrdered IsBehind (component_told c)
  component_ordered c = pair_told (row_at w.open_periods c.number) (row_at then.open_periods c.number)
      (same_at limit entry past legal c.number)

  is_its : (c : Component) (s : ℕ) → OfComponent c s → is_of w then s c ≡ true
  is_its c s p =
      any_from (λ (o : OpenPeriod). (o.configuration == c.number) && (o.row.id == s))
      (w.open_periods ++ then.open_periods) p.0 (in_both p.1)
      (and_from (p.0.configuration == c.number) (p.0.row.id == s) (eq-eqb p.0.configuration c.number p.2)
      (eq-eqb p.0.row.id s p.3))
    where
      in_both : Contains (world_of past).open_periods p.0 ⊎ Contains (world_of (entry ∷ past)).open_periods p.0
          → Contains ((world_of past).open_periods ++ (world_of (entry ∷ past)).open_periods) p.0
      in_both (inl h) = in_left (world_of past).open_periods (world_of (entry ∷ past)).open_periods p.0 h
      in_both (inr h) = in_right (world_of past).open_periods (world_of (entry ∷ past)).open_periods p.0 h

  indirect : (c : Component) (s : ℕ) → OfComponent c s → is_commanded w then s ≡ false
  indirect c s p = ap (is_commanded w then) (sym p.3) ∙ not_commanded limit entry past legal p.0 p.1 p.4

  in_components : (c : Component) → Contains (in_turn limit entry past legal) c → Contains then.components c
  in_components c h = let ds = descriptions_of then.documents in pass_was ds (levels_of ds) then.components
      (numbered_apart then.components (legal_sound limit (entry ∷ past) legal).numbered) c h

  in_pass : (c d : Component) (s t : ℕ) → Contains then.components c → Contains then.components d → OfComponent c s
      → OfComponent d t → passes_before then c d ≡ true → is_told_before w then s t ≡ true
  in_pass c d s t h k p q first =
      ap (λ b. cond b (not (is_commanded w then t) || nat_lt s t)
      (not (is_commanded w then t) && list_any (λ (x : Component). is_of w then s x && is_behind w then t x)
      then.components)) (indirect c s p)
      ∙ and_from (not (is_commanded w then t))
      (list_any (λ (x : Component). is_of w then s x && is_behind w then t x) then.components)
      (ap not (indirect d t q))
      (any_from (λ (x : Component). is_of w then s x && is_behind w then t x) then.components c h
      (and_from (is_of w then s c) (is_behind w then t c) (is_its c s p)
      (any_from (λ (y : Component). is_of w then t y && passes_before then c y) then.components d k
      (and_from (is_of w then t d) (passes_before then c d) (is_its d t q) first))))

  -- none stands before itself
  apart_in_pass : (c d : Component) → Contains then.components c → Contains then.components d
      → passes_before then c d ≡ true → c.number ≡ d.number → ⊥
  apart_in_pass c d h k first same =
      let it = one_of_number then.components (legal_sound limit (entry ∷ past) legal).numbered c d h k same in
      not_itself then d (subst (λ (x : Component). passes_before then x d ≡ true) it first)

  across_components : (c d : Component) → Contains (in_turn limit entry past legal) c
      → Contains (in_turn limit entry past legal) d → passes_before then c d ≡ true → (e f : ServiceEvent)
      → Contains (component_told c) e → Contains (component_told d) f → IsBehind e f
  across_components c d h k first e f p q =
      let a = of_component c e p in
      let b = of_component d f q in
      let there = in_components c h in
      let here = in_components d k in (
        λ same. apart_in_pass c d there here first
            (sym a.2 ∙ one_configuration limit entry past legal a.0 b.0 a.1 b.1 (a.3 ∙ same ∙ sym b.3) a.4 ∙ b.2),
        in_pass c d e.service f.service there here a b first,
      )

  components_told : AreOrdered IsBehind (flat_map component_told (in_turn limit entry past legal))
  components_told = ordered_flat (ComesBefore then (components_rise limit (entry ∷ past) legal)) IsBehind
      component_told (in_turn limit entry past legal)
      (pass_ordered then (components_rise limit (entry ∷ past) legal)) (λ c h. component_ordered c) across_components

  -- ---- all

  direct_first : (e f : ServiceEvent) → Contains (flat_map number_told (direct_between w then)) e
      → Contains (flat_map component_told (in_turn limit entry past legal)) f → IsBehind e f
  direct_first e f h k =
      let n = joined_was number_told (direct_between w then) e h in
      let c = joined_was component_told (in_turn limit entry past legal) f k in
      let on : is_commanded w then e.service ≡ true = ap (is_commanded w then) (of_number n.0 e n.1.1) ∙ from_command
      n.0 n.1.0 in
      let off = indirect c.0 f.service (of_component c.0 f c.1.1) in (
        λ same. both_ways (is_commanded w then f.service) off (ap (is_commanded w then) (sym same) ∙ on),
        ap (λ b. cond b (not (is_commanded w then f.service) || nat_lt e.service f.service)
            (not (is_commanded w then f.service) && list_any
            (λ (x : Component). is_of w then e.service x && is_behind w then f.service x) then.components)) on
            ∙ ap (λ b. not b || nat_lt e.service f.service) off,
      )

  pub told_in_order : AreOrdered IsBehind (flat_map (events_for tree) (changes_between w then))
  told_in_order =
      subst (λ (es : List ServiceEvent). AreOrdered IsBehind es)
      (sym (flat_map-append (events_for tree) (flat_map (by_number limit entry past legal) (direct_between w then))
      (flat_map (by_component limit entry past legal) (in_turn limit entry past legal))
      ∙ ap (λ es. es ++ flat_map (events_for tree)
      (flat_map (by_component limit entry past legal) (in_turn limit entry past legal)))
      (flat_twice (events_for tree) (by_number limit entry past legal) (direct_between w then))
      ∙ ap (λ es. flat_map number_told (direct_between w then) ++ es)
      (flat_twice (events_for tree) (by_component limit entry past legal) (in_turn limit entry past legal))))
      (ordered_join IsBehind (flat_map number_told (direct_between w then))
      (flat_map component_told (in_turn limit entry past legal)) numbers_told components_told direct_first)
