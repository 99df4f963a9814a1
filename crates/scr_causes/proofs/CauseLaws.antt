-- Direct causes stand exactly where a component configuration isn't satisfied.
use Rattle.std.proofs.Common.{◌≡◌, ◌<◌, ℕ, List, [], ◌∷◌, ◌++◌, ap, sym, ◌∙◌, refl, subst, cond, length, Bool, true, false, ◌&&◌, inl, inr, Option, Some, None}
use Rattle.std.specs.Prelude.{filter, flat_map, is_none, is_some, map, not, ◌==◌}
use Rattle.std.specs.List.{Contains, list_all}
use Rattle.std.proofs.lemmas.Bool.{and_from, and_parts, eq-eqb, eqb-true, false≢true, leb-false}
use Rattle.component_causes.specs.declared.cause.Cause.{Cause}
use Rattle.component_causes.specs.declared.cause.Cause.TheVariants.{Pid, Reference as Below}
use Rattle.component_dto.specs.declared.description.Reference.{Reference}
use Rattle.component_state.specs.declared.component.Component.{Component}
use Rattle.component_state.specs.Components.{is_required, lacks_configuration, needs_of}
use Rattle.component_state.specs.Scratch.{is_satisfied}
use Rattle.component_state.proofs.Apart.{any_found, any_from, either_way, in_cases, in_either, in_none, kept_was, one_of}
use Rattle.component_state.proofs.Plain.{in_mapped}
use Rattle.component_state.proofs.Below.{number_of}
use Rattle.component_state.proofs.Seen.{numbered_apart}
use Rattle.config_admin.specs.declared.configuration.Configuration.{Configuration}
use Rattle.prop_map.specs.Words.{is_empty}
use Rattle.reference_match.specs.declared.need.Need.{Need}
use Rattle.reference_match.specs.Needs.{condition_name, implicit_need, need_of}
use Rattle.reference_match.specs.Targets.{is_met, meets}
use Rattle.service_registry.specs.declared.row.ServiceRow.{ServiceRow}
use Rattle.scr_laws.specs.Opens.{IsInOrder, meets_all, some_numbered}
use Rattle.scr_laws.proofs.Opening.{satisfied_is}
use Rattle.scr_world.specs.declared.world.World.{World}
use Rattle.scr_world.specs.Legal.{IsOpenFromScratch}
use Rattle.scr_world.specs.Worlds.{registered_services}
use Rattle.scr_causes.specs.DirectCauses.{causes_by, causes_of, causes_where, counting_under, pid_cause, pid_causes, pids_without, possible_services, reference_cause, reference_causes}
use Rattle.scr_causes.specs.CauseLaws.{AreBelow, AreConfigured, LackConfigurations, TellWhy}

-- ---- lists

empty_joined : {X : Type 0} (xs ys : List X) → is_empty (xs ++ ys) ≡ (is_empty xs && is_empty ys)
empty_joined [] ys = refl
empty_joined (x ∷ xs) ys = refl

-- none is left exactly where each is set
all_set : {X Y Z : Type 0} (f : X → Y) (g : X → Option Z) (xs : List X) → is_empty (map f (filter (λ x. is_none (g x)) xs)) ≡ list_all (λ x. is_some (g x)) xs
all_set f g [] = refl
all_set {Z = Z} f g (x ∷ xs) = go (g x) (all_set f g xs)
  where
    go : (o : Option Z) → is_empty (map f (filter (λ y. is_none (g y)) xs)) ≡ list_all (λ y. is_some (g y)) xs
        → is_empty (map f (cond (is_none o) (x ∷ filter (λ y. is_none (g y)) xs) (filter (λ y. is_none (g y)) xs))) ≡ (is_some o && list_all (λ y. is_some (g y)) xs)
    go None rest = refl
    go (Some z) rest = rest

-- ---- one component configuration

module _ (ks : List Configuration) (registered possible : List ServiceRow) (c : Component) where
  pids_empty : (is_required c.description.configuration_policy ≡ true → c.configured ≡ list_all (λ pid. is_some (counting_under ks c pid)) c.description.configuration_pids)
      → is_empty (pid_causes ks c) ≡ not (lacks_configuration c)
  pids_empty is = go (is_required c.description.configuration_policy) is
    where
      go : (b : Bool) → (b ≡ true → c.configured ≡ list_all (λ pid. is_some (counting_under ks c pid)) c.description.configuration_pids)
          → is_empty (cond b (map (pid_cause ks) (filter (λ pid. is_none (counting_under ks c pid)) c.description.configuration_pids)) []) ≡ not (b && not c.configured)
      go false k = refl
      go true k = all_set (pid_cause ks) (counting_under ks c) c.description.configuration_pids ∙ sym (k refl) ∙ twice c.configured
        where
          twice : (b : Bool) → b ≡ not (not b)
          twice true = refl
          twice false = refl

  one_empty : (name : List ℕ) (n : Need) → is_empty (causes_by registered possible c.properties name n) ≡ is_met registered n
  one_empty name n = go (is_met registered n) (Below (reference_cause registered possible c.properties name n))
    where
      go : (b : Bool) (a : Cause) → is_empty (cond b [] (a ∷ [])) ≡ b
      go true a = refl
      go false a = refl

  each_empty : (rs : List Reference) → is_empty (flat_map (causes_of registered possible c.properties) rs) ≡ list_all (is_met registered) (map (need_of c.properties) rs)
  each_empty [] = refl
  each_empty (r ∷ rs) =
      empty_joined (causes_of registered possible c.properties r) (flat_map (causes_of registered possible c.properties) rs)
      ∙ ap (λ b. b && is_empty (flat_map (causes_of registered possible c.properties) rs)) (one_empty r.name (need_of c.properties r))
      ∙ ap (λ b. is_met registered (need_of c.properties r) && b) (each_empty rs)

  all_joined : {X : Type 0} (p : X → Bool) (xs ys : List X) → list_all p (xs ++ ys) ≡ (list_all p xs && list_all p ys)
  all_joined p [] ys = refl
  all_joined p (x ∷ xs) ys = ap (λ b. p x && b) (all_joined p xs ys) ∙ moved (p x) (list_all p xs) (list_all p ys)
    where
      moved : (a b d : Bool) → (a && (b && d)) ≡ ((a && b) && d)
      moved true b d = refl
      moved false b d = refl

  last_empty : (b : Bool) → is_empty (cond b (causes_by registered possible c.properties condition_name (implicit_need c.properties)) []) ≡ list_all (is_met registered) (cond b (implicit_need c.properties ∷ []) [])
  last_empty false = refl
  last_empty true = one_empty condition_name (implicit_need c.properties) ∙ sym (alone (is_met registered (implicit_need c.properties)))
    where
      alone : (b : Bool) → (b && true) ≡ b
      alone true = refl
      alone false = refl

  references_empty : is_empty (reference_causes registered possible c) ≡ list_all (is_met registered) (needs_of c)
  references_empty =
      let named = flat_map (causes_of registered possible c.properties) c.description.references in
      let last = cond c.description.implicit (causes_by registered possible c.properties condition_name (implicit_need c.properties)) [] in
      empty_joined named last
      ∙ ap (λ b. b && is_empty last) (each_empty c.description.references)
      ∙ ap (λ b. list_all (is_met registered) (map (need_of c.properties) c.description.references) && b) (last_empty c.description.implicit)
      ∙ sym (all_joined (is_met registered) (map (need_of c.properties) c.description.references) (cond c.description.implicit (implicit_need c.properties ∷ []) []))

  pub none_where_satisfied : (is_required c.description.configuration_policy ≡ true → c.configured ≡ list_all (λ pid. is_some (counting_under ks c pid)) c.description.configuration_pids)
      → is_empty (pid_causes ks c ++ reference_causes registered possible c) ≡ is_satisfied registered c
  none_where_satisfied is =
      empty_joined (pid_causes ks c) (reference_causes registered possible c)
      ∙ ap (λ b. b && is_empty (reference_causes registered possible c)) (pids_empty is)
      ∙ ap (λ b. not (lacks_configuration c) && b) references_empty

-- ---- a world

-- what is so of the number is so of the one that has it
numbered_one : (w : World) → IsInOrder w → (test : Component → Bool) (c : Component) → Contains w.components c → some_numbered test w.components c.number ≡ test c
numbered_one w fine test c here = either_way (some_numbered test w.components c.number) (test c) one to
  where
    one : some_numbered test w.components c.number ≡ true → test c ≡ true
    one is = let found = any_found (λ (d : Component). (d.number == c.number) && test d) w.components is in
        let both = and_parts (found.0.number == c.number) (test found.0) found.2 in
        subst (λ (d : Component). test d ≡ true) (one_of number_of w.components (numbered_apart w.components fine.numbered) found.0 c found.1 here (eqb-true found.0.number c.number both.0)) both.1

    to : test c ≡ true → some_numbered test w.components c.number ≡ true
    to is = any_from (λ (d : Component). (d.number == c.number) && test d) w.components c here (and_from (c.number == c.number) (test c) (eq-eqb c.number c.number refl) is)

pub tell_why : (w : World) → IsInOrder w → IsOpenFromScratch w → AreConfigured w → TellWhy w
tell_why w fine scratch configured c here =
    let lives = kept_was (λ (d : Component). d.exists) w.components c here in
    none_where_satisfied w.configurations (registered_services w) (possible_services w) c (configured c here)
    ∙ sym (ap (λ b. b && is_satisfied (registered_services w) c) lives.1)
    ∙ sym (numbered_one w fine (meets_all w) c lives.0)
    ∙ sym (satisfied_is w fine scratch c.number)

-- ---- each that is told

module _ (ks : List Configuration) (registered possible : List ServiceRow) (c : Component) where
  abbrev IsRight : Cause → Type 0
  IsRight (Pid pid factory) = (is_required c.description.configuration_policy ≡ true) × Contains c.description.configuration_pids pid × (counting_under ks c pid ≡ None)
  IsRight (Below r) = r.targets < r.minimum

  pid_right : (a : Cause) → Contains (pid_causes ks c) a → IsRight a
  pid_right a h = go (is_required c.description.configuration_policy) refl h
    where
      none : (o : Option Configuration) → is_none o ≡ true → o ≡ None
      none None is = refl
      none (Some k) is = absurd (false≢true is)

      go : (b : Bool) → is_required c.description.configuration_policy ≡ b → Contains (cond b (map (pid_cause ks) (pids_without ks c)) []) a → IsRight a
      go false is k = absurd (in_none a k)
      go true is k =
          let was = in_mapped (pid_cause ks) (pids_without ks c) a k in
          let kept = kept_was (λ pid. is_none (counting_under ks c pid)) c.description.configuration_pids was.0 was.1 in
          subst IsRight was.2 (is, kept.0, none (counting_under ks c was.0) kept.1)

  one_right : (name : List ℕ) (n : Need) (a : Cause) → Contains (causes_by registered possible c.properties name n) a → IsRight a
  one_right name n a h = go (is_met registered n) refl h
    where
      go : (b : Bool) → is_met registered n ≡ b → Contains (cond b [] (Below (reference_cause registered possible c.properties name n) ∷ [])) a → IsRight a
      go true is k = absurd (in_none a k)
      go false is k = elim (in_cases (Below (reference_cause registered possible c.properties name n)) [] a k) [
        | inl same ↦ subst IsRight same (leb-false n.minimum (length (filter (meets n) registered)) is)
        | inr none ↦ absurd (in_none a none)
      ]

  each_right : (rs : List Reference) (a : Cause) → Contains (flat_map (causes_of registered possible c.properties) rs) a → IsRight a
  each_right [] a h = absurd (in_none a h)
  each_right (r ∷ rs) a h = elim (in_either (causes_of registered possible c.properties r) (flat_map (causes_of registered possible c.properties) rs) a h) [
    | inl here ↦ one_right r.name (need_of c.properties r) a here
    | inr later ↦ each_right rs a later
  ]

  last_right : (b : Bool) (a : Cause) → Contains (cond b (causes_by registered possible c.properties condition_name (implicit_need c.properties)) []) a → IsRight a
  last_right true a h = one_right condition_name (implicit_need c.properties) a h
  last_right false a h = absurd (in_none a h)

  all_right : (a : Cause) → Contains (causes_where ks registered possible c) a → IsRight a
  all_right a h = elim (in_either (pid_causes ks c) (reference_causes registered possible c) a h) [
    | inl pid ↦ pid_right a pid
    | inr reference ↦ elim (in_either (flat_map (causes_of registered possible c.properties) c.description.references) (cond c.description.implicit (causes_by registered possible c.properties condition_name (implicit_need c.properties)) []) a reference) [
      | inl named ↦ each_right c.description.references a named
      | inr last ↦ last_right c.description.implicit a last
    ]
  ]

pub are_below : (w : World) (c : Component) → AreBelow w c
are_below w c r h = all_right w.configurations (registered_services w) (possible_services w) c (Below r) h

pub lack_configurations : (w : World) (c : Component) → LackConfigurations w c
lack_configurations w c pid factory h = all_right w.configurations (registered_services w) (possible_services w) c (Pid pid factory) h
