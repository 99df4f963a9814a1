-- Who lives has a description of its bundle's document, in the world of every legal journal.
use Rattle.std.proofs.Common.{◌≡◌, ℕ, ◌+◌, List, [], ◌∷◌, ap, sym, ◌∙◌, refl, subst, cond, Bool, true, false, inl, inr, Some, None, Option}
use Rattle.std.specs.Prelude.{filter, map, not, ◌==◌, find, flat_map}
use Rattle.std.specs.List.{Contains}
use Rattle.std.specs.Option.{option_map_or}
use Rattle.std.proofs.lemmas.Bool.{and_parts, eqb-true}
use Rattle.bundle_life.specs.declared.bundle.BundleLife.{BundleLife}
use Rattle.bundle_life.specs.declared.bundle.BundleState.TheVariants.{Installed}
use Rattle.bundle_life.specs.Lives.{bundle_of, state_number, renamed}
use Rattle.component_dto.specs.declared.description.Description.{Description}
use Rattle.component_dto.specs.declared.description.ConfigurationPolicy.{ConfigurationPolicy}
use Rattle.component_dto.specs.declared.description.ConfigurationPolicy.TheVariants.{Optional, Require, Ignore}
use Rattle.component_state.specs.declared.component.Component.{Component}
use Rattle.component_state.specs.declared.rows.BundleRow.{BundleRow}
use Rattle.component_state.specs.ComponentConfigurations.{as_configured, components_for_description as asked_by_policy, component_for_factory, component_configurations, components_for, factory_of, is_same_component, component_after, with_numbers, components_for_bundle, components_for_descriptions}
use Rattle.config_admin.specs.declared.configuration.Configuration.{Configuration}
use Rattle.config_admin.specs.Configurations.{of_factory}
use Rattle.osgi_version.specs.declared.version.Version.{Version}
use Rattle.scr_world.specs.declared.contents.Contents.{Contents}
use Rattle.scr_world.specs.Tables.{bundle_row, bundle_rows, set_back}
use Rattle.component_state.proofs.Apart.{in_cases, in_either, in_first, in_none, in_rest}
use Rattle.component_state.proofs.Plain.{in_mapped}
use Rattle.scr_laws.proofs.Legal.{in_map}

-- ---- lists

pub in_flat : {X Y : Type 0} (f : X → List Y) (xs : List X) (y : Y) → Contains (flat_map f xs) y → (x : X) × Contains xs x × Contains (f x) y
in_flat f [] y h = absurd (in_none y h)
in_flat f (x ∷ xs) y h = elim (in_either (f x) (flat_map f xs) y h) [
  | inl own ↦ (x, in_first x xs, own)
  | inr later ↦ (let found = in_flat f xs y later in (found.0, in_rest x xs found.0 found.1, found.2))
]

find_was : {X : Type 0} (p : X → Bool) (xs : List X) (x : X) → find p xs ≡ Some x → Contains xs x × (p x ≡ true)
find_was p [] x is = cc
find_was p (y ∷ ys) x is = go (p y) refl is (find_was p ys x)
  where
    go : (b : Bool) → p y ≡ b → cond b (Some y) (find p ys) ≡ Some x → (find p ys ≡ Some x → Contains ys x × (p x ≡ true)) → Contains (y ∷ ys) x × (p x ≡ true)
    go true on h rest = let same : y ≡ x = cc in (subst (λ z. Contains (y ∷ ys) z) same (in_first y ys), ap p (sym same) ∙ on)
    go false off h rest = let found = rest h in (in_rest y ys x found.0, found.1)

-- ---- who is asked for

-- of a bundle, by a description
abbrev pub IsOf : ℕ → Description → Component → Type 0
IsOf bundle d a = (a.bundle ≡ bundle) × (a.description ≡ d)

with_of : (b : BundleRow) (place : ℕ) (d : Description) (cs : List Configuration) (o : Option (List ℕ)) (a : Component) → Contains (components_for b place d cs o) a → IsOf b.id d a
with_of b place d cs (Some factory) a h = let found = in_mapped (component_for_factory b place d cs factory) (of_factory factory cs) a h in (ap (λ (x : Component). x.bundle) (sym found.2), ap (λ (x : Component). x.description) (sym found.2))
with_of b place d cs None a h = elim (in_cases _ [] a h) [
  | inl same ↦ (ap (λ (x : Component). x.bundle) (sym same), ap (λ (x : Component). x.description) (sym same))
  | inr none ↦ absurd (in_none a none)
]

policy_of : (b : BundleRow) (place : ℕ) (d : Description) (cs : List Configuration) (p : ConfigurationPolicy) (a : Component) → Contains (asked_by_policy b place d cs p) a → IsOf b.id d a
policy_of b place d cs Optional a h = with_of b place d cs (factory_of cs d.configuration_pids) a h
policy_of b place d cs Require a h = with_of b place d cs (factory_of cs d.configuration_pids) a h
policy_of b place d cs Ignore a h = elim (in_cases _ [] a h) [
  | inl same ↦ (ap (λ (x : Component). x.bundle) (sym same), ap (λ (x : Component). x.description) (sym same))
  | inr none ↦ absurd (in_none a none)
]

descriptions_asked : (b : BundleRow) (cs : List Configuration) (place : ℕ) (ds : List Description) (enabled : List Bool) (a : Component) → Contains (components_for_descriptions b cs place ds enabled) a
    → (a.bundle ≡ b.id) × Contains ds a.description
descriptions_asked b cs place [] enabled a h = absurd (in_none a h)
descriptions_asked b cs place (d ∷ ds) [] a h = absurd (in_none a h)
descriptions_asked b cs place (d ∷ ds) (e ∷ es) a h = elim (in_either (cond e (asked_by_policy b place d cs d.configuration_policy) []) (components_for_descriptions b cs (place + 1) ds es) a h) [
  | inl own ↦ go e own
  | inr later ↦ (let found = descriptions_asked b cs (place + 1) ds es a later in (found.0, in_rest d ds a.description found.1))
]
  where
    go : (f : Bool) → Contains (cond f (asked_by_policy b place d cs d.configuration_policy) []) a → (a.bundle ≡ b.id) × Contains (d ∷ ds) a.description
    go false k = absurd (in_none a k)
    go true k = let is = policy_of b place d cs d.configuration_policy a k in (is.0, subst (λ x. Contains (d ∷ ds) x) (sym is.1) (in_first d ds))

-- the bundle of a number is active
abbrev pub IsActive : List BundleLife → ℕ → Type 0
IsActive rows number = (option_map_or (λ (b : BundleLife). state_number b.state) (bundle_of rows number) 0 == 32) ≡ true

-- a component configuration has a description of its bundle's document
abbrev pub IsDocumented : List Contents → Component → Type 0
IsDocumented documents c = (t : Contents) × Contains documents t × (t.bundle ≡ c.bundle) × Contains t.document.descriptions c.description

pub asked_was : (rows : List BundleLife) (documents : List Contents) (cs : List Configuration) (a : Component) → Contains (component_configurations (bundle_rows rows documents) cs) a → IsDocumented documents a × IsActive rows a.bundle
asked_was rows documents cs a h =
    let found = in_flat (components_for_bundle cs) (bundle_rows rows documents) a h in
    let t = in_mapped (bundle_row rows) documents found.0 found.1 in
    go t.0 t.1 (subst (λ (b : BundleRow). Contains (components_for_bundle cs b) a) (sym t.2) found.2)
  where
    go : (t : Contents) → Contains documents t → Contains (components_for_bundle cs (bundle_row rows t)) a → IsDocumented documents a × IsActive rows a.bundle
    go t there own = state (option_map_or (λ (b : BundleLife). state_number b.state) (bundle_of rows t.bundle) 0 == 32) refl own
      where
        state : (b : Bool) → (option_map_or (λ (x : BundleLife). state_number x.state) (bundle_of rows t.bundle) 0 == 32) ≡ b → Contains (cond b (components_for_descriptions (bundle_row rows t) cs 0 t.document.descriptions t.enabled) []) a → IsDocumented documents a × IsActive rows a.bundle
        state false off k = absurd (in_none a k)
        state true on k = let is = descriptions_asked (bundle_row rows t) cs 0 t.document.descriptions t.enabled a k in ((t, there, sym is.0, is.1), subst (λ n. IsActive rows n) (sym is.0) on)

-- new ones have the bundles and descriptions of those asked for
pub numbered_was : (n : ℕ) (cs : List Component) (c : Component) → Contains (with_numbers n cs) c → (a : Component) × Contains cs a × (c.bundle ≡ a.bundle) × (c.description ≡ a.description)
numbered_was n [] c h = absurd (in_none c h)
numbered_was n (a ∷ rest) c h = elim (in_cases _ (with_numbers (n + 1) rest) c h) [
  | inl same ↦ (a, in_first a rest, ap (λ (x : Component). x.bundle) (sym same), ap (λ (x : Component). x.description) (sym same))
  | inr later ↦ (let found = numbered_was (n + 1) rest c later in (found.0, in_rest a rest found.0 found.1, found.2, found.3))
]

-- who lives on lived, and is asked for
pub kept_lives : (place : ℕ) (these : List Component) (c : Component) → (component_after place these c).exists ≡ true → (c.exists ≡ true) × ((a : Component) × Contains these a × (c.bundle ≡ a.bundle))
kept_lives place these c is = go c.exists refl (find (is_same_component c) these) refl is
  where
    go : (b : Bool) → c.exists ≡ b → (o : Option Component) → find (is_same_component c) these ≡ o → (cond b (option_map_or (as_configured place c) o (record c { exists = false })) c).exists ≡ true → (c.exists ≡ true) × ((a : Component) × Contains these a × (c.bundle ≡ a.bundle))
    go false lived o found h = absurd (wrong (sym lived ∙ h))
      where
        wrong : false ≡ true → ⊥
        wrong e = cc
    go true lived None found h = absurd (wrong h)
      where
        wrong : false ≡ true → ⊥
        wrong e = cc
    go true lived (Some a) found h = let at = find_was (is_same_component c) these a found in (lived, (a, at.0, eqb-true c.bundle a.bundle (and_parts (c.bundle == a.bundle) _ at.1).0))

-- ---- documents

-- an updated bundle isn't active, nor is one that isn't there any more
pub updated_rests : (number : ℕ) (name : List ℕ) (version : Version) (rows : List BundleLife) → IsActive (map (renamed number name version) rows) number → ⊥
updated_rests number name version [] is = cc
updated_rests number name version (b ∷ bs) is = go (b.number == number) refl is (updated_rests number name version bs)
  where
    code : Option BundleLife → ℕ
    code o = option_map_or (λ (x : BundleLife). state_number x.state) o 0

    go : (v : Bool) → (b.number == number) ≡ v
        → (option_map_or (λ (x : BundleLife). state_number x.state) (cond ((cond v (record b { name = name; version = version; state = Installed }) b).number == number) (Some (cond v (record b { name = name; version = version; state = Installed }) b)) (bundle_of (map (renamed number name version) bs) number)) 0 == 32) ≡ true
        → (IsActive (map (renamed number name version) bs) number → ⊥) → ⊥
    go true same h rest = let k = subst (λ x. (option_map_or (λ (y : BundleLife). state_number y.state) (cond x (Some (record b { name = name; version = version; state = Installed })) (bundle_of (map (renamed number name version) bs) number)) 0 == 32) ≡ true) same h in wrong k
      where
        wrong : (2 == 32) ≡ true → ⊥
        wrong e = cc
    go false off h rest = rest (subst (λ x. (option_map_or (λ (y : BundleLife). state_number y.state) (cond x (Some b) (bundle_of (map (renamed number name version) bs) number)) 0 == 32) ≡ true) off h)

pub gone_rests : (number : ℕ) (rows : List BundleLife) → IsActive (filter (λ (b : BundleLife). not (b.number == number)) rows) number → ⊥
gone_rests number [] is = cc
gone_rests number (b ∷ bs) is = go (b.number == number) refl is (gone_rests number bs)
  where
    go : (v : Bool) → (b.number == number) ≡ v → IsActive (cond (not v) (b ∷ filter (λ (x : BundleLife). not (x.number == number)) bs) (filter (λ (x : BundleLife). not (x.number == number)) bs)) number
        → (IsActive (filter (λ (x : BundleLife). not (x.number == number)) bs) number → ⊥) → ⊥
    go true same h rest = rest h
    go false off h rest = rest (subst (λ x. (option_map_or (λ (y : BundleLife). state_number y.state) (cond x (Some b) (bundle_of (filter (λ (z : BundleLife). not (z.number == number)) bs) number)) 0 == 32) ≡ true) off h)

-- contents that keep their bundle and descriptions
pub mapped_documented : (f : Contents → Contents) (documents : List Contents) (c : Component) → ((t : Contents) → t.bundle ≡ c.bundle → ((f t).bundle ≡ t.bundle) × ((f t).document.descriptions ≡ t.document.descriptions)) → IsDocumented documents c → IsDocumented (map f documents) c
mapped_documented f documents c keeps is = let k = keeps is.0 is.2 in (f is.0, in_map f documents is.0 is.1, k.0 ∙ is.2, subst (λ ds. Contains ds c.description) (sym k.1) is.3)

pub set_back_keeps : (bundle : ℕ) (t : Contents) → ((set_back bundle t).bundle ≡ t.bundle) × ((set_back bundle t).document.descriptions ≡ t.document.descriptions)
set_back_keeps bundle t = go (t.bundle == bundle)
  where
    go : (b : Bool) → ((cond b (record t { enabled = map (λ (d : Description). d.default_enabled) t.document.descriptions }) t).bundle ≡ t.bundle) × ((cond b (record t { enabled = map (λ (d : Description). d.default_enabled) t.document.descriptions }) t).document.descriptions ≡ t.document.descriptions)
    go true = (refl, refl)
    go false = (refl, refl)
