-- What an install, an update, a stop, an uninstall and a disable ask for was asked for before.
use Rattle.std.proofs.Common.{◌≡◌, ◌<◌, ◌≤◌, ℕ, ◌+◌, List, [], ◌∷◌, ◌++◌, ap, sym, ◌∙◌, refl, subst, cond, arith, Bool, true, false, inl, inr, Option, Some, None}
use Rattle.std.specs.Prelude.{filter, find, map, not, ◌==◌}
use Rattle.std.specs.List.{Contains}
use Rattle.std.specs.Option.{option_map_or}
use Rattle.std.specs.Str.{bytes_eq}
use Rattle.std.proofs.lemmas.Bool.{both_ways, eqb-true}
use Rattle.bundle_doc.specs.declared.document.BundleDoc.{BundleDoc}
use Rattle.bundle_life.specs.declared.bundle.BundleLife.{BundleLife}
use Rattle.bundle_life.specs.declared.bundle.BundleState.{BundleState}
use Rattle.bundle_life.specs.declared.bundle.BundleState.TheVariants.{Installed, Stopping}
use Rattle.bundle_life.specs.Lives.{bundle_of, in_state, new_row as new_bundle, renamed, state_number}
use Rattle.component_dto.specs.declared.description.ConfigurationPolicy.{ConfigurationPolicy}
use Rattle.component_dto.specs.declared.description.ConfigurationPolicy.TheVariants.{Ignore, Optional, Require}
use Rattle.component_dto.specs.declared.description.Description.{Description}
use Rattle.component_state.specs.declared.component.Component.{Component}
use Rattle.component_state.specs.declared.rows.BundleRow.{BundleRow}
use Rattle.component_state.specs.ComponentConfigurations.{component_configurations, components_for, components_for_bundle, components_for_description, components_for_descriptions, factory_of}
use Rattle.component_state.proofs.Apart.{in_either, in_first, in_left, in_none, in_rest, in_right, kept_was, not_true}
use Rattle.config_admin.specs.declared.configuration.Configuration.{Configuration}
use Rattle.osgi_version.specs.declared.version.Version.{Version}
use Rattle.scr_laws.proofs.Described.{into_flat}
use Rattle.scr_laws.proofs.Documents.{IsActive, in_flat, updated_rests}
use Rattle.scr_laws.proofs.Listed.{in_mapped, mapped_was, single}
use Rattle.scr_laws.proofs.Resting.{of_bundle_any}
use Rattle.scr_laws.proofs.StoppingBundles.{found_kept}
use Rattle.scr_laws.proofs.OwnerLaws.{in_state_number, renamed_number}
use Rattle.scr_world.specs.Tables.{bundle_row, bundle_rows, contents_with, flagged, replaced, with_flag}
use Rattle.scr_world.specs.declared.contents.Contents.{Contents}

-- ---- a bundle that is active after a step was active before it

abbrev state_in : List BundleLife → ℕ → ℕ
state_in rows n = option_map_or (λ (b : BundleLife). state_number b.state) (bundle_of rows n) 0

active_before : (f : BundleLife → BundleLife) → ((b : BundleLife) → (f b).number ≡ b.number) → ((b : BundleLife) → (state_number (f b).state == 32) ≡ true → (state_number b.state == 32) ≡ true)
    → (rows : List BundleLife) (n : ℕ) → IsActive (map f rows) n → IsActive rows n
active_before f same stays [] n on = cc
active_before f same stays (b ∷ bs) n on =
    go (b.number == n) (ap (λ k. option_map_or (λ (x : BundleLife). state_number x.state) (cond (k == n) (Some (f b)) (bundle_of (map f bs) n)) 0 == 32) (sym (same b)) ∙ on) (active_before f same stays bs n)
  where
    go : (k : Bool) → (option_map_or (λ (x : BundleLife). state_number x.state) (cond k (Some (f b)) (bundle_of (map f bs) n)) 0 == 32) ≡ true → (IsActive (map f bs) n → IsActive bs n)
        → (option_map_or (λ (x : BundleLife). state_number x.state) (cond k (Some b) (bundle_of bs n)) 0 == 32) ≡ true
    go true is later = stays b is
    go false is later = later is

added_before : (rows : List BundleLife) (new : BundleLife) → (state_number new.state == 32) ≡ false → (n : ℕ) → IsActive (rows ++ new ∷ []) n → IsActive rows n
added_before [] new off n on = go (new.number == n) on
  where
    go : (k : Bool) → (option_map_or (λ (x : BundleLife). state_number x.state) (cond k (Some new) None) 0 == 32) ≡ true → IsActive [] n
    go true is = absurd (both_ways (state_number new.state == 32) off is)
    go false is = cc
added_before (b ∷ bs) new off n on = go (b.number == n) on (added_before bs new off n)
  where
    go : (k : Bool) → (option_map_or (λ (x : BundleLife). state_number x.state) (cond k (Some b) (bundle_of (bs ++ new ∷ []) n)) 0 == 32) ≡ true → (IsActive (bs ++ new ∷ []) n → IsActive bs n)
        → (option_map_or (λ (x : BundleLife). state_number x.state) (cond k (Some b) (bundle_of bs n)) 0 == 32) ≡ true
    go true is later = is
    go false is later = later is

-- an active bundle has a row
active_row : (rows : List BundleLife) (n : ℕ) → IsActive rows n → (b : BundleLife) × Contains rows b × (b.number ≡ n)
active_row [] n on = cc
active_row (b ∷ bs) n on = go (b.number == n) refl on (active_row bs n)
  where
    go : (k : Bool) → (b.number == n) ≡ k → (option_map_or (λ (x : BundleLife). state_number x.state) (cond k (Some b) (bundle_of bs n)) 0 == 32) ≡ true → (IsActive bs n → (c : BundleLife) × Contains bs c × (c.number ≡ n)) → (c : BundleLife) × Contains (b ∷ bs) c × (c.number ≡ n)
    go true same is later = (b, in_first b bs, eqb-true b.number n same)
    go false other is later = let found = later is in (found.0, in_rest b bs found.0 found.1, found.2)

-- ---- what is asked for

module _ (rows those : List BundleLife) (documents after : List Contents) (cs : List Configuration)
    (each : (c : Contents) → Contains after c → IsActive those c.bundle → Contains documents c × IsActive rows c.bundle) where
  pub fewer : (a : Component) → Contains (component_configurations (bundle_rows those after) cs) a → Contains (component_configurations (bundle_rows rows documents) cs) a
  fewer a h = go ((state_in those contents.0.bundle) == 32) refl (subst (λ (r : BundleRow). Contains (components_for_bundle cs r) a) (sym contents.1.1) row.2)
    where
      row : (r : BundleRow) × Contains (bundle_rows those after) r × Contains (components_for_bundle cs r) a
      row = in_flat (components_for_bundle cs) (bundle_rows those after) a h

      contents : (c : Contents) × (Contains after c × (bundle_row those c ≡ row.0))
      contents = mapped_was (bundle_row those) after row.0 row.1

      go : (k : Bool) → (state_in those contents.0.bundle == 32) ≡ k → Contains (cond k (components_for_descriptions (bundle_row those contents.0) cs 0 contents.0.document.descriptions contents.0.enabled) []) a → Contains (component_configurations (bundle_rows rows documents) cs) a
      go false off none = absurd (in_none a none)
      go true on there =
          let was = each contents.0 contents.1.0 on in
          let same = of_bundle_any (bundle_row rows contents.0) (state_in those contents.0.bundle) cs (on ∙ sym was.1) in
          into_flat (components_for_bundle cs) (bundle_rows rows documents) (bundle_row rows contents.0) a (in_mapped (bundle_row rows) documents contents.0 was.0)
          (subst (λ (xs : List Component). Contains xs a) same
          (subst (λ (k : Bool). Contains (cond k (components_for_descriptions (bundle_row those contents.0) cs 0 contents.0.document.descriptions contents.0.enabled) []) a) (sym on) there))

-- an install
pub fewer_installed : (rows : List BundleLife) (documents : List Contents) (cs : List Configuration) (numbered : ℕ) (doc : BundleDoc) → ((b : BundleLife) → Contains rows b → b.number ≤ numbered)
    → (a : Component) → Contains (component_configurations (bundle_rows (rows ++ new_bundle (numbered + 1) doc.location doc.name doc.version ∷ []) (documents ++ contents_with (numbered + 1) doc ∷ [])) cs) a
    → Contains (component_configurations (bundle_rows rows documents) cs) a
fewer_installed rows documents cs numbered doc low = fewer rows (rows ++ new ∷ []) documents (documents ++ contents_with (numbered + 1) doc ∷ []) cs each
  where
    new : BundleLife
    new = new_bundle (numbered + 1) doc.location doc.name doc.version

    each : (c : Contents) → Contains (documents ++ contents_with (numbered + 1) doc ∷ []) c → IsActive (rows ++ new ∷ []) c.bundle → Contains documents c × IsActive rows c.bundle
    each c h on = elim (in_either documents (contents_with (numbered + 1) doc ∷ []) c h) [
      | inl old ↦ (old, added_before rows new refl c.bundle on)
      | inr added ↦ (
          let same = ap (λ (x : Contents). x.bundle) (single (contents_with (numbered + 1) doc) c added) in
          let row = active_row rows c.bundle (added_before rows new refl c.bundle on) in
          let most = low row.0 row.1 in
          absurd (omega (arith, most, row.2, same)))
    ]

-- an update
pub fewer_updated : (rows : List BundleLife) (documents : List Contents) (cs : List Configuration) (bundle : ℕ) (doc : BundleDoc)
    → (a : Component) → Contains (component_configurations (bundle_rows (map (renamed bundle doc.name doc.version) rows) (map (replaced bundle doc) documents)) cs) a
    → Contains (component_configurations (bundle_rows rows documents) cs) a
fewer_updated rows documents cs bundle doc = fewer rows (map (renamed bundle doc.name doc.version) rows) documents (map (replaced bundle doc) documents) cs each
  where
    stays : (b : BundleLife) (k : Bool) → (state_number (cond k (record b { name = doc.name; version = doc.version; state = Installed }) b).state == 32) ≡ true → (state_number b.state == 32) ≡ true
    stays b true is = cc
    stays b false is = is

    one : (t c : Contents) → Contains documents t → (k : Bool) → cond k (contents_with bundle doc) t ≡ c → IsActive (map (renamed bundle doc.name doc.version) rows) c.bundle → Contains documents c × IsActive rows c.bundle
    one t c h true is on = absurd (updated_rests bundle doc.name doc.version rows (subst (λ (x : Contents). IsActive (map (renamed bundle doc.name doc.version) rows) x.bundle) (sym is) on))
    one t c h false is on = (
      subst (λ (x : Contents). Contains documents x) is h,
      active_before (renamed bundle doc.name doc.version) (renamed_number bundle doc.name doc.version) (λ b. stays b (b.number == bundle)) rows c.bundle on,
    )

    each : (c : Contents) → Contains (map (replaced bundle doc) documents) c → IsActive (map (renamed bundle doc.name doc.version) rows) c.bundle → Contains documents c × IsActive rows c.bundle
    each c h on = let was = mapped_was (replaced bundle doc) documents c h in one was.0 c was.1.0 (was.0.bundle == bundle) was.1.1 on

-- a stop
pub fewer_stopped : (rows : List BundleLife) (documents : List Contents) (cs : List Configuration) (bundle : ℕ) (a : Component) → Contains (component_configurations (bundle_rows (map (in_state bundle Stopping) rows) documents) cs) a
    → Contains (component_configurations (bundle_rows rows documents) cs) a
fewer_stopped rows documents cs bundle = fewer rows (map (in_state bundle Stopping) rows) documents documents cs (λ c h on. (h, active_before (in_state bundle Stopping) (in_state_number bundle Stopping) (λ b. stays b (b.number == bundle)) rows c.bundle on))
  where
    stays : (b : BundleLife) (k : Bool) → (state_number (cond k (record b { state = Stopping }) b).state == 32) ≡ true → (state_number b.state == 32) ≡ true
    stays b true is = cc
    stays b false is = is

-- an uninstall
pub fewer_uninstalled : (rows : List BundleLife) (documents : List Contents) (cs : List Configuration) (bundle : ℕ)
    → (a : Component) → Contains (component_configurations (bundle_rows (filter (λ (b : BundleLife). not (b.number == bundle)) rows) (filter (λ (c : Contents). not (c.bundle == bundle)) documents)) cs) a
    → Contains (component_configurations (bundle_rows rows documents) cs) a
fewer_uninstalled rows documents cs bundle = fewer rows (filter (λ (b : BundleLife). not (b.number == bundle)) rows) documents (filter (λ (c : Contents). not (c.bundle == bundle)) documents) cs each
  where
    each : (c : Contents) → Contains (filter (λ (x : Contents). not (x.bundle == bundle)) documents) c → IsActive (filter (λ (b : BundleLife). not (b.number == bundle)) rows) c.bundle → Contains documents c × IsActive rows c.bundle
    each c h on =
        let was = kept_was (λ (x : Contents). not (x.bundle == bundle)) documents c h in (
          was.0,
          ap (λ o. option_map_or (λ (b : BundleLife). state_number b.state) o 0 == 32) (sym (found_kept (λ (b : BundleLife). b.number == c.bundle) (λ (b : BundleLife). not (b.number == bundle)) rows
              (λ b is. ap (λ n. not (n == bundle)) (eqb-true b.number c.bundle is) ∙ was.1))) ∙ on,
        )

-- a disable
module _ (r : BundleRow) (flags : List Bool) (cs : List Configuration) where
  with_any : (place : ℕ) (d : Description) (f : Option (List ℕ)) → components_for (record r { enabled = flags }) place d cs f ≡ components_for r place d cs f
  with_any place d (Some factory) = refl
  with_any place d None = refl

  by_any : (place : ℕ) (d : Description) (p : ConfigurationPolicy) → components_for_description (record r { enabled = flags }) place d cs p ≡ components_for_description r place d cs p
  by_any place d Optional = with_any place d (factory_of cs d.configuration_pids)
  by_any place d Require = with_any place d (factory_of cs d.configuration_pids)
  by_any place d Ignore = refl

  flags_any : (place : ℕ) (ds : List Description) (es : List Bool) → components_for_descriptions (record r { enabled = flags }) cs place ds es ≡ components_for_descriptions r cs place ds es
  flags_any place [] es = refl
  flags_any place (d ∷ ds) [] = refl
  flags_any place (d ∷ ds) (e ∷ es) =
      ap (λ xs. cond e xs [] ++ components_for_descriptions (record r { enabled = flags }) cs (place + 1) ds es) (by_any place d d.configuration_policy)
      ∙ ap (λ xs. cond e (components_for_description r place d cs d.configuration_policy) [] ++ xs) (flags_any (place + 1) ds es)

fewer_flags : (r : BundleRow) (cs : List Configuration) (name : List ℕ) (place : ℕ) (ds : List Description) (es : List Bool) (a : Component)
    → Contains (components_for_descriptions r cs place ds (with_flag name false ds es)) a → Contains (components_for_descriptions r cs place ds es) a
fewer_flags r cs name place [] es a h = absurd (in_none a h)
fewer_flags r cs name place (d ∷ ds) [] a h = absurd (in_none a h)
fewer_flags r cs name place (d ∷ ds) (e ∷ es) a h =
    elim (in_either (cond (cond (bytes_eq d.name name) false e) own []) (components_for_descriptions r cs (place + 1) ds (with_flag name false ds es)) a h) [
      | inl here ↦ in_left (cond e own []) (components_for_descriptions r cs (place + 1) ds es) a (go (bytes_eq d.name name) here)
      | inr later ↦ in_right (cond e own []) (components_for_descriptions r cs (place + 1) ds es) a (fewer_flags r cs name (place + 1) ds es a later)
    ]
  where
    own : List Component
    own = components_for_description r place d cs d.configuration_policy

    go : (k : Bool) → Contains (cond (cond k false e) own []) a → Contains (cond e own []) a
    go true none = absurd (in_none a none)
    go false there = there

module _ (rows : List BundleLife) (cs : List Configuration) (bundle : ℕ) (name : List ℕ) where
  one_disabled : (c : Contents) (k : Bool) (a : Component) → Contains (components_for_bundle cs (bundle_row rows (cond k (record c { enabled = with_flag name false c.document.descriptions c.enabled }) c))) a → Contains (components_for_bundle cs (bundle_row rows c)) a
  one_disabled c false a h = h
  one_disabled c true a h = go (state_in rows c.bundle == 32) h
    where
      go : (k : Bool) → Contains (cond k (components_for_descriptions (bundle_row rows (record c { enabled = with_flag name false c.document.descriptions c.enabled })) cs 0 c.document.descriptions (with_flag name false c.document.descriptions c.enabled)) []) a
          → Contains (cond k (components_for_descriptions (bundle_row rows c) cs 0 c.document.descriptions c.enabled) []) a
      go false none = none
      go true there = fewer_flags (bundle_row rows c) cs name 0 c.document.descriptions c.enabled a
          (subst (λ (xs : List Component). Contains xs a) (flags_any (bundle_row rows c) (with_flag name false c.document.descriptions c.enabled) cs 0 c.document.descriptions (with_flag name false c.document.descriptions c.enabled)) there)

  pub fewer_disabled : (documents : List Contents) (a : Component) → Contains (component_configurations (bundle_rows rows (map (flagged bundle name false) documents)) cs) a → Contains (component_configurations (bundle_rows rows documents) cs) a
  fewer_disabled [] a h = h
  fewer_disabled (c ∷ documents) a h = elim (in_either (components_for_bundle cs (bundle_row rows (flagged bundle name false c))) (component_configurations (bundle_rows rows (map (flagged bundle name false) documents)) cs) a h) [
    | inl here ↦ in_left (components_for_bundle cs (bundle_row rows c)) (component_configurations (bundle_rows rows documents) cs) a (one_disabled c (c.bundle == bundle) a here)
    | inr later ↦ in_right (components_for_bundle cs (bundle_row rows c)) (component_configurations (bundle_rows rows documents) cs) a (fewer_disabled documents a later)
  ]
