-- Each component configuration that exists has the description at its index in its bundle's document, and so has each that there is to be.
use Rattle.std.proofs.Common.{◌≡◌, ◌⊎◌, ℕ, suc, ◌+◌, List, [], ◌∷◌, ap, arith, sym, ◌∙◌, refl, subst, cond, Bool, true, false, inl, inr, Option, Some, None}
use Rattle.std.specs.Prelude.{find, map, not, slice_get, ◌==◌}
use Rattle.std.specs.List.{Contains}
use Rattle.std.specs.Option.{option_map_or}
use Rattle.std.specs.Str.{bytes_eq}
use Rattle.std.proofs.lemmas.Bool.{cases_Bool, eqb-true}
use Rattle.bundle_life.specs.declared.bundle.BundleLife.{BundleLife}
use Rattle.component_dto.specs.declared.description.ConfigurationPolicy.{ConfigurationPolicy}
use Rattle.component_dto.specs.declared.description.ConfigurationPolicy.TheVariants.{Optional, Require, Ignore}
use Rattle.component_dto.specs.declared.description.Description.{Description}
use Rattle.component_state.specs.declared.component.Component.{Component}
use Rattle.component_state.specs.declared.rows.BundleRow.{BundleRow}
use Rattle.component_state.specs.ComponentConfigurations.{as_configured, component_after, component_configurations, component_for, component_for_factory, components_for, components_for_bundle, components_for_description, components_for_descriptions, counting, factory_of, is_same_component, new_components, with_numbers}
use Rattle.component_state.proofs.Apart.{in_cases, in_either, in_first, in_left, in_none, in_rest, kept_from, kept_was}
use Rattle.config_admin.specs.declared.configuration.Configuration.{Configuration}
use Rattle.config_admin.specs.Configurations.{of_factory, of_pid}
use Rattle.scr_laws.specs.Askeds.{HasOneOfEach}
use Rattle.scr_laws.proofs.Described.{flagged_keeps, replaced_keeps}
use Rattle.scr_laws.proofs.Documents.{IsActive, asked_was, gone_rests, kept_lives, set_back_keeps, updated_rests}
use Rattle.scr_laws.proofs.Histories.{legal_is_asked}
use Rattle.scr_laws.proofs.Listed.{in_mapped, joined_was, mapped_was, single}
use Rattle.scr_promises.specs.Counts.{counting_in}
use Rattle.scr_promises.proofs.CountedConfigurations.{IsNamed, by_none, by_one, found_of, without}
use Rattle.scr_readers.specs.Counting.{lets_count}
use Rattle.scr_world.specs.Legal.{IsLegal}
use Rattle.scr_world.specs.Lists.{world_after_entry, world_of}
use Rattle.scr_world.specs.Steps.{History}
use Rattle.scr_world.specs.Stepping.{component_configurations_by, components_by, counted_components, is_counted, world_after_step}
use Rattle.scr_world.specs.Tables.{bundle_row, bundle_rows, bundles_by, configurations_by, contents_with, documents_by, flagged, replaced, set_back}
use Rattle.scr_world.specs.declared.command.Command.{Command}
use Rattle.scr_world.specs.declared.command.Command.TheVariants.{Install, Update, Start, Stop, Uninstall, Enable, Disable, Register, Unregister, SetProperties, Get, Unget, Listen, Unlisten, Configure, ConfigureFactory, Unconfigure}
use Rattle.scr_world.specs.declared.contents.Contents.{Contents}
use Rattle.scr_world.specs.declared.step.Step.{Step}
use Rattle.scr_world.specs.declared.step.Step.TheVariants.{Command as Commanded, Begin, End, Drained, Got, Released}
use Rattle.scr_world.specs.declared.world.World.{World}

-- ---- those that there are to be

-- one is made of the description at an index, with the configurations that count
pub record IsMadeBy (b : BundleRow) (ks : List Configuration) (a : Component) : Type 0 where
  pub home : a.bundle ≡ b.id
  pub made : component_for b a.index a.description a.pid (counting_in ks a) ≡ a
  pub naming : IsNamed ks a.description.configuration_policy a.description.configuration_pids a.pid

module _ (b : BundleRow) (ks : List Configuration) (one : HasOneOfEach (λ (k : Configuration). k.pid) ks) where
  record IsAt (index : ℕ) (d : Description) (a : Component) : Type 0 where
    place : a.index ≡ index
    description : a.description ≡ d
    by : IsMadeBy b ks a

  module _ (index : ℕ) (d : Description) where
    abbrev plain : Component
    plain = component_for b index d None (counting ks None None d.configuration_pids)

    of_factories : lets_count d.configuration_policy ≡ true → (o : Option (List ℕ)) → factory_of ks d.configuration_pids ≡ o → (a : Component) → Contains (components_for b index d ks o) a → IsAt index d a
    of_factories lets None none a h = subst (λ (c : Component). IsAt index d c) (single plain a h) (record {
      place = refl;
      description = refl;
      by = record {
        home = refl;
        made = ap (component_for b index d None) (ap (λ x. cond x (counting ks (factory_of ks d.configuration_pids) None d.configuration_pids) []) lets ∙ ap (λ f. counting ks f None d.configuration_pids) none);
        naming = by_none lets none refl;
      };
    })
    of_factories lets (Some factory) is a h =
        let was = mapped_was (component_for_factory b index d ks factory) (of_factory factory ks) a h in
        let known = (kept_was (λ (k : Configuration). option_map_or (bytes_eq factory) k.factory false) ks was.0 was.1.0).0 in
        subst (λ (c : Component). IsAt index d c) was.1.1 (record {
          place = refl;
          description = refl;
          by = record {
            home = refl;
            made = ap (component_for b index d (Some was.0.pid)) (ap (λ x. cond x (counting ks (factory_of ks d.configuration_pids) (of_pid was.0.pid ks) d.configuration_pids) []) lets
                ∙ ap (λ f. counting ks f (of_pid was.0.pid ks) d.configuration_pids) is
                ∙ ap (λ n. counting ks (Some factory) n d.configuration_pids) (found_of ks one was.0 known));
            naming = by_one factory was.0 lets is was.1.0 refl;
          };
        })

    by_policy : (p : ConfigurationPolicy) → d.configuration_policy ≡ p → (a : Component) → Contains (components_for_description b index d ks p) a → IsAt index d a
    by_policy Optional is a h = of_factories (ap lets_count is) (factory_of ks d.configuration_pids) refl a h
    by_policy Require is a h = of_factories (ap lets_count is) (factory_of ks d.configuration_pids) refl a h
    by_policy Ignore is a h = subst (λ (c : Component). IsAt index d c) (single (component_for b index d None []) a h) (record {
      place = refl;
      description = refl;
      by = record {
        home = refl;
        made = ap (component_for b index d None) (ap (λ x. cond x (counting ks (factory_of ks d.configuration_pids) None d.configuration_pids) []) (ap lets_count is));
        naming = without (ap lets_count is);
      };
    })

  record IsAmong (index : ℕ) (ds : List Description) (a : Component) : Type 0 where
    behind : ℕ
    place : a.index ≡ index + behind
    description : slice_get ds behind ≡ Some a.description
    by : IsMadeBy b ks a

  among : (index : ℕ) (ds : List Description) (es : List Bool) (a : Component) → Contains (components_for_descriptions b ks index ds es) a → IsAmong index ds a
  among index [] es a h = absurd (in_none a h)
  among index (d ∷ ds) [] a h = absurd (in_none a h)
  among index (d ∷ ds) (e ∷ es) a h = elim (in_either (cond e (components_for_description b index d ks d.configuration_policy) []) (components_for_descriptions b ks (index + 1) ds es) a h) [
    | inl here ↦ first e here
    | inr later ↦ (let found = among (index + 1) ds es a later in record { behind = suc found.behind; place = (let at = found.place in omega (arith, at)); description = found.description; by = found.by })
  ]
    where
      first : (f : Bool) → Contains (cond f (components_for_description b index d ks d.configuration_policy) []) a → IsAmong index (d ∷ ds) a
      first false k = absurd (in_none a k)
      first true k = let is = by_policy index d d.configuration_policy refl a k in record { behind = 0; place = (let at = is.place in omega (arith, at)); description = ap (λ x. Some x) (sym is.description); by = is.by }

  pub record IsOfBundle (a : Component) : Type 0 where
    pub description : slice_get b.descriptions a.index ≡ Some a.description
    pub by : IsMadeBy b ks a

  pub of_bundle : (a : Component) → Contains (components_for_bundle ks b) a → IsOfBundle a
  of_bundle a h = go (b.state == 32) h
    where
      go : (k : Bool) → Contains (cond k (components_for_descriptions b ks 0 b.descriptions b.enabled) []) a → IsOfBundle a
      go false none = absurd (in_none a none)
      go true there = let found = among 0 b.descriptions b.enabled a there in record {
        description = subst (λ n. slice_get b.descriptions n ≡ Some a.description) (let at = found.place in omega (arith, at)) found.description;
        by = found.by;
      }

-- ---- documents

-- a description stands at an index of a bundle's document
pub record StandsAt (documents : List Contents) (bundle index : ℕ) (d : Description) : Type 0 where
  pub contents : Contents
  pub there : Contains documents contents
  pub home : contents.bundle ≡ bundle
  pub place : slice_get contents.document.descriptions index ≡ Some d

-- where documents are told apart by bundle just one stands there
pub one_stands : (documents : List Contents) → HasOneOfEach (λ (t : Contents). t.bundle) documents → (bundle index : ℕ) (d e : Description) → StandsAt documents bundle index d → StandsAt documents bundle index e → d ≡ e
one_stands documents one bundle index d e left right =
    some_is (sym left.place ∙ ap (λ (t : Contents). slice_get t.document.descriptions index) (one left.contents right.contents left.there right.there (left.home ∙ sym right.home)) ∙ right.place)
  where
    some_is : Some d ≡ Some e → d ≡ e
    some_is same = cc

-- each that there is to be is made of such a one, and its bundle is active
pub record IsAskedOf (rows : List BundleLife) (documents : List Contents) (ks : List Configuration) (a : Component) : Type 0 where
  pub bundle : BundleRow
  pub by : IsMadeBy bundle ks a
  pub stands : StandsAt documents a.bundle a.index a.description
  pub active : IsActive rows a.bundle

pub asked_of : (rows : List BundleLife) (documents : List Contents) (ks : List Configuration) → HasOneOfEach (λ (k : Configuration). k.pid) ks → (a : Component) → Contains (component_configurations (bundle_rows rows documents) ks) a → IsAskedOf rows documents ks a
asked_of rows documents ks one a h =
    let row = joined_was (components_for_bundle ks) (bundle_rows rows documents) a h in
    let contents = mapped_was (bundle_row rows) documents row.0 row.1.0 in
    let is = of_bundle (bundle_row rows contents.0) ks one a (subst (λ (b : BundleRow). Contains (components_for_bundle ks b) a) (sym contents.1.1) row.1.1) in
    record {
      bundle = bundle_row rows contents.0;
      by = is.by;
      stands = record { contents = contents.0; there = contents.1.0; home = sym is.by.home; place = is.description };
      active = (asked_was rows documents ks a h).1;
    }

-- ---- over a command

mapped_stands : (f : Contents → Contents) → ((t : Contents) → ((f t).bundle ≡ t.bundle) × ((f t).document.descriptions ≡ t.document.descriptions)) → (documents : List Contents) (bundle index : ℕ) (d : Description) → StandsAt documents bundle index d → StandsAt (map f documents) bundle index d
mapped_stands f keeps documents bundle index d is = let k = keeps is.contents in record {
  contents = f is.contents;
  there = in_mapped f documents is.contents is.there;
  home = k.0 ∙ is.home;
  place = ap (λ ds. slice_get ds index) k.1 ∙ is.place;
}

-- what stands in the document of a bundle that is active after a command stands there after it
module _ (w : World) (next bundle index : ℕ) (d : Description) (is : StandsAt w.documents bundle index d) where
  stays : (command : Command) → IsActive (bundles_by (Commanded command) w.bundles).rows bundle → StandsAt (documents_by (Commanded command) next w.documents) bundle index d
  stays (Install doc) now = record { contents = is.contents; there = in_left w.documents (contents_with next doc ∷ []) is.contents is.there; home = is.home; place = is.place }
  stays (Update other doc) now = go (cases_Bool (is.contents.bundle == other))
    where
      go : ((is.contents.bundle == other) ≡ true) ⊎ ((is.contents.bundle == other) ≡ false) → StandsAt (documents_by (Commanded (Update other doc)) next w.documents) bundle index d
      go (inl same) = absurd (updated_rests other doc.name doc.version w.bundles.rows (subst (λ n. IsActive (bundles_by (Commanded (Update other doc)) w.bundles).rows n) (sym is.home ∙ eqb-true is.contents.bundle other same) now))
      go (inr off) = record {
        contents = is.contents;
        there = subst (λ t. Contains (map (replaced other doc) w.documents) t) (replaced_keeps other doc is.contents off) (in_mapped (replaced other doc) w.documents is.contents is.there);
        home = is.home;
        place = is.place;
      }
  stays (Uninstall other) now = go (cases_Bool (is.contents.bundle == other))
    where
      go : ((is.contents.bundle == other) ≡ true) ⊎ ((is.contents.bundle == other) ≡ false) → StandsAt (documents_by (Commanded (Uninstall other)) next w.documents) bundle index d
      go (inl same) = absurd (gone_rests other w.bundles.rows (subst (λ n. IsActive (bundles_by (Commanded (Uninstall other)) w.bundles).rows n) (sym is.home ∙ eqb-true is.contents.bundle other same) now))
      go (inr off) = record {
        contents = is.contents;
        there = kept_from (λ (t : Contents). not (t.bundle == other)) w.documents is.contents is.there (ap not off);
        home = is.home;
        place = is.place;
      }
  stays (Start other) now = mapped_stands (set_back other) (set_back_keeps other) w.documents bundle index d is
  stays (Enable other name) now = mapped_stands (flagged other name true) (flagged_keeps other name true) w.documents bundle index d is
  stays (Disable other name) now = mapped_stands (flagged other name false) (flagged_keeps other name false) w.documents bundle index d is
  stays (Stop other) now = is
  stays (Register other interfaces properties) now = is
  stays (Unregister other service) now = is
  stays (SetProperties other service properties) now = is
  stays (Get other service) now = is
  stays (Unget other service) now = is
  stays (Listen other test) now = is
  stays (Unlisten listener) now = is
  stays (Configure pid given) now = is
  stays (ConfigureFactory factory name given) now = is
  stays (Unconfigure pid) now = is

-- one that is kept keeps where it is from, and one that is numbered too
record IsFrom (a c : Component) : Type 0 where
  bundle : c.bundle ≡ a.bundle
  index : c.index ≡ a.index
  description : c.description ≡ a.description

kept_from_there : (place : ℕ) (these : List Component) (c : Component) → IsFrom c (component_after place these c)
kept_from_there place these c = go c.exists (find (is_same_component c) these)
  where
    go : (b : Bool) (o : Option Component) → IsFrom c (cond b (option_map_or (as_configured place c) o (record c { exists = false })) c)
    go false o = record { bundle = refl; index = refl; description = refl }
    go true None = record { bundle = refl; index = refl; description = refl }
    go true (Some a) = record { bundle = refl; index = refl; description = refl }

numbered_from : (n : ℕ) (cs : List Component) (c : Component) → Contains (with_numbers n cs) c → (a : Component) × (Contains cs a × IsFrom a c)
numbered_from n [] c h = absurd (in_none c h)
numbered_from n (a ∷ rest) c h = elim (in_cases _ (with_numbers (n + 1) rest) c h) [
  | inl same ↦ (a, (in_first a rest, subst (λ (x : Component). IsFrom a x) same (record { bundle = refl; index = refl; description = refl })))
  | inr later ↦ (let found = numbered_from (n + 1) rest c later in (found.0, (in_rest a rest found.0 found.1.0, found.1.1)))
]

moved : (documents : List Contents) (a c : Component) → IsFrom a c → StandsAt documents a.bundle a.index a.description → StandsAt documents c.bundle c.index c.description
moved documents a c from is = record {
  contents = is.contents;
  there = is.there;
  home = is.home ∙ sym from.bundle;
  place = ap (λ n. slice_get is.contents.document.descriptions n) from.index ∙ is.place ∙ ap (λ x. Some x) (sym from.description);
}

-- ---- by step

abbrev AllStand : List Contents → List Component → Type 0
AllStand documents cs = (c : Component) → Contains cs c → c.exists ≡ true → StandsAt documents c.bundle c.index c.description

module _ (w : World) (was : AllStand w.documents w.components) (command : Command) (one : HasOneOfEach (λ (k : Configuration). k.pid) (configurations_by (Commanded command) w.configurations)) where
  abbrev then : List Contents
  then = documents_by (Commanded command) (w.bundles.numbered + 1) w.documents

  asked_stands : (a : Component) → Contains (component_configurations_by (Commanded command) w) a → StandsAt then a.bundle a.index a.description × IsActive (bundles_by (Commanded command) w.bundles).rows a.bundle
  asked_stands a h = let is = asked_of (bundles_by (Commanded command) w.bundles).rows then (configurations_by (Commanded command) w.configurations) one a h in (is.stands, is.active)

  old_stands : (c : Component) → Contains (counted_components w) c → (k : Component) → component_after w.entries (component_configurations_by (Commanded command) w) c ≡ k → k.exists ≡ true → StandsAt then k.bundle k.index k.description
  old_stands c here k is lives =
      let lived = kept_lives w.entries (component_configurations_by (Commanded command) w) c (ap (λ (x : Component). x.exists) is ∙ lives) in
      let active = (asked_stands lived.1.0 lived.1.1).1 in
      let stood = was c (kept_was (is_counted w.instances) w.components c here).0 lived.0 in
      let stay = stays w (w.bundles.numbered + 1) c.bundle c.index c.description stood command (subst (λ n. IsActive (bundles_by (Commanded command) w.bundles).rows n) (sym lived.1.2) active) in
      moved then c k (subst (λ (x : Component). IsFrom c x) is (kept_from_there w.entries (component_configurations_by (Commanded command) w) c)) stay

  commanded_stand : AllStand then (components_by (Commanded command) w)
  commanded_stand c h lives = elim (in_either (map (component_after w.entries (component_configurations_by (Commanded command) w)) (counted_components w)) (with_numbers (w.components_numbered + 1) (new_components (counted_components w) (component_configurations_by (Commanded command) w))) c h) [
    | inl old ↦ (let found = mapped_was (component_after w.entries (component_configurations_by (Commanded command) w)) (counted_components w) c old in
        old_stands found.0 found.1.0 c found.1.1 lives)
    | inr new ↦ (let found = numbered_from (w.components_numbered + 1) (new_components (counted_components w) (component_configurations_by (Commanded command) w)) c new in
        moved then found.0 c found.1.1 (asked_stands found.0 (kept_was _ (component_configurations_by (Commanded command) w) found.0 found.1.0).0).0)
  ]

step_stand : (w : World) → AllStand w.documents w.components → (step : Step) → HasOneOfEach (λ (k : Configuration). k.pid) (configurations_by step w.configurations) → AllStand (documents_by step (w.bundles.numbered + 1) w.documents) (components_by step w)
step_stand w was (Commanded command) one = commanded_stand w was command one
step_stand w was (Begin turn instance configuration consumer callback chosen) one = was
step_stand w was (End turn outcome) one = was
step_stand w was (Drained instance) one = was
step_stand w was (Got bundle service) one = was
step_stand w was (Released place) one = was

pub all_stand : (limit : ℕ) (past : History) → IsLegal limit past → AllStand (world_of past).documents (world_of past).components
unfolding world_of world_after_entry world_after_step
all_stand limit [] legal = λ c h lives. absurd (in_none c h)
all_stand limit (entry ∷ past) legal = step_stand (world_of past) (all_stand limit past legal.1) entry.step (legal_is_asked limit (entry ∷ past) legal).apart.one_configuration
