-- Every step leaves bundles, documents and configurations told apart.
use Rattle.std.proofs.Common.{◌≡◌, ◌≤◌, ℕ, ◌+◌, List, [], ◌∷◌, ◌++◌, ap, arith, sym, ◌∙◌, refl, subst, cond, Bool, true, false, inl, inr, ◌⊎◌}
use Rattle.std.specs.Prelude.{filter, map, not, ◌==◌}
use Rattle.std.specs.List.{Contains}
use Rattle.std.specs.Str.{bytes_eq}
use Rattle.std.proofs.lemmas.Bool.{both_ways, eqb-true}
use Rattle.std.proofs.lemmas.Slice.Eq.{bytes_eq-Decides}
use Rattle.bundle_doc.specs.declared.document.BundleDoc.{BundleDoc}
use Rattle.bundle_life.specs.declared.bundle.BundleLife.{BundleLife}
use Rattle.bundle_life.specs.declared.bundle.BundleState.{BundleState}
use Rattle.bundle_life.specs.declared.bundle.BundleState.TheVariants.{Installed, Resolved, Stopping, Active}
use Rattle.bundle_life.specs.Lives.{BundleTable, in_state, renamed, resolved_among, stop_completed}
use Rattle.config_admin.specs.declared.configuration.Configuration.{Configuration}
use Rattle.config_admin.specs.Configurations.{factory_configuration, own_configuration, with_configuration, without_pid}
use Rattle.prop_map.specs.Words.{has, insert_by, text_before}
use Rattle.scr_world.specs.declared.step.Step.{Step}
use Rattle.scr_world.specs.declared.step.Step.TheVariants.{Command as Commanded}
use Rattle.scr_world.specs.declared.command.Command.TheVariants.{Install, Update, Start, Stop, Uninstall, Enable, Disable, Configure, ConfigureFactory, Unconfigure}
use Rattle.scr_world.specs.declared.contents.Contents.{Contents}
use Rattle.scr_world.specs.Tables.{bundles_by, configurations_by, contents_with, documents_by, flagged, replaced, set_back}
use Rattle.component_state.proofs.Apart.{in_cases, in_either, in_first, in_rest, kept_was}
use Rattle.scr_laws.specs.Askeds.{AreApart, HasOneOfEach}
use Rattle.scr_laws.proofs.Listed.{mapped_was, single}

module _ {X K : Type 0} (key : X → K) where
  mapped_apart : (f : X → X) → ((x : X) → key (f x) ≡ key x) → (xs : List X) → HasOneOfEach key xs → HasOneOfEach key (map f xs)
  mapped_apart f same xs one a b h k e =
      let left = mapped_was f xs a h in
      let right = mapped_was f xs b k in
      sym left.1.1 ∙ ap f (one left.0 right.0 left.1.0 right.1.0 (sym (same left.0) ∙ ap key left.1.1 ∙ e ∙ ap key (sym right.1.1) ∙ same right.0)) ∙ right.1.1

  kept_apart : (t : X → Bool) (xs : List X) → HasOneOfEach key xs → HasOneOfEach key (filter t xs)
  kept_apart t xs one a b h k e = one a b (kept_was t xs a h).0 (kept_was t xs b k).0 e

  added_apart : (xs : List X) (x : X) → HasOneOfEach key xs → ((a : X) → Contains xs a → key a ≡ key x → ⊥) → HasOneOfEach key (xs ++ x ∷ [])
  added_apart xs x one new a b h k e = go (in_either xs (x ∷ []) a h) (in_either xs (x ∷ []) b k)
    where
      go : Contains xs a ⊎ Contains (x ∷ []) a → Contains xs b ⊎ Contains (x ∷ []) b → a ≡ b
      go (inl l) (inl r) = one a b l r e
      go (inl l) (inr r) = absurd (new a l (e ∙ ap key (sym (single x b r))))
      go (inr l) (inl r) = absurd (new b r (sym e ∙ ap key (sym (single x a l))))
      go (inr l) (inr r) = sym (single x a l) ∙ single x b r

  inserted_was : (before : X → X → Bool) (x : X) (xs : List X) (a : X) → Contains (insert_by before x xs) a → (x ≡ a) ⊎ Contains xs a
  inserted_was before x [] a h = inl (single x a h)
  inserted_was before x (y ∷ ys) a h = go (before x y) h (inserted_was before x ys a)
    where
      go : (b : Bool) → Contains (cond b (x ∷ y ∷ ys) (y ∷ insert_by before x ys)) a → (Contains (insert_by before x ys) a → (x ≡ a) ⊎ Contains ys a) → (x ≡ a) ⊎ Contains (y ∷ ys) a
      go true k later = in_cases x (y ∷ ys) a k
      go false k later = elim (in_cases y (insert_by before x ys) a k) [
        | inl same ↦ inr (subst (λ (z : X). Contains (y ∷ ys) z) same (in_first y ys))
        | inr there ↦ elim (later there) [ inl same ↦ inl same | inr back ↦ inr (in_rest y ys a back) ]
      ]

  inserted_apart : (before : X → X → Bool) (x : X) (xs : List X) → HasOneOfEach key xs → ((a : X) → Contains xs a → key a ≡ key x → ⊥) → HasOneOfEach key (insert_by before x xs)
  inserted_apart before x xs one new a b h k e = go (inserted_was before x xs a h) (inserted_was before x xs b k)
    where
      go : (x ≡ a) ⊎ Contains xs a → (x ≡ b) ⊎ Contains xs b → a ≡ b
      go (inl l) (inl r) = sym l ∙ r
      go (inl l) (inr r) = absurd (new b r (sym e ∙ ap key (sym l)))
      go (inr l) (inl r) = absurd (new a l (e ∙ ap key (sym r)))
      go (inr l) (inr r) = one a b l r e

  either_key : (b : Bool) (x y : X) → key x ≡ key y → key (cond b x y) ≡ key y
  either_key true x y e = e
  either_key false x y e = refl

module _ {X : Type 0} (key : X → ℕ) (most : ℕ) where
  mapped_below : (f : X → X) → ((x : X) → key (f x) ≡ key x) → (xs : List X) → ((a : X) → Contains xs a → key a ≤ most) → (a : X) → Contains (map f xs) a → key a ≤ most
  mapped_below f same xs below a h = let was = mapped_was f xs a h in subst (λ k. k ≤ most) (sym (same was.0) ∙ ap key was.1.1) (below was.0 was.1.0)

-- ---- the functions on rows keep what tells them apart

in_state_key : (number : ℕ) (state : BundleState) (b : BundleLife) → (in_state number state b).number ≡ b.number
in_state_key number state b = either_key (λ (c : BundleLife). c.number) (b.number == number) (record b { state = state }) b refl

pub rest_if_key : (numbers : List ℕ) (b : BundleLife) → (resolved_among numbers b).number ≡ b.number
rest_if_key numbers b = either_key (λ (c : BundleLife). c.number) (has numbers b.number) (record b { state = Resolved }) b refl

flagged_key : (bundle : ℕ) (name : List ℕ) (flag : Bool) (c : Contents) → (flagged bundle name flag c).bundle ≡ c.bundle
flagged_key bundle name flag c = either_key (λ (d : Contents). d.bundle) (c.bundle == bundle) (record c { enabled = _ }) c refl

set_back_key : (bundle : ℕ) (c : Contents) → (set_back bundle c).bundle ≡ c.bundle
set_back_key bundle c = either_key (λ (d : Contents). d.bundle) (c.bundle == bundle) (record c { enabled = _ }) c refl

replaced_key : (bundle : ℕ) (doc : BundleDoc) (c : Contents) → (replaced bundle doc c).bundle ≡ c.bundle
replaced_key bundle doc c = go (c.bundle == bundle) refl
  where
    go : (b : Bool) → (c.bundle == bundle) ≡ b → (cond b (contents_with bundle doc) c).bundle ≡ c.bundle
    go true is = sym (eqb-true c.bundle bundle is)
    go false is = refl

-- ---- configurations

configured_apart : (c : Configuration) (cs : List Configuration) → HasOneOfEach (λ (d : Configuration). d.pid) cs → HasOneOfEach (λ (d : Configuration). d.pid) (with_configuration c cs)
configured_apart c cs one = inserted_apart (λ (d : Configuration). d.pid) (λ (x y : Configuration). text_before x.pid y.pid) c (without_pid c.pid cs) (kept_apart (λ (d : Configuration). d.pid) (λ (d : Configuration). not (bytes_eq d.pid c.pid)) cs one)
    (λ a h e. both_ways (not (bytes_eq a.pid c.pid)) (ap not ((bytes_eq-Decides a.pid c.pid).1 e)) (kept_was (λ (d : Configuration). not (bytes_eq d.pid c.pid)) cs a h).1)

configurations_apart : (step : Step) (cs : List Configuration) → HasOneOfEach (λ (d : Configuration). d.pid) cs → HasOneOfEach (λ (d : Configuration). d.pid) (configurations_by step cs)
configurations_apart (Commanded (Configure pid given)) cs one = configured_apart (own_configuration pid given) cs one
configurations_apart (Commanded (ConfigureFactory factory name given)) cs one = configured_apart (factory_configuration factory name given) cs one
configurations_apart (Commanded (Unconfigure pid)) cs one = kept_apart (λ (d : Configuration). d.pid) (λ (d : Configuration). not (bytes_eq d.pid pid)) cs one
configurations_apart _ cs one = one

-- ---- bundles

bundle_apart : (step : Step) (t : BundleTable) → ((b : BundleLife) → Contains t.rows b → b.number ≤ t.numbered) → HasOneOfEach (λ (b : BundleLife). b.number) t.rows → HasOneOfEach (λ (b : BundleLife). b.number) (bundles_by step t).rows
bundle_apart (Commanded (Install doc)) t below one = added_apart (λ (b : BundleLife). b.number) t.rows (record { number = t.numbered + 1; location = doc.location; name = doc.name; version = doc.version; state = Installed }) one (λ a h e. omega (arith, below a h, e))
bundle_apart (Commanded (Update bundle doc)) t below one = mapped_apart (λ (b : BundleLife). b.number) (renamed bundle doc.name doc.version) (λ b. either_key (λ (c : BundleLife). c.number) (b.number == bundle) (record b { name = doc.name; version = doc.version; state = Installed }) b refl) t.rows one
bundle_apart (Commanded (Start bundle)) t below one = mapped_apart (λ (b : BundleLife). b.number) (in_state bundle Active) (in_state_key bundle Active) t.rows one
bundle_apart (Commanded (Stop bundle)) t below one = mapped_apart (λ (b : BundleLife). b.number) (in_state bundle Stopping) (in_state_key bundle Stopping) t.rows one
bundle_apart (Commanded (Uninstall bundle)) t below one = kept_apart (λ (b : BundleLife). b.number) (λ (b : BundleLife). not (b.number == bundle)) t.rows one
bundle_apart _ t below one = one

pub bundle_below : (step : Step) (t : BundleTable) → ((b : BundleLife) → Contains t.rows b → b.number ≤ t.numbered) → (b : BundleLife) → Contains (bundles_by step t).rows b → b.number ≤ (bundles_by step t).numbered
bundle_below (Commanded (Install doc)) t below b h = elim (in_either t.rows (record { number = t.numbered + 1; location = doc.location; name = doc.name; version = doc.version; state = Installed } ∷ []) b h) [
  | inl old ↦ omega (arith, below b old)
  | inr new ↦ (let e : t.numbered + 1 ≡ b.number = ap (λ (c : BundleLife). c.number) (single (record { number = t.numbered + 1; location = doc.location; name = doc.name; version = doc.version; state = Installed }) b new) in omega (arith, e))
]
bundle_below (Commanded (Update bundle doc)) t below b h = mapped_below (λ (b : BundleLife). b.number) t.numbered (renamed bundle doc.name doc.version) (λ b. either_key (λ (c : BundleLife). c.number) (b.number == bundle) (record b { name = doc.name; version = doc.version; state = Installed }) b refl) t.rows below b h
bundle_below (Commanded (Start bundle)) t below b h = mapped_below (λ (b : BundleLife). b.number) t.numbered (in_state bundle Active) (in_state_key bundle Active) t.rows below b h
bundle_below (Commanded (Stop bundle)) t below b h = mapped_below (λ (b : BundleLife). b.number) t.numbered (in_state bundle Stopping) (in_state_key bundle Stopping) t.rows below b h
bundle_below (Commanded (Uninstall bundle)) t below b h = below b (kept_was (λ (c : BundleLife). not (c.number == bundle)) t.rows b h).0
bundle_below _ t below b h = below b h

-- ---- documents

document_apart : (step : Step) (installed : ℕ) (cs : List Contents) → ((c : Contents) → Contains cs c → c.bundle ≤ installed) → HasOneOfEach (λ (c : Contents). c.bundle) cs → HasOneOfEach (λ (c : Contents). c.bundle) (documents_by step (installed + 1) cs)
document_apart (Commanded (Install doc)) installed cs below one = added_apart (λ (c : Contents). c.bundle) cs (contents_with (installed + 1) doc) one (λ a h e. omega (arith, below a h, e))
document_apart (Commanded (Update bundle doc)) installed cs below one = mapped_apart (λ (c : Contents). c.bundle) (replaced bundle doc) (replaced_key bundle doc) cs one
document_apart (Commanded (Uninstall bundle)) installed cs below one = kept_apart (λ (c : Contents). c.bundle) (λ (c : Contents). not (c.bundle == bundle)) cs one
document_apart (Commanded (Start bundle)) installed cs below one = mapped_apart (λ (c : Contents). c.bundle) (set_back bundle) (set_back_key bundle) cs one
document_apart (Commanded (Enable bundle name)) installed cs below one = mapped_apart (λ (c : Contents). c.bundle) (flagged bundle name true) (flagged_key bundle name true) cs one
document_apart (Commanded (Disable bundle name)) installed cs below one = mapped_apart (λ (c : Contents). c.bundle) (flagged bundle name false) (flagged_key bundle name false) cs one
document_apart _ installed cs below one = one

document_below : (step : Step) (t : BundleTable) (cs : List Contents) → ((c : Contents) → Contains cs c → c.bundle ≤ t.numbered) → (c : Contents) → Contains (documents_by step (t.numbered + 1) cs) c → c.bundle ≤ (bundles_by step t).numbered
document_below (Commanded (Install doc)) t cs below c h = elim (in_either cs (contents_with (t.numbered + 1) doc ∷ []) c h) [
  | inl old ↦ omega (arith, below c old)
  | inr new ↦ (let e : t.numbered + 1 ≡ c.bundle = ap (λ (d : Contents). d.bundle) (single (contents_with (t.numbered + 1) doc) c new) in omega (arith, e))
]
document_below (Commanded (Update bundle doc)) t cs below c h = mapped_below (λ (c : Contents). c.bundle) t.numbered (replaced bundle doc) (replaced_key bundle doc) cs below c h
document_below (Commanded (Uninstall bundle)) t cs below c h = below c (kept_was (λ (d : Contents). not (d.bundle == bundle)) cs c h).0
document_below (Commanded (Start bundle)) t cs below c h = mapped_below (λ (c : Contents). c.bundle) t.numbered (set_back bundle) (set_back_key bundle) cs below c h
document_below (Commanded (Enable bundle name)) t cs below c h = mapped_below (λ (c : Contents). c.bundle) t.numbered (flagged bundle name true) (flagged_key bundle name true) cs below c h
document_below (Commanded (Disable bundle name)) t cs below c h = mapped_below (λ (c : Contents). c.bundle) t.numbered (flagged bundle name false) (flagged_key bundle name false) cs below c h
document_below (Commanded (Stop bundle)) t cs below c h = below c h
document_below _ t cs below c h = below c h

pub tables_apart : (step : Step) (t : BundleTable) (docs : List Contents) (cs : List Configuration) → AreApart t docs cs → AreApart (bundles_by step t) (documents_by step (t.numbered + 1) docs) (configurations_by step cs)
tables_apart step t docs cs apart = record {
  one_bundle = bundle_apart step t apart.bundles_so_far apart.one_bundle;
  bundles_so_far = bundle_below step t apart.bundles_so_far;
  one_document = document_apart step t.numbered docs apart.documents_so_far apart.one_document;
  documents_so_far = document_below step t docs apart.documents_so_far;
  one_configuration = configurations_apart step cs apart.one_configuration;
}

pub rested_apart : (numbers : List ℕ) (t : BundleTable) (docs : List Contents) (cs : List Configuration) → AreApart t docs cs → AreApart (stop_completed numbers t) docs cs
rested_apart numbers t docs cs apart = record {
  one_bundle = mapped_apart (λ (b : BundleLife). b.number) (resolved_among numbers) (rest_if_key numbers) t.rows apart.one_bundle;
  bundles_so_far = mapped_below (λ (b : BundleLife). b.number) t.numbered (resolved_among numbers) (rest_if_key numbers) t.rows apart.bundles_so_far;
  one_document = apart.one_document;
  documents_so_far = apart.documents_so_far;
  one_configuration = apart.one_configuration;
}
