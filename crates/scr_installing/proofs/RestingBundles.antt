-- An install, an update and an uninstall are of a bundle that isn't ACTIVE: the same is asked for as before.
use Rattle.std.proofs.Common.{◌≡◌, ◌≤◌, ◌+◌, ◌∙◌, ℕ, List, [], ◌∷◌, ◌++◌, ap, arith, cond, refl, sym, Bool, true, false, Option, Some, None}
use Rattle.std.specs.Prelude.{◌==◌, filter, map, not, option_map}
use Rattle.std.specs.List.{Contains}
use Rattle.std.specs.Option.{option_map_or}
use Rattle.std.proofs.lemmas.Bool.{eq-eqb, eqb-true}
use Rattle.bundle_doc.specs.declared.document.BundleDoc.{BundleDoc}
use Rattle.bundle_life.specs.Lives.{bundle_of, renamed, state_number}
use Rattle.bundle_life.specs.declared.bundle.BundleLife.{BundleLife}
use Rattle.bundle_life.specs.declared.bundle.BundleState.{BundleState}
use Rattle.bundle_life.specs.declared.bundle.BundleState.TheVariants.{Active, Installed, Resolved, Stopping}
use Rattle.component_state.proofs.Apart.{in_first, in_rest}
use Rattle.component_state.specs.ComponentConfigurations.{component_configurations, components_for_bundle, components_for_descriptions}
use Rattle.component_state.specs.declared.component.Component.{Component}
use Rattle.component_state.specs.declared.rows.BundleRow.{BundleRow}
use Rattle.scr_installing.proofs.IdleBundles.{by_state, refusal_by}
use Rattle.scr_installing.proofs.Updates.{idle_refuses}
use Rattle.scr_installing.specs.Idle.{idle_refusal}
use Rattle.scr_installing.specs.Updates.{update_refusal}
use Rattle.scr_judgements.specs.Lasting.{AsksAsBefore}
use Rattle.scr_laws.proofs.Documents.{updated_rests}
use Rattle.scr_laws.proofs.StoppingBundles.{found_kept}
use Rattle.scr_laws.specs.Askeds.{IsAsked}
use Rattle.scr_world.specs.Refusals.{lowest_keeping}
use Rattle.scr_world.specs.Tables.{bundle_row, bundle_rows, contents_with, replaced}
use Rattle.scr_world.specs.declared.command.Command.TheVariants.{Install, Uninstall, Update}
use Rattle.scr_world.specs.declared.contents.Contents.{Contents}
use Rattle.scr_world.specs.declared.reply.CoreFault.{CoreFault}
use Rattle.scr_world.specs.declared.step.Step.TheVariants.{Command as Commanded}
use Rattle.scr_world.specs.declared.world.World.{World}

abbrev state_in : List BundleLife → ℕ → ℕ
state_in rows n = option_map_or (λ (b : BundleLife). state_number b.state) (bundle_of rows n) 0

abbrev row_in : Contents → ℕ → BundleRow
row_in c state = record { id = c.bundle; state = state; descriptions = c.document.descriptions; enabled = c.enabled }

-- a bundle that isn't ACTIVE asks for nothing
rests : (w : World) (rows : List BundleLife) (c : Contents) → (state_in rows c.bundle == 32) ≡ false → components_for_bundle w.configurations (bundle_row rows c) ≡ []
rests w rows c off = ap (λ b. cond b (components_for_descriptions (bundle_row rows c) w.configurations 0 c.document.descriptions c.enabled) []) off

-- ---- an install

too_high : (rows : List BundleLife) (n : ℕ) → ((b : BundleLife) → Contains rows b → b.number ≤ n) → bundle_of rows (n + 1) ≡ None
too_high [] n low = refl
too_high (b ∷ rows) n low = ap (λ v. cond v (Some b) (bundle_of rows (n + 1))) (other (b.number == n + 1) refl) ∙ too_high rows n (λ x h. low x (in_rest b rows x h))
  where
    other : (v : Bool) → (b.number == n + 1) ≡ v → (b.number == n + 1) ≡ false
    other true same =
        let is : b.number ≡ n + 1 = eqb-true b.number (n + 1) same in
        let most : b.number ≤ n = low b (in_first b rows) in
        absurd (omega arith)
    other false differs = differs

none_behind : (w : World) (rows : List BundleLife) (new : Contents) → (state_in rows new.bundle == 32) ≡ false → (documents : List Contents)
    → component_configurations (bundle_rows rows (documents ++ new ∷ [])) w.configurations ≡ component_configurations (bundle_rows rows documents) w.configurations
none_behind w rows new off [] = ap (λ (xs : List Component). xs ++ []) (rests w rows new off)
none_behind w rows new off (c ∷ documents) = ap (λ (xs : List Component). components_for_bundle w.configurations (bundle_row rows c) ++ xs) (none_behind w rows new off documents)

-- a bundle that comes isn't ACTIVE
module _ (w : World) (new : BundleLife) (installed : new.state ≡ Installed) (c : Contents) where
  last : (v : Bool) → components_for_bundle w.configurations (row_in c (option_map_or (λ (b : BundleLife). state_number b.state) (cond v (Some new) None) 0)) ≡ []
  last true = ap (λ (s : BundleState). components_for_bundle w.configurations (row_in c (state_number s))) installed
  last false = refl

  one_more : (rows : List BundleLife) → components_for_bundle w.configurations (bundle_row (rows ++ new ∷ []) c) ≡ components_for_bundle w.configurations (bundle_row rows c)
  one_more [] = last (new.number == c.bundle)
  one_more (b ∷ rows) = go (one_more rows) (b.number == c.bundle)
    where
      go : components_for_bundle w.configurations (row_in c (state_in (rows ++ new ∷ []) c.bundle)) ≡ components_for_bundle w.configurations (row_in c (state_in rows c.bundle))
          → (v : Bool) → components_for_bundle w.configurations (row_in c (option_map_or (λ (x : BundleLife). state_number x.state) (cond v (Some b) (bundle_of (rows ++ new ∷ []) c.bundle)) 0))
          ≡ components_for_bundle w.configurations (row_in c (option_map_or (λ (x : BundleLife). state_number x.state) (cond v (Some b) (bundle_of rows c.bundle)) 0))
      go rest true = refl
      go rest false = rest

came : (w : World) (new : BundleLife) → new.state ≡ Installed → (rows : List BundleLife) (documents : List Contents)
    → component_configurations (bundle_rows (rows ++ new ∷ []) documents) w.configurations ≡ component_configurations (bundle_rows rows documents) w.configurations
came w new installed rows [] = refl
came w new installed rows (c ∷ documents) =
    ap (λ (xs : List Component). xs ++ component_configurations (bundle_rows (rows ++ new ∷ []) documents) w.configurations) (one_more w new installed c rows)
    ∙ ap (λ (xs : List Component). components_for_bundle w.configurations (bundle_row rows c) ++ xs) (came w new installed rows documents)

pub installed_asks : (w : World) → IsAsked w → (doc : BundleDoc) → AsksAsBefore (Commanded (Install doc)) w
installed_asks w asked doc =
    came w (record { number = w.bundles.numbered + 1; location = doc.location; name = doc.name; version = doc.version; state = Installed }) refl w.bundles.rows (w.documents ++ contents_with (w.bundles.numbered + 1) doc ∷ [])
    ∙ none_behind w w.bundles.rows (contents_with (w.bundles.numbered + 1) doc)
    (ap (λ (o : Option BundleLife). option_map_or (λ (b : BundleLife). state_number b.state) o 0 == 32) (too_high w.bundles.rows w.bundles.numbered asked.apart.bundles_so_far)) w.documents

-- ---- an idle bundle isn't ACTIVE

by_refusal : (o : Option BundleLife) (bundle low : ℕ) → refusal_by (option_map (λ (b : BundleLife). b.state) o) bundle low ≡ None → (option_map_or (λ (b : BundleLife). state_number b.state) o 0 == 32) ≡ false
by_refusal None bundle low free = refl
by_refusal (Some b) bundle low free = go b.state free
  where
    go : (st : BundleState) → refusal_by (Some st) bundle low ≡ None → (state_number st == 32) ≡ false
    go Active busy = absurd cc
    go Stopping busy = refl
    go Installed idle = refl
    go Resolved idle = refl

idle_rests : (w : World) (bundle : ℕ) → idle_refusal w bundle ≡ None → (state_in w.bundles.rows bundle == 32) ≡ false
idle_rests w bundle idle =
    by_refusal (bundle_of w.bundles.rows bundle) bundle (lowest_keeping w bundle)
    (sym (by_state w bundle (option_map (λ (b : BundleLife). b.state) (bundle_of w.bundles.rows bundle)) refl) ∙ idle)

-- ---- an update

not_so : (b : Bool) → (b ≡ true → ⊥) → b ≡ false
not_so true never = absurd (never refl)
not_so false never = refl

on_and_off : (v : Bool) → v ≡ true → v ≡ false → ⊥
on_and_off true on off = cc
on_and_off false on off = cc

module _ (bundle n : ℕ) (off : (n == bundle) ≡ false) where
  other : (b : BundleLife) → (b.number == bundle) ≡ true → (b.number == n) ≡ false
  other b on = not_so (b.number == n) (λ same. on_and_off (n == bundle) (eq-eqb n bundle (sym (eqb-true b.number n same) ∙ eqb-true b.number bundle on)) off)

  state_stays : (doc : BundleDoc) (rows : List BundleLife) → state_in (map (renamed bundle doc.name doc.version) rows) n ≡ state_in rows n
  state_stays doc [] = refl
  state_stays doc (b ∷ rows) = go (state_stays doc rows) (b.number == bundle) refl
    where
      later : Option BundleLife
      later = bundle_of (map (renamed bundle doc.name doc.version) rows) n

      state : Option BundleLife → ℕ
      state o = option_map_or (λ (x : BundleLife). state_number x.state) o 0

      there : state later ≡ state_in rows n → (u : Bool) → state (cond u (Some b) later) ≡ state (cond u (Some b) (bundle_of rows n))
      there rest true = refl
      there rest false = rest

      go : state later ≡ state_in rows n → (v : Bool) → (b.number == bundle) ≡ v
          → state (cond ((cond v (record b { name = doc.name; version = doc.version; state = Installed }) b).number == n) (Some (cond v (record b { name = doc.name; version = doc.version; state = Installed }) b)) later) ≡ state (cond (b.number == n) (Some b) (bundle_of rows n))
      go rest true same =
          ap (λ u. state (cond u (Some (record b { name = doc.name; version = doc.version; state = Installed })) later)) (other b same)
          ∙ rest
          ∙ sym (ap (λ u. state (cond u (Some b) (bundle_of rows n))) (other b same))
      go rest false differs = there rest (b.number == n)

module _ (w : World) (rows : List BundleLife) (bundle : ℕ) (off : (state_in rows bundle == 32) ≡ false) where
  module _ (doc : BundleDoc) where
    abbrev renamed_rows : List BundleLife
    renamed_rows = map (renamed bundle doc.name doc.version) rows

    one_updated : (c : Contents) → components_for_bundle w.configurations (bundle_row renamed_rows (replaced bundle doc c)) ≡ components_for_bundle w.configurations (bundle_row rows c)
    one_updated c = go (c.bundle == bundle) refl
      where
        go : (v : Bool) → (c.bundle == bundle) ≡ v → components_for_bundle w.configurations (bundle_row renamed_rows (cond v (contents_with bundle doc) c)) ≡ components_for_bundle w.configurations (bundle_row rows c)
        go true same =
            rests w renamed_rows (contents_with bundle doc) (not_so (state_in renamed_rows bundle == 32) (updated_rests bundle doc.name doc.version rows))
            ∙ sym (rests w rows c (ap (λ n. state_in rows n == 32) (eqb-true c.bundle bundle same) ∙ off))
        go false differs = ap (λ state. components_for_bundle w.configurations (row_in c state)) (state_stays bundle c.bundle differs doc rows)

    all_updated : (documents : List Contents) → component_configurations (bundle_rows renamed_rows (map (replaced bundle doc) documents)) w.configurations ≡ component_configurations (bundle_rows rows documents) w.configurations
    all_updated [] = refl
    all_updated (c ∷ documents) =
        ap (λ (xs : List Component). xs ++ component_configurations (bundle_rows renamed_rows (map (replaced bundle doc) documents)) w.configurations) (one_updated c)
        ∙ ap (λ (xs : List Component). components_for_bundle w.configurations (bundle_row rows c) ++ xs) (all_updated documents)

  -- ---- an uninstall

  abbrev remaining : List BundleLife
  remaining = filter (λ (b : BundleLife). not (b.number == bundle)) rows

  kept_state : (n : ℕ) → (n == bundle) ≡ false → state_in remaining n ≡ state_in rows n
  kept_state n differs =
      ap (λ (o : Option BundleLife). option_map_or (λ (b : BundleLife). state_number b.state) o 0)
      (found_kept (λ (b : BundleLife). b.number == n) (λ (b : BundleLife). not (b.number == bundle)) rows (λ b is. ap (λ k. not (k == bundle)) (eqb-true b.number n is) ∙ ap not differs))

  all_but_one : (documents : List Contents) → component_configurations (bundle_rows remaining (filter (λ (c : Contents). not (c.bundle == bundle)) documents)) w.configurations ≡ component_configurations (bundle_rows rows documents) w.configurations
  all_but_one [] = refl
  all_but_one (c ∷ documents) = go (all_but_one documents) (c.bundle == bundle) refl
    where
      left : List Contents
      left = filter (λ (x : Contents). not (x.bundle == bundle)) documents

      go : component_configurations (bundle_rows remaining left) w.configurations ≡ component_configurations (bundle_rows rows documents) w.configurations → (v : Bool) → (c.bundle == bundle) ≡ v
          → component_configurations (bundle_rows remaining (cond (not v) (c ∷ left) left)) w.configurations ≡ components_for_bundle w.configurations (bundle_row rows c) ++ component_configurations (bundle_rows rows documents) w.configurations
      go rest true same = rest ∙ sym (ap (λ (xs : List Component). xs ++ component_configurations (bundle_rows rows documents) w.configurations) (rests w rows c (ap (λ n. state_in rows n == 32) (eqb-true c.bundle bundle same) ∙ off)))
      go rest false differs =
          ap (λ state. components_for_bundle w.configurations (row_in c state) ++ component_configurations (bundle_rows remaining left) w.configurations) (kept_state c.bundle differs)
          ∙ ap (λ (xs : List Component). components_for_bundle w.configurations (bundle_row rows c) ++ xs) rest

idle_update : (w : World) (bundle : ℕ) (doc : BundleDoc) → update_refusal w bundle doc ≡ None → idle_refusal w bundle ≡ None
idle_update w bundle doc free = go (idle_refusal w bundle) refl
  where
    go : (o : Option CoreFault) → idle_refusal w bundle ≡ o → idle_refusal w bundle ≡ None
    go None idle = idle
    go (Some fault) busy = absurd (let e : Some fault ≡ None = sym (idle_refuses w bundle doc fault busy) ∙ free in cc)

pub updated_asks : (w : World) (bundle : ℕ) (doc : BundleDoc) → update_refusal w bundle doc ≡ None → AsksAsBefore (Commanded (Update bundle doc)) w
updated_asks w bundle doc free = all_updated w w.bundles.rows bundle (idle_rests w bundle (idle_update w bundle doc free)) doc w.documents

pub uninstalled_asks : (w : World) (bundle : ℕ) → idle_refusal w bundle ≡ None → AsksAsBefore (Commanded (Uninstall bundle)) w
uninstalled_asks w bundle idle = all_but_one w w.bundles.rows bundle (idle_rests w bundle idle) w.documents
