-- An enable of what is enabled asks for nothing anew.
use Rattle.std.proofs.Common.{◌≡◌, ◌≤◌, ◌+◌, ◌∙◌, ℕ, List, [], ◌∷◌, ap, arith, cond, refl, subst, sym, Bool, true, false, ◌&&◌, ◌||◌, None}
use Rattle.std.specs.Prelude.{◌==◌, filter, length, map, nat_le, nat_lt, not, suc}
use Rattle.std.specs.List.{list_all, list_any}
use Rattle.std.specs.Str.{bytes_eq}
use Rattle.std.proofs.lemmas.Bool.{and_parts}
use Rattle.std.proofs.lemmas.Bool.Decides.{nat_tests}
use Rattle.component_dto.specs.declared.description.Description.{Description}
use Rattle.component_state.specs.ComponentConfigurations.{component_configurations, new_components}
use Rattle.component_state.specs.declared.component.Component.{Component}
use Rattle.journal_core.specs.Rooms.{JournalRows}
use Rattle.scr_judgements.proofs.Drafted.{kept_asked}
use Rattle.scr_laws.proofs.Asking.{forgetting_stays}
use Rattle.scr_laws.specs.Askeds.{IsAsked, asked_in}
use Rattle.scr_starting.specs.Enabled.{are_enabled, has_disabled, is_all_enabled, stays_enabled}
use Rattle.scr_state.specs.Keeps.{Keeps}
use Rattle.scr_state.specs.declared.state.State.{State}
use Rattle.scr_world.specs.Refusals.{components_full, refuse_if}
use Rattle.scr_world.specs.Replies.{is_enabled}
use Rattle.scr_world.specs.Stepping.{component_configurations_by, components_added_by, components_by, counted_components, is_counted}
use Rattle.scr_world.specs.Tables.{bundle_rows, flagged, with_flag}
use Rattle.scr_world.specs.declared.command.Command.TheVariants.{Enable}
use Rattle.scr_world.specs.declared.contents.Contents.{Contents}
use Rattle.scr_world.specs.declared.instance.Instance.{Instance}
use Rattle.scr_world.specs.declared.reply.CoreFault.TheVariants.{ComponentsFull}
use Rattle.scr_world.specs.declared.step.Step.{Step}
use Rattle.scr_world.specs.declared.step.Step.TheVariants.{Command as Commanded}
use Rattle.scr_world.specs.declared.world.World.{World}

-- ---- the flags of a bundle stay

-- a flag that isn't left to enable
flag_stays : (named f : Bool) (rest : Bool) → ((named && not f) || rest) ≡ false → (cond named true f ≡ f) × (rest ≡ false)
flag_stays true true rest off = (refl, off)
flag_stays true false rest off = absurd cc
flag_stays false f rest off = (refl, off)

flags_stay : (name : List ℕ) (ds : List Description) (fs : List Bool) → length fs ≤ length ds → has_disabled name ds fs ≡ false → with_flag name true ds fs ≡ fs
flags_stay name [] [] few off = refl
flags_stay name [] (f ∷ fs) few off = absurd (let none : suc (length fs) ≤ 0 = few in omega arith)
flags_stay name (d ∷ ds) [] few off = refl
flags_stay name (d ∷ ds) (f ∷ fs) few off =
    let here = flag_stays (bytes_eq d.name name) f (has_disabled name ds fs) off in
    let fewer : length fs ≤ length ds = (let all : suc (length fs) ≤ suc (length ds) = few in omega arith) in
    ap (λ (g : Bool). g ∷ with_flag name true ds fs) here.0 ∙ ap (λ (gs : List Bool). f ∷ gs) (flags_stay name ds fs fewer here.1)

no_longer : (n m : ℕ) → nat_le n m ≡ true → n ≤ m
no_longer n m few = grind (arith, nat_tests)

not_true : (b : Bool) → not b ≡ true → b ≡ false
not_true true e = absurd cc
not_true false e = refl

-- what one bundle holds stays
contents_stay : (bundle : ℕ) (name : List ℕ) (c : Contents) → stays_enabled bundle name c ≡ true → flagged bundle name true c ≡ c
contents_stay bundle name c so = go (c.bundle == bundle) so
  where
    go : (b : Bool) → (not b || are_enabled name c.document.descriptions c.enabled) ≡ true → cond b (record c { enabled = with_flag name true c.document.descriptions c.enabled }) c ≡ c
    go true all =
        let parts = and_parts (nat_le (length c.enabled) (length c.document.descriptions)) (not (has_disabled name c.document.descriptions c.enabled)) all in
        ap (λ (fs : List Bool). record c { enabled = fs })
        (flags_stay name c.document.descriptions c.enabled (no_longer (length c.enabled) (length c.document.descriptions) parts.0) (not_true (has_disabled name c.document.descriptions c.enabled) parts.1))
    go false all = refl

documents_stay : (bundle : ℕ) (name : List ℕ) (cs : List Contents) → list_all (stays_enabled bundle name) cs ≡ true → map (flagged bundle name true) cs ≡ cs
documents_stay bundle name [] all = refl
documents_stay bundle name (c ∷ cs) all =
    let parts = and_parts (stays_enabled bundle name c) (list_all (stays_enabled bundle name) cs) all in
    ap (λ (d : Contents). d ∷ map (flagged bundle name true) cs) (contents_stay bundle name c parts.0)
    ∙ ap (λ (ds : List Contents). c ∷ ds) (documents_stay bundle name cs parts.1)

-- ---- so no component configuration comes

remembers_living : (is : List Instance) (c : Component) → c.exists ≡ true → is_counted is c ≡ true
remembers_living is c e = ap (λ b. b || list_any (λ (i : Instance). i.origin.configuration == c.number) is) e

module _ (w : World) (asked : IsAsked w) (bundle : ℕ) (name : List ℕ) (all : list_all (stays_enabled bundle name) w.documents ≡ true) where
  same_asked : component_configurations_by (Commanded (Enable bundle name)) w ≡ asked_in w
  same_asked = ap (λ (cs : List Contents). component_configurations (bundle_rows w.bundles.rows cs) w.configurations) (documents_stay bundle name w.documents all)

  none_new : new_components (counted_components w) (asked_in w) ≡ []
  none_new = (forgetting_stays (asked_in w) w.components asked.components (is_counted w.instances) (λ c h lives. remembers_living w.instances c lives)).complete

  none_added : components_added_by (Commanded (Enable bundle name)) w ≡ 0
  none_added = ap (λ (these : List Component). length (new_components (counted_components w) these)) same_asked ∙ ap length none_new

  never_full : components_full w (Enable bundle name) ≡ None
  never_full = ap (λ n. refuse_if (not (n == 0) && nat_lt 512 (length (filter (is_counted w.instances) (components_by (Commanded (Enable bundle name)) w)))) ComponentsFull) none_added

module _ (j : JournalRows Step) (s : State) (keeps : Keeps j s) (bundle : ℕ) (name : List ℕ) (already : is_all_enabled s.world bundle name ≡ true) where
  pub already_enabled : is_enabled s.world bundle name ≡ true
  already_enabled = (and_parts (is_enabled s.world bundle name) (list_all (stays_enabled bundle name) s.world.documents) already).0

  pub already_free : components_full s.world (Enable bundle name) ≡ None
  already_free = never_full s.world (kept_asked j s keeps) bundle name (and_parts (is_enabled s.world bundle name) (list_all (stays_enabled bundle name) s.world.documents) already).1
