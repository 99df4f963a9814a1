-- Gets that end with a bundle or a service, and that none ends without.
use Rattle.std.proofs.Common.{◌≡◌, ℕ, ◌<◌, Bool, true, false, List, [], ◌∷◌, length, ◌∙◌, ap, sym, refl, cond}
use Rattle.std.specs.Prelude.{◌==◌, ◌&&◌, ◌||◌, None, filter, not}
use Rattle.std.specs.List.{Contains, list_any}
use Rattle.std.proofs.lemmas.Bool.{and_from, and_parts, eq-eqb, eqb-true}
use Rattle.std.proofs.Math.Bool.{and-false}
use Rattle.prop_map.specs.Words.{is_empty}
use Rattle.scr_consequences.proofs.FilterLemmas.{filter_shorter, filter_twice, kept_all}
use Rattle.scr_consequences.proofs.RowAtLemmas.{or_left, or_right}
use Rattle.scr_consequences.specs.Gets.{AreStanding, HaveStood, is_stop, stands, token_stands, use_stands}
use Rattle.scr_consequences.specs.Lefts.{has_left, left_between}
use Rattle.scr_world.specs.Lists.{is_active_bundle}
use Rattle.scr_world.specs.Worlds.{is_registered, registered_services}
use Rattle.scr_world.specs.declared.step.Step.{Step}
use Rattle.scr_world.specs.declared.world.World.{World}
use Rattle.service_registry.specs.declared.row.ServiceRow.{ServiceRow}
use Rattle.use_counts.specs.Uses.{without_service, without_uses_of}
use Rattle.use_counts.specs.declared.uses.UseRow.{UseRow}

is_by : (b : Bool) → not b ≡ false → b ≡ true
is_by true e = refl
is_by false e = cc

pub without_bundle_stand : (w : World) (bundle : ℕ) (us : List UseRow) → is_active_bundle w bundle ≡ false → filter (use_stands w) (without_uses_of bundle us) ≡ filter (use_stands w) us
unfolding stands
without_bundle_stand w bundle us inactive =
    filter_twice (use_stands w) (λ (u : UseRow). not (u.bundle == bundle))
    (λ u e. ap (λ b. is_registered w u.service && is_active_bundle w b) (eqb-true u.bundle bundle (is_by (u.bundle == bundle) e)) ∙ ap (λ b. is_registered w u.service && b) inactive ∙ and-false (is_registered w u.service)) us

pub without_service_stand : (w : World) (service : ℕ) (us : List UseRow) → is_registered w service ≡ false → filter (use_stands w) (without_service service us) ≡ filter (use_stands w) us
unfolding stands
without_service_stand w service us gone =
    filter_twice (use_stands w) (λ (u : UseRow). not (u.service == service))
    (λ u e. ap (λ s. is_registered w s && is_active_bundle w u.bundle) (eqb-true u.service service (is_by (u.service == service) e)) ∙ ap (λ b. b && is_active_bundle w u.bundle) gone) us

pub without_bundle_fewer : (row : UseRow) (us : List UseRow) → Contains us row → length (without_uses_of row.bundle us) < length us
without_bundle_fewer row us there = filter_shorter (λ (u : UseRow). not (u.bundle == row.bundle)) us row there (ap not (eq-eqb row.bundle row.bundle refl))

pub without_service_fewer : (row : UseRow) (us : List UseRow) → Contains us row → length (without_service row.service us) < length us
without_service_fewer row us there = filter_shorter (λ (u : UseRow). not (u.service == row.service)) us row there (ap not (eq-eqb row.service row.service refl))

-- a get that doesn't stand, of a registered service, is for a bundle that isn't active
pub ends_for_bundle : (w : World) (u : UseRow) → use_stands w u ≡ false → is_registered w u.service ≡ true → is_active_bundle w u.bundle ≡ false
unfolding stands
ends_for_bundle w u ended there = ap (λ b. b && is_active_bundle w u.bundle) (sym there) ∙ ended

-- ---- where no service left and no bundle is stopped, no get ends

none_in : {X : Type 0} (xs : List X) → not (is_empty xs) ≡ false → xs ≡ []
none_in [] e = refl
none_in (x ∷ xs) e = cc

still_there : (now : World) (service : ℕ) (rows : List ServiceRow) → filter (has_left now) rows ≡ [] → list_any (λ (r : ServiceRow). r.id == service) rows ≡ true → is_registered now service ≡ true
still_there now service [] none on = cc
still_there now service (r ∷ rows) none on = by_test (is_registered now r.id) refl none (r.id == service) refl on (still_there now service rows)
  where
    by_test : (there : Bool) → is_registered now r.id ≡ there → cond (not there) (r ∷ filter (has_left now) rows) (filter (has_left now) rows) ≡ []
        → (this : Bool) → (r.id == service) ≡ this → (this || list_any (λ (s : ServiceRow). s.id == service) rows) ≡ true
        → (filter (has_left now) rows ≡ [] → list_any (λ (s : ServiceRow). s.id == service) rows ≡ true → is_registered now service ≡ true) → is_registered now service ≡ true
    by_test false there none this same on later = cc
    by_test true there none true same on later = ap (is_registered now) (sym (eqb-true r.id service same)) ∙ there
    by_test true there none false same on later = later none on

module _ (step : Step) (was now : World) (stood : HaveStood step was now) (spared : is_stop step ≡ false) (none : left_between was now ≡ []) where
  still_stands : (service bundle : ℕ) → stands was service bundle ≡ true → stands now service bundle ≡ true
  unfolding stands
  still_stands service bundle is =
      let both = and_parts (is_registered was service) (is_active_bundle was bundle) is in
      and_from (is_registered now service) (is_active_bundle now bundle) (still_there now service (registered_services was) none both.0) (stood.bundles spared bundle both.1)

  uses_stay : now.uses ≡ filter (use_stands now) now.uses
  uses_stay = sym (kept_all (use_stands now) now.uses (λ u there. still_stands u.service u.bundle (stood.uses u there)))

  tokens_stay : now.tokens ≡ filter (token_stands now) now.tokens
  tokens_stay = sym (kept_all (token_stands now) now.tokens (λ t there. still_stands t.service t.bundle (stood.tokens t there)))

  all_standing : AreStanding now None
  unfolding stands
  all_standing = record { uses = uses_stay; tokens = tokens_stay }

pub none_ends : (step : Step) (was now : World) (left : List ServiceRow) → (is_stop step || not (is_empty left)) ≡ false → HaveStood step was now → left ≡ left_between was now → AreStanding now None
none_ends step was now left spared stood are =
    all_standing step was now stood (or_left (is_stop step) (not (is_empty left)) spared) (sym are ∙ none_in left (or_right (is_stop step) (not (is_empty left)) spared))
