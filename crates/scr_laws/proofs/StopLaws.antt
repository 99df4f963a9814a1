-- What a stop leaves.
use Rattle.std.proofs.Common.{◌≡◌, ◌⊎◌, ℕ, List, [], ◌∷◌, ap, sym, ◌∙◌, refl, subst, cond, Bool, true, false, inl, inr, Option, Some, None}
use Rattle.std.specs.Prelude.{is_none, map, option_map, ◌==◌}
use Rattle.std.specs.Option.{option_map_or}
use Rattle.std.proofs.lemmas.Bool.{both_ways, eq-eqb, eqb-true}
use Rattle.bundle_life.specs.declared.bundle.BundleLife.{BundleLife}
use Rattle.bundle_life.specs.declared.bundle.BundleState.{BundleState}
use Rattle.bundle_life.specs.declared.bundle.BundleState.TheVariants.{Installed, Resolved, Stopping, Active}
use Rattle.bundle_life.specs.Lives.{bundle_of, in_state, is_active, resolved_among, state_number}
use Rattle.component_state.proofs.Apart.{in_first}
use Rattle.journal_core.specs.declared.entry.Entry.{Entry}
use Rattle.prop_map.specs.Words.{has}
use Rattle.scr_laws.proofs.Described.{none_first, not_refused}
use Rattle.scr_laws.specs.Owners.{HaveActiveOwners, HasNothing, IsStopped, state_of}
use Rattle.scr_laws.proofs.AnswerLaws.{found_map, resolved_number}
use Rattle.scr_laws.proofs.OwnerLaws.{active_owners, in_state_number}
use Rattle.scr_world.specs.Legal.{IsLegal, MayCome}
use Rattle.scr_world.specs.Lists.{is_active_bundle, world_after_entry, world_of}
use Rattle.scr_world.specs.Refusals.{no_bundle, refuse_if}
use Rattle.scr_world.specs.Steps.{History}
use Rattle.scr_world.specs.Stepping.{world_after_step}
use Rattle.scr_world.specs.Tables.{bundles_by}
use Rattle.scr_world.specs.declared.command.Command.TheVariants.{Stop}
use Rattle.scr_world.specs.declared.reply.CoreFault.TheVariants.{NoBundle}
use Rattle.scr_world.specs.declared.step.Step.{Step}
use Rattle.scr_world.specs.declared.step.Step.TheVariants.{Command as Commanded}
use Rattle.scr_world.specs.declared.world.World.{World}

found_number : (rows : List BundleLife) (number : ℕ) (b : BundleLife) → bundle_of rows number ≡ Some b → b.number ≡ number
found_number [] number b is = cc
found_number (c ∷ cs) number b is = go (c.number == number) refl is (found_number cs number b)
  where
    go : (k : Bool) → (c.number == number) ≡ k → cond k (Some c) (bundle_of cs number) ≡ Some b → (bundle_of cs number ≡ Some b → b.number ≡ number) → b.number ≡ number
    go true on h rest = let same : c ≡ b = cc in ap (λ (x : BundleLife). x.number) (sym same) ∙ eqb-true c.number number on
    go false off h rest = rest h

abbrev IsRest : Option ℕ → Type 0
IsRest o = (o ≡ Some 16) ⊎ (o ≡ Some 4)

-- the state after a stop that begins, whether it is complete in the same entry or not
state_after : (rows : List BundleLife) (stopped : List ℕ) (bundle : ℕ) → refuse_if (is_none (bundle_of rows bundle)) (NoBundle bundle) ≡ None
    → IsRest (option_map (λ (b : BundleLife). state_number b.state) (bundle_of (map (resolved_among stopped) (map (in_state bundle Stopping) rows)) bundle))
state_after rows stopped bundle there =
    subst (λ o. IsRest (option_map (λ (b : BundleLife). state_number b.state) o))
    (sym (found_map (resolved_among stopped) (resolved_number stopped) (map (in_state bundle Stopping) rows) bundle ∙ ap (option_map (resolved_among stopped)) (found_map (in_state bundle Stopping) (in_state_number bundle Stopping) rows bundle)))
    (go (bundle_of rows bundle) refl there)
  where
    one : (b : BundleLife) → b.number ≡ bundle → (k : Bool) → IsRest (Some (state_number (cond k (record (in_state bundle Stopping b) { state = Resolved }) (in_state bundle Stopping b)).state))
    one b is true = inr refl
    one b is false = inl (ap (λ v. Some (state_number (cond v (record b { state = Stopping }) b).state)) (eq-eqb b.number bundle is))

    go : (o : Option BundleLife) → bundle_of rows bundle ≡ o → refuse_if (is_none o) (NoBundle bundle) ≡ None → IsRest (option_map (λ (b : BundleLife). state_number b.state) (option_map (resolved_among stopped) (option_map (in_state bundle Stopping) o)))
    go None is none = cc
    go (Some b) is none = one b (found_number rows bundle b is) (has stopped (in_state bundle Stopping b).number)

at_rest : (o : Option BundleLife) → IsRest (option_map (λ (b : BundleLife). state_number b.state) o) → option_map_or (λ (b : BundleLife). is_active b.state) o false ≡ false
at_rest None is = refl
at_rest (Some b) is = state b.state is
  where
    state : (s : BundleState) → IsRest (Some (state_number s)) → is_active s ≡ false
    state Installed h = refl
    state Resolved h = refl
    state Stopping h = refl
    state Active (inl h) = cc
    state Active (inr h) = cc

-- what isn't active has nothing
pub has_nothing : (w : World) (bundle : ℕ) → HaveActiveOwners w → is_active_bundle w bundle ≡ false → HasNothing w bundle
has_nothing w bundle owners off = record {
  services = λ r h is. never r.bundle is (owners.services r h);
  component_services = λ r h is. never r.bundle is (owners.component_services r h);
  components = λ c h is. never c.bundle is (owners.components c h);
  listeners = λ l h is. never l.bundle is (owners.listeners l h);
  uses = λ u h is. never u.bundle is (owners.uses u h);
  tokens = λ t h is. never t.bundle is (owners.tokens t h);
}
  where
    never : (n : ℕ) → n ≡ bundle → is_active_bundle w n ≡ true → ⊥
    never n is on = both_ways (is_active_bundle w bundle) off (ap (is_active_bundle w) (sym is) ∙ on)

module _ (limit : ℕ) (entry : Entry Step) (past : History) (legal : IsLegal limit (entry ∷ past)) (bundle : ℕ) (is : entry.step ≡ Commanded (Stop bundle)) where
  state_then : (state_of (world_of (entry ∷ past)) bundle ≡ Some 16) ⊎ (state_of (world_of (entry ∷ past)) bundle ≡ Some 4)
  unfolding world_of world_after_entry world_after_step
  state_then = let w = world_of past in
      subst (λ (s : Step). IsRest (option_map (λ (b : BundleLife). state_number b.state) (bundle_of (map (resolved_among entry.stopped) (bundles_by s w.bundles).rows) bundle))) (sym is)
      (state_after w.bundles.rows entry.stopped bundle (none_first (no_bundle w bundle ∷ []) (not_refused w (Stop bundle) (subst (λ (s : Step). MayCome w s) is legal.0.step)).0 (no_bundle w bundle) (in_first (no_bundle w bundle) [])))

  pub is_stopped : IsStopped (world_of (entry ∷ past)) bundle
  is_stopped = record {
    state = state_then;
    nothing = has_nothing (world_of (entry ∷ past)) bundle (active_owners limit (entry ∷ past) legal) (at_rest (bundle_of (world_of (entry ∷ past)).bundles.rows bundle) state_then);
  }
