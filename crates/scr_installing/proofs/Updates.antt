-- When an update is refused, in the order of its tests.
use Rattle.std.proofs.Common.{◌≡◌, ◌∙◌, ℕ, List, [], ◌∷◌, ◌++◌, ap, refl, subst, sym, Bool, true, false, Option, Some, None, Result, Ok, Err}
use Rattle.std.specs.Prelude.{not, option_map, IfSome}
use Rattle.bundle_doc.specs.declared.document.BundleDoc.{BundleDoc}
use Rattle.bundle_life.specs.declared.bundle.BundleLife.{BundleLife}
use Rattle.bundle_life.specs.Lives.{namesake}
use Rattle.prop_map.specs.Words.{first_some}
use Rattle.scr_installing.specs.Allowed.{IsAllowed}
use Rattle.scr_installing.specs.Described.{AreDescribed, IsDescribed}
use Rattle.scr_installing.specs.declared.described.Described.{Described}
use Rattle.scr_installing.specs.Idle.{idle_refusal}
use Rattle.scr_installing.specs.Updates.{update_refusal}
use Rattle.scr_installing.proofs.IdleBundles.{idle_plain}
use Rattle.scr_judgements.proofs.Judged.{is_cycle, refused}
use Rattle.scr_judgements.specs.Judgements.{Judges}
use Rattle.scr_state.specs.declared.state.State.{State}
use Rattle.scr_world.specs.Levels.{has_levels}
use Rattle.scr_world.specs.Replies.{takes_memory_to_refuse}
use Rattle.scr_world.specs.Refusals.{cyclic, descriptions_with, no_bundle, refusal, refuse_if, same_name, still_active, still_stopping}
use Rattle.scr_world.specs.declared.command.Command.TheVariants.{Update}
use Rattle.scr_world.specs.declared.reply.CoreFault.{CoreFault}
use Rattle.scr_world.specs.declared.reply.CoreFault.TheVariants.{SameName, Cycle, OutOfMemory}
use Rattle.scr_world.specs.declared.world.World.{World}

-- ---- the first of some tests, and of more

first_more : {X : Type 0} (tests more : List (Option X)) (x : X) → first_some tests ≡ Some x → first_some (tests ++ more) ≡ Some x
first_more [] more x is = absurd cc
first_more (Some y ∷ tests) more x is = is
first_more (None ∷ tests) more x is = first_more tests more x is

first_rest : {X : Type 0} (tests more : List (Option X)) → first_some tests ≡ None → first_some (tests ++ more) ≡ first_some more
first_rest [] more is = refl
first_rest (Some y ∷ tests) more is = absurd cc
first_rest (None ∷ tests) more is = first_rest tests more is

only : {X : Type 0} (test : Option X) → first_some (test ∷ []) ≡ test
only None = refl
only (Some x) = refl

named : (o : Option BundleLife) → option_map (λ (b : BundleLife). SameName b.number) o ≡ option_map (λ (n : ℕ). SameName n) (option_map (λ (b : BundleLife). b.number) o)
named None = refl
named (Some b) = refl

named_plain : (o : Option BundleLife) (fault : CoreFault) → option_map (λ (b : BundleLife). SameName b.number) o ≡ Some fault → is_cycle fault ≡ false
named_plain None fault is = absurd cc
named_plain (Some b) fault is = let e : fault ≡ SameName b.number = cc in ap is_cycle e

module _ (w : World) (bundle : ℕ) (doc : BundleDoc) where
  pub idle_refuses : (fault : CoreFault) → idle_refusal w bundle ≡ Some fault → update_refusal w bundle doc ≡ Some fault
  idle_refuses fault is = first_more (no_bundle w bundle ∷ still_active w bundle ∷ still_stopping w bundle ∷ []) (same_name w doc bundle ∷ []) fault is

  by_name : idle_refusal w bundle ≡ None → update_refusal w bundle doc ≡ same_name w doc bundle
  by_name idle = first_rest (no_bundle w bundle ∷ still_active w bundle ∷ still_stopping w bundle ∷ []) (same_name w doc bundle ∷ []) idle ∙ only (same_name w doc bundle)

  pub name_refuses : idle_refusal w bundle ≡ None → (other : Option ℕ) → other ≡ option_map (λ (b : BundleLife). b.number) (namesake doc.name doc.version bundle w.bundles.rows)
      → update_refusal w bundle doc ≡ option_map (λ (n : ℕ). SameName n) other
  name_refuses idle other is = by_name idle ∙ named (namesake doc.name doc.version bundle w.bundles.rows) ∙ ap (option_map (λ (n : ℕ). SameName n)) (sym is)

  update_plain : (fault : CoreFault) → update_refusal w bundle doc ≡ Some fault → is_cycle fault ≡ false
  update_plain fault is = go (idle_refusal w bundle) refl
    where
      go : (o : Option CoreFault) → idle_refusal w bundle ≡ o → is_cycle fault ≡ false
      go None idle = named_plain (namesake doc.name doc.version bundle w.bundles.rows) fault (sym (by_name idle) ∙ is)
      go (Some first) busy = idle_plain w bundle fault (busy ∙ (let e : Some first ≡ Some fault = sym (idle_refuses first busy) ∙ is in e))

  tests_of : update_refusal w bundle doc ≡ None → refusal w (Update bundle doc) ≡ cyclic (descriptions_with w doc bundle)
  tests_of free = first_rest (no_bundle w bundle ∷ still_active w bundle ∷ still_stopping w bundle ∷ same_name w doc bundle ∷ []) (cyclic (descriptions_with w doc bundle) ∷ []) free ∙ only (cyclic (descriptions_with w doc bundle))

  late : (levels : Bool) → IfSome (refuse_if (not levels) (Cycle [])) (λ fault. takes_memory_to_refuse (Update bundle doc) fault ≡ true)
  late false = refl
  late true = tt

  -- a cycle is all that may refuse it
  pub update_takes : update_refusal w bundle doc ≡ None → IfSome (refusal w (Update bundle doc)) (λ fault. takes_memory_to_refuse (Update bundle doc) fault ≡ true)
  update_takes free = subst (λ (due : Option CoreFault). IfSome due (λ fault. takes_memory_to_refuse (Update bundle doc) fault ≡ true)) (sym (tests_of free)) (late (has_levels (descriptions_with w doc bundle)))

  -- with the descriptions after it
  module _ (free : update_refusal w bundle doc ≡ None) where
    update_cyclic : (fault : CoreFault) → IsDescribed (descriptions_with w doc bundle) (Err fault) → IsAllowed w (Update bundle doc) (Err fault)
    unfolding IsAllowed
    update_cyclic (Cycle path) is = (tests_of free ∙ rw is.0 refl, is.1)
    update_cyclic OutOfMemory is = update_takes free
    update_cyclic fault is = absurd is

    update_allowed : (described : Described) → AreDescribed (descriptions_with w doc bundle) described → IsAllowed w (Update bundle doc) (Ok described)
    unfolding IsAllowed
    update_allowed described are = (tests_of free ∙ rw are.has_levels refl, are)

    pub update_answer : (answer : Result Described CoreFault) → IsDescribed (descriptions_with w doc bundle) answer → IsAllowed w (Update bundle doc) answer
    update_answer (Ok described) are = update_allowed described are
    update_answer (Err fault) is = update_cyclic fault is

pub update_refused : (limit : ℕ) (s : State) (bundle : ℕ) (doc : BundleDoc) (fault : CoreFault) → update_refusal s.world bundle doc ≡ Some fault → Judges limit s (Update bundle doc) (Err fault)
update_refused limit s bundle doc fault is = refused limit s (Update bundle doc) fault (update_plain s.world bundle doc fault is)
    (first_more (no_bundle s.world bundle ∷ still_active s.world bundle ∷ still_stopping s.world bundle ∷ same_name s.world doc bundle ∷ []) (cyclic (descriptions_with s.world doc bundle) ∷ []) fault is)
