-- When an install is refused, and what is said of it.
use Rattle.std.proofs.Common.{◌≡◌, ◌∙◌, ◌+◌, ℕ, [], ◌∷◌, ◌++◌, ap, refl, subst, sym, Bool, true, false, Option, Some, None, Ok, Err, length}
use Rattle.std.specs.Prelude.{is_none, nat_le, not, option_map, IfSome}
use Rattle.prop_map.specs.Words.{first_some}
use Rattle.std.proofs.lemmas.List.{append-nil}
use Rattle.std.proofs.lemmas.List.Concat.{flat_map-append}
use Rattle.bundle_doc.specs.declared.document.BundleDoc.{BundleDoc}
use Rattle.bundle_life.specs.declared.bundle.BundleLife.{BundleLife}
use Rattle.bundle_life.specs.Lives.{bundle_at, namesake}
use Rattle.scr_installing.specs.Allowed.{IsAllowed, descriptions_after}
use Rattle.scr_installing.specs.Described.{AreDescribed, IsDescribed}
use Rattle.scr_installing.specs.declared.described.Described.{Described}
use Rattle.scr_judgements.proofs.Judged.{changed, no_room, unchanged}
use Rattle.scr_judgements.specs.Judgements.{Judges}
use Rattle.scr_judgements.specs.declared.judgement.Judgement.TheVariants.{Unchanged, Changes}
use Rattle.scr_state.specs.Keeps.{IsDraft}
use Rattle.scr_state.specs.declared.draft.Draft.{Draft}
use Rattle.scr_state.specs.declared.state.State.{State}
use Rattle.scr_world.specs.Levels.{has_levels}
use Rattle.scr_world.specs.Refusals.{refusal, refuse_if}
use Rattle.scr_world.specs.Replies.{has_effect, takes_memory_to_refuse}
use Rattle.scr_world.specs.Room.{has_room}
use Rattle.scr_world.specs.Tables.{contents_with, descriptions_of}
use Rattle.scr_world.specs.declared.command.Command.TheVariants.{Install}
use Rattle.scr_world.specs.declared.contents.Contents.{Contents}
use Rattle.scr_world.specs.declared.reply.CoreFault.{CoreFault}
use Rattle.scr_world.specs.declared.reply.CoreFault.TheVariants.{SameName, Cycle, BundlesFull, JournalFull, OutOfMemory}
use Rattle.scr_world.specs.declared.reply.Reply.TheVariants.{Bundle as InBundle}
use Rattle.scr_world.specs.declared.step.Step.TheVariants.{Command as Commanded}
use Rattle.scr_world.specs.declared.world.World.{World}

-- ---- who has the name and version

pub named_none : {X : Type 0} (f : BundleLife → X) (o : Option BundleLife) → None ≡ option_map f o → o ≡ None
named_none f None is = refl
named_none f (Some b) is = absurd cc

same_then : (o : Option BundleLife) (number : ℕ) → Some number ≡ option_map (λ (b : BundleLife). b.number) o → option_map (λ (b : BundleLife). SameName b.number) o ≡ Some (SameName number)
same_then None number is = absurd cc
same_then (Some b) number is = ap (λ (n : ℕ). Some (SameName n)) (let e : b.number ≡ number = cc in e)

-- ---- an install

-- the descriptions of the new bundle stand behind all
pub installed_descriptions : (w : World) (doc : BundleDoc) → descriptions_after w (Install doc) ≡ descriptions_of w.documents ++ doc.descriptions
installed_descriptions w doc =
    flat_map-append (λ (c : Contents). c.document.descriptions) w.documents (contents_with (w.bundles.numbered + 1) doc ∷ [])
    ∙ ap (λ ds. descriptions_of w.documents ++ ds) (append-nil doc.descriptions)

module _ (w : World) (doc : BundleDoc) (unknown : bundle_at w.bundles.rows doc.location ≡ None) where
  pub install_same : (number : ℕ) → Some number ≡ option_map (λ (b : BundleLife). b.number) (namesake doc.name doc.version 0 w.bundles.rows) → IsAllowed w (Install doc) (Err (SameName number))
  unfolding IsAllowed
  install_same number is = rw (unknown, same_then (namesake doc.name doc.version 0 w.bundles.rows) number is) refl

  module _ (fresh : None ≡ option_map (λ (b : BundleLife). b.number) (namesake doc.name doc.version 0 w.bundles.rows)) where
    no_same : namesake doc.name doc.version 0 w.bundles.rows ≡ None
    no_same = named_none (λ (b : BundleLife). b.number) (namesake doc.name doc.version 0 w.bundles.rows) fresh

    late : (levels many : Bool) → IfSome (first_some (refuse_if (not levels) (Cycle []) ∷ refuse_if many BundlesFull ∷ [])) (λ fault. takes_memory_to_refuse (Install doc) fault ≡ true)
    late false many = refl
    late true true = refl
    late true false = tt

    -- a cycle and too many bundles are all that may refuse it
    pub install_takes : IfSome (refusal w (Install doc)) (λ fault. takes_memory_to_refuse (Install doc) fault ≡ true)
    install_takes = rw (unknown, no_same) (late (has_levels (descriptions_of w.documents ++ doc.descriptions)) (nat_le 128 (length w.bundles.rows)))

    pub install_cyclic : (fault : CoreFault) → IsDescribed (descriptions_of w.documents ++ doc.descriptions) (Err fault) → IsAllowed w (Install doc) (Err fault)
    unfolding IsAllowed
    install_cyclic (Cycle path) is = (rw (unknown, no_same, is.0) refl, is.1)
    install_cyclic OutOfMemory is = install_takes
    install_cyclic fault is = absurd is

    module _ (described : Described) (are : AreDescribed (descriptions_of w.documents ++ doc.descriptions) described) where
      pub install_full : nat_le 128 (length w.bundles.rows) ≡ true → IsAllowed w (Install doc) (Err BundlesFull)
      unfolding IsAllowed
      install_full many = rw (unknown, no_same, are.has_levels, many) refl

      pub install_allowed : nat_le 128 (length w.bundles.rows) ≡ false → IsAllowed w (Install doc) (Ok described)
      unfolding IsAllowed
      install_allowed few = (rw (unknown, no_same, are.has_levels, few) refl, subst (λ ds. AreDescribed ds described) (sym (installed_descriptions w doc)) are)

-- ---- what is said of it

record IsRowOf (o : Option BundleLife) (number : ℕ) : Type 0 where
  row : BundleLife
  is : o ≡ Some row
  named : row.number ≡ number

row_of_number : (o : Option BundleLife) (number : ℕ) → Some number ≡ option_map (λ (b : BundleLife). b.number) o → IsRowOf o number
row_of_number None number is = absurd cc
row_of_number (Some b) number is = record { row = b; is = refl; named = cc }

-- a known location is answered
pub install_known : (limit : ℕ) (s : State) (doc : BundleDoc) (number : ℕ) → Some number ≡ option_map (λ (b : BundleLife). b.number) (bundle_at s.world.bundles.rows doc.location) → Judges limit s (Install doc) (Ok (Unchanged (InBundle number)))
install_known limit s doc number known =
    let at = row_of_number (bundle_at s.world.bundles.rows doc.location) number known in
    unchanged limit s (Install doc) (rw at.is refl) (InBundle number) (rw at.is refl) (rw (at.is, at.named) refl)

module _ (limit : ℕ) (s : State) (doc : BundleDoc) (unknown : bundle_at s.world.bundles.rows doc.location ≡ None) (free : refusal s.world (Install doc) ≡ None) where
  effect : has_effect s.world (Install doc) ≡ true
  effect = ap is_none unknown

  pub install_no_room : has_room limit s.world 1 ≡ false → Judges limit s (Install doc) (Err JournalFull)
  install_no_room room = no_room limit s (Install doc) free effect room

  pub install_changes : has_room limit s.world 1 ≡ true → (number : ℕ) → number ≡ s.world.bundles.numbered + 1 → (draft : Draft) → IsDraft s (Commanded (Install doc)) draft → Judges limit s (Install doc) (Ok (Changes (InBundle number) draft))
  install_changes room number numbered draft drafted = changed limit s (Install doc) free (InBundle number) draft effect room (rw (unknown, numbered) refl) drafted
