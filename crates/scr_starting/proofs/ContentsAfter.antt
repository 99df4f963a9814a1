-- What is kept of the documents where each stays.
use Rattle.std.proofs.Common.{◌≡◌, ◌∙◌, List, [], ◌∷◌, ◌++◌, ap, refl, sym}
use Rattle.std.specs.Prelude.{map}
use Rattle.bundle_doc.specs.declared.document.BundleDoc.{BundleDoc}
use Rattle.component_dto.specs.declared.description.Description.{Description}
use Rattle.journal_core.specs.Rooms.{JournalRows}
use Rattle.scr_state.specs.Keeps.{Keeps}
use Rattle.scr_state.specs.declared.state.State.{State}
use Rattle.scr_world.specs.Levels.{levels_of}
use Rattle.scr_world.specs.Tables.{descriptions_of}
use Rattle.scr_world.specs.declared.contents.Contents.{Contents}
use Rattle.scr_world.specs.declared.step.Step.{Step}

same_descriptions : (f : Contents → Contents) → ((c : Contents) → (f c).document ≡ c.document) → (cs : List Contents) → descriptions_of (map f cs) ≡ descriptions_of cs
same_descriptions f same [] = refl
same_descriptions f same (c ∷ cs) =
    ap (λ (d : BundleDoc). d.descriptions ++ descriptions_of (map f cs)) (same c)
    ∙ ap (λ (ds : List Description). c.document.descriptions ++ ds) (same_descriptions f same cs)

module _ (j : JournalRows Step) (s : State) (keeps : Keeps j s) (f : Contents → Contents) (same : (c : Contents) → (f c).document ≡ c.document) where
  pub descriptions_stay : s.descriptions ≡ descriptions_of (map f s.world.documents)
  descriptions_stay = keeps.descriptions ∙ sym (same_descriptions f same s.world.documents)

  pub levels_stay : s.levels ≡ levels_of (descriptions_of (map f s.world.documents))
  levels_stay = keeps.levels ∙ ap levels_of descriptions_stay
