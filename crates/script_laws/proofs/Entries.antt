-- What a legal journal grows to by a step is one journal.
use Rattle.std.proofs.Common.{◌≡◌, ℕ, List, [], ◌∷◌, ◌++◌, ap, sym, ◌∙◌, subst}
use Rattle.journal_core.specs.declared.entry.Entry.{Entry}
use Rattle.scr_laws.proofs.SameSteps.{one_entry}
use Rattle.scr_world.specs.Calls.{Grown}
use Rattle.scr_world.specs.Legal.{IsLegal}
use Rattle.scr_world.specs.Steps.{history_of}
use Rattle.scr_world.specs.declared.step.Step.{Step}

pub grown_once : (limit : ℕ) (old : List (Entry Step)) (step : Step) (one other : List (Entry Step)) → IsLegal limit (history_of old) → Grown limit old step one → Grown limit old step other → one ≡ other
grown_once limit old step one other legal (x, its, follows, grew) (y, its', follows', grew') =
    grew ∙ ap (λ (e : Entry Step). old ++ e ∷ []) (one_entry limit limit (history_of old) legal x y follows follows' (its ∙ sym its')) ∙ sym grew'

-- by the same step too, where it is told otherwise
pub grown_alike : (limit : ℕ) (old : List (Entry Step)) (step same : Step) (one other : List (Entry Step)) → IsLegal limit (history_of old) → step ≡ same → Grown limit old step one → Grown limit old same other → one ≡ other
grown_alike limit old step same one other legal is grown grown' =
    grown_once limit old same one other legal (subst (λ (s : Step). Grown limit old s one) is grown) grown'
