-- Still entries of legal journals close, open and stop nothing.
use Rattle.std.proofs.Common.{◌≡◌, ℕ, List, [], ◌∷◌, ap, ◌∙◌, true}
use Rattle.component_state.specs.declared.pass.Passed.{Passed}
use Rattle.component_state.proofs.OnePass.{one_pass}
use Rattle.journal_core.specs.declared.entry.Entry.{Entry}
use Rattle.scr_world.specs.declared.step.Step.{Step}
use Rattle.scr_world.specs.Consequences.{stage_of}
use Rattle.scr_world.specs.Legal.{IsLegal}
use Rattle.scr_world.specs.Lists.{world_of}
use Rattle.scr_world.specs.Steps.{History}
use Rattle.scr_laws.specs.Entries.{IsCalm, is_still_step, passed_by}
use Rattle.scr_laws.specs.Stills.{passed_nothing}
use Rattle.scr_laws.proofs.LegalCalm.{legal_is_calm}
use Rattle.scr_laws.proofs.Passing.{follows_passes}
use Rattle.scr_laws.proofs.ReadyStages.{legal_begun, legal_ready}
use Rattle.scr_laws.proofs.Sounding.{legal_sound}
use Rattle.scr_laws.proofs.StillEntries.{nothing_stops, stage_is_still}
use Rattle.scr_laws.proofs.Stillness.{passes_nothing}

-- the world of every legal journal is calm
pub legal_calm : (limit : ℕ) (past : History) → IsLegal limit past → IsCalm (world_of past)
legal_calm limit past legal = legal_is_calm limit past legal (legal_sound limit past legal)

-- a still entry closes, opens and stops nothing
pub legal_still : (limit : ℕ) (entry : Entry Step) (past : History) → IsLegal limit (entry ∷ past) → is_still_step entry.step (world_of past) ≡ true → (entry.closed ≡ []) × (entry.opened ≡ []) × (entry.stopped ≡ [])
legal_still limit entry past legal is =
    let calm = legal_calm limit past legal.1 in
    let s = stage_of entry.step (world_of past) in
    let still = stage_is_still (world_of past) calm entry.step legal.0.step is in
    let one = one_pass s (legal_ready limit past legal.1 entry.step legal.0.step) (legal_begun limit past legal.1 entry.step legal.0.step) (passed_by entry (world_of past)) (passed_nothing s) (follows_passes limit entry past legal.0) (passes_nothing s still) in
    (ap (λ (p : Passed). p.closed) one, ap (λ (p : Passed). p.opened) one, legal.0.stopped ∙ nothing_stops (world_of past) calm entry.step is)
