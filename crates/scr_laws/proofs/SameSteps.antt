-- Two legal journals with the same steps are equal.
use Rattle.std.proofs.Common.{◌≡◌, ℕ, List, [], ◌∷◌, ap, sym, ◌∙◌, refl, subst}
use Rattle.component_state.specs.declared.pass.Passed.{Passed}
use Rattle.component_state.specs.Passes.{HasPassed}
use Rattle.component_state.proofs.OnePass.{one_pass}
use Rattle.journal_core.specs.declared.entry.Entry.{Entry}
use Rattle.journal_core.specs.declared.entry.Opened.{Opened}
use Rattle.scr_world.specs.declared.step.Step.{Step}
use Rattle.scr_world.specs.Consequences.{stage_of, stopped_by}
use Rattle.scr_world.specs.Legal.{Follows, IsLegal}
use Rattle.scr_world.specs.Lists.{world_of}
use Rattle.scr_world.specs.Steps.{History}
use Rattle.scr_laws.specs.Entries.{passed_by}
use Rattle.scr_laws.specs.Journals.{steps_of}
use Rattle.scr_laws.proofs.Passing.{follows_passes}
use Rattle.scr_laws.proofs.ReadyStages.{legal_begun, legal_ready}

made : Step → List ℕ → List Opened → List ℕ → Entry Step
made step closed opened stopped = record { step = step; closed = closed; opened = opened; stopped = stopped }

same_entry : (x y : Entry Step) → x.step ≡ y.step → x.closed ≡ y.closed → x.opened ≡ y.opened → x.stopped ≡ y.stopped → x ≡ y
unfolding made
same_entry x y a b c d = ap (λ s. made s x.closed x.opened x.stopped) a ∙ ap (λ k. made y.step k x.opened x.stopped) b ∙ ap (λ k. made y.step y.closed k x.stopped) c ∙ ap (λ k. made y.step y.closed y.opened k) d

-- two entries with one step that may follow a legal journal are equal
pub one_entry : (limit more : ℕ) (past : History) → IsLegal limit past → (x y : Entry Step) → Follows limit x past → Follows more y past → x.step ≡ y.step → x ≡ y
one_entry limit more past legal x y f g same =
    let s = stage_of x.step (world_of past) in
    let p = passed_by x (world_of past) in
    let q = passed_by y (world_of past) in
    let first : HasPassed s p = follows_passes limit x past f in
    let second : HasPassed s q = subst (λ (t : Step). HasPassed (stage_of t (world_of past)) q) (sym same) (follows_passes more y past g) in
    let one : p ≡ q = one_pass s (legal_ready limit past legal x.step f.step) (legal_begun limit past legal x.step f.step) p q first second in
    same_entry x y same (ap (λ (r : Passed). r.closed) one) (ap (λ (r : Passed). r.opened) one) (f.stopped ∙ ap (λ (t : Step). stopped_by t (world_of past)) same ∙ sym g.stopped)

pub same_steps : (limit more : ℕ) (these those : History) → IsLegal limit these → IsLegal more those → steps_of these ≡ steps_of those → these ≡ those
same_steps limit more [] [] legal other same = refl
same_steps limit more [] (y ∷ ys) legal other same = cc
same_steps limit more (x ∷ xs) [] legal other same = cc
same_steps limit more (x ∷ xs) (y ∷ ys) legal other same =
    let first : x.step ≡ y.step = cc in
    let rest : steps_of xs ≡ steps_of ys = cc in
    let past = same_steps limit more xs ys legal.1 other.1 rest in
    let entry = one_entry limit more xs legal.1 x y legal.0 (subst (λ (h : History). Follows more y h) (sym past) other.0) first in
    ap (λ e. e ∷ xs) entry ∙ ap (λ h. y ∷ h) past
