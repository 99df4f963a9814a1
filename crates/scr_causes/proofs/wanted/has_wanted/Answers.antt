use Rattle.std.proofs.Common.{◌∙◌, ap, sym, subst, Bool, Some}
use Rattle.std.specs.Prelude.{◌≡◌, ◌==◌, IfOk, find}
use Rattle.component_state.specs.declared.open_period.OpenPeriod.{OpenPeriod}
use Rattle.scr_causes.proofs.WantedLemmas.{wanted_by}
use Rattle.scr_causes.proofs.wanted.has_wanted.Goals as goal

pub returns-in-Some : goal.returns-in-Some
returns-in-Some c =
    let found = sym (c.in-Some.ensures ∙ ap (find (λ (p : OpenPeriod). p.configuration == c.args.component.now.number)) c.as_slice.ensures) in
    subst (λ (b : Bool). IfOk c.is_wanted_here.result (λ is. is ≡ b)) (sym (wanted_by c.args.world.now c.args.component.now (Some c.in-Some.period.now) found)) c.is_wanted_here.ensures
