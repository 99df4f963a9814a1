use Rattle.std.proofs.Common.{◌∙◌, ap, sym}
use Rattle.std.specs.Prelude.{option_map}
use Rattle.component_state.specs.declared.open_period.OpenPeriod.{OpenPeriod}
use Rattle.scr_turns.proofs.KnownRows.{found_open}
use Rattle.scr_turns.proofs.revisions.row_among.Goals as goal

pub returns-in-Some : goal.returns-in-Some
returns-in-Some c = ap (option_map (λ (p : OpenPeriod). p.row)) c.in-Some.ensures ∙ sym (found_open c.args.periods.now c.args.service c.requires)

pub returns-in-None : goal.returns-in-None
returns-in-None c = ap (option_map (λ (p : OpenPeriod). p.row)) c.in-None.ensures ∙ sym (found_open c.args.periods.now c.args.service c.requires)
