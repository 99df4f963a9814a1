use Rattle.std.proofs.Common.{◌∙◌, sym}
use Rattle.scr_consequences.proofs.GetLemmas.{none_ends}
use Rattle.scr_consequences.proofs.gets.gets_left.Goals as goal

pub returns-then-may_end-clause-standing : goal.returns-then-may_end-clause-standing
returns-then-may_end-clause-standing c = λ was stood are. record { uses = c.in_ok-uses_in.ensures; tokens = c.in_ok-tokens_in.ensures }

pub returns-clause-standing : goal.returns-clause-standing
returns-clause-standing c = λ was stood are.
    none_ends c.args.step.now was c.args.now.now c.args.left.now (sym c.may_end.ensures ∙ c.if-may_end.false) stood are
