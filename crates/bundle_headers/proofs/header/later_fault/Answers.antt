use Rattle.std.proofs.Common.{◌∙◌}
use Rattle.bundle_headers.proofs.HeaderLemmas.{fault_of_no_text, fault_of_none, fault_of_repeated}
use Rattle.bundle_headers.proofs.header.later_fault.Goals as goal

pub returns-in-Err : goal.returns-in-Err
returns-in-Err c =
    fault_of_no_text c.args.text.now c.args.repeats c.args.folded.now c.valid_up_to.result c.no_text.result c.in-Err.ensures.cases.0 (c.valid_up_to.ensures ∙ c.in-Err.ensures.valid_len) c.no_text.ensures

pub returns-in-Ok : goal.returns-in-Ok
returns-in-Ok c = fault_of_repeated c.args.text.now c.args.repeats c.args.folded.now c.in-Ok.ensures.cases.1 c.if-repeats.true

pub returns-in-Ok-2 : goal.returns-in-Ok-2
returns-in-Ok-2 c = fault_of_none c.args.text.now c.args.repeats c.args.folded.now c.in-Ok-2.ensures.cases.1 c.if-repeats.false
