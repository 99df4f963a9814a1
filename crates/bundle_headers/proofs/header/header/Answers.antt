use Rattle.std.proofs.Common.{sym, ◌∙◌}
use Rattle.bundle_headers.proofs.HeaderLemmas.{text_without_fault}
use Rattle.bundle_headers.proofs.header.header.Goals as goal

pub name_and_value-requires-clause-utf8 : goal.name_and_value-requires-clause-utf8
name_and_value-requires-clause-utf8 c = text_without_fault c.as_slice-text.result.now c.in_ok-repeats.repeats c.args.folded.now (sym c.later_fault.ensures ∙ c.in_default.is)
