use Rattle.std.proofs.Common.{◌≡◌, drop}
use Rattle.wb_context.specs.ContextForms.{has_full_segments}
use Rattle.wb_context.proofs.context_forms.has_full_segments.Given as goal

abbrev pub invariant-loop-place : goal.invariant-loop-place
invariant-loop-place l = has_full_segments l.text ≡ has_full_segments (drop l.place l.text)
