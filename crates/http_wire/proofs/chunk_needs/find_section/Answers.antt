use Rattle.std.proofs.Common.{◌≡◌, ◌∙◌, ◌+◌, ◌/◌, length, arith, Option, Some, None}
use Rattle.std.specs.Prelude.{IfNone}
use Rattle.http_wire.proofs.ContinuationLemmas.{section_fits}
use Rattle.http_wire.proofs.chunk_needs.find_section.Goals as goal

weaker : {A : Type 0} (o : Option A) {P Q : Type 0} → (P → Q) → IfNone o P → IfNone o Q
weaker None step h = step h
weaker (Some x) step h = h

pub returns-clause-none : goal.returns-clause-none
returns-clause-none c =
    let size : length c.deref_mut.result.now ≡ length c.args.bytes.now / 3 + 1 = c.deref_mut.ensures.len ∙ c.in_ok-resize.ensures.len in
    weaker c.find_section_in.result
    (λ none fields end rest r. none fields end rest r (omega (arith, size, section_fits c.args.bytes.now fields end rest r)))
    c.find_section_in.ensures.none
