use Rattle.std.proofs.Common.{List, ℕ, sym, ap, ◌∙◌, subst}
use Rattle.std.proofs.lemmas.List.{take_rest}
use Rattle.http_wire.specs.ChunkContinuation.{NeedsOf, IsWholeBody, needs_of_chunk}
use Rattle.http_wire.proofs.ChunkNeedsLemmas.{needs_after_line, needs_in_line, never_line}
use Rattle.http_wire.proofs.chunk_needs.stuck_needs.Goals as goal

pub returns-in-Some : goal.returns-in-Some
returns-in-Some c =
    let line = c.in-Some.ensures.some in
    subst (NeedsOf IsWholeBody c.args.bytes.now) (sym (c.needs_of_chunk.ensures ∙ ap (λ (t : List ℕ). needs_of_chunk t c.in-Some.size) (take_rest c.args.bytes.now c.in-Some.at)))
    (needs_after_line c.args.bytes.now c.in-Some.at c.in-Some.size line.0 line.1 c.requires)

pub returns-in-None-2 : goal.returns-in-None-2
returns-in-None-2 c = never_line c.args.bytes.now c.in-None.ensures.none (rw c.in-None-2.is at c.in_ok-cut_line-in-None.ensures.none)

pub returns-in-Some-2 : goal.returns-in-Some-2
returns-in-Some-2 c =
    subst (NeedsOf IsWholeBody c.args.bytes.now) (sym c.needs_of_line.ensures)
    (needs_in_line c.args.bytes.now c.in-Some-2.lacking c.in-Some-2.size c.in-None.ensures.none (rw c.in-Some-2.is at c.in_ok-cut_line-in-None.ensures.some))
