use Rattle.std.proofs.Common.{List, ℕ, length, sym, ap, ◌∙◌, subst}
use Rattle.http_wire.specs.ChunkContinuation.{NeedsOf, IsWholeBody, needs_behind, needs_ended}
use Rattle.http_wire.proofs.ChunkNeedsLemmas.{needs_in_trailers, needs_behind_rest}
use Rattle.http_wire.proofs.chunk_needs.body_needs.Goals as goal

pub returns-in_ok-count-in-Ended : goal.returns-in_ok-count-in-Ended
returns-in_ok-count-in-Ended c =
    let ended = rw c.in-Ended.is at c.in_ok-content.ensures in
    subst (NeedsOf IsWholeBody c.args.bytes.now) (sym (c.needs_ended.ensures ∙ ap (λ (t : List ℕ). needs_ended (length t) c.in_ok-count-in-Ended.count) c.as_slice.ensures.value))
    (needs_in_trailers c.args.bytes.now c.in-Ended.content.items c.in-Ended.rest.now ended c.in_ok-count-in-Ended.count c.in_ok-count-in-Ended.ensures)

pub returns-in_ok-needs-in-Stuck : goal.returns-in_ok-needs-in-Stuck
returns-in_ok-needs-in-Stuck c =
    let stuck = rw c.in-Stuck.is at c.in_ok-content.ensures in
    subst (NeedsOf IsWholeBody c.args.bytes.now) (sym (c.needs_behind.ensures ∙ ap (λ (t : List ℕ). needs_behind (length t) c.in_ok-needs-in-Stuck.needs) c.as_slice-in-Stuck.ensures.value))
    (needs_behind_rest c.args.bytes.now c.in-Stuck.content.items c.in-Stuck.rest.now stuck.0 c.in_ok-needs-in-Stuck.needs c.in_ok-needs-in-Stuck.ensures)
