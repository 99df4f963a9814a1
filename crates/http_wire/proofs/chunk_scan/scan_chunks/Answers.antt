use Rattle.std.proofs.Common.{List, ℕ, sym, subst}
use Rattle.http_wire.specs.ChunkScan.{IsBehind}
use Rattle.http_wire.proofs.ChunkScanLemmas.{behind_one_more, behind_all}
use Rattle.http_wire.proofs.chunk_scan.scan_chunks.Goals as goal

pub loop-found-preserved : goal.loop-found-preserved
loop-found-preserved c =
    let begins = rw c.in-Full.is at c.in-Some.ensures.some in
    subst (λ (t : List ℕ). IsBehind c.args.bytes.now t c.in-Full.after.now) (sym c.in_ok-extend_from_slice-in-Full.ensures.items)
    (behind_one_more c.args.bytes.now c.loop-found.content.items c.loop-found.rest.now c.in-Full.chunk.now c.in-Full.after.now c.loop-found.invariant begins)

pub returns-in-Last : goal.returns-in-Last
returns-in-Last c =
    let begins = rw c.in-Last.is at c.in-Some.ensures.some in
    behind_all c.args.bytes.now c.loop-found.content.items c.loop-found.rest.now c.in-Last.after.now c.loop-found.invariant begins
