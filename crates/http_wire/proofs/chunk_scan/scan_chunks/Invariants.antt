use Rattle.std.proofs.Common.{length}
use Rattle.http_wire.specs.ChunkScan.{IsBehind}
use Rattle.http_wire.proofs.chunk_scan.scan_chunks.Given as goal

abbrev pub invariant-loop-found : goal.invariant-loop-found
invariant-loop-found l = IsBehind l.fn.bytes l.content.items l.rest

abbrev pub decreases-loop-found : goal.decreases-loop-found
decreases-loop-found l = length l.rest
