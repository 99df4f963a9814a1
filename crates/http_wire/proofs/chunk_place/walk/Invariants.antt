use Rattle.std.proofs.Common.{ℕ, List, ◌++◌, take}
use Rattle.http_wire.specs.ChunkPlaces.{EndsAt}
use Rattle.http_wire.proofs.chunk_place.walk.Given as goal

abbrev pub invariant-loop-byte : goal.invariant-loop-byte
invariant-loop-byte l = (front : List ℕ) → EndsAt front l.fn.from → EndsAt (front ++ take l.byte-index l.bytes) l.reached
