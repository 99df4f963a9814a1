use Rattle.std.proofs.Common.{◌≡◌, ◌≤◌, take}
use Rattle.std.specs.Prelude.{count_by}
use Rattle.http_wire.specs.HeadFronts.{is_feed}
use Rattle.http_wire.proofs.head_reading.count_feeds.Given as goal

abbrev pub invariant-loop-byte : goal.invariant-loop-byte
invariant-loop-byte l = (l.count ≡ count_by is_feed (take l.byte-index l.bytes)) × (l.count ≤ l.byte-index)
