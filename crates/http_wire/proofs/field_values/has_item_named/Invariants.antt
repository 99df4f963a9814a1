use Rattle.std.proofs.Common.{◌≡◌, false, map, take}
use Rattle.httparse.specs.Spans.{header_bytes}
use Rattle.http_wire.specs.FieldValues.{has_item_named}
use Rattle.http_wire.proofs.field_values.has_item_named.Given as goal

abbrev pub invariant-loop-field : goal.invariant-loop-field
invariant-loop-field l = has_item_named l.name l.word (map (header_bytes l.bytes) (take l.field-index l.fields)) ≡ false
