use Rattle.std.proofs.Common.{◌≡◌, ◌≤◌, length, map, take}
use Rattle.httparse.specs.Spans.{header_bytes}
use Rattle.http_wire.specs.FieldValues.{values_named}
use Rattle.http_wire.proofs.field_values.count_named.Given as goal

abbrev pub invariant-loop-field : goal.invariant-loop-field
invariant-loop-field l =
    (l.count ≡ length (values_named l.name (map (header_bytes l.bytes) (take l.field-index l.fields)))) × (l.count ≤ l.field-index)
