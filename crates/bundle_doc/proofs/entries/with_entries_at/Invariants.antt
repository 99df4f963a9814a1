use Rattle.std.proofs.Common.{◌≡◌, drop}
use Rattle.std.specs.List.{filter_map, slice_get}
use Rattle.bundle_doc.specs.Entries.{with_new}
use Rattle.bundle_doc.proofs.entries.with_entries_at.Given as goal

abbrev pub invariant-loop-place : goal.invariant-loop-place
invariant-loop-place l = with_new l.found (filter_map (slice_get l.entries) (drop l.place-index l.places)) ≡ with_new l.initial.found (filter_map (slice_get l.entries) l.places)
