use Rattle.std.proofs.Common.{◌≡◌, drop}
use Rattle.std.specs.List.{list_any}
use Rattle.wb_filters.specs.Chains.{has_place}
use Rattle.wb_filters.proofs.filters.has_place.Given as goal

abbrev pub invariant-loop-text : goal.invariant-loop-text
invariant-loop-text l = list_any (has_place l.rest) l.texts ≡ list_any (has_place l.rest) (drop l.text-index l.texts)
