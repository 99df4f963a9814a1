use Rattle.std.proofs.Common.{◌≡◌, map, take}
use Rattle.std.specs.Prelude.{filter}
use Rattle.scr_readers.specs.ServiceViews.{holder_by, holds_for}
use Rattle.scr_readers.proofs.service_views.holders_for.Given as goal

abbrev pub invariant-loop-reference : goal.invariant-loop-reference
invariant-loop-reference l = l.holders.items ≡ map (holder_by l.instance) (filter (holds_for l.service l.instance) (take l.reference-index l.references))
