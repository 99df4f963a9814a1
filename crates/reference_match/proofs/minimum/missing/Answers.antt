use Rattle.std.proofs.Common.{filter, sym, ◌∙◌}
use Rattle.std.proofs.lemmas.List.Elements.{filter-append}
use Rattle.reference_match.specs.Targets.{meets}
use Rattle.reference_match.proofs.Found.{enough}
use Rattle.reference_match.proofs.minimum.missing.Goals as goal

pub returns-then-left-eq0 : goal.returns-then-left-eq0
returns-then-left-eq0 c =
    enough (filter (meets c.args.need.now)) (filter-append (meets c.args.need.now)) c.loop-row.row-index c.args.wanted c.args.rows.now (sym c.if-left-eq0.true ∙ c.loop-row.invariant)
