use Rattle.std.proofs.Common.{◌≡◌, ◌<◌, ◌∙◌, Some, None, arith, get_or, length, sym, subst}
use Rattle.std.proofs.lemmas.Result.{IfOk-weaker}
use Rattle.kept_wirings.specs.DocumentWirings.{fault_of, wiring_in}
use Rattle.wiring_reader.proofs.KeptParts.{as_many_faults, bundles_are, fault_at}
use Rattle.wiring_reader.proofs.Pairs.{fault_told, needs_told}
use Rattle.wiring_reader.proofs.bundle_lines.lines_at.Goals as goal

pub returns-in-Some : goal.returns-in-Some
returns-in-Some c =
    IfOk-weaker c.fault_line.result _ _
    (λ lines told cs d kept.
    let long = as_many_faults cs c.args.kept.now kept in
    let inside = c.requires.faults in
    let low : c.args.place < length cs = omega (arith, inside, long) in
    let at = fault_at cs c.args.kept.now.faults.items c.args.place c.index.result.now d kept.faults low c.index.ensures in
    fault_told cs (wiring_in (get_or cs c.args.place d)) c.in-Some.fault lines (sym at ∙ c.in-Some.is) told)
    c.fault_line.ensures

pub returns-in-None : goal.returns-in-None
returns-in-None c =
    IfOk-weaker c.part_lines.result _ _
    (λ lines told cs d kept.
    let long = as_many_faults cs c.args.kept.now kept in
    let inside = c.requires.faults in
    let low : c.args.place < length cs = omega (arith, inside, long) in
    let at = fault_at cs c.args.kept.now.faults.items c.args.place c.index.result.now d kept.faults low c.index.ensures in
    needs_told cs (wiring_in (get_or cs c.args.place d)) lines (sym at ∙ c.in-None.is) (told cs d (c.as_slice.ensures.value ∙ bundles_are cs c.args.kept.now kept)))
    c.part_lines.ensures
