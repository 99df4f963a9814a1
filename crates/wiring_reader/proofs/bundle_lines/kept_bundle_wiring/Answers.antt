use Rattle.std.proofs.Common.{◌∙◌, ◌<◌, arith, length, subst, sym}
use Rattle.std.specs.Prelude.{◌==◌}
use Rattle.kept_wirings.specs.DocumentWirings.{wiring_in}
use Rattle.scr_world.specs.declared.contents.Contents.{Contents}
use Rattle.wiring_reader.specs.Telling.{TellsNeeds}
use Rattle.wiring_reader.proofs.KeptParts.{as_many_bundles, as_many_faults}
use Rattle.wiring_reader.proofs.Places.{found_low, found_nowhere, found_there}
use Rattle.wiring_reader.proofs.bundle_lines.kept_bundle_wiring.Goals as goal

pub lines_at-requires-clause-bundles : goal.lines_at-requires-clause-bundles
lines_at-requires-clause-bundles c =
    let low = found_low (λ (e : Contents). e.bundle == c.args.bundle) c.args.documents.now c.in-Some.place (sym c.in-Some.ensures) in
    let long = as_many_bundles c.args.documents.now c.args.kept.now c.requires in
    omega (arith, low, long)

pub lines_at-requires-clause-faults : goal.lines_at-requires-clause-faults
lines_at-requires-clause-faults c =
    let low = found_low (λ (e : Contents). e.bundle == c.args.bundle) c.args.documents.now c.in-Some.place (sym c.in-Some.ensures) in
    let long = as_many_faults c.args.documents.now c.args.kept.now c.requires in
    omega (arith, low, long)

pub returns-in_ok-lines_at-in-Some : goal.returns-in_ok-lines_at-in-Some
returns-in_ok-lines_at-in-Some c =
    let cs = c.args.documents.now in
    let lines = c.in_ok-lines_at-in-Some.field-0 in
    let found = found_there (λ (e : Contents). e.bundle == c.args.bundle) cs c.in-Some.place (sym c.in-Some.ensures) in
    (found.0, found.1, subst (λ (e : Contents). TellsNeeds cs (wiring_in e) lines) found.2 (c.in_ok-lines_at-in-Some.ensures cs found.0 c.requires))

pub returns-in-None : goal.returns-in-None
returns-in-None c = found_nowhere (λ (e : Contents). e.bundle == c.args.bundle) c.args.documents.now (sym c.in-None.ensures)
