use Rattle.std.proofs.Common.{◌≡◌, ◌∙◌, ◌++◌, List, ap, map, subst}
use Rattle.bundle_wiring.specs.ByNeed.{AreWired, wired_of}
use Rattle.bundle_wiring.specs.Resolution.{Bundle}
use Rattle.wiring_reader.specs.Lines.{head_lines, paired, resolved_wires}
use Rattle.wiring_reader.specs.Parts.{bundles_of, head_of}
use Rattle.wiring_reader.specs.declared.parts.Head.{Head}
use Rattle.wiring_reader.proofs.KeptParts.{bundles_are}
use Rattle.wiring_reader.proofs.Pairs.{wiring_told}
use Rattle.wiring_reader.proofs.lines.kept_wiring_lines.Goals as goal

pub returns : goal.returns
returns c =
    let cs = c.args.documents.now in
    let wired = map (map wired_of) c.in_ok-wired.wired.items in
    let are : AreWired (bundles_of cs) wired = subst (λ (bs : List Bundle). AreWired bs wired) (c.as_slice-2.ensures.value ∙ bundles_are cs c.args.kept.now c.requires) c.in_ok-wired.ensures in
    let heads : c.as_slice-3.result.now ≡ map head_of cs = c.as_slice-3.ensures.value ∙ c.in_ok-heads.ensures in
    let rows = map (map wired_of) c.as_slice-4.result.now in
    wiring_told cs wired c.of.result are
    (c.of.ensures
    ∙ (c.in_ok-lines.ensures
    ∙ (ap (λ (hs : List Head). paired head_lines hs rows ++ paired resolved_wires hs rows) heads
    ∙ ap (λ (ws : _). paired head_lines (map head_of cs) (map (map wired_of) ws) ++ paired resolved_wires (map head_of cs) (map (map wired_of) ws)) c.as_slice-4.ensures.value)))
