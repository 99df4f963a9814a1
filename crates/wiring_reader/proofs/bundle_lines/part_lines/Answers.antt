use Rattle.std.proofs.Common.{◌≡◌, ◌∙◌, ◌++◌, ◌<◌, List, ap, arith, length, map, subst, sym}
use Rattle.std.proofs.lemmas.List.{length-map}
use Rattle.bundle_wiring.specs.ByNeed.{AreWired, wired_of}
use Rattle.bundle_wiring.specs.Resolution.{Bundle}
use Rattle.wiring_reader.specs.Lines.{need_line_of}
use Rattle.wiring_reader.specs.Parts.{bundle_of, bundles_of}
use Rattle.wiring_reader.specs.Telling.{offer_line}
use Rattle.wiring_reader.proofs.Pairs.{part_at}
use Rattle.wiring_reader.proofs.bundle_lines.part_lines.Goals as goal

pub returns : goal.returns
returns c cs d same =
    let row = c.index-rows-place.result in
    let are : AreWired (bundles_of cs) (map (map wired_of) c.in_ok-wired.wired.items) = subst (λ (bs : List Bundle). AreWired bs (map (map wired_of) c.in_ok-wired.wired.items)) same c.in_ok-wired.ensures in
    let rows_are : AreWired (bundles_of cs) (map (map wired_of) c.as_slice-rows.result.now) = subst (λ (ws : _). AreWired (bundles_of cs) (map (map wired_of) ws)) (sym c.as_slice-rows.ensures.value) are in
    let long = ap length same ∙ length-map cs bundle_of in
    let inside = c.requires in
    let low : c.args.place < length cs = omega (arith, inside, long) in
    part_at cs c.args.place d c.as_slice-rows.result.now row c.args.bundles.now c.index-bundles-place.result c.of.result low same rows_are c.index-rows-place.is c.index-bundles-place.is
    (c.of.ensures
    ∙ (c.in_ok-lines.ensures
    ∙ (ap (λ (ns : _). map need_line_of (map wired_of ns) ++ map offer_line c.as_slice-2.result.now) c.as_slice.ensures
    ∙ (ap (λ (os : _). map need_line_of (map wired_of row) ++ map offer_line os) c.as_slice-2.ensures
    ∙ ap (λ (b : Bundle). map need_line_of (map wired_of row) ++ map offer_line b.1.offers) (sym c.index-bundles-place.is)))))
