use Rattle.std.proofs.Common.{◌≡◌, ◌∙◌, sym}
use Rattle.http_wire.specs.InsideTarget.{is_inside}
use Rattle.http_wire.proofs.InsideTargetLemmas.{inside_sound, inside_complete}
use Rattle.http_wire.proofs.inside_target.ends_inside.Goals as goal

pub returns : goal.returns
returns c =
    let none = rw c.in_default.is at c.after_empty_line.ensures.none in
    let same : c.is_inside_line.result ≡ is_inside c.args.bytes.now = c.is_inside_line.ensures ∙ sym none ∙ c.loop-after.invariant in
    (λ yes. inside_sound _ (sym same ∙ yes), λ p. same ∙ inside_complete _ p)
