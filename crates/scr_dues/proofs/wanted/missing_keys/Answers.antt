use Rattle.std.proofs.Common.{◌∙◌}
use Rattle.std.specs.Prelude.{flat_map}
use Rattle.scr_dues.specs.Desires.{all_desiring, are_desiring}
use Rattle.scr_dues.specs.Wanting.{missing_for_where}
use Rattle.scr_dues.proofs.Desired.{missing_same}
use Rattle.scr_dues.proofs.Keys.{missing_by_component}
use Rattle.scr_dues.proofs.wanted.missing_keys.Goals as goal

pub returns : goal.returns
returns c =
    let w = c.args.world.now in
    c.in_ok-keys.ensures
    ∙ (λ j. flat_map (missing_for_where w (are_desiring ((c.deref.ensures.value ∙ c.in_ok-desiring.ensures) j))) (c.as_slice.ensures j))
    ∙ missing_by_component w (are_desiring (all_desiring w)) ∙ missing_same w
