use Rattle.std.proofs.Common.{◌∙◌, ap, sym}
use Rattle.std.specs.Prelude.{find, ◌==◌}
use Rattle.scr_world.specs.declared.instance.Instance.{Instance}
use Rattle.scr_dues.proofs.KnownPlaces.{found_number, found_there}
use Rattle.scr_dues.proofs.following.references_to_make.Goals as goal

pub returns-in-Some : goal.returns-in-Some
returns-in-Some c =
    let w = c.args.world.now in
    let i = c.in-Some.instance.now in
    let found = sym (c.in-Some.ensures ∙ ap (find (λ (j : Instance). j.number == c.args.number)) c.as_slice.ensures) in
    λ some. (i, found_there w c.args.number i found, found_number w c.args.number i found)
