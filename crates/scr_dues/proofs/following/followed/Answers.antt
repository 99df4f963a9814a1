use Rattle.std.proofs.Common.{◌≤◌, arith, subst}
use Rattle.scr_dues.proofs.KnownPlaces.{fresh}
use Rattle.scr_dues.proofs.following.followed.Goals as goal

pub returns : goal.returns
returns c =
    let w = c.args.world.now in
    let wider = c.if-more-followed.false in
    let one = c.references_to_make-more.ensures (omega (arith, wider)) in
    fresh w c.in-Some-Bind.instance (subst (λ n. n ≤ w.instances_numbered) one.2 (c.requires.numbered.given one.0 one.1))
