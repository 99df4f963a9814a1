use Rattle.std.proofs.Common.{◌≡◌, rules, ◌∙◌, arith, get_or}
use Rattle.world_keeper.specs.KeptWorlds.{with_mark}
use Rattle.world_keeper.proofs.Mapped.{mapped_all, mapped_more, mapped_none}
use Rattle.world_keeper.proofs.bundles.mark.Goals as goal

pub loop-bundle-init : goal.loop-bundle-init
loop-bundle-init c = mapped_none (with_mark c.args.location.now c.args.yes) c.args.bundles.now

pub loop-bundle-preserved : goal.loop-bundle-preserved
loop-bundle-preserved c =
    let f = with_mark c.args.location.now c.args.yes in
    let item = c.bundle-item.result in
    let there = get_or c.loop-bundle.bundles c.loop-bundle.bundle-index item in
    let new : c.mark_one.new.bundle ≡ f there = first_of (cc (c.mark_one.ensures), search (rules, c.mark_one.ensures)) in
    mapped_more f c.loop-bundle.bundle-index c.args.bundles.now c.loop-bundle.bundles item c.mark_one.new.bundle (omega arith) c.loop-bundle.invariant new

pub returns : goal.returns
returns c = c.loop-bundle.invariant ∙ mapped_all (with_mark c.args.location.now c.args.yes) c.loop-bundle.bundle-index c.args.bundles.now (omega arith)
