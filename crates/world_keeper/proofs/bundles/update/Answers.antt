use Rattle.std.proofs.Common.{◌≡◌, rules, ◌∙◌, arith, get_or}
use Rattle.world_keeper.specs.KeptWorlds.{with_document}
use Rattle.world_keeper.proofs.Mapped.{mapped_all, mapped_more, mapped_none}
use Rattle.world_keeper.proofs.bundles.update.Goals as goal

pub loop-bundle-init : goal.loop-bundle-init
loop-bundle-init c = mapped_none (with_document c.args.location.now c.args.document.now) c.args.bundles.now

pub loop-bundle-preserved : goal.loop-bundle-preserved
loop-bundle-preserved c =
    let f = with_document c.args.location.now c.args.document.now in
    let item = c.bundle-item.result in
    let there = get_or c.loop-bundle.bundles c.loop-bundle.bundle-index item in
    let new : c.update_one.new.bundle ≡ f there = first_of (cc (c.in_ok-update_one.ensures), search (rules, c.in_ok-update_one.ensures)) in
    mapped_more f c.loop-bundle.bundle-index c.args.bundles.now c.loop-bundle.bundles item c.update_one.new.bundle (omega arith) c.loop-bundle.invariant new

pub returns : goal.returns
returns c = c.loop-bundle.invariant ∙ mapped_all (with_document c.args.location.now c.args.document.now) c.loop-bundle.bundle-index c.args.bundles.now (omega arith)
