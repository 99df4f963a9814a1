use Rattle.std.proofs.Common.{ap, arith}
use Rattle.use_counts.specs.declared.uses.Holder.TheVariants.{Shell}
use Rattle.use_counts.specs.Uses.{holder_count}
use Rattle.scr_serving.proofs.ungetting.without_get.Goals as goal

pub unreachable-requires : goal.unreachable-requires
unreachable-requires c =
    let counted = c.requires in
    let none = c.in-Err.ensures.refused in
    let same = ap (holder_count Shell c.args.bundle c.args.service) c.in_ok-uses.ensures in
    omega (arith, counted, none, same)
