use Rattle.std.proofs.Common.{ap, arith}
use Rattle.use_counts.specs.declared.uses.Holder.TheVariants.{Token as ByToken}
use Rattle.use_counts.specs.Uses.{holder_count}
use Rattle.scr_turns.proofs.gets.without_token.Goals as goal

pub unreachable-requires : goal.unreachable-requires
unreachable-requires c =
    let counted = c.requires in
    let none = c.in-Err.ensures.refused in
    let same = ap (holder_count ByToken c.args.token.now.bundle c.args.token.now.service) c.in_ok-after.ensures in
    omega (arith, counted, none, same)
