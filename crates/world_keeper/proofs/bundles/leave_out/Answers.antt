use Rattle.std.proofs.Common.{rules}
use Rattle.std.proofs.lemmas.Fn.{filter_same}
use Rattle.std.specs.Prelude.{not}
use Rattle.std.specs.Str.{bytes_eq}
use Rattle.world_keeper.specs.declared.kept.KeptBundle.{KeptBundle}
use Rattle.world_keeper.proofs.bundles.leave_out.Goals as goal

pub returns : goal.returns
returns c = filter_same _ (λ (r : KeptBundle). not (bytes_eq r.location c.args.location.now)) _ (λ x b f' k. search rules) c.args.bundles.now.items c.retain.new.self.items c.retain.ensures.filtered
