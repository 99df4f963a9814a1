use Rattle.std.proofs.Common.{rules}
use Rattle.std.proofs.lemmas.Fn.{filter_same}
use Rattle.std.specs.Prelude.{not}
use Rattle.std.specs.Str.{bytes_eq}
use Rattle.world_keeper.specs.declared.kept.KeptConfiguration.{KeptConfiguration}
use Rattle.world_keeper.proofs.configurations.leave_out.Goals as goal

pub returns : goal.returns
returns c = filter_same _ (λ (r : KeptConfiguration). not (bytes_eq r.pid c.args.pid.now)) _ (λ x b f' k. search rules) c.args.configurations.now.items c.retain.new.self.items c.retain.ensures.filtered
