use Rattle.std.proofs.Common.{rules}
use Rattle.std.proofs.lemmas.Fn.{filter_same}
use Rattle.std.specs.Prelude.{◌==◌, not}
use Rattle.use_counts.specs.declared.uses.UseRow.{UseRow}
use Rattle.use_counts.proofs.rows.leave_service.Goals as goal

pub returns : goal.returns
returns c = filter_same _ (λ (u : UseRow). not (u.service == c.args.service)) _ (λ x b f' k. search rules) c.args.rows.now.items c.retain.new.self.items c.retain.ensures.filtered
