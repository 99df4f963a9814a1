use Rattle.std.proofs.Common.{rules}
use Rattle.std.proofs.lemmas.Fn.{filter_same}
use Rattle.script_shell.specs.Replays.{lives_on}
use Rattle.script_shell.proofs.journal_replay.leave.Goals as goal

pub returns : goal.returns
returns c = filter_same _ lives_on _ (λ x b f' k. search rules) c.args.living.now.items c.retain.new.self.items c.retain.ensures.filtered
