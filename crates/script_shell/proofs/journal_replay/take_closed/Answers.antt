use Rattle.std.proofs.Common.{rules, not}
use Rattle.std.proofs.lemmas.Fn.{filter_same}
use Rattle.prop_map.specs.Words.{has}
use Rattle.script_shell.proofs.journal_replay.take_closed.Goals as goal

pub returns : goal.returns
returns c = filter_same _ (λ number. not (has c.args.closed.now number)) _ (λ x b f' k. search rules) c.args.open.now.items c.retain.new.self.items c.retain.ensures.filtered
