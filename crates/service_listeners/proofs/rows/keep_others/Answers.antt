use Rattle.std.proofs.Common.{rules}
use Rattle.std.proofs.lemmas.Fn.{filter_same}
use Rattle.std.specs.Prelude.{◌==◌, not}
use Rattle.service_listeners.specs.declared.listener.Listener.{Listener}
use Rattle.service_listeners.proofs.rows.keep_others.Goals as goal

pub returns : goal.returns
returns c = filter_same _ (λ (l : Listener). not (l.bundle == c.args.bundle)) _ (λ x b f' k. search rules) c.args.rows.now.items c.retain.new.self.items c.retain.ensures.filtered
