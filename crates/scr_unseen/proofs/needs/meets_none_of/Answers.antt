use Rattle.std.proofs.Common.{◌∙◌, sym}
use Rattle.scr_unseen.proofs.Asking.{asks_for_none}
use Rattle.scr_unseen.proofs.needs.meets_none_of.Goals as goal

pub returns-then-not-asks_for : goal.returns-then-not-asks_for
returns-then-not-asks_for c = sym (asks_for_none c.args.component.now c.args.service.now (sym c.asks_for.ensures ∙ c.if-not-asks_for.true))
