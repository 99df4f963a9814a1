use Rattle.std.proofs.Common.{◌∙◌, ◌++◌, ap, subst, sym, List}
use Rattle.std.specs.Prelude.{IsTrue, Option}
use Rattle.std.specs.Option.{option_to_list}
use Rattle.callback_orders.specs.Sequences.{ended, is_outstanding}
use Rattle.callback_orders.specs.declared.word.Called.{Called}
use Rattle.instance_callbacks.proofs.KeptLemmas.{kept_ended}
use Rattle.instance_callbacks.proofs.LastLemmas.{ended-last}
use Rattle.instance_callbacks.proofs.instance_callbacks.InstanceCallbacks.end.Goals as goal

pub invariant_of-self : goal.invariant_of-self
invariant_of-self c =
    kept_ended c.args.outcome c.self.inside.earlier c.self.inside.last _ c.self.inside.course c.self.inside.held _ c.self.invariant
    (subst (λ (calls : List Called). IsTrue (is_outstanding calls)) (sym c.self.view_is) c.requires) c.end_last.ensures c.end.ensures.held c.end.ensures.left

pub returns : goal.returns
returns c =
    ap (λ (last : Option Called). c.self.inside.earlier ++ option_to_list last) c.end_last.ensures
    ∙ ended-last c.args.outcome c.self.inside.earlier c.self.inside.last c.self.invariant.first
    ∙ ap (ended c.args.outcome) c.self.view_is
