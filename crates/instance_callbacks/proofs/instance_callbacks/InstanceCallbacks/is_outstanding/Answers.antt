use Rattle.std.proofs.Common.{◌≡◌, ◌∙◌, ap, false, rules, sym}
use Rattle.std.specs.Prelude.{is_none}
use Rattle.std.specs.Option.{option_map_or}
use Rattle.callback_orders.specs.Sequences.{is_outstanding}
use Rattle.callback_orders.specs.declared.word.Called.{Called}
use Rattle.instance_callbacks.proofs.LastLemmas.{is_outstanding-last}
use Rattle.instance_callbacks.proofs.instance_callbacks.InstanceCallbacks.is_outstanding.Goals as goal

pub returns : goal.returns
returns c =
    let last : c.is_some_and.result ≡ option_map_or (λ (called : Called). is_none called.outcome) c.self.inside.last false = search rules in
    last ∙ sym (is_outstanding-last c.self.inside.earlier c.self.inside.last c.self.invariant.first) ∙ ap is_outstanding c.self.view_is
