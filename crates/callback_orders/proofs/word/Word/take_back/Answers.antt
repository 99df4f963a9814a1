use Rattle.std.proofs.Common.{◌∙◌, List, ap, subst}
use Rattle.std.specs.Prelude.{IsTrue}
use Rattle.std.specs.Option.{option_to_list}
use Rattle.callback_orders.specs.declared.word.Called.{Called}
use Rattle.callback_orders.specs.Sequences.{all_but_last, is_in_order}
use Rattle.callback_orders.proofs.FrontLemmas.{is_in_order-before}
use Rattle.callback_orders.proofs.LastLemmas.{all_but_last-taken}
use Rattle.callback_orders.proofs.word.Word.take_back.Goals as goal

pub returns : goal.returns
returns c = c.pop.ensures.rest ∙ all_but_last-taken c.self.inside.calls.items _ c.self.inside.calls.ok.0 ∙ ap all_but_last c.self.view_is

pub invariant_of-self : goal.invariant_of-self
invariant_of-self c =
    is_in_order-before c.pop.new.self.items (option_to_list c.pop.result)
    (subst (λ (calls : List Called). IsTrue (is_in_order calls)) c.pop.ensures.items c.self.invariant)
