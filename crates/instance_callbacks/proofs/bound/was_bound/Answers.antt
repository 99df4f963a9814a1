use Rattle.std.proofs.Common.{◌∙◌, List, rules, sym}
use Rattle.std.proofs.lemmas.Iterator.{YieldsList-from_slice}
use Rattle.std.proofs.lemmas.Iterator.Search.{any_from_yields_List}
use Rattle.callback_orders.specs.declared.word.Called.{Called}
use Rattle.instance_callbacks.specs.Bound.{binds, was_bound}
use Rattle.instance_callbacks.proofs.BoundLemmas.{list_any-joined}
use Rattle.instance_callbacks.proofs.bound.was_bound.Goals as goal

pub returns : goal.returns
returns c =
    any_from_yields_List (λ (calls : List Called). was_bound c.args.service calls) _ _ c.any.result c.any.ensures.ran (YieldsList-from_slice c.args.parts.now c.iter.ensures.rest) (λ x b q k. search rules)
    ∙ sym (list_any-joined (λ (called : Called). binds c.args.service called.callback) c.args.parts.now)
