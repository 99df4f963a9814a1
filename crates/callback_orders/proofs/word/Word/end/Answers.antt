use Rattle.std.proofs.Common.{◌≡◌, ◌-◌, ◌∙◌, List, length, sym, subst}
use Rattle.std.specs.Prelude.{IsTrue, slice_set}
use Rattle.callback_orders.specs.declared.word.Called.{Called}
use Rattle.callback_orders.specs.Sequences.{done_with, ended, is_in_order}
use Rattle.callback_orders.proofs.EndLemmas.{ended-set, is_in_order-ended}
use Rattle.callback_orders.proofs.word.Word.end.Goals as goal

pub returns : goal.returns
returns c =
    let n : c.len-last.result ≡ length c.self.inside.calls.items = c.len-last.ensures ∙ c.self.inside.calls.ok.0 in
    rw (← c.self.view_is) (ended-set _ _ c.index_mut.result.now _ n c.index_mut.ensures.value)

pub invariant_of-self : goal.invariant_of-self
invariant_of-self c =
    let n : c.len-last.result ≡ length c.self.inside.calls.items = c.len-last.ensures ∙ c.self.inside.calls.ok.0 in
    let e : slice_set c.self.inside.calls.items (c.len-last.result - 1) (done_with c.index_mut.result.now.callback c.args.outcome) ≡ ended c.args.outcome c.self.inside.calls.items = ended-set _ _ c.index_mut.result.now _ n c.index_mut.ensures.value in
    subst (λ (calls : List Called). IsTrue (is_in_order calls)) (sym e) (rw is_in_order-ended c.self.invariant)
