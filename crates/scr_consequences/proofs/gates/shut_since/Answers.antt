use Rattle.std.proofs.Common.{◌∙◌, ap, ℕ, List}
use Rattle.std.proofs.lemmas.Result.{IfOk-weaker}
use Rattle.prop_map.specs.Words.{has}
use Rattle.scr_consequences.proofs.DrainingLemmas.{shut_is}
use Rattle.scr_consequences.proofs.gates.shut_since.Goals as goal

pub returns : goal.returns
returns c =
    IfOk-weaker c.shut_among.result _ _
    (λ keys e was given.
    e ∙ shut_is was c.args.now.now _ c.args.draining.now _ (λ n. c.of-draining.ensures n ∙ ap (λ (ns : List ℕ). has ns n) c.in_ok-from_slice.ensures.items) c.as_slice.ensures given)
    c.shut_among.ensures
