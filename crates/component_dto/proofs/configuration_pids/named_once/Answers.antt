use Rattle.std.proofs.Common.{◌≡◌, ap, ◌∙◌, subst}
use Rattle.std.specs.Prelude.{IfOk, map}
use Rattle.component_dto.specs.Descriptions.{pid_of}
use Rattle.component_dto.specs.TextLists.{each_once}
use Rattle.component_dto.proofs.OnceLemmas.{once_before}
use Rattle.component_dto.proofs.configuration_pids.named_once.Goals as goal

pub returns : goal.returns
returns c =
    let f = pid_of c.args.name.now in
    subst (λ w. IfOk c.each_once-2.result (λ pids. pids ≡ w))
    (ap each_once (c.in_ok-named.ensures ∙ ap (map f) c.in_ok-different.ensures) ∙ once_before f c.args.given)
    c.each_once-2.ensures
