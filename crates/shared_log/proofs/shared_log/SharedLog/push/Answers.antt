use Rattle.std.proofs.Common.{◌∙◌, ◌++◌, ◌∷◌, [], ap, take}
use Rattle.shared_log.proofs.Merging.{joined-pushed}
use Rattle.shared_log.proofs.shared_log.SharedLog.push.Goals as goal

pub returns-clause-ok : goal.returns-clause-ok
returns-clause-ok g c =
    joined-pushed c.self.inside.parts.items _ _ c.staying-kept.result c.args.item c.in_ok-last.last (c.deref.ensures.value ∙ c.reserve.ensures.items) c.in_ok-last.ensures
    (c.push_reserved.ensures.items ∙ ap (λ all. all ++ c.in_ok-last.last ∷ []) (c.truncate.ensures.items ∙ ap (take c.staying-kept.result) c.reserve.ensures.items))
    ∙ ap (λ items. items ++ c.args.item ∷ []) c.self.view_is
