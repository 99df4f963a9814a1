use Rattle.std.proofs.Common.{[], ◌∷◌, ◌++◌, sym, ap, ◌∙◌, subst, inl}
use Rattle.front_lock.specs.Keepings.{KeepsOthers}
use Rattle.front_lock.specs.Passes.{names_of}
use Rattle.front_lock.proofs.Keepings.{keeps_added}
use Rattle.edge_tests.proofs.locks.mark.Goals as goal

pub leave-requires-clause-others : goal.leave-requires-clause-others
leave-requires-clause-others g c =
    let turn = c.enter-inner.result.turn in
    let owner = c.owner-owner.result in
    let more = c.in-Ok.ensures.ok ∙ ap (λ xs. xs ++ (owner, c.args.mark) ∷ []) (sym c.enter-inner.ensures.turn.2) in
    subst (KeepsOthers (names_of turn.pass) turn.kept) (sym more) (keeps_added (names_of turn.pass) (owner, c.args.mark) turn.kept (inl c.owner-owner.ensures))
