use Rattle.std.proofs.Common.{◌≡◌, [], ◌∷◌, Some, sym, subst}
use Rattle.atomic_table.specs.Table.{opening}
use Rattle.front_lock.specs.Passes.{contents, known, shown_by}
use Rattle.front_lock.specs.Rule.{Kept}
use Rattle.front_lock.specs.declared.rule.Stage.TheVariants.{Idle}
use Rattle.front_lock.proofs.Ends.{begins}
use Rattle.front_lock.proofs.lock.FrontLock.with_bells.Goals as goal

pub new-requires : goal.new-requires
new-requires g c =
    let e : c.push_reserved.new.self.items ≡ Some c.args.value ∷ [] = cc in
    let t : c.of-about.result.value ≡ c.args.value = c.of-about.ensures in
    subst (λ xs. Kept (shown_by g.T.Grows.entries g.T.Grows.kept) g.T.Grows.tie (opening (1 ∷ 1 ∷ []) xs (known (g.T.Grows.tie c.of-about.result.value) 64 0 (Some 0) [] [] [] Idle))) (sym e)
    (subst (λ v. Kept (shown_by g.T.Grows.entries g.T.Grows.kept) g.T.Grows.tie (opening (1 ∷ 1 ∷ []) (Some c.args.value ∷ []) (known (g.T.Grows.tie v) 64 0 (Some 0) [] [] [] Idle))) (sym t) (begins (shown_by g.T.Grows.entries g.T.Grows.kept) g.T.Grows.tie c.args.value (λ i. contents (c.requires.0 i) (c.requires.1 i))))
