use Rattle.std.proofs.Common.{◌≡◌, List, [], ◌∷◌, ◌++◌, Result, Ok, Err, OnOk, OnErr, ap, ◌∙◌}
use Rattle.world_keeper.specs.KeptWorlds.{kept_after, kept_by}
use Rattle.world_keeper.specs.Stored.{StoredWorld}
use Rattle.world_keeper.specs.Tables.{KeepsChanges, changes_at}
use Rattle.world_keeper.specs.declared.change.Change.{Change}
use Rattle.world_keeper.proofs.ChangeLemmas.{changes_are, kept_more, own}
use Rattle.world_keeper.proofs.sqlite_keeper.SqliteKeeperKeeper.apply.Goals as goal

pub invariant_of-self : goal.invariant_of-self
invariant_of-self c =
    let s = c.self.inside.place in
    let t = c.put_at.new.place in
    one (λ cs. KeepsChanges t cs) (λ cs h. own t cs h) _ _ c.put_at.result (c.put_at.ensures.kept (changes_at s) c.self.invariant) (c.put_at.ensures.refused (changes_at s) c.self.invariant)
  where
    one : {X E L G : Type 0} (P : L → Type 0) (f : (l : L) → P l → G) (a b : L) (r : Result X E) → OnOk r (P a) → OnErr r (P b) → G
    one P f a b (Ok x) h k = f a h
    one P f a b (Err e) h k = f b k

pub returns-in-Ok-clause-ok : goal.returns-in-Ok-clause-ok
returns-in-Ok-clause-ok c =
    let s = c.self.inside.place in
    let t = c.put_at.new.place in
    ap kept_by (changes_are t (changes_at s ++ c.args.change.now ∷ []) (c.in-Ok.ensures.kept (changes_at s) c.self.invariant)) ∙ kept_more (changes_at s) c.args.change.now
    ∙ ap (λ (w : StoredWorld). kept_after w.kept c.args.change.now) c.self.view_is
