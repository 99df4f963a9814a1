use Rattle.std.proofs.Common.{Result, Ok, Err, IfOk, map, ◌∙◌}
use Rattle.world_keeper.specs.Lines.{line_of}
use Rattle.world_keeper.proofs.ChangeLemmas.{changes_back}
use Rattle.world_keeper.proofs.database.changes_in.Goals as goal

pub returns-clause-all : goal.returns-clause-all
returns-clause-all c changes has =
    told c.changes_of.result c.changes_of.ensures (λ found h. h (map line_of changes) (c.deref.ensures.value ∙ c.in_ok-rows.ensures.rows (map line_of changes) has) ∙ changes_back changes)
  where
    told : {X E : Type 0} {Q R : X → Type 0} (r : Result X E) → IfOk r Q → ((x : X) → Q x → R x) → IfOk r R
    told (Ok x) h f = f x h
    told (Err e) h f = tt
