use Rattle.std.proofs.Common.{List, length, ap, ◌∙◌}
use Rattle.world_keeper.specs.Again.{is_long}
use Rattle.world_keeper.specs.Tables.{KeepsChanges}
use Rattle.world_keeper.specs.declared.change.Change.{Change}
use Rattle.world_keeper.proofs.Shortened.{same_changes}
use Rattle.world_keeper.proofs.shortening.shorten.Goals as goal

pub returns-clause-ok : goal.returns-clause-ok
returns-clause-ok c =
    same_changes _ (KeepsChanges c.begin_anew.new.place) c.begin_anew.result _ _ _ _
    (c.is_long.ensures ∙ ap (λ (cs : List Change). is_long c.args.rows (length cs)) (c.as_slice-2.ensures.value ∙ c.in_ok-changes.ensures)) (c.as_slice.ensures.value ∙ c.in_ok-changes.ensures)
    c.begin_anew.ensures.ok
