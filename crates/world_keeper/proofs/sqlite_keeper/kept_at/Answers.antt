use Rattle.std.proofs.Common.{ap, ◌∙◌}
use Rattle.world_keeper.specs.KeptWorlds.{kept_by}
use Rattle.world_keeper.proofs.Shortened.{shortened, stays}
use Rattle.world_keeper.proofs.sqlite_keeper.kept_at.Goals as goal

pub returns-in_err-changes-clause-stays : goal.returns-in_err-changes-clause-stays
returns-in_err-changes-clause-stays c cs has = stays _ cs (c.found_at.ensures.kept cs has)

pub returns-in_err-kept-clause-stays : goal.returns-in_err-kept-clause-stays
returns-in_err-kept-clause-stays c cs has = stays _ cs (c.found_at.ensures.kept cs has)

pub returns-in_err-shorten-clause-stays : goal.returns-in_err-shorten-clause-stays
returns-in_err-shorten-clause-stays c cs has =
    shortened _ _ cs _ _ c.shorten.result (c.found_at.ensures.kept cs has) (c.in_ok-kept.ensures ∙ ap kept_by (c.as_slice.ensures.value ∙ c.in_ok-changes.ensures.all cs has)) c.shorten.ensures.ok c.shorten.ensures.err

pub returns-clause-stays : goal.returns-clause-stays
returns-clause-stays c cs has =
    shortened _ _ cs _ _ c.shorten.result (c.found_at.ensures.kept cs has) (c.in_ok-kept.ensures ∙ ap kept_by (c.as_slice.ensures.value ∙ c.in_ok-changes.ensures.all cs has)) c.shorten.ensures.ok c.shorten.ensures.err

pub returns-clause-all : goal.returns-clause-all
returns-clause-all c cs has = c.in_ok-kept.ensures ∙ ap kept_by (c.as_slice.ensures.value ∙ c.in_ok-changes.ensures.all cs has)
