use Rattle.std.proofs.Common.{◌∙◌, ap}
use Rattle.scr_growth.proofs.Drafted.{registry_drafted}
use Rattle.service_registry.specs.Registries.{Registered}
use Rattle.scr_growth.proofs.told.told_before.Goals as goal

pub is_unseen-requires-clause-after : goal.is_unseen-requires-clause-after
is_unseen-requires-clause-after c =
    c.rows_with.ensures.rows ∙ ap (λ (t : Registered). t.rows) (registry_drafted c.args.state.now c.args.step.now c.args.draft.now c.requires.draft)
