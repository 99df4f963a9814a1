use Rattle.std.proofs.Common.{ap, ◌∙◌}
use Rattle.config_admin.specs.Configurations.{with_configuration}
use Rattle.config_admin.proofs.Undone.{put_back}
use Rattle.config_admin.proofs.table.Configurations.put_back.Goals as goal

pub returns-clause-undone : goal.returns-clause-undone
returns-clause-undone c configurations ordered there was =
    c.put_into.ensures.now ∙ ap (with_configuration c.args.configuration) (c.self.view_is ∙ was) ∙ put_back c.args.configuration configurations ordered there
