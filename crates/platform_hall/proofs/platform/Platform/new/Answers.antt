use Rattle.platform_hall.proofs.Answered.{answered_none}
use Rattle.platform_hall.proofs.platform.Platform.new.Goals as goal

pub invariant_of-result : goal.invariant_of-result
invariant_of-result g c = (tt, answered_none g.K.Kinds.made g.K.Kinds.hears g.K.Kinds.refuses c.in_ok-new.field-0.kept c.in_ok-new.ensures.kept)
