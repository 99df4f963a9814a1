use Rattle.platform_hall.proofs.Answered.{answered_same}
use Rattle.platform_hall.proofs.platform.Platform.get_settled.Goals as goal

pub invariant_of-self : goal.invariant_of-self
invariant_of-self g c =
    (tt, answered_same g.K.Kinds.made g.K.Kinds.hears g.K.Kinds.refuses c.self.inside.desk.kept c.get_use.new.self.kept c.get_use.ensures.kept c.self.invariant.1)

pub invariant_of-self-2 : goal.invariant_of-self-2
invariant_of-self-2 g c =
    (tt, answered_same g.K.Kinds.made g.K.Kinds.hears g.K.Kinds.refuses c.self.inside.desk.kept c.get_use.new.self.kept c.get_use.ensures.kept c.self.invariant.1)
