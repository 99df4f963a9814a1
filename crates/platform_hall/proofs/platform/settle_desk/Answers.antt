use Rattle.platform_hall.proofs.Answered.{settled_answered}
use Rattle.platform_hall.proofs.Seen.{settled_core}
use Rattle.platform_hall.proofs.platform.settle_desk.Goals as goal

pub returns-clause-settles : goal.returns-clause-settles
returns-clause-settles g c = settled_core g.K.Kinds.made g.K.Kinds.hears g.K.Kinds.refuses c.args.turns c.args.desk.now c.settle.result c.settle.new.desk c.settle.ensures

pub returns-clause-heard : goal.returns-clause-heard
returns-clause-heard g c = c.settle.ensures

pub returns-clause-answered : goal.returns-clause-answered
returns-clause-answered g c = settled_answered g.K.Kinds.made g.K.Kinds.hears g.K.Kinds.refuses c.args.turns c.args.desk.now c.settle.result c.settle.new.desk c.settle.ensures
