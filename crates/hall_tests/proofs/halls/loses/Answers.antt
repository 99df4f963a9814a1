use Rattle.platform_sessions.proofs.Using.{use_taken}
use Rattle.hall_tests.proofs.halls.loses.Goals as goal

pub gives_back-requires-clause-has : goal.gives_back-requires-clause-has
gives_back-requires-clause-has g c = use_taken c.args.hall.now.limits c.args.pass.now.front c.command.new.pass.front _ _ c.args.used c.in-Ok.ensures.taken c.command.ensures.keeps c.requires.has
