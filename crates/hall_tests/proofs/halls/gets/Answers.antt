use Rattle.hall_tests.proofs.halls.gets.Goals as goal

pub ends-requires-clause-has : goal.ends-requires-clause-has
ends-requires-clause-has g c = c.in-Ok.ensures.gets.has
