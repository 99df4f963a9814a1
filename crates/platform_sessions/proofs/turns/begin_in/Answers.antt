use Rattle.platform_sessions.proofs.turns.begin_in.Goals as goal

pub task_of-requires : goal.task_of-requires
task_of-requires g c = let told = rw c.in-Ok-Some.field-0-is at c.in-Ok-Some.ensures.answer in (told.0, told.3)
