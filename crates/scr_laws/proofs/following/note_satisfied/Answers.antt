use Rattle.std.proofs.Common.{ap}
use Rattle.prop_map.specs.Words.{has}
use Rattle.scr_laws.proofs.Scratch.{satisfied_then}
use Rattle.scr_laws.proofs.following.note_satisfied.Goals as goal

pub returns-clause-list : goal.returns-clause-list
returns-clause-list c = λ w step p passed. satisfied_then step w p passed

pub returns-clause-each : goal.returns-clause-each
returns-clause-each c = λ w step p passed number. ap (λ numbers. has numbers number) (satisfied_then step w p passed)
