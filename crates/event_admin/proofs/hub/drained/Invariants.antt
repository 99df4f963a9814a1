use Rattle.std.proofs.Common.{true, ◌≡◌, ◌≤◌, length}
use Rattle.std.specs.Vec.{vec_len, vec_capacity}
use Rattle.crossbeam_queue.specs.Fifo.{Held}
use Rattle.crossbeam_queue.specs.Passes.{view, IsPassOf}
use Rattle.event_admin.specs.Hands.{Knows}
use Rattle.event_admin.proofs.Moves.{went}
use Rattle.event_admin.proofs.hub.drained.Given as goal

abbrev pub invariant-loop : goal.invariant-loop
invariant-loop g l = IsPassOf l.queue l.pass × (view l.pass ≡ went (view l.initial.pass) l.left.items) × (vec_len l.left ≡ l.counter) × (length l.left.items ≡ l.counter) × (l.count ≤ vec_capacity l.left)
    × Held l.count (Knows (view l.initial.pass)) × ((view l.initial.pass).gets ≡ true) × ((view l.initial.pass).parts ≡ 64)
