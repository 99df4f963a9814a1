use Rattle.std.proofs.Common.{◌≡◌, ◌≤◌}
use Rattle.platform_sessions.specs.Halls.{IsOf, KeepsPass}
use Rattle.session_server.specs.Holding.{HoldsSoMany}
use Rattle.session_server.proofs.door_loop.serve_door.Given as goal

-- as many sessions were held as the loop counts
abbrev pub invariant-loop : goal.invariant-loop
invariant-loop g l = record {
  held : HoldsSoMany (record { limits = l.fn.hall.limits; refuses = g.K.Kinds.refuses }) (record { left = g.D.In.Source.left; read_faults = g.D.In.Source.fault_count; written = g.D.Out.Sink.written; write_faults = g.D.Out.Sink.fault_count }) l.fn.pass.front l.pass.front (g.D.Doors.coming l.fn.door) (g.D.Doors.coming l.door) (g.D.Doors.sessions l.fn.door) (g.D.Doors.sessions l.door) l.counter;
  of : IsOf l.fn.hall l.pass;
  keeps : KeepsPass l.fn.pass.front l.pass.front;
  closed : l.pass.closed ≡ l.fn.pass.closed;
  later : g.D.Doors.fault_count l.fn.door ≤ g.D.Doors.fault_count l.door;
}
