use Rattle.std.proofs.Common.{arith, rules}
use Rattle.platform_sessions.proofs.Stretches.{keeps_on}
use Rattle.session_server.specs.Holding.{Ends}
use Rattle.session_server.proofs.Holding.{held_goes, one_more_held}
use Rattle.session_shell.specs.Items.{Setting}
use Rattle.session_server.proofs.door_loop.serve_door.Goals as goal

pub loop-preserved : goal.loop-preserved
loop-preserved g c =
    let s : Setting = record { limits = c.args.hall.now.limits; refuses = g.K.Kinds.refuses } in
    let ends : Ends g.row.D-In.Denot g.row.D-Out.Denot = record { left = g.D.In.Source.left; read_faults = g.D.In.Source.fault_count; written = g.D.Out.Sink.written; write_faults = g.D.Out.Sink.fault_count } in
    let before = c.loop.invariant.later in
    let accepted = c.in-Come.ensures.later in
    let told = c.ended.ensures.later in
    record {
      held = one_more_held s ends c.args.pass.now.front c.loop.pass.front c.hold_session-session.new.pass.front
          (g.D.Doors.coming c.args.door.now) (g.D.Doors.coming c.loop.door) (g.D.Doors.coming c.accept.new.self) (g.D.Doors.coming c.ended.new.self)
          (g.D.Doors.sessions c.args.door.now) (g.D.Doors.sessions c.loop.door) (g.D.Doors.sessions c.accept.new.self) (g.D.Doors.sessions c.ended.new.self)
          c.loop.counter (c.in-Come.input, c.in-Come.output) c.hold_session-session.result
          c.loop.invariant.held c.in-Come.ensures.come c.in-Come.ensures.sessions c.hold_session-session.ensures.held c.ended.ensures.come c.ended.ensures.sessions;
      of = c.hold_session-session.ensures.of;
      keeps = keeps_on c.args.pass.now.front c.loop.pass.front c.hold_session-session.new.pass.front c.loop.invariant.keeps c.hold_session-session.ensures.keeps;
      closed = search rules;
      later = omega (arith, before, accepted, told);
    }

pub returns-clause-went : goal.returns-clause-went
returns-clause-went g c =
    let s : Setting = record { limits = c.args.hall.now.limits; refuses = g.K.Kinds.refuses } in
    let ends : Ends g.row.D-In.Denot g.row.D-Out.Denot = record { left = g.D.In.Source.left; read_faults = g.D.In.Source.fault_count; written = g.D.Out.Sink.written; write_faults = g.D.Out.Sink.fault_count } in
    held_goes s ends c.loop.invariant.held.came c.args.pass.now.front c.loop.pass.front c.loop.invariant.held.held c.loop.invariant.held.each

pub returns-in-Failed-clause-went : goal.returns-in-Failed-clause-went
returns-in-Failed-clause-went g c =
    let s : Setting = record { limits = c.args.hall.now.limits; refuses = g.K.Kinds.refuses } in
    let ends : Ends g.row.D-In.Denot g.row.D-Out.Denot = record { left = g.D.In.Source.left; read_faults = g.D.In.Source.fault_count; written = g.D.Out.Sink.written; write_faults = g.D.Out.Sink.fault_count } in
    held_goes s ends c.loop.invariant.held.came c.args.pass.now.front c.loop.pass.front c.loop.invariant.held.held c.loop.invariant.held.each
