use Rattle.std.specs.Prelude.{◌≡◌, false}
use Rattle.turn_runner.specs.Turns.{HeardEnds, Settles}
use Rattle.turn_runner.proofs.settling.settle.Given as goal

-- as many turns ran as the loop counts, and their drains are posted
abbrev pub invariant-loop-ran : goal.invariant-loop-ran
invariant-loop-ran g l = Settles g.D.Desk.has_drain g.D.Desk.begins (HeardEnds g.D.Desk.running g.D.Desk.owns g.K.Kinds.made g.K.Kinds.hears g.D.Desk.hands g.D.Desk.ends) g.D.Desk.posts g.K.Kinds.refuses l.ran l.fn.desk l.desk × (g.D.Desk.has_drain l.desk ≡ false)
