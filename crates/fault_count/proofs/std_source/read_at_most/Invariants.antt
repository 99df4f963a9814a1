use Rattle.std.specs.Io.KnownBytes.{Keeps}
use Rattle.fault_count.proofs.std_source.read_at_most.Given as goal

abbrev pub invariant-tries : goal.invariant-tries
invariant-tries g l = Keeps (g.R.Read.remaining l.fn.inner) (g.R.Read.remaining l.inner)
