use Rattle.std.proofs.Common.{◌+◌, ◌*◌}
use Rattle.platform_bench.proofs.entries.+append_by_passes+fn-append_by_passes-join+arg2.Given as goal

abbrev pub decreases-append_by_passes : goal.decreases-append_by_passes
decreases-append_by_passes g l = 2 * l.passes

abbrev pub decreases-join+arg2 : goal.decreases-join+arg2
decreases-join+arg2 g l = 2 * l.rest + 1
