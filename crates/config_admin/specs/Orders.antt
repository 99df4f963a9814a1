-- What is always true of the configurations: they stand by PID in byte order, and a PID has one. Our own.
use Rattle.std.specs.Prelude.{◌≡◌, List}
use Rattle.std.specs.Cmp.Lexicographic.{slice_cmp}
use Rattle.std.specs.List.{AllPairs}
use Rattle.std.specs.Ordering.{nat_cmp}
use Rattle.std.specs.declared.cmp.Ordering.{Ordering}
use Rattle.std.specs.declared.cmp.Ordering.TheVariants.{Less}
use Rattle.config_admin.specs.declared.configuration.Configuration.{Configuration}

abbrev pub pid_cmp : Configuration → Configuration → Ordering
pid_cmp c d = slice_cmp nat_cmp c.pid d.pid

abbrev pub AreByPid : List Configuration → Type 0
AreByPid cs = AllPairs (λ (c d : Configuration). pid_cmp c d ≡ Less) cs
