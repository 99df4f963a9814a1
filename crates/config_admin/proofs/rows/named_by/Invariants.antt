use Rattle.std.proofs.Common.{◌≡◌, take}
use Rattle.std.specs.Prelude.{map}
use Rattle.config_admin.specs.Configurations.{named_by}
use Rattle.config_admin.proofs.rows.named_by.Given as goal

abbrev pub invariant-loop-row : goal.invariant-loop-row
invariant-loop-row l = map (λ c. c.now) l.named.items ≡ named_by l.pid (take l.row-index l.rows)
