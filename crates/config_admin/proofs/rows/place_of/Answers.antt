-- In rows by PID the search finds the one of a PID.
use Rattle.std.proofs.Common.{rules}
use Rattle.std.proofs.lemmas.Fn.{always_returns_same}
use Rattle.row_places.proofs.RowOrderLaws.{placed}
use Rattle.config_admin.specs.declared.configuration.Configuration.{Configuration}
use Rattle.config_admin.specs.Orders.{pid_cmp}
use Rattle.config_admin.proofs.PidRows.{pid_cmp_total, sought}
use Rattle.config_admin.proofs.rows.place_of.Goals as goal

pub returns-clause-place : goal.returns-clause-place
returns-clause-place c = placed pid_cmp pid_cmp_total (sought c.args.pid.now) c.args.rows.now c.binary_search_by.result c.requires
    (c.binary_search_by.ensures.position (λ (d : Configuration). pid_cmp d (sought c.args.pid.now)) (always_returns_same _ _ _ (λ a r q k. search rules))) c.binary_search_by.ensures.bound
