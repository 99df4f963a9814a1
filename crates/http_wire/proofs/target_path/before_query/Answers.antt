use Rattle.std.proofs.Common.{rules, sym}
use Rattle.http_wire.proofs.TargetPathLemmas.{before_query_at, before_query_whole}
use Rattle.http_wire.proofs.target_path.before_query.Goals as goal

pub returns-in-Some : goal.returns-in-Some
returns-in-Some c = sym (before_query_at c.args.target.now c.in-Some.at (search rules) (search rules) (search rules))

pub returns-in-None : goal.returns-in-None
returns-in-None c = sym (before_query_whole c.args.target.now (search rules))
