use Rattle.std.proofs.Common.{rules, sym, ◌∙◌}
use Rattle.std.proofs.lemmas.List.{take_rest}
use Rattle.http_wire.proofs.TargetPathLemmas.{from_slash_at, from_slash_none}
use Rattle.http_wire.proofs.target_path.from_slash.Goals as goal

pub returns-in-Some : goal.returns-in-Some
returns-in-Some c = take_rest c.args.bytes.now c.in-Some.at ∙ sym (from_slash_at c.args.bytes.now c.in-Some.at (search rules) (search rules) (search rules))

pub returns-in-None : goal.returns-in-None
returns-in-None c = sym (from_slash_none c.args.bytes.now (search rules))
