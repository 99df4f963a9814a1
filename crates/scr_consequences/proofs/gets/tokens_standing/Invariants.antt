use Rattle.std.proofs.Common.{◌≡◌, take}
use Rattle.std.specs.Prelude.{filter}
use Rattle.scr_consequences.specs.Gets.{token_stands}
use Rattle.scr_consequences.proofs.gets.tokens_standing.Given as goal

abbrev pub invariant-loop-token : goal.invariant-loop-token
invariant-loop-token l = l.found.items ≡ filter (token_stands l.now) (take l.token-index l.tokens)
