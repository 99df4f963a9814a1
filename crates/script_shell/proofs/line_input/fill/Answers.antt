use Rattle.std.proofs.Common.{arith, take}
use Rattle.script_shell.proofs.line_input.fill.Goals as goal

pub returns-in-Ok-clause-step : goal.returns-in-Ok-clause-step
returns-in-Ok-clause-step g c =
    let got = c.in-Got.ensures.bytes in (
      (take c.in-Got.count c.read.new.room, got.2, rw (← c.split_at.ensures.front) c.in-Ok.ensures.items),
      omega (arith, got.0, c.in-Got.ensures.number),
      omega (arith, got.1, c.in-Got.ensures.number, c.in-Ok.ensures.len, c.split_at.ensures.front_len),
    )
