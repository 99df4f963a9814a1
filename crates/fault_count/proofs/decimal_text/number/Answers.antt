use Rattle.std.proofs.Common.{◌+◌, ◌*◌, ◌-◌, ◌^◌, ◌≤◌, ◌∙◌, arith, get_or, drop}
use Rattle.std.proofs.lemmas.Bool.Decides.{nat_tests}
use Rattle.fault_count.specs.DecimalText.{number_of}
use Rattle.fault_count.proofs.SpelledNumber.{number_of-after, number_after-grows, number_after-step}
use Rattle.fault_count.proofs.decimal_text.number.Goals as goal

pub loop-byte-init : goal.loop-byte-init
loop-byte-init c = number_of-after c.args.digits.now

pub returns-then-number-digit : goal.returns-then-number-digit
returns-then-number-digit c =
    let value = c.loop-byte.invariant ∙ number_after-step c.args.digits.now c.loop-byte.byte-index c.loop-byte.number c.loop-byte-test.true in
    let grows = number_after-grows (10 * c.loop-byte.number + (get_or c.args.digits.now c.loop-byte.byte-index 0 - 48)) (drop (c.loop-byte.byte-index + 1) c.args.digits.now) in
    let large : 2 ^ 64 ≤ number_of c.args.digits.now = omega (arith, grows, value) in
    grind (arith, nat_tests, large)
