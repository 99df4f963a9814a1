use Rattle.std.proofs.Common.{◌+◌, ◌∙◌, arith, [], Some, ap, drop, length, length-append, take}
use Rattle.script_shell.specs.Reading.{SameBytes, not_yet_read}
use Rattle.script_shell.proofs.ReadingLemmas.{has_read_kept, has_read_more, last_line_found, line_read_found, long_line_found, next_line_found, same_bytes_end, same_bytes_read, same_bytes_trans, searched_all, searched_front}
use Rattle.script_shell.proofs.line_input.next_line.Goals as goal

pub returns-in-Some-clause-step : goal.returns-in-Some-clause-step
returns-in-Some-clause-step g c =
    let found = rw c.deref.ensures.value at c.in-Some.ensures in
    let now = c.loop-at.ahead.bytes.items in
    next_line_found (not_yet_read c.args.ahead.now.ended (g.In.Source.left c.args.input.now)) (not_yet_read c.loop-at.ahead.ended (g.In.Source.left c.loop-at.input)) c.args.ahead.now.bytes.items now (take c.in-Some.at now) (drop (c.in-Some.at + 1) now) c.take_line.new.bytes.items c.take_line.result
    c.loop-at.invariant.same found.1 found.2 c.take_line.ensures

pub returns-in-Some-clause-taken : goal.returns-in-Some-clause-taken
returns-in-Some-clause-taken g c = λ unended.
    let found = rw c.deref.ensures.value at c.in-Some.ensures in
    let now = c.loop-at.ahead.bytes.items in
    let taken = c.loop-at.invariant.taken unended in (
      taken.0,
      line_read_found (g.In.Source.left c.args.input.now) (g.In.Source.left c.loop-at.input) c.args.ahead.now.bytes.items now (take c.in-Some.at now) (drop (c.in-Some.at + 1) now) c.take_line.new.bytes.items c.take_line.result
          taken.1 found.1 found.2 c.take_line.ensures,
    )

pub returns-then-searched-gt-LONGEST_LINE-clause-step : goal.returns-then-searched-gt-LONGEST_LINE-clause-step
returns-then-searched-gt-LONGEST_LINE-clause-step g c =
    let none = rw c.deref.ensures.value at c.in_default.ensures in
    let now = c.loop-at.ahead.bytes.items in
    long_line_found (not_yet_read c.args.ahead.now.ended (g.In.Source.left c.args.input.now)) (not_yet_read c.loop-at.ahead.ended (g.In.Source.left c.loop-at.input)) c.args.ahead.now.bytes.items now now c.loop-at.invariant.same none (omega arith)

pub returns-then-ahead-clause-step : goal.returns-then-ahead-clause-step
returns-then-ahead-clause-step g c =
    let none = rw c.deref.ensures.value at c.in_default.ensures in
    rw c.if-ahead.true
    (last_line_found (not_yet_read c.args.ahead.now.ended (g.In.Source.left c.args.input.now)) c.args.ahead.now.bytes.items c.loop-at.ahead.bytes.items c.last_line.new.bytes.items c.last_line.result (rw c.if-ahead.true at c.loop-at.invariant.same) none (omega arith) c.last_line.ensures)

pub loop-at-preserved-in-Filled : goal.loop-at-preserved-in-Filled
loop-at-preserved-in-Filled g c =
    let none = rw c.deref.ensures.value at c.in_default.ensures in
    let step = c.in-Filled.ensures.step in
    let before = c.loop-at.ahead.bytes.items in
    let now = c.fill.new.bytes.items in
    let mid = g.In.Source.left c.loop-at.input in
    let left = g.In.Source.left c.fill.new.input in
    let taken = c.loop-at.invariant.taken c.if-ahead.false in
    record {
      same = rw c.if-ahead.false
          (same_bytes_trans (not_yet_read c.args.ahead.now.ended (g.In.Source.left c.args.input.now)) mid left c.args.ahead.now.bytes.items before now (rw c.if-ahead.false at c.loop-at.invariant.same) (same_bytes_read mid left before now step.0));
      within = omega (arith, length-append before step.0.0, ap length step.0.2);
      none = searched_front before step.0.0 now c.len-searched.result (omega arith) step.0.2 none;
      fewer = omega (arith, step.2);
      taken = λ unended. (taken.0, has_read_more (g.In.Source.left c.args.input.now) mid left c.args.ahead.now.bytes.items before now taken.1 step.0);
      faults = c.in-Filled.ensures.faults ∙ c.loop-at.invariant.faults;
    }

pub loop-at-smaller : goal.loop-at-smaller
loop-at-smaller g c = let step = c.in-AtEnd.ensures.step in rw c.if-ahead.false (omega (arith, step.2))

pub loop-at-preserved : goal.loop-at-preserved
loop-at-preserved g c =
    let none = rw c.deref.ensures.value at c.in_default.ensures in
    let step = c.in-AtEnd.ensures.step in
    let before = c.loop-at.ahead.bytes.items in
    let now = c.fill.new.bytes.items in
    let ends : SameBytes (g.In.Source.left c.loop-at.input) (Some []) before now = rw step.1 (same_bytes_end (g.In.Source.left c.loop-at.input) before step.0) in
    record {
      same = same_bytes_trans (not_yet_read c.args.ahead.now.ended (g.In.Source.left c.args.input.now)) (g.In.Source.left c.loop-at.input) (Some []) c.args.ahead.now.bytes.items before now (rw c.if-ahead.false at c.loop-at.invariant.same) ends;
      within = omega (arith, ap length step.1);
      none = rw step.1 (searched_all before c.len-searched.result (omega arith) none);
      fewer = omega (arith, step.2, ap length step.1);
      taken = λ unended. cc;
      faults = c.in-AtEnd.ensures.faults ∙ c.loop-at.invariant.faults;
    }

pub returns-in-ReadFailed-clause-taken : goal.returns-in-ReadFailed-clause-taken
returns-in-ReadFailed-clause-taken g c = λ unended.
    let none = rw c.deref.ensures.value at c.in_default.ensures in
    let step = c.in-ReadFailed.ensures.step in
    let taken = c.loop-at.invariant.taken c.if-ahead.false in (
      taken.0,
      (has_read_kept (g.In.Source.left c.args.input.now) (g.In.Source.left c.loop-at.input) (g.In.Source.left c.fill.new.input) c.args.ahead.now.bytes.items c.loop-at.ahead.bytes.items c.fill.new.bytes.items taken.1 step.0 step.1, rw step.1 none, omega (arith, ap length step.1)),
    )
