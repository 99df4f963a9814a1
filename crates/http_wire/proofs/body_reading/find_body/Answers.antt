use Rattle.std.proofs.Common.{drop, length-drop, arith}
use Rattle.http_wire.proofs.BodyReadingLemmas.{stuck_none, ended_none, ended_some}
use Rattle.http_wire.proofs.body_reading.find_body.Goals as goal

pub returns-in-Stuck-clause-none : goal.returns-in-Stuck-clause-none
returns-in-Stuck-clause-none c =
    let s = rw c.in-Stuck.is at c.in_ok-scan_chunks.ensures in
    stuck_none c.args.bytes.now c.in-Stuck.field-0.items c.in-Stuck.field-1.now s.0 s.1

pub returns-in-None-clause-none : goal.returns-in-None-clause-none
returns-in-None-clause-none c =
    let e = rw c.in-Ended.is at c.in_ok-scan_chunks.ensures in
    let none = rw c.in-None.is at c.in_ok-find_section-in-Ended.ensures.none in
    ended_none c.args.bytes.now c.in-Ended.content.items c.in-Ended.rest.now e (λ after s. none s.0 s.1 after s.2)

pub returns-clause-some : goal.returns-clause-some
returns-clause-some c =
    let e = rw c.in-Ended.is at c.in_ok-scan_chunks.ensures in
    let some = rw c.in-Some.is at c.in_ok-find_section-in-Ended.ensures.some in
    let rest = c.in-Ended.rest.now in
    (drop c.in-Some.at rest, ended_some c.args.bytes.now c.in-Ended.content.items rest (drop c.in-Some.at rest) e some.1, omega (arith, length-drop c.in-Some.at rest, some.0))
