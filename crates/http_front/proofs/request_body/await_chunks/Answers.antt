use Rattle.std.proofs.Common.{◌≡◌, ◌∙◌, List, ℕ, drop, ap, sym, subst, arith}
use Rattle.http_wire.specs.BodyReading.{ReadsBody}
use Rattle.http_wire.specs.declared.messages.BodyRead.TheVariants.{More as LessBody}
use Rattle.http_front.specs.Flows.{flow}
use Rattle.http_front.proofs.FlowLemmas.{ended_behind, stops_behind, told_more, waits_on}
use Rattle.http_front.proofs.request_body.await_chunks.Goals as goal

pub returns-in_default : goal.returns-in_default
returns-in_default g c =
    let all : c.read.new.self ≡ drop c.args.at c.loop-read.wire.pending.items = cc (c.in-Ok.ensures.seen, c.split_at.ensures.back, c.deref.ensures.value, c.loop-read.invariant.told) in
    let R : List ℕ → Type 0 = λ bytes. ReadsBody bytes c.in-Ok.read in
    record {
      ok = (c.loop-read.invariant.waits, subst R (sym c.in-Ok.ensures.seen ∙ all) c.in-Ok.ensures.read, λ less. absurd (c.in_default.not-More less));
      err = tt;
      reads = c.loop-read.invariant.reads;
      writes = c.loop-read.invariant.writes;
    }

pub returns-in-Ok-false-clause-ok : goal.returns-in-Ok-false-clause-ok
returns-in-Ok-false-clause-ok g c =
    let h = rw c.in-Ok-false.field-0-test at c.in-Ok-false.ensures.ok in
    let all : c.read.new.self ≡ drop c.args.at c.loop-read.wire.pending.items = cc (c.in-Ok.ensures.seen, c.split_at.ensures.back, c.deref.ensures.value, c.loop-read.invariant.told) in
    let R : List ℕ → Type 0 = λ bytes. ReadsBody bytes LessBody in
    let less = rw c.in-More.is at c.in-Ok.ensures.read in
    let ended = ended_behind c.loop-read.invariant.waits h.0 in
    (ended.waits, subst R (sym c.in-Ok.ensures.seen ∙ all ∙ ap (drop c.args.at) (sym h.1)) less, λ is. ended)

pub returns-in-Err-get_more-clause-err : goal.returns-in-Err-get_more-clause-err
returns-in-Err-get_more-clause-err g c =
    let all : c.read.new.self ≡ drop c.args.at c.loop-read.wire.pending.items = cc (c.in-Ok.ensures.seen, c.split_at.ensures.back, c.deref.ensures.value, c.loop-read.invariant.told) in
    let less = rw c.in-More.is at c.in-Ok.ensures.read in
    let now = flow (g.I.Source.left c.get_more.new.input) (g.O.Sink.written c.get_more.new.output) c.get_more.new.wire in
    let P : List ℕ → Type 0 = λ bytes. bytes ≡ c.loop-read.wire.pending.items in
    let Q : List ℕ → Type 0 = λ bytes. ReadsBody (drop c.args.at bytes) LessBody in
    let R : List ℕ → Type 0 = λ bytes. ReadsBody bytes LessBody in
    stops_behind now P Q c.in-Err-get_more.end c.loop-read.invariant.waits (λ piece more is. subst R (sym c.in-Ok.ensures.seen ∙ all ∙ ap (drop c.args.at) (sym is)) less) c.in-Err-get_more.ensures.err

pub loop-read-preserved : goal.loop-read-preserved
loop-read-preserved g c =
    let h = rw c.in-Ok-true.field-0-test at c.in-Ok-true.ensures.ok in
    let all : c.read.new.self ≡ drop c.args.at c.loop-read.wire.pending.items = cc (c.in-Ok.ensures.seen, c.split_at.ensures.back, c.deref.ensures.value, c.loop-read.invariant.told) in
    record {
      waits = waits_on c.loop-read.invariant.waits h.0;
      behind = omega (arith, c.loop-read.invariant.behind, c.loop-read.invariant.within);
      within = omega (arith, h.1);
      told =
          told_more c.args.at c.len-seen.result c.loop-read.wire.pending.items h.0.read.piece c.get_more.new.wire.pending.items c.read.new.self (omega (arith, c.loop-read.invariant.behind, c.loop-read.invariant.within)) h.0.read.is
          (omega arith) all;
      reads = c.in-Ok-true.ensures.reads ∙ c.loop-read.invariant.reads;
      writes = c.in-Ok-true.ensures.writes ∙ c.loop-read.invariant.writes;
    }
