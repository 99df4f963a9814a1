use Rattle.std.proofs.Common.{◌≡◌, ◌∙◌, List, ℕ, sym, subst}
use Rattle.http_wire.specs.HeadMeaning.{ReadsHead}
use Rattle.http_wire.specs.declared.messages.HeadRead.TheVariants.{More as LessHead}
use Rattle.http_front.specs.Flows.{flow}
use Rattle.http_front.proofs.FlowLemmas.{ended_behind, stops_behind, waits_on}
use Rattle.http_front.proofs.request_reading.await_head.Goals as goal

pub returns-in_default : goal.returns-in_default
returns-in_default g c = record {
  ok = (c.loop-read.invariant.waits, rw c.deref.ensures.value at c.in-Ok.ensures, λ less. absurd (c.in_default.not-More less));
  err = tt;
  reads = c.loop-read.invariant.reads;
  writes = c.loop-read.invariant.writes;
}

pub returns-in-Ok-false-clause-ok : goal.returns-in-Ok-false-clause-ok
returns-in-Ok-false-clause-ok g c =
    let h = rw c.in-Ok-false.field-0-test at c.in-Ok-false.ensures.ok in
    let R : List ℕ → Type 0 = λ bytes. ReadsHead bytes LessHead in
    let less = rw c.in-More.is at c.in-Ok.ensures in
    let ended = ended_behind c.loop-read.invariant.waits h.0 in
    (ended.waits, subst R (c.deref.ensures.value ∙ sym h.1) less, λ is. ended)

pub returns-in-Err-get_more-clause-err : goal.returns-in-Err-get_more-clause-err
returns-in-Err-get_more-clause-err g c =
    let less = rw c.in-More.is at c.in-Ok.ensures in
    let now = flow (g.I.Source.left c.get_more.new.input) (g.O.Sink.written c.get_more.new.output) c.get_more.new.wire in
    let P : List ℕ → Type 0 = λ bytes. bytes ≡ c.loop-read.wire.pending.items in
    let R : List ℕ → Type 0 = λ bytes. ReadsHead bytes LessHead in
    stops_behind now P R c.in-Err-get_more.end c.loop-read.invariant.waits (λ piece more is. subst R (c.deref.ensures.value ∙ sym is) less) c.in-Err-get_more.ensures.err

pub loop-read-preserved : goal.loop-read-preserved
loop-read-preserved g c =
    let h = rw c.in-Ok-true.field-0-test at c.in-Ok-true.ensures.ok in
    record {
      waits = waits_on c.loop-read.invariant.waits h.0;
      reads = c.in-Ok-true.ensures.reads ∙ c.loop-read.invariant.reads;
      writes = c.in-Ok-true.ensures.writes ∙ c.loop-read.invariant.writes;
    }
