use Rattle.std.proofs.Common.{◌-◌, List, ℕ, take, length, length-take, ap, sym, subst, arith}
use Rattle.std.proofs.lemmas.Result.{IfOk-weaker}
use Rattle.http_wire.specs.BodyReading.{ReadsBody}
use Rattle.http_wire.specs.declared.messages.BodyRead.TheVariants.{Whole}
use Rattle.http_wire.proofs.BodyReadingLemmas.{none_whole, large_whole, body_short, whole_reads, seen_reads}
use Rattle.http_wire.proofs.body_reading.read_chunks.Goals as goal

pub refusal-requires-clause-none : goal.refusal-requires-clause-none
refusal-requires-clause-none c = none_whole (take c.min.result c.args.bytes.now) (rw c.in-None.is at c.in_ok-find_body.ensures.none)

pub refusal-requires-then-size-gt-MOST_CONTENT-clause-none : goal.refusal-requires-then-size-gt-MOST_CONTENT-clause-none
refusal-requires-then-size-gt-MOST_CONTENT-clause-none c =
    let b = rw c.in-Some.is at c.in_ok-find_body.ensures.some in
    large_whole (take c.min.result c.args.bytes.now) c.in-Some.content.items b.0 b.1 (omega (arith, ap length c.as_slice-size.ensures.value))

pub overflow_sub-result : goal.overflow_sub-result
overflow_sub-result c =
    let b = rw c.in-Some.is at c.in_ok-find_body.ensures.some in
    omega (arith, body_short (take c.min.result c.args.bytes.now) c.in-Some.content.items b.0 b.1, b.2)

pub returns-in-None : goal.returns-in-None
returns-in-None c = IfOk-weaker c.refusal.result _ _ (λ r. seen_reads c.min.result c.args.bytes.now r (omega arith)) c.refusal.ensures

pub returns-then-size-gt-MOST_CONTENT : goal.returns-then-size-gt-MOST_CONTENT
returns-then-size-gt-MOST_CONTENT c =
    IfOk-weaker c.refusal-then-size-gt-MOST_CONTENT.result _ _ (λ r. seen_reads c.min.result c.args.bytes.now r (omega arith)) c.refusal-then-size-gt-MOST_CONTENT.ensures

pub returns-else-size-gt-MOST_CONTENT : goal.returns-else-size-gt-MOST_CONTENT
returns-else-size-gt-MOST_CONTENT c =
    let b = rw c.in-Some.is at c.in_ok-find_body.ensures.some in
    let seen = take c.min.result c.args.bytes.now in
    subst (λ (t : List ℕ). ReadsBody c.args.bytes.now (Whole t (length seen - c.in-Some.left))) (sym c.of.ensures)
    (whole_reads c.min.result c.args.bytes.now c.in-Some.content.items b.0 _ b.1 (omega (arith, length-take c.min.result c.args.bytes.now))
    (omega (arith, ap length c.as_slice-size.ensures.value)) (omega (arith, b.2, body_short seen c.in-Some.content.items b.0 b.1)))
