use Rattle.std.proofs.Common.{arith}
use Rattle.std.proofs.lemmas.Result.{IfOk-weaker}
use Rattle.http_wire.proofs.HeadReadingLemmas.{told_reads}
use Rattle.http_wire.proofs.HeadFrontLemmas.{seen_reads}
use Rattle.http_wire.proofs.head_reading.read_head.Goals as goal

pub returns-in-Ok : goal.returns-in-Ok
returns-in-Ok c =
    IfOk-weaker c.head_answer.result _ _
    (λ r tells. told_reads c.min.result c.args.bytes.now c.find_head.new.room c.in-Ok.parts r (omega arith) (omega arith)
    c.in-Ok.ensures.within c.in-Ok.ensures.some tells)
    c.head_answer.ensures

pub returns-in-Err : goal.returns-in-Err
returns-in-Err c = IfOk-weaker c.without_head.result _ _ (λ r. seen_reads c.min.result c.args.bytes.now r (omega arith)) c.without_head.ensures
