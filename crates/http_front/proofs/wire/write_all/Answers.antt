use Rattle.std.proofs.Common.{◌∙◌, arith, List, take, drop, ℕ, subst, sym, take-add}
use Rattle.std.specs.Io.KnownBytes.{Appends}
use Rattle.std.proofs.KnownBytes.{Appends-trans}
use Rattle.http_front.proofs.wire.write_all.Goals as goal

pub loop-at-preserved : goal.loop-at-preserved
loop-at-preserved g c =
    let taken = c.in-Took.ensures.bytes in
    let bytes = c.args.bytes.now in
    let at = c.loop-at.at in
    let count = c.in-Took.count in
    let P : List ℕ → Type 0 = λ w. Appends (g.O.Sink.written c.args.output.now) (g.O.Sink.written c.write.new.self) w in
    record {
      within = omega (arith, taken.1);
      wrote = subst P (sym (take-add at count bytes)) (Appends-trans (g.O.Sink.written c.args.output.now) (g.O.Sink.written c.loop-at.output) (g.O.Sink.written c.write.new.self) (take at bytes) (take count (drop at bytes)) c.loop-at.invariant.wrote (rw c.split_at.ensures.back at taken.2));
      faults = c.in-Took.ensures.faults ∙ c.loop-at.invariant.faults;
    }
