use Rattle.std.proofs.Common.{◌≡◌, ◌∙◌, List, [], ℕ, ◌++◌, sym, ap, arith, append-nil}
use Rattle.httparse.specs.Grammar.{print_chunk_line}
use Rattle.http_wire.specs.ChunkContinuation.{line_ending}
use Rattle.http_wire.proofs.ChunkNeedsLemmas.{never_cut}
use Rattle.http_wire.proofs.chunk_needs.cut_line.Goals as goal

pub returns-in-None-clause-none : goal.returns-in-None-clause-none
returns-in-None-clause-none c =
    let same : c.deref.result.now ≡ c.args.bytes.now ++ line_ending c.args.bytes.now = c.deref.ensures.value ∙ c.in_ok-text.ensures ∙ ap (λ (t : List ℕ). c.args.bytes.now ++ t) c.line_ending-end.ensures in
    λ l valid e. c.in-None.ensures.none l [] (valid, same ∙ e ∙ sym (append-nil (print_chunk_line l)))

pub returns-clause-none : goal.returns-clause-none
returns-clause-none c =
    let same : c.deref.result.now ≡ c.args.bytes.now ++ line_ending c.args.bytes.now = c.deref.ensures.value ∙ c.in_ok-text.ensures ∙ ap (λ (t : List ℕ). c.args.bytes.now ++ t) c.line_ending-end.ensures in
    let line = c.in-Some.ensures.some in
    λ l valid e. never_cut c.deref.result.now c.in-Some.at c.in-Some.size line.0 line.1 (λ k. omega arith) l valid (same ∙ e)
