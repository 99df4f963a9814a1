use Rattle.std.proofs.Common.{◌≡◌, ◌∙◌, List, ℕ, ◌++◌, length, subst, arith}
use Rattle.std.specs.Prelude.{IsTrue, ◌↔◌, ◌==◌}
use Rattle.http_wire.specs.ChunkContinuation.{IsSection}
use Rattle.http_wire.proofs.ChunkNeedsLemmas.{whole_section}
use Rattle.http_wire.proofs.chunk_needs.is_section.Goals as goal

pub returns-in-Some : goal.returns-in-Some
returns-in-Some c =
    let found = rw c.in-Some.is at c.in_ok-at.ensures.some in
    let same : c.deref.result.now ≡ c.args.bytes.now ++ c.args.end.now = c.deref.ensures.value ∙ c.in_ok-text.ensures in
    let size : c.len.result ≡ length c.deref.result.now = omega (arith, c.len.ensures, c.deref.ensures.len) in
    subst (λ (t : List ℕ). IsTrue (c.in-Some.at == c.len.result) ↔ IsSection t) same (whole_section c.deref.result.now c.in-Some.at c.len.result size found.0 found.1)
