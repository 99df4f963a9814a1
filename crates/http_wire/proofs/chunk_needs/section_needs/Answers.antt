use Rattle.std.proofs.Common.{◌∙◌, sym}
use Rattle.std.proofs.lemmas.Bool.{false≢true}
use Rattle.http_wire.proofs.ChunkNeedsLemmas.{lacks_two, lacks_three, never_section}
use Rattle.http_wire.proofs.chunk_needs.section_needs.Goals as goal

pub returns-then-branch-3 : goal.returns-then-branch-3
returns-then-branch-3 c =
    lacks_two c.args.bytes.now (λ s. false≢true (sym c.if-branch.false ∙ c.in_ok-is_section.ensures.1 s)) (λ s. false≢true (sym c.if-branch-2.false ∙ c.in_ok-is_section-2.ensures.1 s))
    (c.in_ok-is_section-3.ensures.0 c.if-branch-3.true)

pub returns-then-branch-4 : goal.returns-then-branch-4
returns-then-branch-4 c =
    lacks_three c.args.bytes.now (λ s. false≢true (sym c.if-branch.false ∙ c.in_ok-is_section.ensures.1 s)) (λ s. false≢true (sym c.if-branch-2.false ∙ c.in_ok-is_section-2.ensures.1 s))
    (λ s. false≢true (sym c.if-branch-3.false ∙ c.in_ok-is_section-3.ensures.1 s)) (c.in_ok-is_section-4.ensures.0 c.if-branch-4.true)

pub returns : goal.returns
returns c =
    never_section c.args.bytes.now (λ s. false≢true (sym c.if-branch.false ∙ c.in_ok-is_section.ensures.1 s)) (λ s. false≢true (sym c.if-branch-2.false ∙ c.in_ok-is_section-2.ensures.1 s))
    (λ s. false≢true (sym c.if-branch-3.false ∙ c.in_ok-is_section-3.ensures.1 s)) (λ s. false≢true (sym c.if-branch-4.false ∙ c.in_ok-is_section-4.ensures.1 s))
