use Rattle.std.proofs.Common.{◌∙◌, sym, inl, inr}
use Rattle.std.proofs.lemmas.Bool.{false≢true}
use Rattle.http_wire.specs.declared.messages.HeadRead.TheVariants.{TooLarge, Bad}
use Rattle.http_wire.proofs.HeadReadingLemmas.{none_reads_all}
use Rattle.http_wire.proofs.head_reading.without_head.Goals as goal

pub returns-then-branch-2 : goal.returns-then-branch-2
returns-then-branch-2 c =
    none_reads_all c.in_ok-end.end c.args.bytes.now TooLarge c.requires.none c.in_ok-end.ensures.front (λ no_head. (no_head, c.in_ok-begins_head.ensures.0 c.if-branch-2.true))

pub returns-else-branch-2 : goal.returns-else-branch-2
returns-else-branch-2 c =
    none_reads_all c.in_ok-end.end c.args.bytes.now Bad c.requires.none c.in_ok-end.ensures.front
    (λ no_head. ((λ b. false≢true (sym c.if-branch-2.false ∙ c.in_ok-begins_head.ensures.1 (inl b))), (λ i. false≢true (sym c.if-branch-2.false ∙ c.in_ok-begins_head.ensures.1 (inr i)))))
