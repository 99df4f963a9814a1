use Rattle.http_wire.specs.declared.messages.BodyRead.TheVariants.{TooLarge}
use Rattle.http_wire.proofs.BodyReadingLemmas.{refused}
use Rattle.http_wire.proofs.body_reading.refusal.Goals as goal

pub returns-then-branch-2 : goal.returns-then-branch-2
returns-then-branch-2 c =
    refused c.in_ok-end.end c.args.bytes.now TooLarge c.requires.none c.in_ok-end.ensures.front (λ none. (none, c.in_ok-begins_body.ensures.0 c.if-branch-2.true))
