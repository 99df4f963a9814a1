use Rattle.http_front.proofs.ServingLemmas.{refused_closes}
use Rattle.http_front.proofs.connection.refuse.Goals as goal

pub returns-in-Ok-clause-end : goal.returns-in-Ok-clause-end
returns-in-Ok-clause-end g c = refused_closes _ _ _ _ _ _ c.in-Ok.ensures.ok c.close.ensures.end
