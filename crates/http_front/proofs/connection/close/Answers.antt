use Rattle.http_front.proofs.FlowLemmas.{front_of_length}
use Rattle.http_front.proofs.connection.close.Goals as goal

pub returns-else-send-clause-end : goal.returns-else-send-clause-end
returns-else-send-clause-end g c = let front = c.if-send.ensures.front in front_of_length _ _ _ front.0 front.2
