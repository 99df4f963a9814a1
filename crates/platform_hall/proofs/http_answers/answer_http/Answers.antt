use Rattle.std.proofs.Common.{sym}
use Rattle.platform_hall.proofs.http_answers.answer_http.Goals as goal

pub returns : goal.returns
returns g c = (c.in_ok-told.told, sym c.answer_of.ensures, c.in_ok-told.ensures)
