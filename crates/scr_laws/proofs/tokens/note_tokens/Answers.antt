use Rattle.scr_laws.proofs.TokenCounts.{are_counted}
use Rattle.scr_laws.proofs.tokens.note_tokens.Goals as goal

pub returns : goal.returns
returns c = are_counted
