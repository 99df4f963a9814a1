use Rattle.std.proofs.Common.{◌≡◌, ap, ◌∙◌, w64}
use Rattle.std.proofs.lemmas.Int.{to_z-of_z}
use Rattle.service_registry.specs.Services.{ranking_in}
use Rattle.service_registry.proofs.service_rank.ranking.Goals as goal

pub returns : goal.returns
returns c = to_z-of_z w64 c.ranking_in.result (record { sfits = c.ranking_in.type_inv }) ∙ c.ranking_in.ensures ∙ ap ranking_in c.get.ensures
