use Rattle.std.proofs.Common.{ap, ◌∙◌}
use Rattle.text_index.specs.Texts.{has_text}
use Rattle.text_index.proofs.SetLemmas.{found}
use Rattle.text_index.proofs.text_set.TextSet.has.Goals as goal

pub returns : goal.returns
returns c = c.contains.ensures ∙ found (λ k. k.items) c.args.text.now c.self.inside.texts.keys ∙ ap (λ s. has_text s c.args.text.now) c.self.view_is
