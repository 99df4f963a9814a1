use Rattle.std.proofs.Common.{ap, ◌∙◌, ◌||◌, not}
use Rattle.std.specs.Prelude.{map}
use Rattle.std.specs.Str.{bytes_eq}
use Rattle.text_index.specs.Texts.{has_text}
use Rattle.text_index.proofs.SetLemmas.{found, inserted}
use Rattle.text_index.proofs.text_set.TextSet.insert.Goals as goal

pub returns-clause-answer : goal.returns-clause-answer
returns-clause-answer c =
    let there = found (λ k. k.items) c.in_ok-key.key.items c.self.inside.texts.keys in
    c.in_ok-insert.ensures.added ∙ ap not (there ∙ ap (has_text (map (λ k. k.items) c.self.inside.texts.keys)) c.in_ok-key.ensures.items ∙ ap (λ s. has_text s c.args.text.now) c.self.view_is)

pub returns-clause-added : goal.returns-clause-added
returns-clause-added c = λ other.
    ap (λ ks. has_text (map (λ k. k.items) ks) other) c.in_ok-insert.ensures.keys
    ∙ inserted (λ k. k.items) other c.self.inside.texts.keys c.in_ok-key.key
    ∙ ap (λ t. bytes_eq t other || has_text (map (λ k. k.items) c.self.inside.texts.keys) other) c.in_ok-key.ensures.items
    ∙ ap (λ s. bytes_eq c.args.text.now other || has_text s other) c.self.view_is
