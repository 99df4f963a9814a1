use Rattle.std.proofs.Common.{◌≡◌, ℕ, List, false}
use Rattle.std.specs.Prelude.{codes}
use Rattle.std.specs.Str.{bytes_eq}
use Rattle.std.proofs.lemmas.Bool.{false_from_ne_true}
use Rattle.std.proofs.lemmas.Slice.Eq.{bytes_eq-Decides}
use Rattle.shell_lang.proofs.line_forms.telling_line.Goals as goal

differ : (word text : List ℕ) → (word ≡ text → ⊥) → bytes_eq word text ≡ false
differ word text other = false_from_ne_true (bytes_eq word text) (λ e. other ((bytes_eq-Decides word text).0 e))

pub returns-in_default : goal.returns-in_default
returns-in_default c =
    let w = c.args.word.now in
    rw (differ w (codes "details") c.in_default.not-details, differ w (codes "service") c.in_default.not-service, differ w (codes "descriptions") c.in_default.not-descriptions) c.paired_line.ensures
