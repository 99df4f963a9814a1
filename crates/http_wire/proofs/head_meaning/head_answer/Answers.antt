use Rattle.std.proofs.Common.{◌∙◌, sym, subst, inl, inr, List, ℕ}
use Rattle.http_wire.specs.TargetPath.{IsPath}
use Rattle.http_wire.proofs.head_meaning.head_answer.Goals as goal

pub returns-in_default-path : goal.returns-in_default-path
returns-in_default-path c h shows =
    let none = rw c.in_default-path.is at c.in_ok-path.ensures in
    inr (inl (λ path p. none path (subst (λ (t : List ℕ). IsPath t path) (sym shows.target ∙ sym c.of.ensures ∙ sym c.in-Ok.ensures.cases.0) p)))
