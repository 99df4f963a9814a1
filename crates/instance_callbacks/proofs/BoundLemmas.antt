-- Some item of the parts passes a test where some item of one part does.
use Rattle.std.proofs.Common.{◌≡◌, List, [], ◌∷◌, Bool, refl, ap, ◌∙◌}
use Rattle.std.specs.Prelude.{◌||◌}
use Rattle.std.specs.List.{list_any}
use Rattle.std.proofs.lemmas.List.Folds.{list_any-append}
use Rattle.shared_log.specs.Parts.{joined}

pub list_any-joined : {X : Type 0} (p : X → Bool) (parts : List (List X)) → list_any p (joined parts) ≡ list_any (list_any p) parts
list_any-joined p [] = refl
list_any-joined p (part ∷ parts) = list_any-append p part (joined parts) ∙ ap (λ b. list_any p part || b) (list_any-joined p parts)
