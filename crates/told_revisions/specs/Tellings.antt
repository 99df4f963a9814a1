-- What an instance knows after it was told of services, one after the other. Our own.
use Rattle.std.specs.Prelude.{List, [], ◌∷◌}
use Rattle.told_revisions.specs.declared.tellings.Telling.{Telling}
use Rattle.told_revisions.specs.declared.tellings.Telling.TheVariants.{Told, Forgotten}
use Rattle.told_revisions.specs.declared.tellings.ToldRevision.{ToldRevision}
use Rattle.told_revisions.specs.Told.{with_told, without_told}

-- one telling more
abbrev pub told_by : Telling → List ToldRevision → List ToldRevision
told_by (Told t) ts = with_told t.reference t.service t.revision ts
told_by (Forgotten reference service) ts = without_told reference service ts

-- tellings, the first one first
abbrev pub told_after : List ToldRevision → List Telling → List ToldRevision
told_after ts [] = ts
told_after ts (telling ∷ tellings) = told_after (told_by telling ts) tellings
