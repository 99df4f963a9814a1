-- What an instance was told last of a service (OSGi Compendium 8, chapter 112, "Updated Callback"; revisions are our own).
use Rattle.std.specs.Prelude.{ℕ, ◌&&◌, ◌==◌, ◌++◌, List, [], ◌∷◌, Bool, filter, find, not}
use Rattle.std.specs.Option.{option_map_or}
use Rattle.std.specs.Str.{bytes_eq}
use Rattle.told_revisions.specs.declared.tellings.ToldRevision.{ToldRevision}

-- whether a row is of this service for this reference
abbrev pub is_told_of : List ℕ → ℕ → ToldRevision → Bool
is_told_of reference service t = bytes_eq t.reference reference && (t.service == service)

-- the rows but for a service's
abbrev pub without_told : List ℕ → ℕ → List ToldRevision → List ToldRevision
without_told reference service ts = filter (λ (t : ToldRevision). not (is_told_of reference service t)) ts

-- the rows with a service's revision, the last one
abbrev pub with_told : List ℕ → ℕ → ℕ → List ToldRevision → List ToldRevision
with_told reference service revision ts = without_told reference service ts ++ record { reference = reference; service = service; revision = revision } ∷ []

-- the revision that was told last, 0 where none was
abbrev pub revision_told : List ToldRevision → List ℕ → ℕ → ℕ
revision_told ts reference service = option_map_or (λ (t : ToldRevision). t.revision) (find (is_told_of reference service) ts) 0
