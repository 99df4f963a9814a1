-- Texts that other crates read, by their machines, as a function of the text. `note_versions` and `note_clauses` say that these
-- functions are what the grammars of versions and clauses say.
use Rattle.std.specs.Prelude.{ℕ, suc, List, [], ◌∷◌, Option, Some, None, option_and_then, Result}
use Rattle.bundle_headers.specs.ClauseSteps.{clauses_at_end, clauses_start, clauses_step}
use Rattle.bundle_headers.specs.declared.clauses.Clauses.{Clauses}
use Rattle.osgi_version.specs.Readings.{run}
use Rattle.osgi_version.specs.VersionSteps.{version_at_end, version_step}
use Rattle.osgi_version.specs.VersionStart.{version_start}
use Rattle.osgi_version.specs.declared.fault.VersionFault.{VersionFault}
use Rattle.osgi_version.specs.declared.fault.VersionFault.TheVariants.{BadVersion}
use Rattle.osgi_version.specs.declared.version.Version.{Version}
use Rattle.component_dto.specs.Fields.{or_fault}

-- none behind a step that isn't made, else one more than behind it
abbrev pub reach_behind : {S : Type 0} → (S → ℕ) → Option S → ℕ
reach_behind behind None = 0
reach_behind behind (Some t) = suc (behind t)

-- how many bytes a machine takes before it stops
abbrev pub reach : {S : Type 0} → (S → ℕ → Option S) → S → List ℕ → ℕ
reach step s [] = 0
reach step s (b ∷ bs) = reach_behind (λ t. reach step t bs) (step s b)

-- the version that a text is, or the place where it ceases to be one
abbrev pub version_of : List ℕ → Result Version VersionFault
version_of text = or_fault (BadVersion (reach version_step version_start text)) (option_and_then version_at_end (run version_step version_start text))

-- the clauses that a text is, if it is a list of clauses
abbrev pub clauses_of : List ℕ → Option Clauses
clauses_of text = option_and_then clauses_at_end (run clauses_step clauses_start text)
