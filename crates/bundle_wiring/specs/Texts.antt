-- What the texts of a manifest read as, by the machines that read them: the value, or the place where the text ceases to spell one.
-- `note_texts` says that these functions are what the grammars of versions, ranges and clauses say.
use Rattle.std.specs.Prelude.{ℕ, suc, List, [], ◌∷◌, Option, Some, None, option_and_then, Result, Ok, Err}
use Rattle.bundle_headers.specs.ClauseSteps.{clauses_at_end, clauses_start, clauses_step}
use Rattle.bundle_headers.specs.declared.clauses.Clauses.{Clauses}
use Rattle.osgi_version.specs.Readings.{run}
use Rattle.osgi_version.specs.RangeSteps.{range_at_end, range_step}
use Rattle.osgi_version.proofs.RangeReader.{range_reader}
use Rattle.osgi_version.proofs.Readers.{IsReader}
use Rattle.osgi_version.specs.declared.range.VersionRange.{VersionRange}
use Rattle.osgi_version.specs.declared.version.Version.{Version}
use Rattle.osgi_version.specs.VersionStart.{version_start}
use Rattle.osgi_version.specs.VersionSteps.{version_at_end, version_step}

-- none behind a step that isn't made, else one more than behind it
abbrev pub reach_behind : {S : Type 0} → (S → ℕ) → Option S → ℕ
reach_behind behind None = 0
reach_behind behind (Some t) = suc (behind t)

-- how many bytes a machine takes before it stops
abbrev pub reach : {S : Type 0} → (S → ℕ → Option S) → S → List ℕ → ℕ
reach step s [] = 0
reach step s (b ∷ bs) = reach_behind (λ t. reach step t bs) (step s b)

abbrev pub value_or_place : {V : Type 0} → ℕ → Option V → Result V ℕ
value_or_place at None = Err at
value_or_place at (Some v) = Ok v

-- what a machine reads
abbrev pub reading_by : {S V : Type 0} → (S → ℕ → Option S) → (S → Option V) → S → List ℕ → Result V ℕ
reading_by step at_end start text = value_or_place (reach step start text) (option_and_then at_end (run step start text))

abbrev pub version_of : List ℕ → Option Version
version_of text = option_and_then version_at_end (run version_step version_start text)

abbrev pub version_reading : List ℕ → Result Version ℕ
version_reading text = reading_by version_step version_at_end version_start text

-- where the machine of a reader begins
abbrev pub start_of : {S V : Type 0} {step : S → ℕ → Option S} {at_end : S → Option V} {start : S} {Spelled : List ℕ → V → Type 0} → IsReader step at_end start Spelled → S
start_of {start = s} reader = s

abbrev pub range_reading : List ℕ → Result VersionRange ℕ
range_reading text = reading_by range_step range_at_end (start_of range_reader) text

abbrev pub clauses_reading : List ℕ → Result Clauses ℕ
clauses_reading text = reading_by clauses_step clauses_at_end clauses_start text
