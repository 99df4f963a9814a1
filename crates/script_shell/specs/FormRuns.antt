-- The run of a form: what becomes of the platform, what is read and written, and how it ends. Our own form.
use Rattle.std.specs.Prelude.{◌≡◌, ℕ, List, Bool, Option, Result, Ok, Err, ⊤}
use Rattle.std.specs.Io.KnownBytes.{Keeps}
use Rattle.call_moves.specs.Evaluations.{Meaning}
use Rattle.kind_trait.specs.Meanings.{Told}
use Rattle.platform_hall.specs.Cores.{CoreView}
use Rattle.prop_map.specs.declared.properties.Property.{Property}
use Rattle.script_shell.specs.declared.form.Form.{Form}
use Rattle.script_shell.specs.declared.form.Form.TheVariants.{Script, Load}
use Rattle.script_shell.specs.declared.form.ScriptOptions.{ScriptOptions}
use Rattle.script_shell.specs.declared.status.Status.{Status}
use Rattle.script_shell.specs.declared.status.Status.TheVariants.{Usage}
use Rattle.script_shell.specs.Asks.{Setting}
use Rattle.script_shell.specs.Loads.{EndsLoad, RunsLoad}
use Rattle.script_shell.specs.Runs.{EndsScript, FaultsAt, HasRunOver}

abbrev pub script_setting : (List ℕ → List Property → Told → Bool) → Meaning → ScriptOptions → Setting
script_setting refuses next options = record { is_manual = options.manual; refuses = refuses; next = next }

-- a script runs the lines of the input, a load its own and reads nothing; words that are no form do nothing
abbrev pub RunsForm : (List ℕ → List Property → Told → Bool) → Meaning → Result Form ℕ → Option (List ℕ) → Option (List ℕ) → CoreView → CoreView → Option (List ℕ) → Option (List ℕ) → Status → Type 0
RunsForm refuses next (Ok (Script options)) left left' before after written written' status = HasRunOver (script_setting refuses next options) options left before after written written' status
RunsForm refuses next (Ok (Load load)) left left' before after written written' status = RunsLoad refuses next load before after written written' status × (left' ≡ left)
RunsForm refuses next (Err at) left left' before after written written' status = (status ≡ Usage at) × (after ≡ before) × Keeps left left' × Keeps written written'

-- where a script's source failed, what was read has run, and each reply is written
abbrev pub FaultsIn : (List ℕ → List Property → Told → Bool) → Meaning → Result Form ℕ → Option (List ℕ) → Option (List ℕ) → CoreView → CoreView → Option (List ℕ) → Option (List ℕ) → Status → Type 0
FaultsIn refuses next (Ok (Script options)) left left' before after written written' status = FaultsAt status (script_setting refuses next options) options left left' before after written written'
FaultsIn refuses next (Ok (Load load)) left left' before after written written' status = ⊤
FaultsIn refuses next (Err at) left left' before after written written' status = ⊤

-- where the ends that it uses didn't fail, a run comes to its end unless a line is cut off
abbrev pub EndsForm : (List ℕ → List Property → Told → Bool) → Meaning → Result Form ℕ → Type 0 → Type 0 → Option (List ℕ) → CoreView → Status → Type 0
EndsForm refuses next (Ok (Script options)) read_failed write_failed left before status = ¬ read_failed → ¬ write_failed → EndsScript (script_setting refuses next options) options left before status
EndsForm refuses next (Ok (Load load)) read_failed write_failed left before status = ¬ write_failed → EndsLoad refuses next load before status
EndsForm refuses next (Err at) read_failed write_failed left before status = ⊤
