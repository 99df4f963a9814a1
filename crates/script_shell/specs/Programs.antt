-- The run of the program. Our own form.
use Rattle.std.specs.Prelude.{◌≡◌, ◌<◌, ℕ, List, [], length, take, Bool, Option, Some, None, Result, Ok, Err, ◌⊎◌}
use Rattle.std.specs.Io.KnownBytes.{Appends}
use Rattle.fault_count.specs.Steps.{Rose}
use Rattle.call_moves.specs.Evaluations.{Meaning}
use Rattle.kind_trait.specs.Meanings.{Told}
use Rattle.platform_hall.specs.Cores.{CoreView}
use Rattle.prop_map.specs.declared.properties.Property.{Property}
use Rattle.scr_world.specs.declared.command.Limits.{Limits}
use Rattle.scr_world.specs.Legal.{IsLegal}
use Rattle.scr_world.specs.Steps.{history_of}
use Rattle.script_shell.specs.declared.form.AskedText.{AskedText}
use Rattle.script_shell.specs.declared.status.Status.{Status}
use Rattle.script_shell.specs.declared.status.Status.TheVariants.{Done, WriteFault, NoMemory}
use Rattle.script_shell.specs.FormRuns.{EndsForm, FaultsIn, RunsForm}
use Rattle.script_shell.specs.Forms.{form_of, text_asked}
use Rattle.script_shell.specs.Statuses.{HasCause, code_of, read_faults_after, write_faults_after}

-- an end before and after a run: the bytes that it has left or has taken, where it tells them, and how often it failed
pub record EndView : Type 0 where
  pub bytes : Option (List ℕ)
  pub faults : ℕ

-- the greatest limits of a platform
abbrev pub greatest_limits : Limits
greatest_limits = record { journal = 4194304; turns = 1000000 }

-- the platform on which a program begins
abbrev pub new_platform : CoreView
new_platform = record { limits = greatest_limits; journal = [] }

-- what `run_script` says of a run, all of it
pub record RunsWords (refuses : List ℕ → List Property → Told → Bool) (next : Meaning) (words : List (List ℕ)) (before after : CoreView) (input input' output output' : EndView) (status : Status) : Type 0 where
  pub run : RunsForm refuses next (form_of words) input.bytes input'.bytes before after output.bytes output'.bytes status
  pub cause : HasCause status (form_of words) (Rose input.faults input'.faults) (Rose output.faults output'.faults)
  pub fault : FaultsIn refuses next (form_of words) input.bytes input'.bytes before after output.bytes output'.bytes status
  pub read_faults : input'.faults ≡ read_faults_after input.faults status
  pub write_faults : output'.faults ≡ write_faults_after output.faults status
  pub complete : EndsForm refuses next (form_of words) (Rose input.faults input'.faults) (Rose output.faults output'.faults) input.bytes before status
  pub legal : IsLegal after.limits.journal (history_of after.journal)
  pub limits : after.limits ≡ before.limits

-- neither end was used
abbrev pub Unused : EndView → EndView → EndView → EndView → Type 0
Unused input input' output output' = (input' ≡ input) × (output' ≡ output)

-- The words run on a new platform with the greatest limits; or memory is wanting before anything is read or written.
abbrev pub RunsNew : (List ℕ → List Property → Told → Bool) → Meaning → List (List ℕ) → EndView → EndView → EndView → EndView → Status → Type 0
RunsNew refuses next words input input' output output' status =
    ((after : CoreView) × RunsWords refuses next words new_platform after input input' output output' status) ⊎ ((status ≡ NoMemory) × Unused input input' output output')

-- a text is written whole, or a front of it where the sink fails; where memory is wanting, nothing of it
abbrev pub WritesText : List ℕ → Option (List ℕ) → Option (List ℕ) → Status → Type 0
WritesText text written written' Done = Appends written written' text
WritesText text written written' WriteFault = (count : ℕ) × (count < length text) × Appends written written' (take count text)
WritesText text written written' NoMemory = written' ≡ written
WritesText text written written' _ = ⊥

-- some text is written, nothing is read, and no run is begun
pub record GivesText (input input' output output' : EndView) (status : Status) : Type 0 where
  pub text : List ℕ
  pub wrote : WritesText text output.bytes output'.bytes status
  pub unread : input' ≡ input
  pub write_faults : output'.faults ≡ write_faults_after output.faults status

-- a text is given where the words ask for one, and else they are run
abbrev pub GivesOrRuns : Option AskedText → (List ℕ → List Property → Told → Bool) → Meaning → List (List ℕ) → EndView → EndView → EndView → EndView → Status → Type 0
GivesOrRuns (Some asked) refuses next words input input' output output' status = GivesText input input' output output' status
GivesOrRuns None refuses next words input input' output output' status = RunsNew refuses next words input input' output output' status

abbrev pub AnswersWords : (List ℕ → List Property → Told → Bool) → Meaning → List (List ℕ) → EndView → EndView → EndView → EndView → Status → Type 0
AnswersWords refuses next words input input' output output' status = GivesOrRuns (text_asked words) refuses next words input input' output output' status

-- The program ends with the number of the status of its answer; where its words can't be read, with that of the status that tells why, and nothing is read or
-- written.
abbrev pub RunsProgram : (List ℕ → List Property → Told → Bool) → Meaning → Result (List (List ℕ)) Status → EndView → EndView → EndView → EndView → ℕ → Type 0
RunsProgram refuses next (Ok words) input input' output output' code = (status : Status) × (code ≡ code_of status) × AnswersWords refuses next words input input' output output' status
RunsProgram refuses next (Err status) input input' output output' code = (code ≡ code_of status) × Unused input input' output output'
