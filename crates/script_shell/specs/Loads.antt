-- `load`: its lines run as those of a script do, and behind the last one four lines of counts are written. Our own form.
use Rattle.std.specs.Prelude.{◌≡◌, ◌<◌, ◌+◌, ℕ, List, [], ◌++◌, ◌&&◌, length, take, filter, count_by, Bool, false, not, is_some, Option, ◌⊎◌}
use Rattle.std.specs.Io.KnownBytes.{Appends}
use Rattle.call_moves.specs.Evaluations.{Meaning}
use Rattle.kind_trait.specs.Meanings.{Told}
use Rattle.platform_hall.specs.Cores.{CoreView}
use Rattle.platform_hall.specs.Platforms.{world}
use Rattle.prop_map.specs.declared.properties.Property.{Property}
use Rattle.scr_world.specs.declared.command.Command.{Command}
use Rattle.scr_world.specs.Instances.{is_active_instance}
use Rattle.shell_lang.specs.declared.load_counts.LoadCounts.{LoadCounts}
use Rattle.shell_lang.specs.Loads.{counts_text, load_lines}
use Rattle.turn_runner.specs.declared.settle_fault.SettleFault.TheVariants.{Unsettled as StillDue, JournalFull as NoRoom, OutOfMemory}
use Rattle.script_shell.specs.declared.form.LoadNumbers.{LoadNumbers}
use Rattle.script_shell.specs.declared.load_answers.Answered.{Answered}
use Rattle.script_shell.specs.declared.status.Status.{Status}
use Rattle.script_shell.specs.declared.status.Status.TheVariants.{Done, WriteFault, NoMemory, JournalFull, Unsettled}
use Rattle.script_shell.specs.Asks.{Setting}
use Rattle.script_shell.specs.Cuts.{CutsFirst, Stays}
use Rattle.script_shell.specs.LineTexts.{Answer, is_refused}
use Rattle.script_shell.specs.Runs.{Grew, IsCutOff, Ran}

-- the lines of a load
abbrev pub lines_of_load : LoadNumbers → List (List ℕ)
lines_of_load load = load_lines load.seed load.bundles load.commands

-- they run as those of `script`
abbrev pub load_setting : (List ℕ → List Property → Told → Bool) → Meaning → Setting
load_setting refuses next = record { is_manual = false; refuses = refuses; next = next }

-- ---- the counts

-- whether a line has a reply that isn't a refusal
abbrev pub is_accepted : Answer → Bool
is_accepted answer = is_some answer.told && not (is_refused answer)

-- how many lines ran, and how their replies divide
abbrev pub answered_by : List Answer → Answered
answered_by answers = record { lines = length answers; accepted = count_by is_accepted answers; refused = count_by is_refused answers }

-- with them what the journal comes to: its entries, the turns that began, the open component configurations, the active instances
abbrev pub counts_with : Answered → CoreView → LoadCounts
counts_with answered p = record {
  lines = answered.lines;
  accepted = answered.accepted;
  refused = answered.refused;
  records = length p.journal;
  turns = (world p).turns_begun;
  satisfied = length (world p).open_periods;
  active = length (filter is_active_instance (world p).instances);
}

abbrev pub text_of_counts : Answered → CoreView → List ℕ
text_of_counts answered p = counts_text (counts_with answered p)

-- ---- the run

-- a load is cut off behind the lines that ran: memory is wanting, or the first of the others finds no room or needs more turns than the limit
abbrev pub CutsLoad : Setting → Status → CoreView → CoreView → List (List ℕ) → List Command → Type 0
CutsLoad s NoMemory before after others commands = Stays before after commands ⊎ CutsFirst s others OutOfMemory before after commands
CutsLoad s JournalFull before after others commands = CutsFirst s others NoRoom before after commands
CutsLoad s Unsettled before after others commands = CutsFirst s others StillDue before after commands
CutsLoad s _ before after others commands = ⊥

-- How a load ends behind the lines that ran, by its status: behind the last one this front of the text of the counts is written, all of it at Done, and else
-- nothing.
abbrev pub StopsLoad : Setting → Status → CoreView → CoreView → List (List ℕ) → List Command → List ℕ → List ℕ → Type 0
StopsLoad s Done before after others commands counts front = Stays before after commands × (others ≡ []) × (front ≡ counts)
StopsLoad s WriteFault before after others commands counts front = Stays before after commands × (others ≡ []) × ((count : ℕ) × (count < length counts) × (front ≡ take count counts))
StopsLoad s status before after others commands counts front = CutsLoad s status before after others commands × (front ≡ [])

-- What a load did: it ran its first lines, in order and each once, and nothing of their replies is written.
pub record RunsLoad (refuses : List ℕ → List Property → Told → Bool) (next : Meaning) (load : LoadNumbers) (before after : CoreView) (written_before written_after : Option (List ℕ)) (status : Status) : Type 0 where
  pub lines : List (List ℕ)
  pub others : List (List ℕ)
  pub between : CoreView
  pub commands : List Command
  pub later : List Command
  pub answers : List Answer
  pub front : List ℕ
  pub first : lines_of_load load ≡ lines ++ others
  -- each in its turn, as a line of `script` runs
  pub ran : Ran (load_setting refuses next) before lines before between commands answers
  -- behind them the load ended with its status; at Done and at a failed sink all lines ran, and the counts are those of the journal then
  pub stops : StopsLoad (load_setting refuses next) status between after others later (text_of_counts (answered_by answers) after) front
  pub grew : Grew before after (commands ++ later)
  pub wrote : Appends written_before written_after front

-- Where no line of the load lacks room, and none needs more turns than the limit, it ran through, or memory was wanting.
abbrev pub EndsLoad : (List ℕ → List Property → Told → Bool) → Meaning → LoadNumbers → CoreView → Status → Type 0
EndsLoad refuses next load before status =
    ¬ IsCutOff (load_setting refuses next) before (lines_of_load load) NoRoom → ¬ IsCutOff (load_setting refuses next) before (lines_of_load load) StillDue → (status ≡ NoMemory) ⊎ (status ≡ Done)
