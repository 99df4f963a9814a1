-- The commands that make a platform again from what is kept. Our own.
use Rattle.std.specs.Prelude.{◌≡◌, ℕ, suc, List, [], ◌∷◌, ◌++◌, map, if◌then◌else◌}
use Rattle.std.specs.Prelude.{Option, Some, None, option_map, Result, Ok, Err}
use Rattle.std.specs.Option.{option_and_then}
use Rattle.scr_world.specs.declared.command.Command.{Command}
use Rattle.scr_world.specs.declared.command.Command.TheVariants.{Install, Start, Configure, ConfigureFactory}
use Rattle.world_keeper.specs.declared.kept.Kept.{Kept}
use Rattle.world_keeper.specs.declared.kept.KeptBundle.{KeptBundle}
use Rattle.world_keeper.specs.declared.kept.KeptConfiguration.{KeptConfiguration}
use Rattle.world_reopening.specs.Readings.{document_in, name_of, properties_in}
use Rattle.world_reopening.specs.declared.reopen_fault.ReopenFault.{ReopenFault}
use Rattle.world_reopening.specs.declared.reopen_fault.ReopenFault.TheVariants.{BadKept, OutOfMemory}

-- ---- rows

abbrev pub own_command : List ℕ → List ℕ → Option Command
own_command pid text = option_map (λ properties. Configure pid properties) (properties_in text)

abbrev pub named_command : List ℕ → List ℕ → List ℕ → Option Command
named_command factory name text =
    option_map (λ properties. ConfigureFactory factory name properties) (properties_in text)

abbrev pub factory_command : List ℕ → List ℕ → List ℕ → Option Command
factory_command factory pid text = option_and_then (λ name. named_command factory name text) (name_of factory pid)

abbrev pub command_for : Option (List ℕ) → List ℕ → List ℕ → Option Command
command_for None pid text = own_command pid text
command_for (Some factory) pid text = factory_command factory pid text

-- what a kept configuration is read as
abbrev pub configuration_command : KeptConfiguration → Option Command
configuration_command c = command_for c.factory c.pid c.properties

-- what a kept bundle is read as: its document, with its kept location
abbrev pub install_command : KeptBundle → Option Command
install_command b = option_map (λ doc. Install (record doc { location = b.location })) (document_in b.document)

-- the rows: the configurations by PID, then the bundles in order
abbrev pub rows_of : Kept → List (Option Command)
rows_of kept = map configuration_command kept.configurations ++ map install_command kept.bundles

-- the first row without a reading, where the rows are numbered from this number on
abbrev pub first_unread : ℕ → List (Option Command) → Option ℕ
first_unread row [] = None
first_unread row (None ∷ rows) = Some row
first_unread row (Some command ∷ rows) = first_unread (suc row) rows

-- the commands that rows are read as
abbrev pub commands_of : List (Option Command) → List Command
commands_of [] = []
commands_of (None ∷ rows) = commands_of rows
commands_of (Some command ∷ rows) = command ∷ commands_of rows

-- ---- starts

-- a start of each that is marked, where the bundles are numbered from this number on
abbrev pub starts_from : ℕ → List KeptBundle → List Command
starts_from number [] = []
starts_from number (b ∷ bundles) =
    if b.started then Start number ∷ starts_from (suc number) bundles else starts_from (suc number) bundles

-- ---- all

abbrev pub unless_unread : Option ℕ → List Command → Result (List Command) ReopenFault
unless_unread (Some row) commands = Err (BadKept row)
unless_unread None commands = Ok commands

abbrev pub reopening : Kept → Result (List Command) ReopenFault
reopening kept =
    unless_unread (first_unread 0 (rows_of kept)) (commands_of (rows_of kept) ++ starts_from 1 kept.bundles)

-- A bad row that is told is the one that is there. Want of memory is free.
abbrev pub Tells : ReopenFault → Result (List Command) ReopenFault → Type 0
Tells (BadKept row) meaning = meaning ≡ Err (BadKept row)
Tells OutOfMemory meaning = Unit {0}

-- Rows are added as their commands, or the first is told that has no reading. The first row's number is how many
-- commands there were.
abbrev pub Adds : Result (Unit {0}) ReopenFault → ℕ → List (Option Command) → List Command → List Command → Type 0
Adds (Ok done) first rows old new = (first_unread first rows ≡ None) × (new ≡ old ++ commands_of rows)
Adds (Err (BadKept row)) first rows old new = first_unread first rows ≡ Some row
Adds (Err OutOfMemory) first rows old new = Unit {0}
