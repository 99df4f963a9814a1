-- The lines that `load` runs, and the text of its counts. Our own form.
use Rattle.std.specs.Prelude.{◌≡◌, ℕ, zero, suc, ◌+◌, ◌-◌, ◌*◌, ◌/◌, ◌%◌, ◌==◌, List, [], ◌∷◌, ◌++◌, codes, Bool, Option, Some, None, if◌then◌else◌}
use Rattle.std.specs.Fmt.{decimal}
use Rattle.shell_lang.specs.declared.load_counts.LoadCounts.{LoadCounts}

-- the number that is drawn behind another one, and what it gives below a limit
abbrev pub next_of : ℕ → ℕ
next_of x = (1103515245 * x + 12345) % 2147483648

abbrev pub drawn : ℕ → ℕ → ℕ
drawn x below = x / 65536 % below

abbrev pub policy_text : ℕ → List ℕ
policy_text policy =
    if policy == 0 then codes "\"static\",\"policyOption\":\"reluctant\""
    else (if policy == 1 then codes "\"static\",\"policyOption\":\"greedy\""
    else (if policy == 2 then codes "\"dynamic\",\"policyOption\":\"reluctant\"" else codes "\"dynamic\",\"policyOption\":\"greedy\""))

-- a reference on the interface of a bundle
abbrev pub reference_text : ℕ → List ℕ → List ℕ
reference_text bundle policy =
    codes ",\"references\":[{\"name\":\"r\",\"interfaceName\":\"I" ++ decimal bundle ++ codes "\",\"policy\":" ++ policy ++ codes "}]"

-- the references of a bundle behind this number: the first one has none, any other one on the interface of a bundle before it
abbrev pub references_at : ℕ → ℕ → List ℕ
references_at x bundle = if bundle == 1 then [] else reference_text (drawn (next_of x) (bundle - 1) + 1) (policy_text (drawn (next_of (next_of x)) 4))

abbrev pub after_install : ℕ → ℕ → ℕ
after_install x bundle = if bundle == 1 then x else next_of (next_of x)

abbrev pub install_line : ℕ → List ℕ → List ℕ
install_line bundle references =
    codes "install {\"location\":\"g" ++ decimal bundle ++ codes "\",\"components\":{\"a\":{\"name\":\"g" ++ decimal bundle
    ++ codes "\",\"implementationClass\":\"G\",\"immediate\":true,\"serviceInterfaces\":[\"I" ++ decimal bundle ++ codes "\"]" ++ references ++ codes "}}}"

abbrev pub start_line : ℕ → List ℕ
start_line bundle = codes "start " ++ decimal bundle

-- a command by what is drawn for it: its kind, its bundle and a value
abbrev pub command_line : ℕ → ℕ → ℕ → List ℕ
command_line kind bundle value =
    if kind == 0 then codes "stop " ++ decimal bundle
    else (if kind == 1 then start_line bundle
    else (if kind == 2 then codes "config g" ++ decimal bundle ++ codes " {\"v\":" ++ decimal value ++ codes "}" else codes "unconfig g" ++ decimal bundle))

-- the kind of the command behind this number, and the number behind the command: a value is drawn for a configuration alone
abbrev pub kind_at : ℕ → ℕ
kind_at x = drawn (next_of (next_of x)) 4

abbrev pub after_command : ℕ → ℕ
after_command x = if kind_at x == 2 then next_of (next_of (next_of x)) else next_of (next_of x)

abbrev pub command_at : ℕ → ℕ → List ℕ
command_at x bundles = command_line (kind_at x) (drawn (next_of x) bundles + 1) (drawn (after_command x) 100)

-- the lines of so many commands behind this number
abbrev pub command_lines : ℕ → ℕ → ℕ → List (List ℕ)
command_lines x bundles zero = []
command_lines x bundles (suc more) = command_at x bundles ∷ command_lines (after_command x) bundles more

-- the lines of so many bundles from one on, and those of the commands behind them
unfoldable pub lines_from : ℕ → ℕ → ℕ → ℕ → ℕ → List (List ℕ)
lines_from x bundle zero bundles commands = command_lines x bundles commands
lines_from x bundle (suc more) bundles commands =
    install_line bundle (references_at x bundle) ∷ start_line bundle ∷ lines_from (after_install x bundle) (bundle + 1) more bundles commands

-- the lines of `load SEED BUNDLES COMMANDS`
abbrev pub load_lines : ℕ → ℕ → ℕ → List (List ℕ)
load_lines seed bundles commands = lines_from (seed % 2147483648) 1 bundles bundles commands

-- the lines that are left, those of so many bundles from one on, of which the first may be installed already, and those of so many commands
abbrev pub lines_left : ℕ → ℕ → ℕ → Bool → ℕ → ℕ → List (List ℕ)
lines_left x bundle more is_installed bundles commands =
    if is_installed then start_line bundle ∷ lines_from x (bundle + 1) (more - 1) bundles commands else lines_from x bundle more bundles commands

-- the first of the lines that are left is given, or none is left
abbrev pub GivesFirst : List (List ℕ) → List (List ℕ) → Option (List ℕ) → Type 0
GivesFirst before after None = (before ≡ []) × (after ≡ [])
GivesFirst before after (Some line) = before ≡ line ∷ after

-- the four lines behind the last
abbrev pub answered_text : ℕ → ℕ → ℕ → List ℕ
answered_text lines accepted refused = codes "commands " ++ decimal lines ++ codes " ok " ++ decimal accepted ++ codes " refused " ++ decimal refused ++ codes "\n"

abbrev pub journal_text : ℕ → ℕ → List ℕ
journal_text records turns = codes "records " ++ decimal records ++ codes "\nturns " ++ decimal turns ++ codes "\n"

abbrev pub states_text : ℕ → ℕ → List ℕ
states_text satisfied active = codes "satisfied " ++ decimal satisfied ++ codes " active " ++ decimal active ++ codes "\n"

abbrev pub counts_text : LoadCounts → List ℕ
counts_text counts = answered_text counts.lines counts.accepted counts.refused ++ journal_text counts.records counts.turns ++ states_text counts.satisfied counts.active
