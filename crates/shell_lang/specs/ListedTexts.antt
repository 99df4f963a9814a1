-- The lines of component configurations with what they wait for. Our own form.
use Rattle.std.specs.Prelude.{ℕ, ◌==◌, List, [], ◌∷◌, ◌++◌, codes, if◌then◌else◌}
use Rattle.std.specs.Fmt.{decimal}
use Rattle.shell_lang.specs.JoinedTexts.{joined}
use Rattle.shell_lang.specs.declared.listed_line.ListedLine.{ListedLine}

-- the word of a state
abbrev pub state_word : ℕ → List ℕ
state_word state =
    if state == 1 then codes "unconfigured"
    else (if state == 2 then codes "unsatisfied"
    else (if state == 8 then codes "active"
    else (if state == 16 then codes "failed" else codes "satisfied")))

-- names with commas between them; a hyphen stands for none
abbrev pub shown_names : List (List ℕ) → List ℕ
shown_names [] = codes "-"
shown_names (n ∷ ns) = joined (codes ",") (n ∷ ns)

-- a component configuration's number, its bundle, the word of its state and its name, and these texts of its interfaces and
-- of what it waits for
abbrev pub waiting_text : ListedLine → List ℕ → List ℕ → List ℕ
waiting_text row interfaces waits =
    decimal row.number ++ codes " " ++ decimal row.bundle ++ codes " " ++ state_word row.state ++ codes " " ++ row.name ++ codes " " ++ interfaces ++ codes " " ++ waits ++ codes "\n"

abbrev pub listed_text : ListedLine → List ℕ
listed_text row = waiting_text row (shown_names row.interfaces) (shown_names row.waits)
