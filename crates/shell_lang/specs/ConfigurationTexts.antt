-- The lines of configurations. Our own form.
use Rattle.std.specs.Prelude.{ℕ, List, [], ◌∷◌, ◌++◌, codes, map, Option, Some, None}
use Rattle.std.specs.Fmt.{decimal}
use Rattle.shell_lang.specs.JoinedTexts.{joined}
use Rattle.shell_lang.specs.declared.configuration_line.ConfigurationLine.{ConfigurationLine}

-- the PID of a factory; a hyphen stands for none
abbrev pub shown_factory : Option (List ℕ) → List ℕ
shown_factory None = codes "-"
shown_factory (Some pid) = pid

-- numbers with commas between them; a hyphen stands for none
abbrev pub shown_numbers : List ℕ → List ℕ
shown_numbers [] = codes "-"
shown_numbers (n ∷ ns) = joined (codes ",") (map decimal (n ∷ ns))

-- a configuration's PID and its factory, and a text of the numbers for which it counts
abbrev pub counted_text : ConfigurationLine → List ℕ → List ℕ
counted_text row numbers = row.pid ++ codes " " ++ shown_factory row.factory ++ codes " " ++ numbers ++ codes "\n"

-- a configuration's PID, its factory, and the component configurations for which it counts
abbrev pub configuration_text : ConfigurationLine → List ℕ
configuration_text row = counted_text row (shown_numbers row.numbers)
