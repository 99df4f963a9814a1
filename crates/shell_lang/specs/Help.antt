-- What the lines `help` ask: rows of the table of lines. Our own form.
use Rattle.std.specs.Prelude.{ℕ, List, ◌++◌, codes, map, filter, Bool, Option, Some, None, Result, Ok, if◌then◌else◌}
use Rattle.std.specs.List.{list_any}
use Rattle.std.specs.Str.{bytes_eq}
use Rattle.prop_map.specs.Words.{after}
use Rattle.shell_lang.specs.declared.line_fault.LineFault.{LineFault}
use Rattle.shell_lang.specs.declared.line_help.LineHelp.{LineHelp}
use Rattle.shell_lang.specs.declared.line_table.TheConstants.{LINES}
use Rattle.shell_lang.specs.declared.shell_line.ShellLine.{ShellLine}
use Rattle.shell_lang.specs.declared.shell_line.ShellLine.TheVariants.{Help}
use Rattle.shell_lang.specs.declared.words.Misfit.{Misfit}
use Rattle.shell_lang.specs.LineFaults.{fitting}
use Rattle.shell_lang.specs.Words.{first_word, misfit, nothing_at, word_at}

-- a row of the table of lines: the words of a line, and what it does
abbrev pub Row : Type 0
Row = List ℕ × List ℕ

-- the table of lines
unfoldable pub lines : List Row
lines = map (λ row. (row.0.now, row.1.now)) LINES.now

-- what is told of a line: its words and its sentence
abbrev pub told : Row → LineHelp
told row = record { words = row.0; sentence = row.1 }

-- the words of a row begin with this word
abbrev pub begins_with : List ℕ → Row → Bool
begins_with word row = bytes_eq (first_word row.0) word

-- what is told of the lines that begin with this word
abbrev pub help_of : List Row → List ℕ → List LineHelp
help_of rows word = map told (filter (begins_with word) rows)

-- the word at this place, with which a line begins, and what follows it
abbrev pub line_word_at : ℕ → Option (List ℕ) → Result (List ℕ × Option (List ℕ)) Misfit
line_word_at at rest = after (word_at at rest) (λ word. if list_any (begins_with word.0) lines then Ok word else misfit at)

-- the rows of all lines, or with a word those of the lines that begin with it
abbrev pub helping : Option (List ℕ) → Result ShellLine LineFault
helping None = Ok (Help (map told lines))
helping (Some text) = fitting (line_word_at 1 (Some text)) (λ word. fitting (nothing_at 2 word.1) (λ _. Ok (Help (help_of lines word.0))))

-- a line of the shell, and what it does
abbrev pub help_text : LineHelp → List ℕ
help_text row = row.words ++ codes ": " ++ row.sentence ++ codes "\n"
