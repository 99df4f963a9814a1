-- The forms of a run, by the words that ask for one. Our own form.
use Rattle.std.specs.Prelude.{◌<◌, ◌≤◌, ◌+◌, ◌&&◌, ◌||◌, not, ℕ, List, [], ◌∷◌, Bool, true, false, codes, nat_le, Option, Some, None, Result, Ok, Err, if◌then◌else◌}
use Rattle.std.specs.Option.{option_map_or}
use Rattle.std.specs.Str.{bytes_eq}
use Rattle.fault_count.specs.DecimalText.{decimal_of}
use Rattle.script_shell.specs.declared.form.AskedText.{AskedText}
use Rattle.script_shell.specs.declared.form.AskedText.TheVariants.{Program, Script as OfScript, Load as OfLoad, Version}
use Rattle.script_shell.specs.declared.form.Form.{Form}
use Rattle.script_shell.specs.declared.form.Form.TheVariants.{Script, Load}
use Rattle.script_shell.specs.declared.form.LoadNumbers.{LoadNumbers}
use Rattle.script_shell.specs.declared.form.ScriptOptions.{ScriptOptions}

-- ---- a script

-- `script` alone
abbrev pub no_options : ScriptOptions
no_options = record { manual = false; echo = false; strict = false; explain = false }

-- with the option of a word too, where it is one that isn't there yet
abbrev pub with_option : ScriptOptions → List ℕ → Option ScriptOptions
with_option options word =
    if bytes_eq word (codes "--manual") && not options.manual then Some (record options { manual = true })
    else (if bytes_eq word (codes "--echo") && not options.echo then Some (record options { echo = true })
    else (if bytes_eq word (codes "--strict") && not options.strict then Some (record options { strict = true })
    else (if bytes_eq word (codes "--explain") && not options.explain then Some (record options { explain = true }) else None)))

-- options may follow, each at most once, in any order; the first word has this number
abbrev pub after_options : ScriptOptions → ℕ → List (List ℕ) → Result Form ℕ
after_options options at [] = Ok (Script options)
after_options options at (word ∷ words) = option_map_or (λ more. after_options more (at + 1) words) (with_option options word) (Err at)

-- ---- a load

-- the number that a word spells, where it lies within these
abbrev pub number_within : ℕ → ℕ → List ℕ → Option ℕ
number_within least most word = option_map_or (λ n. if nat_le least n && nat_le n most then Some n else None) (decimal_of word) None

-- nothing follows `load SEED BUNDLES COMMANDS`
abbrev pub after_commands : LoadNumbers → List (List ℕ) → Result Form ℕ
after_commands load [] = Ok (Load load)
after_commands load (word ∷ words) = Err 4

-- 0 to 100,000 commands follow `load SEED BUNDLES`
abbrev pub after_bundles : ℕ → ℕ → List (List ℕ) → Result Form ℕ
after_bundles seed bundles [] = Err 3
after_bundles seed bundles (word ∷ words) = option_map_or (λ n. after_commands (record { seed = seed; bundles = bundles; commands = n }) words) (number_within 0 100000 word) (Err 3)

-- 1 to 100 bundles follow `load SEED`
abbrev pub after_seed : ℕ → List (List ℕ) → Result Form ℕ
after_seed seed [] = Err 2
after_seed seed (word ∷ words) = option_map_or (λ n. after_bundles seed n words) (number_within 1 100 word) (Err 2)

-- a number of 64 bits follows `load`
abbrev pub after_load : List (List ℕ) → Result Form ℕ
after_load [] = Err 1
after_load (word ∷ words) = option_map_or (λ n. after_seed n words) (decimal_of word) (Err 1)

-- ---- either

-- the form that the words are, or else the first word with which no form continues, or the number of words
abbrev pub form_of : List (List ℕ) → Result Form ℕ
form_of [] = Err 0
form_of (word ∷ words) = if bytes_eq word (codes "script") then after_options no_options 1 words else (if bytes_eq word (codes "load") then after_load words else Err 0)

-- numbers that a load may have
pub record IsLoad (load : LoadNumbers) : Type 0 where
  pub some : 0 < load.bundles
  pub few : load.bundles ≤ 100
  pub commands : load.commands ≤ 100000

-- its numbers, where a form has some
abbrev pub IsWithin : Form → Type 0
IsWithin (Script options) = Unit {0}
IsWithin (Load load) = IsLoad load

-- ---- texts in place of a run

abbrev pub asks_help : List ℕ → Bool
asks_help word = bytes_eq word (codes "--help") || bytes_eq word (codes "-h")

abbrev pub asks_version : List ℕ → Bool
asks_version word = bytes_eq word (codes "--version") || bytes_eq word (codes "-V")

-- the text that a word asks for, alone
abbrev pub text_of_word : List ℕ → Option AskedText
text_of_word word = if bytes_eq word (codes "help") || asks_help word then Some Program else (if asks_version word then Some Version else None)

-- the text on a form, by its first word
abbrev pub text_on : List ℕ → Option AskedText
text_on word = if bytes_eq word (codes "script") then Some OfScript else (if bytes_eq word (codes "load") then Some OfLoad else None)

-- the text that the words ask for, where they ask for one: by one word alone, or behind the first word of a form alone
abbrev pub text_asked : List (List ℕ) → Option AskedText
text_asked [] = None
text_asked (word ∷ []) = text_of_word word
text_asked (word ∷ second ∷ []) = if asks_help second then text_on word else None
text_asked (word ∷ second ∷ third ∷ words) = None
