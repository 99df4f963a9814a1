-- The words of a line: one blank stands between each two, so two blanks make an empty word. Our own form.
use Rattle.std.specs.Prelude.{ℕ, ◌+◌, ◌==◌, List, position, drop, Bool, Option, Some, None, option_map, Result, Ok, Err}
use Rattle.std.specs.List.{before_first}
use Rattle.std.specs.Option.{option_map_or}
use Rattle.prop_map.specs.Words.{after}
use Rattle.fault_count.specs.DecimalText.{decimal_of}
use Rattle.shell_lang.specs.declared.words.Misfit.{Misfit}

abbrev pub is_blank : ℕ → Bool
is_blank b = b == 32

-- the first word of a text
abbrev pub first_word : List ℕ → List ℕ
first_word text = before_first is_blank text

-- what follows the blank behind the first word, if there is one
abbrev pub behind_word : List ℕ → Option (List ℕ)
behind_word text = option_map (λ at. drop (at + 1) text) (position is_blank text)

-- the word at this place doesn't fit, or is missing
abbrev pub misfit : {T : Type 0} → ℕ → Result T Misfit
misfit at = Err (record { at = at })

-- the text at this place, to the end of the line
abbrev pub text_at : ℕ → Option (List ℕ) → Result (List ℕ) Misfit
text_at at None = misfit at
text_at at (Some text) = Ok text

-- the word at this place, and what follows it
abbrev pub word_at : ℕ → Option (List ℕ) → Result (List ℕ × Option (List ℕ)) Misfit
word_at at rest = after (text_at at rest) (λ text. Ok (first_word text, behind_word text))

-- the number at this place, and what follows it
abbrev pub number_at : ℕ → Option (List ℕ) → Result (ℕ × Option (List ℕ)) Misfit
number_at at rest = after (word_at at rest) (λ word. option_map_or (λ number. Ok (number, word.1)) (decimal_of word.0) (misfit at))

-- no word stands at this place
abbrev pub nothing_at : ℕ → Option (List ℕ) → Result (Unit {0}) Misfit
nothing_at at None = Ok tt
nothing_at at (Some text) = misfit at

-- a number alone
abbrev pub only_number : Option (List ℕ) → Result ℕ Misfit
only_number rest = after (number_at 1 rest) (λ first. after (nothing_at 2 first.1) (λ _. Ok first.0))

-- two numbers
abbrev pub two_numbers : Option (List ℕ) → Result (ℕ × ℕ) Misfit
two_numbers rest = after (number_at 1 rest) (λ first. after (number_at 2 first.1) (λ second. after (nothing_at 3 second.1) (λ _. Ok (first.0, second.0))))

-- a number and a word
abbrev pub number_and_word : Option (List ℕ) → Result (ℕ × List ℕ) Misfit
number_and_word rest = after (number_at 1 rest) (λ first. after (word_at 2 first.1) (λ second. after (nothing_at 3 second.1) (λ _. Ok (first.0, second.0))))

-- a word alone
abbrev pub only_word : Option (List ℕ) → Result (List ℕ) Misfit
only_word rest = after (word_at 1 rest) (λ first. after (nothing_at 2 first.1) (λ _. Ok first.0))

-- a word and a text
abbrev pub word_and_text : Option (List ℕ) → Result (List ℕ × List ℕ) Misfit
word_and_text rest = after (word_at 1 rest) (λ first. after (text_at 2 first.1) (λ text. Ok (first.0, text)))

-- two words and a text
abbrev pub two_words_and_text : Option (List ℕ) → Result (List ℕ × List ℕ × List ℕ) Misfit
two_words_and_text rest = after (word_at 1 rest) (λ first. after (word_at 2 first.1) (λ second. after (text_at 3 second.1) (λ text. Ok (first.0, second.0, text))))

-- a number and a text
abbrev pub number_and_text : Option (List ℕ) → Result (ℕ × List ℕ) Misfit
number_and_text rest = after (number_at 1 rest) (λ first. after (text_at 2 first.1) (λ text. Ok (first.0, text)))

-- two numbers and a text
abbrev pub two_numbers_and_text : Option (List ℕ) → Result (ℕ × ℕ × List ℕ) Misfit
two_numbers_and_text rest = after (number_at 1 rest) (λ first. after (number_at 2 first.1) (λ second. after (text_at 3 second.1) (λ text. Ok (first.0, second.0, text))))
