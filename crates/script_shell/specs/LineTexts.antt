-- What a line that ran is answered, and the text that is written of it. Our own form.
use Rattle.std.specs.Prelude.{◌≡◌, ◌||◌, ℕ, List, [], ◌∷◌, ◌++◌, flat_map, codes, Bool, true, false, Option, is_some, if◌then◌else◌}
use Rattle.std.specs.List.{list_any}
use Rattle.std.specs.Option.{option_map_or}
use Rattle.fault_count.specs.Steps.{next_count}
use Rattle.shell_lang.specs.declared.shell_reply.ShellReply.{ShellReply}
use Rattle.shell_lang.specs.declared.shell_reply.ShellReply.TheVariants.{Refused}
use Rattle.shell_lang.specs.ReplyTexts.{reply_text}

-- a line that ran, and its reply, where it has one
pub record Answer : Type 0 where
  pub line : List ℕ
  pub told : Option ShellReply

-- ---- texts

-- with `--echo` a line stands before its reply
abbrev pub echo_text : List ℕ → List ℕ
echo_text line = codes "> " ++ line ++ 10 ∷ []

-- the text of a reply, nothing where there is none
abbrev pub told_text : Option ShellReply → List ℕ
told_text told = option_map_or reply_text told []

-- the text that is written of a line, with `--echo` or without
abbrev pub answer_text : Bool → Answer → List ℕ
answer_text echo answer = if echo then echo_text answer.line ++ told_text answer.told else told_text answer.told

-- whether a text is made of a line
abbrev pub has_text : Bool → Answer → Bool
has_text echo answer = echo || is_some answer.told

-- the texts of lines, one after the other
abbrev pub texts : Bool → List Answer → List ℕ
texts echo answers = flat_map (answer_text echo) answers

-- ---- refusals

abbrev pub is_refusal : ShellReply → Bool
is_refusal (Refused refusal) = true
is_refusal _ = false

abbrev pub is_told_refusal : Option ShellReply → Bool
is_told_refusal told = option_map_or is_refusal told false

abbrev pub is_refused : Answer → Bool
is_refused answer = is_told_refusal answer.told

-- whether one of these lines is refused
abbrev pub has_refusal : List Answer → Bool
has_refusal answers = list_any is_refused answers

-- the number of the line behind these lines, the first of which has this number
abbrev pub number_behind : ℕ → List Answer → ℕ
number_behind number [] = number
number_behind number (answer ∷ answers) = number_behind (next_count number) answers

-- of these lines the last one alone is refused, and it has this number
abbrev pub IsRefusedLast : ℕ → List Answer → Type 0
IsRefusedLast number answers =
    (earlier : List Answer) × (last : Answer) × (answers ≡ earlier ++ last ∷ []) × (has_refusal earlier ≡ false) × (is_refused last ≡ true) × (number ≡ number_behind 1 earlier)
