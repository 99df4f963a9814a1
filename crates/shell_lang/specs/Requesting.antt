-- What the line of a request asks. Our own form.
use Rattle.std.specs.Prelude.{ℕ, List, [], Option, Some, None, Result, Ok, if◌then◌else◌}
use Rattle.std.specs.Option.{unwrap_or}
use Rattle.httparse.specs.Grammar.{is_token}
use Rattle.prop_map.specs.Words.{after}
use Rattle.shell_lang.specs.declared.line_fault.LineFault.{LineFault}
use Rattle.shell_lang.specs.declared.shell_line.ShellLine.{ShellLine}
use Rattle.shell_lang.specs.declared.shell_line.ShellLine.TheVariants.{Http}
use Rattle.shell_lang.specs.declared.words.Misfit.{Misfit}
use Rattle.shell_lang.specs.LineFaults.{fitting}
use Rattle.shell_lang.specs.Words.{misfit, word_at}

-- the method at this place, a token, and what follows it
abbrev pub method_at : ℕ → Option (List ℕ) → Result (List ℕ × Option (List ℕ)) Misfit
method_at at rest = after (word_at at rest) (λ word. if is_token word.0 then Ok word else misfit at)

-- a body that is missing is empty
abbrev pub body_of : Option (List ℕ) → List ℕ
body_of rest = unwrap_or rest []

-- a method, a target, which may be an empty word, and the body behind them
abbrev pub requesting : Option (List ℕ) → Result ShellLine LineFault
requesting rest = fitting (method_at 1 rest) (λ method. fitting (word_at 2 method.1) (λ target. Ok (Http method.0 target.0 (body_of target.1))))
