use Rattle.std.proofs.Common.{◌≡◌, ◌++◌, drop, flat_map}
use Rattle.std.specs.String.{string_bytes}
use Rattle.shell_lang.proofs.joined_text.each_behind.Given as goal

-- the text so far and that of the texts that are left
abbrev pub invariant-loop-text : goal.invariant-loop-text
invariant-loop-text l = string_bytes l.joined ++ flat_map (λ next. l.between ++ next) (drop l.text-index l.texts) ≡ flat_map (λ next. l.between ++ next) l.texts
