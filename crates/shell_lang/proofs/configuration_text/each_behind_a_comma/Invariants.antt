use Rattle.std.proofs.Common.{◌≡◌, ◌++◌, drop, flat_map, map}
use Rattle.std.specs.Fmt.{decimal}
use Rattle.std.specs.Prelude.{codes}
use Rattle.std.specs.String.{string_bytes}
use Rattle.shell_lang.proofs.configuration_text.each_behind_a_comma.Given as goal

-- the text so far and that of the numbers that are left
abbrev pub invariant-loop-number : goal.invariant-loop-number
invariant-loop-number l = string_bytes l.text ++ flat_map (λ next. codes "," ++ next) (map decimal (drop l.number-index l.numbers)) ≡ flat_map (λ next. codes "," ++ next) (map decimal l.numbers)
