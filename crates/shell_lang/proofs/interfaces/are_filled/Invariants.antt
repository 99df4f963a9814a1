use Rattle.std.proofs.Common.{◌≡◌, drop}
use Rattle.std.specs.Prelude.{map}
use Rattle.std.specs.List.{list_all}
use Rattle.shell_lang.specs.Interfaces.{is_filled}
use Rattle.shell_lang.proofs.interfaces.are_filled.Given as goal

-- all depends on the names that are left
abbrev pub invariant-loop-name : goal.invariant-loop-name
invariant-loop-name l = list_all is_filled (map (λ n. n.now) l.names) ≡ list_all is_filled (map (λ n. n.now) (drop l.name-index l.names))
