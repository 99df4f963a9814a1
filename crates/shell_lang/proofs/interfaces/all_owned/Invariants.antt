use Rattle.std.proofs.Common.{◌≡◌, ◌++◌, drop}
use Rattle.std.specs.Prelude.{map}
use Rattle.shell_lang.proofs.interfaces.all_owned.Given as goal

-- the texts so far and those that are left
abbrev pub invariant-loop-name : goal.invariant-loop-name
invariant-loop-name l = l.texts.items ++ map (λ n. n.now) (drop l.name-index l.names) ≡ map (λ n. n.now) l.names
