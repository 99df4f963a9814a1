use Rattle.std.proofs.Common.{◌≡◌, ◌+◌, drop, map}
use Rattle.script_shell.specs.Forms.{after_options, no_options}
use Rattle.script_shell.proofs.form_words.script_behind.Given as goal

abbrev pub invariant-loop-index : goal.invariant-loop-index
invariant-loop-index l = after_options l.options (l.index + 1) (map (λ word. word.now) (drop l.index l.words)) ≡ after_options no_options 1 (map (λ word. word.now) l.words)
