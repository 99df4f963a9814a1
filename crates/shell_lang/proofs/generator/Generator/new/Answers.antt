use Rattle.shell_lang.proofs.LoadLemmas.{length_lines}
use Rattle.shell_lang.proofs.generator.Generator.new.Goals as goal

pub returns-clause-count : goal.returns-clause-count
returns-clause-count c = length_lines _ 1 c.args.bundles c.args.bundles c.args.commands
