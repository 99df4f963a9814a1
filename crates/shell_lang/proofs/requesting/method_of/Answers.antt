use Rattle.shell_lang.proofs.TokenLemmas.{found_by_test}
use Rattle.shell_lang.proofs.requesting.method_of.Goals as goal

pub returns : goal.returns
returns c = found_by_test c.as_bytes.result.now c.args.word.now c.as_bytes.ensures.value c.read_method.result c.read_method.ensures.found
