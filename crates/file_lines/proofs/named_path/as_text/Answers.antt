use Rattle.std.proofs.lemmas.Str.{is_utf8-from_IsUtf8}
use Rattle.file_lines.proofs.TextLemmas.{not_utf8}
use Rattle.file_lines.proofs.named_path.as_text.Goals as goal

pub returns-in-Ok : goal.returns-in-Ok
returns-in-Ok c = let cases = c.in-Ok.ensures.cases in (is_utf8-from_IsUtf8 c.args.bytes.now cases.1, cases.0)

pub returns-in-Err : goal.returns-in-Err
returns-in-Err c = let cases = c.in-Err.ensures.cases in not_utf8 c.args.bytes.now cases.0
