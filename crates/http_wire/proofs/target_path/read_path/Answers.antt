use Rattle.std.proofs.Common.{◌≡◌, ◌∙◌, true, ap, rules}
use Rattle.std.specs.List.{list_all}
use Rattle.httparse.specs.Grammar.{is_uri_byte}
use Rattle.http_wire.proofs.InsideTargetLemmas.{test_from_all}
use Rattle.http_wire.proofs.TargetPathLemmas.{not_both}
use Rattle.http_wire.proofs.target_path.read_path.Goals as goal

pub returns-then-not-is_target : goal.returns-then-not-is_target
returns-then-not-is_target c = λ path p.
    let all : c.is_target.result ≡ true = c.is_target.ensures ∙ ap (list_all is_uri_byte) c.as_bytes.ensures.value ∙ test_from_all is_uri_byte c.args.target.now p.clear in
    not_both c.is_target.result (search rules) all
