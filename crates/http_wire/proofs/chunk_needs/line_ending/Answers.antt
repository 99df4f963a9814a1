use Rattle.std.proofs.Common.{◌∙◌, ◌-◌, Bool, List, ℕ, [], ◌∷◌, length, sym, ap, arith}
use Rattle.std.specs.Prelude.{if◌then◌else◌, bytes_eq}
use Rattle.std.proofs.lemmas.List.{take_rest}
use Rattle.http_wire.proofs.ChunkNeedsLemmas.{ending_is}
use Rattle.http_wire.proofs.chunk_needs.line_ending.Goals as goal

pub returns-in-len1-up : goal.returns-in-len1-up
returns-in-len1-up c =
    let bytes = c.args.bytes.now in
    c.ending_behind.ensures
    ∙ ap (λ (t : Bool). if t then 10 ∷ [] else 13 ∷ 10 ∷ []) (c.is_cr.ensures ∙ ap (λ (t : List ℕ). bytes_eq t (13 ∷ [])) (take_rest bytes (length bytes - 1)))
    ∙ sym (ending_is bytes (length bytes - 1) (omega arith) (omega arith))
