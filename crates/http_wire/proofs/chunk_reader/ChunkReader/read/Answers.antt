use Rattle.std.proofs.Common.{◌++◌, List, ℕ, ap, ◌∙◌, subst}
use Rattle.http_wire.specs.BodyReading.{ReadsBody}
use Rattle.http_wire.proofs.chunk_reader.ChunkReader.read.Goals as goal

pub returns-in-Ok-clause-read : goal.returns-in-Ok-clause-read
returns-in-Ok-clause-read c =
    subst (λ (t : List ℕ). ReadsBody t c.in-Ok.read) (c.deref.ensures.value ∙ c.in_ok-extend_from_slice.ensures.items ∙ ap (λ (t : List ℕ). t ++ c.args.bytes.now) c.self.view_is) c.in-Ok.ensures
