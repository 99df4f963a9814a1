-- Behind each chunk a body goes on.
use Rattle.std.proofs.Common.{◌≡◌, ℕ, List, [], ◌∷◌, ◌++◌, refl, sym, ap, ◌∙◌, subst, append_assoc}
use Rattle.http_wire.specs.ChunkedBody.{BeginsChunk, BeginsLast, ReadsChunks, joined, IsBodyAt}
use Rattle.http_wire.specs.ChunkScan.{IsBehind, IsEnded, IsStuck}
use Rattle.http_wire.proofs.ChunkedBodyLemmas.{chunk_longer, last_longer, first_same, end_same}

pub behind_nothing : (bytes : List ℕ) → IsBehind bytes [] bytes
behind_nothing bytes = record { there = λ more body after b. b; back = λ more body after b. (body, refl, b) }

one_chunk : (rest chunk after body end : List ℕ) → BeginsChunk rest chunk after → IsBodyAt after body end → IsBodyAt rest (chunk ++ body) end
one_chunk rest chunk after body end c b =
    record { chunks = chunk ∷ b.chunks; reads = (after, c, b.reads); is = ap (λ (t : List ℕ). chunk ++ t) b.is }

behind_chunk : (rest chunk after body end : List ℕ) → BeginsChunk rest chunk after → IsBodyAt rest body end → (left : List ℕ) × (body ≡ chunk ++ left) × IsBodyAt after left end
behind_chunk rest chunk after body end c b =
    let r = first_same rest chunk after c b.chunks end b.reads in
    (joined r.0, b.is ∙ ap joined r.1, record { chunks = r.0; reads = r.2; is = refl })

pub behind_one_more : (bytes content rest chunk after : List ℕ) → IsBehind bytes content rest → BeginsChunk rest chunk after → IsBehind bytes (content ++ chunk) after
behind_one_more bytes content rest chunk after s c = record {
  there = λ more body end b.
      subst (λ (t : List ℕ). IsBodyAt (bytes ++ more) t end) (sym (append_assoc content chunk body))
      (s.there more (chunk ++ body) end (one_chunk (rest ++ more) chunk (after ++ more) body end (chunk_longer rest chunk after more c) b));
  back = λ more body end b.
      let one = s.back more body end b in
      let two = behind_chunk (rest ++ more) chunk (after ++ more) one.0 end (chunk_longer rest chunk after more c) one.2 in
      (two.0, one.1 ∙ ap (λ (t : List ℕ). content ++ t) two.1 ∙ sym (append_assoc content chunk two.0), two.2);
}

pub behind_all : (bytes content rest after : List ℕ) → IsBehind bytes content rest → BeginsLast rest after → IsEnded bytes content after
behind_all bytes content rest after s l = record {
  there = λ more end h.
      subst (λ (t : List ℕ). IsBodyAt (bytes ++ more) t end) (append_nil content)
      (s.there more [] end (record { chunks = []; reads = (after ++ more, last_longer rest after more l, h); is = refl }));
  back = λ more body end b.
      let one = s.back more body end b in
      let two = end_same (rest ++ more) (after ++ more) (last_longer rest after more l) one.2.chunks end one.2.reads in
      (one.1 ∙ ap (λ (t : List ℕ). content ++ t) (one.2.is ∙ ap joined two.0) ∙ append_nil content, two.1);
}
  where
    append_nil : (xs : List ℕ) → xs ++ [] ≡ xs
    append_nil [] = refl
    append_nil (x ∷ xs) = ap (λ (t : List ℕ). x ∷ t) (append_nil xs)

-- no body is at the front of bytes that are stuck
pub stuck_no_body : (rest : List ℕ) → IsStuck rest → (body after : List ℕ) → ¬ (IsBodyAt rest body after)
stuck_no_body rest s body after b = go b.chunks b.reads
  where
    go : (chunks : List (List ℕ)) → ReadsChunks chunks rest after → ⊥
    go [] r = s.no_last r.0 r.1
    go (c ∷ chunks) r = s.no_chunk c r.0 r.1
