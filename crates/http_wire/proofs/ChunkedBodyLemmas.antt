-- A body is read in one way, and further bytes change nothing.
use Rattle.std.proofs.Common.{◌≡◌, ◌≢◌, ℕ, List, [], ◌∷◌, ◌++◌, length, drop, refl, sym, ap, ◌∙◌, subst, arith, append_assoc}
use Rattle.httparse.specs.Ascii.{crlf_bytes}
use Rattle.httparse.specs.Grammar.{ChunkLine, HasNoChunkLine, print_chunk_line, chunk_size}
use Rattle.httparse.specs.Spans.{IsChunkLineAt}
use Rattle.httparse.proofs.ChunkLemmas.{chunk_line_unique}
use Rattle.httparse.proofs.GrammarLemmas.{section_unique, ReadsSection-append}
use Rattle.std.proofs.lemmas.List.{append_cancel_left}
use Rattle.http_wire.specs.ChunkedBody.{BeginsChunk, BeginsLast, HasSection, ReadsChunks, joined, IsBodyAt}

pub no_line_no_chunk : (buf chunk after : List ℕ) → HasNoChunkLine buf → ¬ (BeginsChunk buf chunk after)
no_line_no_chunk buf chunk after none b = none b.line (chunk ++ (crlf_bytes ++ after)) (b.valid, b.is)

pub no_line_no_last : (buf after : List ℕ) → HasNoChunkLine buf → ¬ (BeginsLast buf after)
no_line_no_last buf after none b = none b.line after (b.valid, b.is)

pub no_data_no_chunk : (buf : List ℕ) (at size : ℕ) (l : ChunkLine) → IsChunkLineAt buf at size l
    → ((chunk after : List ℕ) → length chunk ≡ size → drop at buf ≢ chunk ++ (crlf_bytes ++ after))
    → (chunk after : List ℕ) → ¬ (BeginsChunk buf chunk after)
no_data_no_chunk buf at size l line none chunk after b =
    let same = chunk_line_unique buf l b.line (drop at buf) (chunk ++ (crlf_bytes ++ after)) line.reads (b.valid, b.is) in
    none chunk after (sym (line.size_is ∙ ap chunk_size same.0 ∙ b.sized)) same.1

pub sized_no_last : (buf : List ℕ) (at size : ℕ) (l : ChunkLine) → IsChunkLineAt buf at size l → size ≢ 0 → (after : List ℕ) → ¬ (BeginsLast buf after)
sized_no_last buf at size l line some after b =
    let same = chunk_line_unique buf l b.line (drop at buf) after line.reads (b.valid, b.is) in
    some (line.size_is ∙ ap chunk_size same.0 ∙ b.ends)

pub append_same : (xs ys p q : List ℕ) → length xs ≡ length ys → xs ++ p ≡ ys ++ q → (xs ≡ ys) × (p ≡ q)
append_same [] [] p q size e = (refl, e)
append_same [] (y ∷ ys) p q size e = absurd (omega arith)
append_same (x ∷ xs) [] p q size e = absurd (omega arith)
append_same (x ∷ xs) (y ∷ ys) p q size e = let rest = append_same xs ys p q (omega arith) (cc) in (cc, rest.1)

-- two chunks at one front are one
pub chunk_same : (buf chunk after other rest : List ℕ) → BeginsChunk buf chunk after → BeginsChunk buf other rest → (chunk ≡ other) × (after ≡ rest)
chunk_same buf chunk after other rest b d =
    let same = chunk_line_unique buf b.line d.line (chunk ++ (crlf_bytes ++ after)) (other ++ (crlf_bytes ++ rest)) (b.valid, b.is) (d.valid, d.is) in
    let bytes = append_same chunk other (crlf_bytes ++ after) (crlf_bytes ++ rest) (sym b.sized ∙ ap chunk_size same.0 ∙ d.sized) same.1 in
    (bytes.0, append_cancel_left crlf_bytes after rest bytes.1)

pub not_both : (buf chunk after rest : List ℕ) → BeginsChunk buf chunk after → BeginsLast buf rest → ⊥
not_both buf chunk after rest b d =
    let same = chunk_line_unique buf b.line d.line (chunk ++ (crlf_bytes ++ after)) rest (b.valid, b.is) (d.valid, d.is) in
    absurd (omega (arith, b.some, sym b.sized ∙ ap chunk_size same.0 ∙ d.ends))

pub last_same : (buf after rest : List ℕ) → BeginsLast buf after → BeginsLast buf rest → after ≡ rest
last_same buf after rest b d = (chunk_line_unique buf b.line d.line after rest (b.valid, b.is) (d.valid, d.is)).1

pub chunk_longer : (buf chunk after more : List ℕ) → BeginsChunk buf chunk after → BeginsChunk (buf ++ more) chunk (after ++ more)
chunk_longer buf chunk after more b = record {
  line = b.line;
  valid = b.valid;
  sized = b.sized;
  some = b.some;
  is = ap (λ (t : List ℕ). t ++ more) b.is ∙ (simp append_assoc);
}

pub last_longer : (buf after more : List ℕ) → BeginsLast buf after → BeginsLast (buf ++ more) (after ++ more)
last_longer buf after more b =
    record { line = b.line; valid = b.valid; ends = b.ends; is = ap (λ (t : List ℕ). t ++ more) b.is ∙ append_assoc (print_chunk_line b.line) after more }

pub section_longer : (buf after more : List ℕ) → HasSection buf after → HasSection (buf ++ more) (after ++ more)
section_longer buf after more s = (s.0, s.1, ReadsSection-append buf s.0 s.1 after more s.2)

pub section_same : (buf after rest : List ℕ) → HasSection buf after → HasSection buf rest → after ≡ rest
section_same buf after rest s t = (section_unique buf s.0 t.0 s.1 t.1 after rest s.2 t.2).2

pub reads_longer : (chunks : List (List ℕ)) (buf after more : List ℕ) → ReadsChunks chunks buf after → ReadsChunks chunks (buf ++ more) (after ++ more)
reads_longer [] buf after more r = (r.0 ++ more, last_longer buf r.0 more r.1, section_longer r.0 after more r.2)
reads_longer (chunk ∷ chunks) buf after more r = (r.0 ++ more, chunk_longer buf chunk r.0 more r.1, reads_longer chunks r.0 after more r.2)

-- what begins with a chunk is read by it
pub first_same : (buf chunk after : List ℕ) → BeginsChunk buf chunk after → (chunks : List (List ℕ)) (rest : List ℕ) → ReadsChunks chunks buf rest
    → (others : List (List ℕ)) × (chunks ≡ chunk ∷ others) × ReadsChunks others after rest
first_same buf chunk after b [] rest r = absurd (not_both buf chunk after r.0 b r.1)
first_same buf chunk after b (c ∷ chunks) rest r =
    let same = chunk_same buf c r.0 chunk after r.1 b in
    (chunks, ap (λ (x : List ℕ). x ∷ chunks) same.0, subst (λ (t : List ℕ). ReadsChunks chunks t rest) same.1 r.2)

pub end_same : (buf after : List ℕ) → BeginsLast buf after → (chunks : List (List ℕ)) (rest : List ℕ) → ReadsChunks chunks buf rest
    → (chunks ≡ []) × HasSection after rest
end_same buf after b [] rest r = (refl, subst (λ (t : List ℕ). HasSection t rest) (last_same buf r.0 after r.1 b) r.2)
end_same buf after b (c ∷ chunks) rest r = absurd (not_both buf c r.0 after r.1 b)

reads_same : (chunks others : List (List ℕ)) (buf after rest : List ℕ) → ReadsChunks chunks buf after → ReadsChunks others buf rest → (chunks ≡ others) × (after ≡ rest)
reads_same [] others buf after rest r s =
    let same = end_same buf r.0 r.1 others rest s in
    (sym same.0, section_same r.0 after rest r.2 same.1)
reads_same (c ∷ chunks) others buf after rest r s =
    let one = first_same buf c r.0 r.1 others rest s in
    let two = reads_same chunks one.0 r.0 after rest r.2 one.2 in
    (ap (λ (t : List (List ℕ)). c ∷ t) two.0 ∙ sym one.1, two.1)

-- at most one body is at the front
pub body_same : (buf body after other rest : List ℕ) → IsBodyAt buf body after → IsBodyAt buf other rest → (body ≡ other) × (after ≡ rest)
body_same buf body after other rest b d =
    let same = reads_same b.chunks d.chunks buf after rest b.reads d.reads in
    (b.is ∙ ap joined same.0 ∙ sym d.is, same.1)

pub body_longer : (buf body after more : List ℕ) → IsBodyAt buf body after → IsBodyAt (buf ++ more) body (after ++ more)
body_longer buf body after more b = record { chunks = b.chunks; reads = reads_longer b.chunks buf after more b.reads; is = b.is }

-- no body begins another
pub body_prefix_free : (buf more body other : List ℕ) → IsBodyAt buf body [] → IsBodyAt (buf ++ more) other [] → more ≡ []
body_prefix_free buf more body other b d = (body_same (buf ++ more) body more other [] (body_longer buf body [] more b) d).1
