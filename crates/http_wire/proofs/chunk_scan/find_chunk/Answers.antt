use Rattle.std.proofs.Common.{◌≡◌, ◌≢◌, ℕ, List, ◌++◌, length, subst, arith}
use Rattle.std.proofs.lemmas.List.{take_rest}
use Rattle.httparse.specs.Ascii.{crlf_bytes}
use Rattle.http_wire.proofs.ChunkedBodyLemmas.{no_data_no_chunk, sized_no_last}
use Rattle.http_wire.proofs.chunk_scan.find_chunk.Goals as goal

pub returns-in-None-split_chunk-clause-no_chunk : goal.returns-in-None-split_chunk-clause-no_chunk
returns-in-None-split_chunk-clause-no_chunk c =
    let line = c.in-Some.ensures.some in
    no_data_no_chunk c.args.bytes.now c.in-Some.length c.in-Some.size line.0 line.1
    (subst (λ (t : List ℕ). (chunk after : List ℕ) → length chunk ≡ c.in-Some.size → t ≢ chunk ++ (crlf_bytes ++ after)) (take_rest c.args.bytes.now c.in-Some.length) c.in-None-split_chunk.ensures.none)

pub returns-in-None-split_chunk-clause-no_last : goal.returns-in-None-split_chunk-clause-no_last
returns-in-None-split_chunk-clause-no_last c =
    let line = c.in-Some.ensures.some in
    sized_no_last c.args.bytes.now c.in-Some.length c.in-Some.size line.0 line.1 (λ e. omega arith)
