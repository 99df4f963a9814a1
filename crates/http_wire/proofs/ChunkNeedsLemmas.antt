-- What bytes lack to be a section of fields, or a chunked body.
use Rattle.std.proofs.Common.{◌≡◌, ◌≢◌, ℕ, ◌+◌, ◌-◌, ◌<◌, ◌≤◌, Bool, true, false, List, [], ◌∷◌, ◌++◌, length, drop, take, refl, sym, ap, ◌∙◌, subst, arith, append_assoc, append-nil, length-append, length-drop, length-take, take-append-drop, inl, inr, Option, Some, None}
use Rattle.std.specs.Prelude.{replicate, nat_lt, nat_le, if◌then◌else◌, ◌==◌, bytes_eq, IsTrue, ◌↔◌}
use Rattle.std.proofs.lemmas.List.{length-replicate, nil_from_length}
use Rattle.std.proofs.lemmas.List.Elements.{All-nil, All-push}
use Rattle.std.proofs.lemmas.Bool.{cases_lt}
use Rattle.std.proofs.lemmas.Bool.Decides.{nat_tests}
use Rattle.std.proofs.lemmas.Slice.Eq.{bytes_eq-Decides}
use Rattle.std.specs.Char.{is_ascii_hexdigit}
use Rattle.httparse.specs.Ascii.{crlf_bytes}
use Rattle.httparse.specs.Grammar.{ChunkLine, IsChunkLine, HasNoChunkLine, print_chunk_line, print_extension, chunk_size, lf, IsField, HasNoSection, print_section}
use Rattle.httparse.specs.Spans.{IsChunkLineAt}
use Rattle.httparse.proofs.ChunkLemmas.{chunk_line_unique, ReadsChunkLine-append}
use Rattle.http_wire.specs.ChunkedBody.{HasSection, ReadsChunks, joined, IsBodyAt}
use Rattle.http_wire.specs.ChunkScan.{IsBehind, IsEnded, IsStuck}
use Rattle.http_wire.specs.ChunkContinuation.{IsSection, LacksOfSection, NeedsOfSection, Lacks, NeedsOf, IsWholeBody, IsChunkRest, needs_of, needs_behind, needs_ended, needs_of_line, needs_of_chunk, ends_in_cr, line_ending, IsCutLine}
use Rattle.http_wire.specs.declared.chunk_needs.Needs.{Needs}
use Rattle.http_wire.specs.declared.chunk_needs.Needs.TheVariants.{Never, TooMuch, Least}
use Rattle.http_wire.proofs.CutLemmas.{section_cut, IsSectionEnd, one_line, two_lines, behind_name, section_some}
use Rattle.http_wire.proofs.ChunkedBodyLemmas.{section_same, append_same}
use Rattle.http_wire.proofs.ChunkLineCut.{line_lacks, line_text}

-- ---- sections

pub whole_section : (bytes : List ℕ) (at size : ℕ) → size ≡ length bytes → at ≤ length bytes → HasSection bytes (drop at bytes) → IsTrue (at == size) ↔ IsSection bytes
whole_section bytes at size size_is fits s = (
  λ yes.
      let same : at ≡ size = grind (arith, nat_tests) in
      subst (HasSection bytes) (nil_from_length (drop at bytes) (omega (arith, length-drop at bytes))) s,
  λ whole.
      let none : drop at bytes ≡ [] = section_same bytes (drop at bytes) [] s whole in
      let same : at ≡ size = omega (arith, ap length none, length-drop at bytes) in
      grind (arith, nat_tests),
)

pub no_section : (bytes : List ℕ) → HasNoSection bytes → ¬ (IsSection bytes)
no_section bytes none s = none s.0 s.1 [] s.2

some_section : (bytes : List ℕ) → IsSection bytes → 0 < length bytes
some_section bytes s = omega (arith, section_some s.0 s.1, ap length s.2.1, length-append (print_section s.0 s.1) [])

-- one of the ends makes a section of less than a section
section_ends : (bytes more : List ℕ) → ¬ (IsSection (bytes ++ [])) → IsSection (bytes ++ more) → (tail : List ℕ) × IsSectionEnd tail × IsSection (bytes ++ tail) × (length tail ≤ length more)
section_ends bytes [] none s = absurd (none s)
section_ends bytes (m ∷ more) none s =
    let r = section_cut s.0 s.1 bytes (m ∷ more) s.2.0 (s.2.1 ∙ append-nil (print_section s.0 s.1)) (omega arith) in
    (r.tail, r.is_tail, (r.lines, r.last, (r.valid, r.is ∙ sym (append-nil (print_section r.lines r.last)))), r.shorter)

pub lacks_none : (bytes : List ℕ) → IsSection (bytes ++ []) → LacksOfSection bytes 0
lacks_none bytes s = record { more = []; is = s; count_is = refl; least = λ other t. omega arith }

pub lacks_one : (bytes : List ℕ) → ¬ (IsSection (bytes ++ [])) → IsSection (bytes ++ 10 ∷ []) → LacksOfSection bytes 1
lacks_one bytes none s = record { more = 10 ∷ []; is = s; count_is = refl; least = go }
  where
    go : (other : List ℕ) → IsSection (bytes ++ other) → 1 ≤ length other
    go [] t = absurd (none t)
    go (a ∷ other) t = omega arith

two_at_least : (bytes : List ℕ) → ¬ (IsSection (bytes ++ [])) → ¬ (IsSection (bytes ++ 10 ∷ [])) → (other : List ℕ) → IsSection (bytes ++ other) → 2 ≤ length other
two_at_least bytes none one other t =
    let r = section_ends bytes other none t in
    elim r.1 [
      | one_line e ↦ absurd (one (subst (λ (x : List ℕ). IsSection (bytes ++ x)) e r.2))
      | two_lines e ↦ omega (arith, ap length e, r.3)
      | behind_name e ↦ omega (arith, ap length e, r.3)
    ]

pub lacks_two : (bytes : List ℕ) → ¬ (IsSection (bytes ++ [])) → ¬ (IsSection (bytes ++ 10 ∷ [])) → IsSection (bytes ++ 10 ∷ 10 ∷ []) → LacksOfSection bytes 2
lacks_two bytes none one s = record { more = 10 ∷ 10 ∷ []; is = s; count_is = refl; least = two_at_least bytes none one }

three_at_least : (bytes : List ℕ) → ¬ (IsSection (bytes ++ [])) → ¬ (IsSection (bytes ++ 10 ∷ [])) → ¬ (IsSection (bytes ++ 10 ∷ 10 ∷ []))
    → (other : List ℕ) → IsSection (bytes ++ other) → 3 ≤ length other
three_at_least bytes none one two other t =
    let r = section_ends bytes other none t in
    elim r.1 [
      | one_line e ↦ absurd (one (subst (λ (x : List ℕ). IsSection (bytes ++ x)) e r.2))
      | two_lines e ↦ absurd (two (subst (λ (x : List ℕ). IsSection (bytes ++ x)) e r.2))
      | behind_name e ↦ omega (arith, ap length e, r.3)
    ]

pub lacks_three : (bytes : List ℕ) → ¬ (IsSection (bytes ++ [])) → ¬ (IsSection (bytes ++ 10 ∷ [])) → ¬ (IsSection (bytes ++ 10 ∷ 10 ∷ [])) → IsSection (bytes ++ 58 ∷ 10 ∷ 10 ∷ [])
    → LacksOfSection bytes 3
lacks_three bytes none one two s = record { more = 58 ∷ 10 ∷ 10 ∷ []; is = s; count_is = refl; least = three_at_least bytes none one two }

pub never_section : (bytes : List ℕ) → ¬ (IsSection (bytes ++ [])) → ¬ (IsSection (bytes ++ 10 ∷ [])) → ¬ (IsSection (bytes ++ 10 ∷ 10 ∷ [])) → ¬ (IsSection (bytes ++ 58 ∷ 10 ∷ 10 ∷ []))
    → (more : List ℕ) → ¬ (IsSection (bytes ++ more))
never_section bytes none one two three more t =
    let r = section_ends bytes more none t in
    elim r.1 [
      | one_line e ↦ one (subst (λ (x : List ℕ). IsSection (bytes ++ x)) e r.2)
      | two_lines e ↦ two (subst (λ (x : List ℕ). IsSection (bytes ++ x)) e r.2)
      | behind_name e ↦ three (subst (λ (x : List ℕ). IsSection (bytes ++ x)) e r.2)
    ]

-- ---- what is lacking

lacks_needs : (P : List ℕ → List ℕ → Type 0) (bytes : List ℕ) (count size : ℕ) → Lacks P bytes count size → NeedsOf P bytes (needs_of count size)
lacks_needs P bytes count size l =
    elim (cases_lt 65536 size) [
      | inl above ↦
          let test : nat_lt 65536 size ≡ true = grind (arith, nat_tests) in
          rw test (record { more = l.more; content = l.content; is = l.is; large = λ other body w. omega (arith, (l.least other body w).1) })
      | inr below ↦
          let test : nat_lt 65536 size ≡ false = grind (arith, nat_tests) in
          rw test (l, omega arith)
    ]

-- where wholes of one go with wholes of the other, behind the same content
needs_moved : (P Q : List ℕ → List ℕ → Type 0) (bytes rest content : List ℕ)
    → ((more body : List ℕ) → P (rest ++ more) body → Q (bytes ++ more) (content ++ body))
    → ((more body : List ℕ) → Q (bytes ++ more) body → (left : List ℕ) × (body ≡ content ++ left) × P (rest ++ more) left)
    → (needs : Needs) → NeedsOf P rest needs → NeedsOf Q bytes (needs_behind (length content) needs)
needs_moved P Q bytes rest content there back Never n = λ more body w. let r = back more body w in n more r.0 r.2
needs_moved P Q bytes rest content there back TooMuch n = record {
  more = n.more;
  content = content ++ n.content;
  is = there n.more n.content n.is;
  large = λ other body w.
      let r = back other body w in
      omega (arith, n.large other r.0 r.2, ap length r.1, length-append content r.0);
}
needs_moved P Q bytes rest content there back (Least count size) n =
    lacks_needs Q bytes count (length content + size) (record {
      more = n.0.more;
      content = content ++ n.0.content;
      is = there n.0.more n.0.content n.0.is;
      count_is = n.0.count_is;
      size_is = omega (arith, length-append content n.0.content, n.0.size_is);
      least = λ other body w.
          let r = back other body w in
          let small = n.0.least other r.0 r.2 in
          (small.0, omega (arith, small.1, ap length r.1, length-append content r.0));
    })

-- the same with equal content
needs_same : (P Q : List ℕ → List ℕ → Type 0) (bytes rest : List ℕ) → ((more body : List ℕ) → P (rest ++ more) body → Q (bytes ++ more) body)
    → ((more body : List ℕ) → Q (bytes ++ more) body → P (rest ++ more) body) → (needs : Needs) → NeedsOf P rest needs → NeedsOf Q bytes needs
needs_same P Q bytes rest there back Never n = λ more body w. n more body (back more body w)
needs_same P Q bytes rest there back TooMuch n =
    record { more = n.more; content = n.content; is = there n.more n.content n.is; large = λ other body w. n.large other body (back other body w) }
needs_same P Q bytes rest there back (Least count size) n = (
  record {
    more = n.0.more;
    content = n.0.content;
    is = there n.0.more n.0.content n.0.is;
    count_is = n.0.count_is;
    size_is = n.0.size_is;
    least = λ other body w. n.0.least other body (back other body w);
  },
  n.1,
)

pub needs_behind_rest : (bytes content rest : List ℕ) → IsBehind bytes content rest → (needs : Needs) → NeedsOf IsWholeBody rest needs
    → NeedsOf IsWholeBody bytes (needs_behind (length content) needs)
needs_behind_rest bytes content rest s needs n =
    needs_moved IsWholeBody IsWholeBody bytes rest content (λ more body w. s.there more body [] w) (λ more body w. s.back more body [] w) needs n

pub needs_in_trailers : (bytes content rest : List ℕ) → IsEnded bytes content rest → (count : Option ℕ) → NeedsOfSection rest count
    → NeedsOf IsWholeBody bytes (needs_ended (length content) count)
needs_in_trailers bytes content rest s None n = λ more body w. n more (s.back more body [] w).1
needs_in_trailers bytes content rest s (Some count) n =
    lacks_needs IsWholeBody bytes count (length content) (record {
      more = n.more;
      content = content;
      is = s.there n.more [] n.is;
      count_is = n.count_is;
      size_is = refl;
      least = λ other body w.
          let r = s.back other body [] w in
          (n.least other r.1, omega (arith, ap length r.0));
    })

-- ---- the shortest bodies

line_long : (l : ChunkLine) → IsChunkLine l → 3 ≤ length (print_chunk_line l)
line_long l valid =
    omega (
      arith,
      valid.digits.0,
      ap length (line_text l),
      length-append l.digits (l.pad ++ (print_extension l.extension ++ crlf_bytes)),
      length-append l.pad (print_extension l.extension ++ crlf_bytes),
      length-append (print_extension l.extension) crlf_bytes,
    )

reads_long : (chunks : List (List ℕ)) (bytes : List ℕ) → ReadsChunks chunks bytes [] → 4 ≤ length bytes
reads_long [] bytes r = omega (arith, line_long r.1.line r.1.valid, ap length r.1.is, length-append (print_chunk_line r.1.line) r.0, some_section r.0 r.2)
reads_long (chunk ∷ chunks) bytes r =
    omega (
      arith,
      reads_long chunks r.0 r.2,
      ap length r.1.is,
      length-append (print_chunk_line r.1.line) (chunk ++ (crlf_bytes ++ r.0)),
      length-append chunk (crlf_bytes ++ r.0),
      length-append crlf_bytes r.0,
    )

pub empty_section : IsSection (10 ∷ [])
empty_section = ([], lf, (All-nil IsField, refl))

abbrev zero_line : ChunkLine
zero_line = record { digits = 48 ∷ []; pad = []; extension = None }

zero_valid : IsChunkLine zero_line
zero_valid = record { digits = (omega arith, omega arith, All-push (λ v. is_ascii_hexdigit v ≡ true) [] 48 (All-nil _) refl); pad = All-nil _; extension = tt }

-- 0, CRLF and LF
pub least_reads : ReadsChunks [] (48 ∷ 13 ∷ 10 ∷ 10 ∷ []) []
unfolding print_chunk_line
least_reads = (10 ∷ [], record { line = zero_line; valid = zero_valid; ends = refl; is = refl }, empty_section)

pub least_body : IsBodyAt (48 ∷ 13 ∷ 10 ∷ 10 ∷ []) [] []
least_body = record { chunks = []; reads = least_reads; is = refl }

bytes_eq_true : (xs ys : List ℕ) → bytes_eq xs ys ≡ true → xs ≡ ys
bytes_eq_true xs ys h = grind (arith, bytes_eq-Decides)

bytes_eq_false : (xs ys : List ℕ) → bytes_eq xs ys ≡ false → xs ≢ ys
bytes_eq_false xs ys h = λ e. grind (arith, bytes_eq-Decides)

-- ---- in a chunk

chunk_lacks : (bytes : List ℕ) (size : ℕ) → length bytes ≤ size → Lacks (IsChunkRest size) bytes (size - length bytes + 6) size
chunk_lacks bytes size fits =
    let fill : List ℕ = replicate (size - length bytes) 48 in
    let filled : length fill ≡ size - length bytes = length-replicate (size - length bytes) 48 in
    record {
      more = fill ++ (13 ∷ 10 ∷ 48 ∷ 13 ∷ 10 ∷ 10 ∷ []);
      content = (bytes ++ fill) ++ [];
      is = record {
        chunk = bytes ++ fill;
        after = 48 ∷ 13 ∷ 10 ∷ 10 ∷ [];
        left = [];
        sized = omega (arith, length-append bytes fill, filled);
        is = sym (append_assoc bytes fill (13 ∷ 10 ∷ 48 ∷ 13 ∷ 10 ∷ 10 ∷ []));
        content_is = refl;
        reads = least_body;
      };
      count_is = omega (arith, filled, length-append fill (13 ∷ 10 ∷ 48 ∷ 13 ∷ 10 ∷ 10 ∷ []));
      size_is = omega (arith, filled, length-append bytes fill, length-append (bytes ++ fill) []);
      least = λ other body w. (
        omega (arith, reads_long w.reads.chunks w.after w.reads.reads, w.sized, ap length w.is, length-append bytes other, length-append w.chunk (crlf_bytes ++ w.after), length-append crlf_bytes w.after),
        omega (arith, w.sized, ap length w.content_is, length-append w.chunk w.left),
      );
    }

cr_lacks : (bytes : List ℕ) (size : ℕ) → size < length bytes → drop size bytes ≡ 13 ∷ [] → Lacks (IsChunkRest size) bytes 5 size
cr_lacks bytes size above cr =
    let chunk = take size bytes in
    let sized : length chunk ≡ size = omega (arith, length-take size bytes) in
    let split : bytes ≡ chunk ++ 13 ∷ [] = sym (take-append-drop size bytes) ∙ ap (λ (t : List ℕ). chunk ++ t) cr in
    record {
      more = 10 ∷ 48 ∷ 13 ∷ 10 ∷ 10 ∷ [];
      content = chunk ++ [];
      is = record {
        chunk = chunk;
        after = 48 ∷ 13 ∷ 10 ∷ 10 ∷ [];
        left = [];
        sized = sized;
        is = ap (λ (t : List ℕ). t ++ 10 ∷ 48 ∷ 13 ∷ 10 ∷ 10 ∷ []) split ∙ append_assoc chunk (13 ∷ []) (10 ∷ 48 ∷ 13 ∷ 10 ∷ 10 ∷ []);
        content_is = refl;
        reads = least_body;
      };
      count_is = refl;
      size_is = omega (arith, sized, length-append chunk []);
      least = λ other body w. (
        omega (arith, reads_long w.reads.chunks w.after w.reads.reads, w.sized, ap length w.is, ap length split, sized, length-append chunk (13 ∷ []), length-append bytes other, length-append w.chunk (crlf_bytes ++ w.after), length-append crlf_bytes w.after),
        omega (arith, w.sized, ap length w.content_is, length-append w.chunk w.left),
      );
    }

-- what stands behind the chunk's bytes is no part of CRLF
never_chunk : (bytes : List ℕ) (size : ℕ) → size < length bytes → drop size bytes ≢ 13 ∷ []
    → ((chunk after : List ℕ) → length chunk ≡ size → bytes ≢ chunk ++ (crlf_bytes ++ after))
    → (more body : List ℕ) → ¬ (IsChunkRest size (bytes ++ more) body)
never_chunk bytes size above no_cr none more body w =
    let chunk = take size bytes in
    let sized : length chunk ≡ size = omega (arith, length-take size bytes) in
    let split : bytes ≡ chunk ++ drop size bytes = sym (take-append-drop size bytes) in
    let whole : chunk ++ (drop size bytes ++ more) ≡ w.chunk ++ (crlf_bytes ++ w.after) =
    sym (append_assoc chunk (drop size bytes) more) ∙ ap (λ (t : List ℕ). t ++ more) (take-append-drop size bytes) ∙ w.is in
    go chunk (drop size bytes) sized split (omega (arith, length-drop size bytes)) no_cr (append_same chunk w.chunk (drop size bytes ++ more) (crlf_bytes ++ w.after) (sized ∙ sym w.sized) whole).1
  where
    go : (chunk behind : List ℕ) → length chunk ≡ size → bytes ≡ chunk ++ behind → 0 < length behind → behind ≢ 13 ∷ [] → behind ++ more ≡ crlf_bytes ++ w.after → ⊥
    go chunk [] sized split some no_cr e = absurd (omega arith)
    go chunk (a ∷ []) sized split some no_cr e = no_cr (cc)
    go chunk (a ∷ b ∷ behind) sized split some no_cr e =
        let same : a ∷ b ∷ behind ≡ crlf_bytes ++ behind = cc in
        none chunk behind sized (split ∙ ap (λ (t : List ℕ). chunk ++ t) same)

pub needs_in_chunk : (bytes : List ℕ) (size : ℕ) → ((chunk after : List ℕ) → length chunk ≡ size → bytes ≢ chunk ++ (crlf_bytes ++ after))
    → NeedsOf (IsChunkRest size) bytes (needs_of_chunk bytes size)
needs_in_chunk bytes size none =
    elim (cases_lt size (length bytes)) [
      | inl above ↦
          let test : nat_le (length bytes) size ≡ false = grind (arith, nat_tests) in
          rw test (behind above (bytes_eq (drop size bytes) (13 ∷ [])) refl)
      | inr fits ↦
          let test : nat_le (length bytes) size ≡ true = grind (arith, nat_tests) in
          rw test (lacks_needs (IsChunkRest size) bytes (size - length bytes + 6) size (chunk_lacks bytes size fits))
    ]
  where
    behind : size < length bytes → (b : Bool) → bytes_eq (drop size bytes) (13 ∷ []) ≡ b → NeedsOf (IsChunkRest size) bytes (if b then needs_of 5 size else Never)
    behind above true is = lacks_needs (IsChunkRest size) bytes 5 size (cr_lacks bytes size above (bytes_eq_true (drop size bytes) (13 ∷ []) is))
    behind above false is = never_chunk bytes size above (λ e. bytes_eq_false (drop size bytes) (13 ∷ []) is e) none

some_size : (n : ℕ) → n ≢ 0 → 0 < n
some_size n h = omega (arith, h)

-- behind a chunk line of that size
needs_behind_line : (bytes : List ℕ) (at size : ℕ) (l : ChunkLine) → IsChunkLineAt bytes at size l → IsStuck bytes → size ≢ 0 → (needs : Needs)
    → NeedsOf (IsChunkRest size) (drop at bytes) needs → NeedsOf IsWholeBody bytes needs
needs_behind_line bytes at size l line stuck some needs n =
    needs_same (IsChunkRest size) IsWholeBody bytes (drop at bytes) there (λ more body w. back more body w.chunks w.reads w.is) needs n
  where
    text : (more : List ℕ) → bytes ++ more ≡ print_chunk_line l ++ (drop at bytes ++ more)
    text more = (ReadsChunkLine-append bytes l (drop at bytes) more line.reads).1

    there : (more body : List ℕ) → IsChunkRest size (drop at bytes ++ more) body → IsBodyAt (bytes ++ more) body []
    there more body w =
        let sized : chunk_size l ≡ length w.chunk = sym line.size_is ∙ sym w.sized in
        record {
          chunks = w.chunk ∷ w.reads.chunks;
          reads = (
            w.after,
            record { line = l; valid = line.reads.0; sized = sized; some = omega (arith, w.sized, some_size size some); is = text more ∙ ap (λ (t : List ℕ). print_chunk_line l ++ t) w.is },
            w.reads.reads,
          );
          is = w.content_is ∙ ap (λ (t : List ℕ). w.chunk ++ t) w.reads.is;
        }

    back : (more body : List ℕ) (chunks : List (List ℕ)) → ReadsChunks chunks (bytes ++ more) [] → body ≡ joined chunks → IsChunkRest size (drop at bytes ++ more) body
    back more body [] r is =
        let same = chunk_line_unique (bytes ++ more) l r.1.line (drop at bytes ++ more) r.0 (line.reads.0, text more) (r.1.valid, r.1.is) in
        absurd (some (line.size_is ∙ ap chunk_size same.0 ∙ r.1.ends))
    back more body (c ∷ chunks) r is =
        let same = chunk_line_unique (bytes ++ more) l r.1.line (drop at bytes ++ more) (c ++ (crlf_bytes ++ r.0)) (line.reads.0, text more) (r.1.valid, r.1.is) in
        record {
          chunk = c;
          after = r.0;
          left = joined chunks;
          sized = sym (line.size_is ∙ ap chunk_size same.0 ∙ r.1.sized);
          is = same.1;
          content_is = is;
          reads = record { chunks = chunks; reads = r.2; is = refl };
        }

-- ---- in a chunk line

-- the first line of a body that begins with these bytes
line_least : (bytes other : List ℕ) (lacking size : ℕ) → HasNoChunkLine bytes → IsCutLine bytes lacking size → (l : ChunkLine) (tail : List ℕ) → IsChunkLine l → bytes ++ other ≡ print_chunk_line l ++ tail
    → (lacking + length tail ≤ length other) × (size ≤ chunk_size l)
line_least bytes other lacking size none cut l tail valid e =
    let r = line_lacks bytes other tail l none valid e in
    let same = chunk_line_unique (bytes ++ line_ending bytes) cut.line r.0.line [] [] (cut.valid, cut.is ∙ sym (append-nil (print_chunk_line cut.line))) (r.0.valid, r.0.is ∙ sym (append-nil (print_chunk_line r.0.line))) in
    (omega (arith, r.1, cut.lacking_is), omega (arith, cut.size_is ∙ ap chunk_size same.0, r.0.smaller))

last_lacks : (bytes : List ℕ) (lacking size : ℕ) → HasNoChunkLine bytes → IsCutLine bytes lacking size → size ≡ 0 → Lacks IsWholeBody bytes (lacking + 1) 0
last_lacks bytes lacking size none cut zero_size = record {
  more = line_ending bytes ++ 10 ∷ [];
  content = [];
  is = record {
    chunks = [];
    reads = (
      10 ∷ [],
      record {
        line = cut.line;
        valid = cut.valid;
        ends = sym cut.size_is ∙ zero_size;
        is = sym (append_assoc bytes (line_ending bytes) (10 ∷ [])) ∙ ap (λ (t : List ℕ). t ++ 10 ∷ []) cut.is;
      },
      empty_section,
    );
    is = refl;
  };
  count_is = omega (arith, cut.lacking_is, length-append (line_ending bytes) (10 ∷ []));
  size_is = refl;
  least = λ other body w. (go other w.chunks w.reads, omega arith);
}
  where
    go : (other : List ℕ) (chunks : List (List ℕ)) → ReadsChunks chunks (bytes ++ other) [] → lacking + 1 ≤ length other
    go other [] r =
        let least = line_least bytes other lacking size none cut r.1.line r.0 r.1.valid r.1.is in
        omega (arith, least.0, some_section r.0 r.2)
    go other (c ∷ chunks) r =
        let least = line_least bytes other lacking size none cut r.1.line (c ++ (crlf_bytes ++ r.0)) r.1.valid r.1.is in
        omega (arith, least.0, r.1.some, length-append c (crlf_bytes ++ r.0))

first_lacks : (bytes : List ℕ) (lacking size : ℕ) → HasNoChunkLine bytes → IsCutLine bytes lacking size → 0 < size → Lacks IsWholeBody bytes (lacking + size + 6) size
first_lacks bytes lacking size none cut some =
    let fill : List ℕ = replicate size 48 in
    let filled : length fill ≡ size = length-replicate size 48 in
    let rest : List ℕ = fill ++ (13 ∷ 10 ∷ 48 ∷ 13 ∷ 10 ∷ 10 ∷ []) in
    record {
      more = line_ending bytes ++ rest;
      content = fill ++ [];
      is = record {
        chunks = fill ∷ [];
        reads = (
          48 ∷ 13 ∷ 10 ∷ 10 ∷ [],
          record {
            line = cut.line;
            valid = cut.valid;
            sized = sym cut.size_is ∙ sym filled;
            some = omega (arith, filled, some);
            is = sym (append_assoc bytes (line_ending bytes) rest) ∙ ap (λ (t : List ℕ). t ++ rest) cut.is;
          },
          least_reads,
        );
        is = refl;
      };
      count_is = omega (arith, cut.lacking_is, filled, length-append (line_ending bytes) rest, length-append fill (13 ∷ 10 ∷ 48 ∷ 13 ∷ 10 ∷ 10 ∷ []));
      size_is = omega (arith, filled, length-append fill []);
      least = λ other body w. go other body w.chunks w.reads w.is;
    }
  where
    go : (other body : List ℕ) (chunks : List (List ℕ)) → ReadsChunks chunks (bytes ++ other) [] → body ≡ joined chunks → (lacking + size + 6 ≤ length other) × (size ≤ length body)
    go other body [] r is =
        let least = line_least bytes other lacking size none cut r.1.line r.0 r.1.valid r.1.is in
        absurd (omega (arith, least.1, r.1.ends, some))
    go other body (c ∷ chunks) r is =
        let least = line_least bytes other lacking size none cut r.1.line (c ++ (crlf_bytes ++ r.0)) r.1.valid r.1.is in (
          omega (arith, least.0, least.1, r.1.sized, reads_long chunks r.0 r.2, length-append c (crlf_bytes ++ r.0), length-append crlf_bytes r.0),
          omega (arith, least.1, r.1.sized, ap length is, length-append c (joined chunks)),
        )

pub needs_in_line : (bytes : List ℕ) (lacking size : ℕ) → HasNoChunkLine bytes → IsCutLine bytes lacking size → NeedsOf IsWholeBody bytes (needs_of_line lacking size)
needs_in_line bytes lacking size none cut =
    elim (cases_lt 0 size) [
      | inl some ↦
          let test : (size == 0) ≡ false = grind (arith, nat_tests) in
          rw test (lacks_needs IsWholeBody bytes (lacking + size + 6) size (first_lacks bytes lacking size none cut some))
      | inr few ↦
          let zero_size : size ≡ 0 = omega arith in
          let test : (size == 0) ≡ true = grind (arith, nat_tests) in
          rw test (last_lacks bytes lacking size none cut zero_size, omega arith)
    ]

-- no body begins with bytes whose chunk line can't be ended
pub never_line : (bytes : List ℕ) → HasNoChunkLine bytes → ((l : ChunkLine) → IsChunkLine l → bytes ++ line_ending bytes ≢ print_chunk_line l)
    → (more body : List ℕ) → ¬ (IsWholeBody (bytes ++ more) body)
never_line bytes none cut more body w = go w.chunks w.reads
  where
    go : (chunks : List (List ℕ)) → ReadsChunks chunks (bytes ++ more) [] → ⊥
    go [] r = let s = line_lacks bytes more r.0 r.1.line none r.1.valid r.1.is in cut s.0.line s.0.valid s.0.is
    go (c ∷ chunks) r =
        let s = line_lacks bytes more (c ++ (crlf_bytes ++ r.0)) r.1.line none r.1.valid r.1.is in cut s.0.line s.0.valid s.0.is

-- a chunk line of that size is there, so no line with another length
pub never_cut : (bytes : List ℕ) (at size : ℕ) (l : ChunkLine) → IsChunkLineAt bytes at size l → at ≢ length bytes → (other : ChunkLine) → IsChunkLine other → bytes ≢ print_chunk_line other
never_cut bytes at size l line apart other valid e =
    let same = chunk_line_unique bytes l other (drop at bytes) [] line.reads (valid, e ∙ sym (append-nil (print_chunk_line other))) in
    apart (line.len_is ∙ ap (λ (x : ChunkLine). length (print_chunk_line x)) same.0 ∙ sym (ap length e))

pub needs_after_line : (bytes : List ℕ) (at size : ℕ) (l : ChunkLine) → IsChunkLineAt bytes at size l → IsStuck bytes → NeedsOf IsWholeBody bytes (needs_of_chunk (drop at bytes) size)
needs_after_line bytes at size l line stuck =
    needs_behind_line bytes at size l line stuck some (needs_of_chunk (drop at bytes) size) (needs_in_chunk (drop at bytes) size none)
  where
    some : size ≢ 0
    some e = stuck.no_last (drop at bytes) (record { line = l; valid = line.reads.0; ends = sym line.size_is ∙ e; is = line.reads.1 })

    none : (chunk after : List ℕ) → length chunk ≡ size → drop at bytes ≢ chunk ++ (crlf_bytes ++ after)
    none chunk after sized e =
        stuck.no_chunk chunk after
        (record { line = l; valid = line.reads.0; sized = sym line.size_is ∙ sym sized; some = omega (arith, sized, some_size size some); is = line.reads.1 ∙ ap (λ (t : List ℕ). print_chunk_line l ++ t) e })

-- ---- the last byte

last_drop : (b : ℕ) (bytes : List ℕ) → bytes_eq (drop (length bytes) (b ∷ bytes)) (13 ∷ []) ≡ ends_in_cr (b ∷ bytes)
last_drop b [] = grind (arith, nat_tests, bytes_eq-Decides)
last_drop b (c ∷ bytes) = last_drop c bytes

pub ending_is : (bytes : List ℕ) (at : ℕ) → 0 < length bytes → at + 1 ≡ length bytes
    → line_ending bytes ≡ (if bytes_eq (drop at bytes) (13 ∷ []) then 10 ∷ [] else 13 ∷ 10 ∷ [])
ending_is [] at some is = absurd (omega arith)
ending_is (b ∷ bytes) at some is =
    let same : length bytes ≡ at = omega arith in
    ap (λ (t : Bool). if t then 10 ∷ [] else 13 ∷ 10 ∷ []) (sym (last_drop b bytes) ∙ ap (λ n. bytes_eq (drop n (b ∷ bytes)) (13 ∷ [])) same)
