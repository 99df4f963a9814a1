-- From what bytes lack to what they begin with.
use Rattle.std.proofs.Common.{◌≡◌, ◌≢◌, ℕ, ◌+◌, ◌-◌, ◌<◌, ◌≤◌, List, [], ◌∷◌, ◌++◌, length, drop, take, refl, sym, ap, ◌∙◌, subst, arith, append_assoc, append-nil, length-append, length-drop, length-take, take-append-drop, inl, inr}
use Rattle.std.specs.Prelude.{min, IsTrue, ◌↔◌}
use Rattle.std.proofs.lemmas.Bool.{false≢true}
use Rattle.std.proofs.lemmas.Bool.Decides.{nat_tests}
use Rattle.std.proofs.lemmas.List.{nil_from_length, take_all}
use Rattle.httparse.specs.Ascii.{crlf_bytes}
use Rattle.httparse.specs.Grammar.{print_chunk_line, print_section}
use Rattle.http_wire.specs.ChunkedBody.{HasSection, ReadsChunks, IsBodyAt, IsBody, BeginsBody, IsLessBody, IsBodyFront}
use Rattle.http_wire.specs.ChunkScan.{IsEnded, IsBehind, IsStuck}
use Rattle.http_wire.specs.ChunkContinuation.{NeedsOf, IsWholeBody, leaves_room, may_begin}
use Rattle.http_wire.specs.BodyReading.{ReadsBody, AnswersBody}
use Rattle.http_wire.specs.declared.messages.BodyRead.{BodyRead}
use Rattle.http_wire.specs.declared.messages.BodyRead.TheVariants.{Whole}
use Rattle.http_wire.specs.declared.chunk_needs.Needs.{Needs}
use Rattle.http_wire.specs.declared.chunk_needs.Needs.TheVariants.{Never, TooMuch, Least}
use Rattle.http_wire.proofs.ContinuationLemmas.{take_take}
use Rattle.http_wire.proofs.ChunkedBodyLemmas.{body_prefix_free, body_longer, body_same}
use Rattle.http_wire.proofs.ChunkScanLemmas.{stuck_no_body}
use Rattle.http_wire.proofs.ChunkNeedsLemmas.{least_body}

-- ---- from what is lacking

pub less_iff : (bytes : List ℕ) (needs : Needs) → NeedsOf IsWholeBody bytes needs → length bytes ≤ 1048576 → IsTrue (leaves_room needs (length bytes)) ↔ IsLessBody bytes
less_iff bytes Never n short = (λ yes. absurd (false≢true yes), λ less. absurd (n less.more less.content less.is.reads))
less_iff bytes TooMuch n short = (λ yes. absurd (false≢true yes), λ less. absurd (omega (arith, n.large less.more less.content less.is.reads, less.is.small)))
less_iff bytes (Least count size) n short = (
  λ yes.
      let some : 0 < count = grind (arith, nat_tests) in
      let few : count ≤ 1048576 - length bytes = grind (arith, nat_tests) in
      record {
        more = n.0.more;
        some = omega (arith, n.0.count_is, some);
        content = n.0.content;
        is = record { reads = n.0.is; short = omega (arith, short, few, n.0.count_is, length-append bytes n.0.more); small = omega (arith, n.0.size_is, n.1) };
      },
  λ less.
      let least = n.0.least less.more less.content less.is.reads in
      let some : 0 < count = some_lacking less in
      let few : count ≤ 1048576 - length bytes = omega (arith, least.0, less.is.short, length-append bytes less.more) in
      grind (arith, nat_tests),
)
  where
    whole : count ≤ 0 → IsBodyAt bytes n.0.content []
    whole none =
        let empty : n.0.more ≡ [] = nil_from_length n.0.more (omega (arith, n.0.count_is, none)) in
        subst (λ (t : List ℕ). IsBodyAt t n.0.content []) (ap (λ (t : List ℕ). bytes ++ t) empty ∙ append-nil bytes) n.0.is

    apart : IsLessBody bytes → count ≤ 0 → ⊥
    apart less none = absurd (omega (arith, less.some, ap length (body_prefix_free bytes less.more n.0.content less.content (whole none) less.is.reads)))

    some_lacking : IsLessBody bytes → 0 < count
    some_lacking less = omega (arith, apart less)

pub begins_iff : (bytes : List ℕ) (needs : Needs) → NeedsOf IsWholeBody bytes needs → IsTrue (may_begin needs) ↔ BeginsBody bytes
begins_iff bytes Never n = (λ yes. absurd (false≢true yes), λ b. absurd (n b.more b.content b.reads))
begins_iff bytes TooMuch n = (λ yes. record { more = n.more; content = n.content; reads = n.is }, λ b. refl)
begins_iff bytes (Least count size) n = (λ yes. record { more = n.0.more; content = n.0.content; reads = n.0.is }, λ b. refl)

-- ---- fronts

pub less_nothing : IsLessBody []
less_nothing = record {
  more = 48 ∷ 13 ∷ 10 ∷ 10 ∷ [];
  some = omega arith;
  content = [];
  is = record { reads = least_body; short = omega arith; small = omega arith };
}

less_front : (a b : List ℕ) → IsLessBody (a ++ b) → IsLessBody a
less_front a b less = record {
  more = b ++ less.more;
  some = omega (arith, length-append b less.more, less.some);
  content = less.content;
  is = subst (λ (t : List ℕ). IsBody t less.content) (append_assoc a b less.more) less.is;
}

less_take : (k n : ℕ) (bytes : List ℕ) → k ≤ n → IsLessBody (take n bytes) → IsLessBody (take k bytes)
less_take k n bytes below less =
    subst IsLessBody (take_take k n bytes below) (less_front (take k (take n bytes)) (drop k (take n bytes)) (subst IsLessBody (sym (take-append-drop k (take n bytes))) less))

pub body_front_at : (low high : ℕ) (bytes : List ℕ) → low ≤ high → high ≤ length bytes → high ≤ low + 1
    → IsLessBody (take low bytes) → ¬ (IsLessBody (take high bytes)) → IsBodyFront (take high bytes) bytes
body_front_at low high bytes ordered inside next below above =
    let apart : low ≢ high = λ e. above (subst (λ n. IsLessBody (take n bytes)) e below) in
    record {
      rest = drop high bytes;
      is = sym (take-append-drop high bytes);
      ends = above;
      before = λ k h.
          let k_high : k < high = omega (arith, length-take high bytes) in
          let k_low : k ≤ low = omega arith in
          subst IsLessBody (sym (take_take k high bytes (omega arith))) (less_take k low bytes k_low below);
    }

-- a whole body is the shortest front
whole_body_front : (front rest bytes body : List ℕ) → bytes ≡ front ++ rest → IsBody front body → IsBodyFront front bytes
whole_body_front front rest bytes body e is = record {
  rest = rest;
  is = e;
  ends = λ less. absurd (omega (arith, less.some, ap length (body_prefix_free front less.more body less.content is.reads less.is.reads)));
  before = λ k below. record {
    more = drop k front;
    some = omega (arith, length-drop k front);
    content = body;
    is = subst (λ (t : List ℕ). IsBody t body) (sym (take-append-drop k front)) is;
  };
}

body_front_longer : (front bytes more : List ℕ) → IsBodyFront front bytes → IsBodyFront front (bytes ++ more)
body_front_longer front bytes more f =
    record { rest = f.rest ++ more; is = ap (λ (t : List ℕ). t ++ more) f.is ∙ append_assoc front f.rest more; ends = f.ends; before = f.before }

-- ---- a body and what follows it

reads_split : (chunks : List (List ℕ)) (bytes rest : List ℕ) → ReadsChunks chunks bytes rest → (front : List ℕ) × (bytes ≡ front ++ rest) × ReadsChunks chunks front []
reads_split [] bytes rest r =
    let section = print_section r.2.0 r.2.1 in (
      print_chunk_line r.1.line ++ section,
      r.1.is ∙ ap (λ (t : List ℕ). print_chunk_line r.1.line ++ t) r.2.2.1 ∙ sym (append_assoc (print_chunk_line r.1.line) section rest),
      (section, record { line = r.1.line; valid = r.1.valid; ends = r.1.ends; is = refl }, (r.2.0, r.2.1, (r.2.2.0, sym (append-nil section)))),
    )
reads_split (chunk ∷ chunks) bytes rest r =
    let s = reads_split chunks r.0 rest r.2 in (
      print_chunk_line r.1.line ++ (chunk ++ (crlf_bytes ++ s.0)),
      r.1.is ∙ ap (λ (t : List ℕ). print_chunk_line r.1.line ++ (chunk ++ (crlf_bytes ++ t))) s.1 ∙ (simp append_assoc),
      (s.0, record { line = r.1.line; valid = r.1.valid; sized = r.1.sized; some = r.1.some; is = refl }, s.2),
    )

body_split : (bytes body rest : List ℕ) → IsBodyAt bytes body rest → (front : List ℕ) × (bytes ≡ front ++ rest) × IsBodyAt front body []
body_split bytes body rest b =
    let s = reads_split b.chunks bytes rest b.reads in
    (s.0, s.1, record { chunks = b.chunks; reads = s.2; is = b.is })

pub body_short : (bytes body rest : List ℕ) → IsBodyAt bytes body rest → length rest ≤ length bytes
body_short bytes body rest b = let s = body_split bytes body rest b in omega (arith, ap length s.1, length-append s.0 rest)

-- ---- what is read of the bytes that are looked at

pub whole_reads : (n : ℕ) (bytes body rest : List ℕ) (size : ℕ) → IsBodyAt (take n bytes) body rest → length (take n bytes) ≤ 1048576 → length body ≤ 65536
    → size + length rest ≡ length (take n bytes) → ReadsBody bytes (Whole body size)
whole_reads n bytes body rest size b short small size_is =
    let s = body_split (take n bytes) body rest b in
    let sum = ap length s.1 ∙ length-append s.0 rest in
    let is : IsBody s.0 body = record { reads = s.2; short = omega (arith, short, sum); small = small } in
    let text : bytes ≡ s.0 ++ (rest ++ drop n bytes) =
    sym (take-append-drop n bytes) ∙ ap (λ (t : List ℕ). t ++ drop n bytes) s.1 ∙ append_assoc s.0 rest (drop n bytes) in
    inr (s.0, whole_body_front s.0 (rest ++ drop n bytes) bytes body text is, (is, omega (arith, sum, size_is)))

pub seen_reads : (n : ℕ) (bytes : List ℕ) (r : BodyRead) → min (length bytes) 1048576 ≤ n → ReadsBody (take n bytes) r → ReadsBody bytes r
seen_reads n bytes r n_is (inl less) =
    let short : length (take n bytes) < 1048576 = omega (arith, length-append (take n bytes) less.0.more, less.0.some, less.0.is.short) in
    let all : length bytes ≤ n = omega (arith, length-take n bytes, n_is) in
    inl (subst IsLessBody (take_all n bytes all) less.0, less.1)
seen_reads n bytes r n_is (inr f) =
    inr (f.0, subst (IsBodyFront f.0) (take-append-drop n bytes) (body_front_longer f.0 (take n bytes) (drop n bytes) f.1), f.2)

-- no body at all, or none within the limits
pub none_whole : (bytes : List ℕ) → ((body rest : List ℕ) → ¬ (IsBodyAt bytes body rest)) → (front rest body : List ℕ) → bytes ≡ front ++ rest → ¬ (IsBody front body)
none_whole bytes none front rest body e is = none body ([] ++ rest) (subst (λ (t : List ℕ). IsBodyAt t body ([] ++ rest)) (sym e) (body_longer front body [] rest is.reads))

pub large_whole : (bytes content after : List ℕ) → IsBodyAt bytes content after → 65536 < length content → (front rest body : List ℕ) → bytes ≡ front ++ rest → ¬ (IsBody front body)
large_whole bytes content after b large front rest body e is =
    let same = body_same bytes content after body ([] ++ rest) b (subst (λ (t : List ℕ). IsBodyAt t body ([] ++ rest)) (sym e) (body_longer front body [] rest is.reads)) in
    omega (arith, large, ap length same.0, is.small)

pub refused : (end : ℕ) (bytes : List ℕ) (r : BodyRead) → ((front rest body : List ℕ) → bytes ≡ front ++ rest → ¬ (IsBody front body)) → IsBodyFront (take end bytes) bytes
    → (((body : List ℕ) → ¬ (IsBody (take end bytes) body)) → AnswersBody (take end bytes) r) → ReadsBody bytes r
refused end bytes r none f answer = inr (take end bytes, f, answer (λ body b. none (take end bytes) f.rest body f.is b))

-- ---- scans

pub stuck_none : (bytes content rest : List ℕ) → IsBehind bytes content rest → IsStuck rest → (body after : List ℕ) → ¬ (IsBodyAt bytes body after)
stuck_none bytes content rest s stuck body after b =
    let r = s.back [] body after (subst (λ (t : List ℕ). IsBodyAt t body after) (sym (append-nil bytes)) b) in
    stuck_no_body rest stuck r.0 after (subst (λ (t : List ℕ). IsBodyAt t r.0 after) (append-nil rest) r.2)

pub ended_none : (bytes content rest : List ℕ) → IsEnded bytes content rest → ((after : List ℕ) → ¬ (HasSection rest after)) → (body after : List ℕ) → ¬ (IsBodyAt bytes body after)
ended_none bytes content rest s none body after b =
    let r = s.back [] body after (subst (λ (t : List ℕ). IsBodyAt t body after) (sym (append-nil bytes)) b) in
    none after (subst (λ (t : List ℕ). HasSection t after) (append-nil rest) r.1)

pub ended_some : (bytes content rest after : List ℕ) → IsEnded bytes content rest → HasSection rest after → IsBodyAt bytes content after
ended_some bytes content rest after s section =
    subst (λ (t : List ℕ). IsBodyAt t content after) (append-nil bytes) (s.there [] after (subst (λ (t : List ℕ). HasSection t after) (sym (append-nil rest)) section))
