-- From what the parser and the tests say to what the bytes begin with.
use Rattle.std.proofs.Common.{◌≡◌, ℕ, ◌≤◌, List, [], ◌++◌, length, drop, take, sym, ap, ◌∙◌, subst, arith, append-nil, length-take, take-append-drop, inl, inr}
use Rattle.std.proofs.lemmas.List.{append_cancel_right, length-map}
use Rattle.httparse.specs.Grammar.{RequestHead, ReadsRequest, print_request}
use Rattle.httparse.specs.Spans.{IsRequestWithin, IsRequestOf, header_bytes, name_and_value}
use Rattle.httparse.specs.declared.spans.RequestSpans.{RequestSpans}
use Rattle.httparse.specs.declared.spans.HeaderSpan.{HeaderSpan}
use Rattle.httparse.proofs.GrammarLemmas.{ReadsRequest-append}
use Rattle.http_wire.specs.declared.messages.HeadRead.{HeadRead}
use Rattle.http_wire.specs.Heads.{IsHead, IsFront}
use Rattle.http_wire.specs.HeadMeaning.{AnswersHead, AnswersNone, Shows, ReadsHead}
use Rattle.http_wire.proofs.ContinuationLemmas.{whole_front, front_longer}

pub seen_front : (front bytes : List ℕ) (n : ℕ) → IsFront front (take n bytes) → IsFront front bytes
seen_front front bytes n f = subst (IsFront front) (take-append-drop n bytes) (front_longer front (take n bytes) (drop n bytes) f)

-- the answer to a whole head
pub told_reads : (n : ℕ) (bytes : List ℕ) (headers : List HeaderSpan) (parts : RequestSpans) (r : HeadRead) → n ≤ 16384 → length headers ≡ 64
    → IsRequestWithin (take n bytes) headers parts → IsRequestOf (take n bytes) headers parts
    → ((h : RequestHead) → Shows (take n bytes) parts (take parts.headers headers) h → AnswersHead parts.len h r) → ReadsHead bytes r
told_reads n bytes headers parts r small room within of tells =
    let h = of.0 in
    let at = of.1 in
    let seen = take n bytes in
    let front = take parts.len seen in
    let fits : parts.len ≤ length seen = within.section.len_fits in
    let split : front ++ drop parts.len seen ≡ seen = take-append-drop parts.len seen in
    let same : front ≡ print_request h = append_cancel_right front (print_request h) (drop parts.len seen) (split ∙ at.reads.1) in
    let size : length front ≡ parts.len = omega (arith, length-take parts.len seen) in
    let count : length (take parts.headers headers) ≡ length h.fields =
    sym (length-map (take parts.headers headers) (header_bytes seen)) ∙ ap length at.fields ∙ length-map h.fields name_and_value in
    let whole : IsHead front h = record {
      reads = (at.reads.0, same ∙ sym (append-nil (print_request h)));
      short = omega (arith, length-take n bytes);
      few = omega (arith, length-take parts.headers headers);
    } in
    let shows : Shows seen parts (take parts.headers headers) h =
    record { method = at.method; token = at.reads.0.method; target = at.path; text = at.reads.0.target_text; version = at.version; fields_are = at.fields } in
    inr (
      front,
      seen_front front bytes n (whole_front front (drop parts.len seen) seen h (sym split) whole),
      inl (h, whole, subst (λ len. AnswersHead len h r) (sym size) (tells h shows)),
    )

pub no_head : (front rest seen : List ℕ) → seen ≡ front ++ rest → ((h : RequestHead) (rest : List ℕ) → ReadsRequest seen h rest → ¬ (length h.fields ≤ 64))
    → (h : RequestHead) → ¬ (IsHead front h)
no_head front rest seen e none h is =
    none h ([] ++ rest) (subst (λ (t : List ℕ). ReadsRequest t h ([] ++ rest)) (sym e) (ReadsRequest-append front h [] rest is.reads)) is.few

-- where no head is at the front, the answer is that to the shortest front
pub none_reads_all : (end : ℕ) (bytes : List ℕ) (r : HeadRead) → ((h : RequestHead) (rest : List ℕ) → ReadsRequest bytes h rest → ¬ (length h.fields ≤ 64)) → IsFront (take end bytes) bytes
    → (((h : RequestHead) → ¬ (IsHead (take end bytes) h)) → AnswersNone (take end bytes) r) → ReadsHead bytes r
none_reads_all end bytes r none f answer = inr (take end bytes, f, inr (answer (no_head (take end bytes) f.rest bytes f.is none)))
