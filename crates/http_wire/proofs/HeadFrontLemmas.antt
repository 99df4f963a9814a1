-- What may become a head, and has room for it, goes on.
use Rattle.std.proofs.Common.{◌≡◌, ℕ, ◌+◌, ◌≤◌, List, [], ◌∷◌, ◌++◌, length, drop, take, refl, sym, ap, ◌∙◌, subst, arith, append_assoc, append-nil, length-append, length-take, take-append-drop, inl, inr, cond}
use Rattle.std.specs.Prelude.{count_by, min}
use Rattle.std.specs.List.{flat_map}
use Rattle.std.proofs.lemmas.List.{take_all}
use Rattle.std.proofs.lemmas.List.Sums.{sum_by-append}
use Rattle.httparse.specs.Grammar.{AllPass, crlf, lf, LineEnd, print_end, print_blank, Field, print_field, print_section, print_version, RequestHead, ReadsRequest, HasNoRequest, MayBecomeRequest, is_uri_byte}
use Rattle.http_wire.specs.declared.messages.HeadRead.{HeadRead}
use Rattle.http_wire.specs.Heads.{EndsInside, GoesOn}
use Rattle.http_wire.specs.HeadMeaning.{ReadsHead}
use Rattle.http_wire.specs.Continuation.{ending, IsTail, after_name, part, Shortens}
use Rattle.http_wire.specs.HeadFronts.{is_feed, HasRoom}
use Rattle.http_wire.proofs.CutLemmas.{head_text, request_cut, in_target}
use Rattle.http_wire.proofs.ContinuationLemmas.{goes_on_from_end, tail_size}
use Rattle.http_wire.proofs.HeadReadingLemmas.{seen_front}

feeds : List ℕ → ℕ
feeds xs = count_by is_feed xs

feeds_append : (xs ys : List ℕ) → feeds (xs ++ ys) ≡ feeds xs + feeds ys
unfolding feeds
feeds_append xs ys = sum_by-append (λ x. cond (is_feed x) 1 0) xs ys

feeds_end : (e : LineEnd) → feeds (print_end e) ≡ 1
unfolding feeds
feeds_end crlf = refl
feeds_end lf = refl

feeds_blank : (xs : List ℕ) → feeds (32 ∷ xs) ≡ feeds xs
unfolding feeds
feeds_blank xs = refl

field_feeds : (fs : List Field) → length fs ≤ feeds (flat_map print_field fs)
field_feeds [] = omega arith
field_feeds (f ∷ fs) =
    omega (arith, field_feeds fs, feeds_append (print_field f) (flat_map print_field fs), feeds_append (f.name ++ 58 ∷ f.raw) (print_end f.end), feeds_end f.end)

head_feeds : (bytes : List ℕ) (h : RequestHead) → ReadsRequest bytes h [] → length h.fields ≤ feeds bytes
head_feeds bytes h reads =
    let section = print_section h.fields h.last in
    let line = print_end h.line_end ++ section in
    let version = print_version h.minor ++ line in
    let target = h.target ++ 32 ∷ version in
    omega (
      arith,
      field_feeds h.fields,
      ap feeds (reads.1 ∙ head_text h),
      feeds_append (print_blank h.blank) (h.method ++ 32 ∷ target),
      feeds_append h.method (32 ∷ target),
      feeds_blank target,
      feeds_append h.target (32 ∷ version),
      feeds_blank version,
      feeds_append (print_version h.minor) line,
      feeds_append (print_end h.line_end) section,
      feeds_append (flat_map print_field h.fields) (print_end h.last),
    )

feeds_ending : feeds ending ≡ 3
unfolding ending feeds
feeds_ending = refl

feeds_after_name : feeds (58 ∷ 10 ∷ 10 ∷ []) ≡ 2
unfolding feeds
feeds_after_name = refl

tail_feeds : (tail : List ℕ) → IsTail tail → feeds tail ≤ 3
tail_feeds tail (after_name e) = omega (arith, ap feeds e, feeds_after_name)
tail_feeds tail (part k below e) =
    omega (arith, ap feeds e, feeds_ending, feeds_append (take k ending) (drop k ending), ap feeds (take-append-drop k ending))

shortened : (bytes : List ℕ) (n m : ℕ) → HasRoom bytes → Shortens bytes n m → GoesOn bytes
unfolding feeds
shortened bytes n m room s =
    goes_on_from_end bytes record {
      tail = s.tail;
      is_tail = s.is_tail;
      ends = record {
        short = omega (arith, (tail_size s.tail s.is_tail).1, length-append bytes s.tail, room.short);
        is = record {
          head = s.head;
          reads = s.reads;
          few = omega (arith, head_feeds (bytes ++ s.tail) s.head s.reads, feeds_append bytes s.tail, tail_feeds s.tail s.is_tail, room.few);
        };
      };
    }

inside : (bytes : List ℕ) → HasRoom bytes → EndsInside bytes → GoesOn bytes
inside bytes room i = inr (record { inside = i; short = omega (arith, room.short) })

pub room_goes_on : (bytes : List ℕ) → HasRoom bytes → HasNoRequest bytes → MayBecomeRequest bytes → GoesOn bytes
room_goes_on bytes room none (inl m) = go m.0 m.1 m.2
  where
    go : (more : List ℕ) (h : RequestHead) → ReadsRequest (bytes ++ more) h [] → GoesOn bytes
    go [] h reads = absurd (none h [] (subst (λ (t : List ℕ). ReadsRequest t h []) (append-nil bytes) reads))
    go (b ∷ more) h reads = elim (request_cut bytes (b ∷ more) h reads (omega arith)) [
      | inl s ↦ shortened bytes (length (b ∷ more)) (length h.fields) room s
      | inr i ↦ inside bytes room i.0
    ]
room_goes_on bytes room none (inr t) =
    let text = t.2 in
    elim (in_target t.0 t.1 text [] bytes 12 0 t.3.0 t.3.1 (subst (λ (x : List ℕ). AllPass is_uri_byte x) (sym (append-nil text)) t.4) (t.5 ∙ append_assoc (print_blank t.0) t.1 (32 ∷ text)) (λ e. omega arith) (omega arith)) [
      | inl s ↦ shortened bytes 12 0 room s
      | inr i ↦ inside bytes room i.0
    ]

-- a front of the bytes that is as long as a head may be tells what the bytes begin with
pub seen_reads : (n : ℕ) (bytes : List ℕ) (r : HeadRead) → n ≡ min (length bytes) 16384 → ReadsHead (take n bytes) r → ReadsHead bytes r
seen_reads n bytes r is (inl m) =
    let short : length (take n bytes) + 1 ≤ 16384 = below m.0 in
    let all : take n bytes ≡ bytes = take_all n bytes (omega (arith, length-take n bytes)) in
    inl (subst GoesOn all m.0, m.1)
  where
    below : GoesOn (take n bytes) → length (take n bytes) + 1 ≤ 16384
    below (inl l) = omega (arith, l.some, l.is.short, length-append (take n bytes) l.more)
    below (inr i) = omega (arith, i.short)
seen_reads n bytes r is (inr f) = inr (f.0, seen_front f.0 bytes n f.1, f.2)
