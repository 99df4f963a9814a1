-- What goes on has one of the ends.
use Rattle.std.proofs.Common.{◌≡◌, ◌≢◌, ℕ, zero, suc, ◌+◌, ◌*◌, ◌<◌, ◌≤◌, List, [], ◌∷◌, ◌++◌, length, drop, take, refl, sym, ap, ◌∙◌, subst, arith, append_assoc, append-nil, length-append, length-drop, length-take, take-append-drop, inl, inr, ◌⊎◌}
use Rattle.std.specs.Prelude.{All, Bool, true, false, IsTrue, ◌↔◌}
use Rattle.std.specs.List.{flat_map}
use Rattle.std.proofs.lemmas.List.Elements.{All-head, All-tail}
use Rattle.httparse.specs.Grammar.{AllPass, LineEnd, crlf, lf, IsField, print_request, IsToken, print_end, print_blank, Field, print_field, print_section, print_version, RequestHead, ReadsRequest}
use Rattle.http_wire.specs.Heads.{IsHead, BeginsHead, IsLess, EndsInside, IsInsideWithRoom, GoesOn, IsFront, is_target_byte}
use Rattle.http_wire.specs.Continuation.{ending, IsTail, after_name, part, IsHeadOfAtMost, HasEnd}
use Rattle.httparse.proofs.GrammarLemmas.{cons-append, request_prefix_free}
use Rattle.http_wire.proofs.CutLemmas.{levi, head_text, request_cut, end_some, least_head, least_valid, pass_front, a_token}

pub tail_size : (tail : List ℕ) → IsTail tail → (0 < length tail) × (length tail ≤ 15)
unfolding ending
tail_size tail (after_name e) = (omega (arith, ap length e), omega (arith, ap length e))
tail_size tail (part k below e) = (omega (arith, ap length e, length-drop k ending), omega (arith, ap length e, length-drop k ending))

pub goes_on_from_end : (bytes : List ℕ) → HasEnd bytes 16384 64 → GoesOn bytes
goes_on_from_end bytes e = inl (record {
  more = e.tail;
  some = (tail_size e.tail e.is_tail).0;
  head = e.ends.is.head;
  is = record { reads = e.ends.is.reads; short = e.ends.short; few = e.ends.is.few };
})

pub end_from_goes_on : (bytes : List ℕ) → ¬ (IsInsideWithRoom bytes) → GoesOn bytes → HasEnd bytes 16384 64
end_from_goes_on bytes none (inr i) = absurd (none i)
end_from_goes_on bytes none (inl less) =
    let sum = length-append bytes less.more in
    let short = less.is.short in
    elim (request_cut bytes less.more less.head less.is.reads less.some) [
      | inl s ↦ record {
        tail = s.tail;
        is_tail = s.is_tail;
        ends = record {
          short = omega (arith, length-append bytes s.tail, s.shorter, sum, short);
          is = record { head = s.head; reads = s.reads; few = omega (arith, s.fewer, less.is.few) };
        };
      }
      | inr i ↦ absurd (none (record { inside = i.0; short = omega (arith, i.1, sum, short) }))
    ]

-- each field line has three bytes at least
pub lines_long : (fs : List Field) → All IsField fs → 3 * length fs ≤ length (flat_map print_field fs)
lines_long [] all = omega arith
lines_long (f ∷ fs) all =
    let name = (All-head IsField f fs all).name.0 in
    omega (arith, lines_long fs (All-tail IsField f fs all), length-append (print_field f) (flat_map print_field fs), field_long f name)
  where
    field_long : (f : Field) → 0 < length f.name → 3 ≤ length (print_field f)
    field_long f name = omega (arith, length-append (f.name ++ 58 ∷ f.raw) (print_end f.end), length-append f.name (58 ∷ f.raw), end_some f.end)

fields_short : (bytes : List ℕ) (h : RequestHead) → ReadsRequest bytes h [] → 3 * length h.fields ≤ length bytes
fields_short bytes h reads =
    omega (
      arith,
      lines_long h.fields reads.0.fields,
      ap length (reads.1 ∙ head_text h),
      length-append (print_blank h.blank) (h.method ++ 32 ∷ (h.target ++ 32 ∷ (print_version h.minor ++ (print_end h.line_end ++ print_section h.fields h.last)))),
      length-append h.method (32 ∷ (h.target ++ 32 ∷ (print_version h.minor ++ (print_end h.line_end ++ print_section h.fields h.last)))),
      length-append h.target (32 ∷ (print_version h.minor ++ (print_end h.line_end ++ print_section h.fields h.last))),
      length-append (print_version h.minor) (print_end h.line_end ++ print_section h.fields h.last),
      length-append (print_end h.line_end) (print_section h.fields h.last),
      length-append (flat_map print_field h.fields) (print_end h.last),
    )

pub begins_from_end : (bytes : List ℕ) (most room : ℕ) → HasEnd bytes most room → BeginsHead bytes
begins_from_end bytes most room e = record { more = e.tail; head = e.ends.is.head; reads = e.ends.is.reads }

pub begins_from_head : (bytes : List ℕ) (room : ℕ) → IsHeadOfAtMost bytes room → BeginsHead bytes
begins_from_head bytes room e = record { more = []; head = e.head; reads = subst (λ (t : List ℕ). ReadsRequest t e.head []) (sym (append-nil bytes)) e.reads }

pub end_from_begins : (bytes : List ℕ) → ¬ (EndsInside bytes) → ¬ (IsHeadOfAtMost bytes 16384) → length bytes ≤ 16384 → BeginsHead bytes → HasEnd bytes 18446744073709551615 16384
end_from_begins bytes inside whole short b = go b.more b.head b.reads
  where
    go : (more : List ℕ) (h : RequestHead) → ReadsRequest (bytes ++ more) h [] → HasEnd bytes 18446744073709551615 16384
    go [] h reads =
        let here : ReadsRequest bytes h [] = subst (λ (t : List ℕ). ReadsRequest t h []) (append-nil bytes) reads in
        absurd (whole (record { head = h; reads = here; few = omega (arith, fields_short bytes h here) }))
    go (m ∷ more) h reads =
        elim (request_cut bytes (m ∷ more) h reads (omega arith)) [
          | inl s ↦
              let size = (tail_size s.tail s.is_tail).1 in
              let sum = length-append bytes s.tail in
              record {
                tail = s.tail;
                is_tail = s.is_tail;
                ends = record {
                  short = omega (arith, size, sum, short);
                  is = record { head = s.head; reads = s.reads; few = omega (arith, size, sum, short, fields_short (bytes ++ s.tail) s.head s.reads) };
                };
              }
          | inr i ↦ absurd (inside i.0)
        ]

-- ---- fronts

-- less than a request line, up to its target
line_less : (blank : List LineEnd) (method a x : List ℕ) → IsToken method → print_blank blank ++ (method ++ 32 ∷ []) ≡ a ++ x
    → length (print_blank blank ++ (method ++ 32 ∷ [])) + 12 ≤ 16384 → IsLess a
line_less blank method a x token e short =
    let tail : List ℕ = 47 ∷ 32 ∷ 72 ∷ 84 ∷ 84 ∷ 80 ∷ 47 ∷ 49 ∷ 46 ∷ 48 ∷ 10 ∷ 10 ∷ [] in
    let h : RequestHead = least_head blank method in
    let same : a ++ (x ++ tail) ≡ (print_blank blank ++ (method ++ 32 ∷ [])) ++ tail = sym (append_assoc a x tail) ∙ ap (λ (t : List ℕ). t ++ tail) (sym e) in
    record {
      more = x ++ tail;
      some = omega (arith, length-append x tail);
      head = h;
      is = record {
        reads = (least_valid blank method token.0 token.1, same ∙ (simp append_assoc) ∙ sym (head_text h));
        short = omega (arith, ap length same, length-append (print_blank blank ++ (method ++ 32 ∷ [])) tail, short);
        few = omega arith;
      };
    }

pub goes_on_nothing : GoesOn []
goes_on_nothing = inl (line_less [] (65 ∷ []) [] (65 ∷ 32 ∷ []) (omega arith, a_token) refl (omega arith))

pub goes_on_front : (a b : List ℕ) → GoesOn (a ++ b) → GoesOn a
goes_on_front a b (inl less) = inl (record {
  more = b ++ less.more;
  some = omega (arith, length-append b less.more, less.some);
  head = less.head;
  is = subst (λ (t : List ℕ). IsHead t less.head) (append_assoc a b less.more) less.is;
})
goes_on_front a b (inr i) =
    let blank = i.inside.blank in
    let method = i.inside.method in
    let target = i.inside.target in
    let line : List ℕ = print_blank blank ++ (method ++ 32 ∷ []) in
    let text : a ++ b ≡ line ++ target = i.inside.is ∙ simp append_assoc in
    let room : length line + 12 ≤ 16384 = omega (arith, i.short, i.inside.some, ap length text, length-append line target) in
    elim (levi a b line target text) [
      | inl r ↦ inl (line_less blank method a r.0 i.inside.token r.1 room)
      | inr r ↦ inside r.0 r.1 r.2 room
    ]
  where
    inside : (x : List ℕ) → a ≡ (print_blank i.inside.blank ++ (i.inside.method ++ 32 ∷ [])) ++ x → x ++ b ≡ i.inside.target
        → length (print_blank i.inside.blank ++ (i.inside.method ++ 32 ∷ [])) + 12 ≤ 16384 → GoesOn a
    inside [] is e room =
        inl (line_less i.inside.blank i.inside.method a [] i.inside.token (rw append-nil (sym (is ∙ append-nil _))) room)
    inside (c ∷ x) is e room = inr (record {
      inside = record {
        blank = i.inside.blank;
        method = i.inside.method;
        target = c ∷ x;
        token = i.inside.token;
        some = omega arith;
        clear = pass_front is_target_byte (c ∷ x) b (subst (AllPass is_target_byte) (sym e) i.inside.clear);
        is = is ∙ simp append_assoc;
      };
      short = omega (arith, i.short, length-append a b);
    })

pub take_take : (k n : ℕ) (xs : List ℕ) → k ≤ n → take k (take n xs) ≡ take k xs
take_take zero n xs h = refl
take_take (suc k) zero xs h = absurd (omega arith)
take_take (suc k) (suc n) [] h = refl
take_take (suc k) (suc n) (x ∷ xs) h = ap (λ (t : List ℕ). x ∷ t) (take_take k n xs (omega arith))

-- each front of what goes on goes on
pub goes_on_take : (k n : ℕ) (bytes : List ℕ) → k ≤ n → GoesOn (take n bytes) → GoesOn (take k bytes)
goes_on_take k n bytes below g =
    subst GoesOn (take_take k n bytes below) (goes_on_front (take k (take n bytes)) (drop k (take n bytes)) (subst GoesOn (sym (take-append-drop k (take n bytes))) g))

pub front_at : (low high : ℕ) (bytes : List ℕ) → low ≤ high → high ≤ length bytes → high ≤ low + 1
    → GoesOn (take low bytes) → ¬ (GoesOn (take high bytes)) → IsFront (take high bytes) bytes
front_at low high bytes ordered inside next below above =
    let apart : low ≢ high = λ e. above (subst (λ n. GoesOn (take n bytes)) e below) in
    record {
      rest = drop high bytes;
      is = sym (take-append-drop high bytes);
      ends = above;
      before = λ k h.
          let k_high : k < high = omega (arith, length-take high bytes) in
          let k_low : k ≤ low = omega arith in
          subst GoesOn (sym (take_take k high bytes (omega arith))) (goes_on_take k low bytes k_low below);
    }

pub begins_by_end : (bytes : List ℕ) (one two : ℕ) → one ≡ 16384 → two ≡ 16384 → ¬ (EndsInside bytes) → ¬ (IsHeadOfAtMost bytes one) → length bytes ≤ 16384
    → (b : Bool) → (IsTrue b ↔ HasEnd bytes 18446744073709551615 two) → IsTrue b ↔ (BeginsHead bytes ⊎ EndsInside bytes)
begins_by_end bytes one two first second inside whole short b h = (
  λ yes. inl (begins_from_end bytes 18446744073709551615 two (h.0 yes)),
  λ g. elim g [
    | inl begins ↦ h.1 (subst (λ n. HasEnd bytes 18446744073709551615 n) (sym second)
        (end_from_begins bytes inside (λ w. whole (subst (λ n. IsHeadOfAtMost bytes n) (sym first) w)) short begins))
    | inr i ↦ absurd (inside i)
  ],
)

-- ---- a whole head

same_last : (xs ys : List ℕ) (a b : ℕ) → xs ++ a ∷ [] ≡ ys ++ b ∷ [] → a ≡ b
same_last [] [] a b e = cc
same_last [] (y ∷ ys) a b e = absurd (omega (arith, ap length e, length-append ys (b ∷ [])))
same_last (x ∷ xs) [] a b e = absurd (omega (arith, ap length e, length-append xs (a ∷ [])))
same_last (x ∷ xs) (y ∷ ys) a b e = same_last xs ys a b (cc)

-- the last byte of a list that is not empty
last_of : (xs : List ℕ) → 0 < length xs → (ys : List ℕ) × (b : ℕ) × (xs ≡ ys ++ b ∷ [])
last_of [] some = absurd (omega arith)
last_of (x ∷ []) some = ([], x, refl)
last_of (x ∷ y ∷ xs) some = let r = last_of (y ∷ xs) (omega arith) in (x ∷ r.0, r.1, ap (λ (t : List ℕ). x ∷ t) r.2)

All_last : (P : ℕ → Type 0) (ys : List ℕ) (b : ℕ) → All P (ys ++ b ∷ []) → P b
All_last P [] b all = All-head P b [] all
All_last P (y ∷ ys) b all = All_last P ys b (All-tail P y (ys ++ b ∷ []) all)

end_lf : (e : LineEnd) → (x : List ℕ) × (print_end e ≡ x ++ 10 ∷ [])
end_lf crlf = (13 ∷ [], refl)
end_lf lf = ([], refl)

-- a head ends in LF
head_lf : (h : RequestHead) → (x : List ℕ) × (print_request h ++ [] ≡ x ++ 10 ∷ [])
head_lf h =
    let e = end_lf h.last in (
      print_blank h.blank ++ (h.method ++ 32 ∷ (h.target ++ 32 ∷ (print_version h.minor ++ (print_end h.line_end ++ (flat_map print_field h.fields ++ e.0))))),
      head_text h ∙ simp (e.1, append_assoc, cons-append),
    )

not_inside : (front : List ℕ) (h : RequestHead) → ReadsRequest front h [] → ¬ (EndsInside front)
not_inside front h reads i =
    let tail = last_of i.target i.some in
    let one = head_lf h in
    let two : front ≡ (print_blank i.blank ++ (i.method ++ 32 ∷ tail.0)) ++ tail.1 ∷ [] = i.is ∙ simp (tail.2, append_assoc, cons-append) in
    let nl : 10 ≡ tail.1 = same_last one.0 (print_blank i.blank ++ (i.method ++ 32 ∷ tail.0)) 10 tail.1 (sym one.1 ∙ sym reads.1 ∙ two) in
    let passes : is_target_byte tail.1 ≡ true = All_last (λ b. is_target_byte b ≡ true) tail.0 tail.1 (subst (AllPass is_target_byte) tail.2 i.clear) in
    let wrong : false ≡ true = subst (λ (b : ℕ). is_target_byte b ≡ true) (sym nl) passes in
    cc

pub whole_ends : (front : List ℕ) (h : RequestHead) → IsHead front h → ¬ (GoesOn front)
whole_ends front h is (inl less) =
    let same = request_prefix_free front less.more h less.head [] [] is.reads less.is.reads in
    absurd (omega (arith, ap length same.1, less.some))
whole_ends front h is (inr i) = not_inside front h is.reads i.inside

-- a whole head is the shortest front
pub whole_front : (front rest bytes : List ℕ) (h : RequestHead) → bytes ≡ front ++ rest → IsHead front h → IsFront front bytes
whole_front front rest bytes h e is = record {
  rest = rest;
  is = e;
  ends = whole_ends front h is;
  before = λ k below. inl (record {
    more = drop k front;
    some = omega (arith, length-drop k front);
    head = h;
    is = subst (λ (t : List ℕ). IsHead t h) (sym (take-append-drop k front)) is;
  });
}

pub goes_on_short : (bytes : List ℕ) → GoesOn bytes → length bytes < 16384
goes_on_short bytes (inl less) = omega (arith, length-append bytes less.more, less.is.short, less.some)
goes_on_short bytes (inr i) = omega (arith, i.short)

pub front_longer : (front bytes more : List ℕ) → IsFront front bytes → IsFront front (bytes ++ more)
front_longer front bytes more f = record {
  rest = f.rest ++ more;
  is = ap (λ (t : List ℕ). t ++ more) f.is ∙ append_assoc front f.rest more;
  ends = f.ends;
  before = f.before;
}

-- a section has no more fields than its bytes can hold
pub section_fits : (bytes : List ℕ) (fields : List Field) (end : LineEnd) (rest : List ℕ) → All IsField fields × (bytes ≡ print_section fields end ++ rest) → 3 * length fields ≤ length bytes
section_fits bytes fields end rest r =
    omega (arith, lines_long fields r.0, ap length r.1, length-append (print_section fields end) rest, length-append (flat_map print_field fields) (print_end end))
