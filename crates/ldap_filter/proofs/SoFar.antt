-- A text that is read up to a place: what the state there says of it.
use Rattle.std.proofs.Common.{◌≡◌, refl, sym, ap, ◌∙◌, subst, ℕ, zero, suc, ◌+◌, ◌<◌, ◌≤◌, eqb, ltb, List, [], ◌∷◌, ◌++◌, Bool, true, false, cond, Option, Some, None, length, take, append_assoc, append-nil, arith, length-append}
use Rattle.std.specs.Prelude.{option_and_then, option_map, is_some, slice_get, encode_utf8}
use Rattle.std.specs.Bool.{OnTrue}
use Rattle.std.proofs.lemmas.Bool.{eqb-true, eq-eqb, false≢true}
use Rattle.std.proofs.lemmas.Str.{encode_ascii}
use borrow.Author.Tests.{ltb-true, ltb-false}
use Rattle.std.proofs.lemmas.Bool.{lt-ltb}
use Rattle.ldap_filter.specs.Trees.{Tree}
use Rattle.ldap_filter.specs.Spelling.{Spells}
use Rattle.ldap_filter.specs.Places.{IsOpen, standing, IsWithin, IsBadAt, IsTooDeepAt}
use Rattle.ldap_filter.specs.Parsing.{IsTreeOf}
use Rattle.ldap_filter.specs.Machine.{Frame, Mode, Wanted, Opened, Attribute, Operator, Valued, Escaped, After, State, step, run, start, accepted}
use Rattle.ldap_filter.specs.Reading.{opens, wide, read_char}
use Rattle.ldap_filter.proofs.Runs.{split, spelled_read, read_spelled, open_reads, reads_open, one_tree}
use Rattle.ldap_filter.proofs.Standing.{Scan, after_byte, after_bytes, standing_is, after_snoc, AgreesWith, step_agrees, step_within}
use Rattle.ldap_filter.proofs.WideChars.{AreHigh, encode_high, high_is_not, wide_runs, wide_stops}

pub record SoFar (text rest : List ℕ) (at : ℕ) (frames : List Frame) (mode : Mode) : Type 0 where
  pub front : List ℕ
  pub whole : text ≡ front ++ rest
  pub place : at ≡ length front
  pub is : run front start ≡ Some (frames, mode)
  pub within : IsWithin 64 front
  pub agrees : AgreesWith (frames, mode) (after_bytes false 0 front)

take_nothing : (n : ℕ) → take {A = ℕ} n [] ≡ []
take_nothing zero = refl
take_nothing (suc n) = refl

pub so_far_start : (text : List ℕ) → SoFar text text 0 [] Wanted
so_far_start text = record {
  front = [];
  whole = refl;
  place = refl;
  is = refl;
  within = λ n. subst (λ xs. standing xs ≤ 64) (sym (take_nothing n)) (omega arith);
  agrees = (refl, refl);
}

run_append : (xs ys : List ℕ) (s : State) → run (xs ++ ys) s ≡ option_and_then (run ys) (run xs s)
run_append [] ys s = refl
run_append (x ∷ xs) ys s = by_step (λ u. run_append xs ys u) (step s.0 s.1 x) where
  by_step : ((u : State) → run (xs ++ ys) u ≡ option_and_then (run ys) (run xs u)) → (o : Option State) → option_and_then (run (xs ++ ys)) o ≡ option_and_then (run ys) (option_and_then (run xs) o)
  by_step rest None = refl
  by_step rest (Some u) = rest u

run_snoc : (xs : List ℕ) (b : ℕ) (s u : State) → run xs start ≡ Some s → step s.0 s.1 b ≡ Some u → run (xs ++ b ∷ []) start ≡ Some u
run_snoc xs b s u e f = run_append xs (b ∷ []) start ∙ ap (option_and_then (run (b ∷ []))) e ∙ ap (option_and_then (run [])) f

run_stops : (xs : List ℕ) (b : ℕ) (ys : List ℕ) (s : State) → run xs start ≡ Some s → step s.0 s.1 b ≡ None → run (xs ++ b ∷ ys) start ≡ None
run_stops xs b ys s e f = run_append xs (b ∷ ys) start ∙ ap (option_and_then (run (b ∷ ys))) e ∙ ap (option_and_then (run ys)) f

-- either a front of a front, or all of it
take_snoc : (xs : List ℕ) (b n : ℕ) → (P : List ℕ → Type 0) → P (take n xs) → P (xs ++ b ∷ []) → P (take n (xs ++ b ∷ []))
take_snoc [] b zero P p q = p
take_snoc [] b (suc n) P p q = subst (λ ys. P (b ∷ ys)) (sym (take_nothing n)) q
take_snoc (x ∷ xs) b zero P p q = p
take_snoc (x ∷ xs) b (suc n) P p q = take_snoc xs b n (λ ys. P (x ∷ ys)) p q

within_snoc : (xs : List ℕ) (b : ℕ) → IsWithin 64 xs → standing (xs ++ b ∷ []) ≤ 64 → IsWithin 64 (xs ++ b ∷ [])
within_snoc xs b h k n = take_snoc xs b n (λ ys. standing ys ≤ 64) (h n) k

take_all : (xs : List ℕ) → take (length xs) xs ≡ xs
take_all [] = refl
take_all (x ∷ xs) = ap (λ ys. x ∷ ys) (take_all xs)

whole_within : (xs : List ℕ) → IsWithin 64 xs → standing xs ≤ 64
whole_within xs h = subst (λ ys. standing ys ≤ 64) (take_all xs) (h (length xs))

-- one more byte
pub so_far_byte : (text : List ℕ) (b : ℕ) (rest : List ℕ) (at : ℕ) (frames : List Frame) (mode : Mode) (u : State) → SoFar text (b ∷ rest) at frames mode → step frames mode b ≡ Some u → OnTrue (opens mode b) (length frames < 64)
    → SoFar text rest (at + 1) u.0 u.1
so_far_byte text b rest at frames mode u h e o =
    let s : Scan = after_bytes false 0 h.front in
    let n : s.1 ≤ 64 = subst (λ k. k ≤ 64) (standing_is h.front) (whole_within h.front h.within) in
    record {
      front = h.front ++ b ∷ [];
      whole = h.whole ∙ sym (append_assoc h.front (b ∷ []) rest);
      place = ap (λ k. k + 1) h.place ∙ sym (length-append h.front (b ∷ []));
      is = run_snoc h.front b (frames, mode) u h.is e;
      within = within_snoc h.front b h.within (subst (λ k. k ≤ 64) (sym (standing_is (h.front ++ b ∷ []) ∙ ap (λ (t : Scan). t.1) (after_snoc h.front false 0 b))) (step_within frames mode s.0 s.1 b u h.agrees n e o));
      agrees = subst (λ t. AgreesWith u t) (sym (after_snoc h.front false 0 b)) (step_agrees frames mode s.0 s.1 b u h.agrees e);
    }

never_opens : (mode : Mode) (b : ℕ) (P : Type 0) → eqb b 40 ≡ false → OnTrue (opens mode b) P
never_opens Wanted b P e = subst (λ v. OnTrue v P) (sym e) tt
never_opens Opened b P e = tt
never_opens (Attribute name blanks) b P e = tt
never_opens (Operator c name) b P e = tt
never_opens (Valued c name parts part) b P e = tt
never_opens (Escaped c name parts part) b P e = tt
never_opens (After tree) b P e = subst (λ v. OnTrue v P) (sym e) tt

same_state : (text rest : List ℕ) (at : ℕ) (s u : State) → Some s ≡ Some u → SoFar text rest at s.0 s.1 → SoFar text rest at u.0 u.1
same_state text rest at s u e = subst (λ w. SoFar text rest at w.0 w.1) (let k : s ≡ u = cc in k)

-- the bytes of a character that is no ASCII
so_far_wide : (bs text rest : List ℕ) (at : ℕ) (s u : State) → AreHigh bs → run bs s ≡ Some u → SoFar text (bs ++ rest) at s.0 s.1 → SoFar text rest (at + length bs) u.0 u.1
so_far_wide [] text rest at s u high e h = subst (λ k. SoFar text rest k u.0 u.1) (let k : at ≡ at + 0 = omega arith in k) (same_state text rest at s u e h)
so_far_wide (b ∷ bs) text rest at s u high e h =
    let d = split (step s.0 s.1 b) bs u e in
    let g = so_far_byte text b (bs ++ rest) at s.0 s.1 d.mid h d.first (never_opens s.1 b (length s.0 < 64) (high_is_not b 40 high.0 (omega arith))) in
    subst (λ k. SoFar text rest k u.0 u.1) (let k : (at + 1) + length bs ≡ at + suc (length bs) = omega arith in k) (so_far_wide bs text rest (at + 1) d.mid u high.1 d.others g)

by_width : {G : Type 0} (c : ℕ) → (ltb c 128 ≡ true → c < 128 → G) → (ltb c 128 ≡ false → 128 ≤ c → G) → G
by_width {G} c f g = by_test (ltb c 128) refl where
  by_test : (v : Bool) → ltb c 128 ≡ v → G
  by_test true e = f e (ltb-true c 128 e)
  by_test false e = g e (ltb-false c 128 e)

narrow_is : (frames : List Frame) (mode : Mode) (c : ℕ) → ltb c 128 ≡ true → read_char frames mode c ≡ step frames mode c
narrow_is frames mode c e = ap (λ v. cond v (step frames mode c) (option_map (λ m. (frames, m)) (wide mode (encode_utf8 c)))) e

wide_is : (frames : List Frame) (mode : Mode) (c : ℕ) → ltb c 128 ≡ false → read_char frames mode c ≡ option_map (λ m. (frames, m)) (wide mode (encode_utf8 c))
wide_is frames mode c e = ap (λ v. cond v (step frames mode c) (option_map (λ m. (frames, m)) (wide mode (encode_utf8 c)))) e

-- one more character
pub so_far_char : (text rest more : List ℕ) (at c : ℕ) (frames : List Frame) (mode : Mode) (new : List Frame) (next : Mode) → SoFar text rest at frames mode → rest ≡ encode_utf8 c ++ more → read_char frames mode c ≡ Some (new, next)
    → OnTrue (opens mode c) (length frames < 64) → SoFar text more (at + length (encode_utf8 c)) new next
so_far_char text rest more at c frames mode new next h is e o = by_width c
    (λ t narrow. let one : encode_utf8 c ≡ c ∷ [] = encode_ascii c narrow in
    subst (λ k. SoFar text more (at + length k) new next) (sym one) (so_far_byte text c more at frames mode (new, next) (subst (λ r. SoFar text r at frames mode) (is ∙ ap (λ xs. xs ++ more) one) h) (sym (narrow_is frames mode c t) ∙ e) o))
    (λ t broad. let b = encode_high c broad in
    let runs : run (encode_utf8 c) (frames, mode) ≡ Some (new, next) = subst (λ xs. run xs (frames, mode) ≡ Some (new, next)) (sym b.is)
    (wide_runs b.first b.others frames mode (new, next) b.high (ap (λ xs. option_map (λ m. (frames, m)) (wide mode xs)) (sym b.is) ∙ sym (wide_is frames mode c t) ∙ e)) in
    so_far_wide (encode_utf8 c) text more at (frames, mode) (new, next) (subst AreHigh (sym b.is) b.high) runs (subst (λ r. SoFar text r at frames mode) is h))

ne-eqb : (a b : ℕ) → (a ≡ b → ⊥) → eqb a b ≡ false
ne-eqb a b h = by_test (eqb a b) refl where
  by_test : (v : Bool) → eqb a b ≡ v → v ≡ false
  by_test true e = absurd (h (eqb-true a b e))
  by_test false e = refl

none_is_some : (o : Option State) (u : State) → o ≡ None → o ≡ Some u → ⊥
none_is_some o u e f = let h : None ≡ Some u = sym e ∙ f in let k : ⊥ = cc in k

take_front : (xs ys : List ℕ) → take (length xs) (xs ++ ys) ≡ xs
take_front [] ys = refl
take_front (x ∷ xs) ys = ap (λ zs. x ∷ zs) (take_front xs ys)

-- a longer front has the next byte
take_more : (xs : List ℕ) (b : ℕ) (ys : List ℕ) (n : ℕ) → length xs < n → (zs : List ℕ) × (take n (xs ++ b ∷ ys) ≡ xs ++ b ∷ zs)
take_more [] b ys zero h = absurd (omega arith)
take_more [] b ys (suc n) h = (take n ys, refl)
take_more (x ∷ xs) b ys zero h = absurd (omega arith)
take_more (x ∷ xs) b ys (suc n) h = let k = take_more xs b ys n (omega arith) in (k.0, ap (λ zs. x ∷ zs) k.1)

-- a byte with which the machine doesn't go on
pub bad_byte : (text : List ℕ) (b : ℕ) (rest : List ℕ) (at : ℕ) (frames : List Frame) (mode : Mode) → SoFar text (b ∷ rest) at frames mode → step frames mode b ≡ None → IsBadAt text at false
bad_byte text b rest at frames mode h e =
    let stops : (ys : List ℕ) → run (h.front ++ b ∷ ys) start ≡ None = λ ys. run_stops h.front b ys (frames, mode) h.is e in
    let front_is : take at text ≡ h.front = ap (λ k. take k text) h.place ∙ ap (take (length h.front)) h.whole ∙ take_front h.front (b ∷ rest) in
    record {
      none = λ tree spells. let r = spelled_read text tree spells in none_is_some (run text start) r.state (ap (λ xs. run xs start) h.whole ∙ stops rest) r.is;
      inside = let l : length text ≡ length (h.front ++ b ∷ rest) = ap length h.whole in omega (arith, h.place, length-append h.front (b ∷ rest));
      whole = sym (ne-eqb at (length text) (let l : length text ≡ length (h.front ++ b ∷ rest) = ap length h.whole in λ e. omega (arith, h.place, length-append h.front (b ∷ rest), e)));
      front = subst IsOpen (sym front_is) (reads_open h.front (frames, mode) h.is);
      longest = λ n above _ open_. let m = take_more h.front b rest n (subst (λ k. k < n) h.place above) in
          let r = open_reads (take n text) open_ in none_is_some (run (take n text) start) r.0 (ap (λ xs. run xs start) (ap (take n) h.whole ∙ m.1) ∙ stops m.0) r.1;
      within = subst (IsWithin 64) (sym front_is) h.within;
    }

-- a character with which the machine doesn't go on
pub bad_char : (text rest more : List ℕ) (at c : ℕ) (frames : List Frame) (mode : Mode) → SoFar text rest at frames mode → rest ≡ encode_utf8 c ++ more → read_char frames mode c ≡ None → IsBadAt text at false
bad_char text rest more at c frames mode h is e = by_width c
    (λ t narrow. bad_byte text c more at frames mode (subst (λ r. SoFar text r at frames mode) (is ∙ ap (λ xs. xs ++ more) (encode_ascii c narrow)) h) (sym (narrow_is frames mode c t) ∙ e))
    (λ t broad. let b = encode_high c broad in
    bad_byte text b.first (b.others ++ more) at frames mode (subst (λ r. SoFar text r at frames mode) (is ∙ ap (λ xs. xs ++ more) b.is) h)
    (wide_stops b.first b.others frames mode b.high.0 (ap (λ xs. option_map {U = State} (λ m. (frames, m)) (wide mode xs)) (sym b.is) ∙ sym (wide_is frames mode c t) ∙ e)))

-- the text ends where no filter does
pub bad_end : (text : List ℕ) (at : ℕ) (frames : List Frame) (mode : Mode) → SoFar text [] at frames mode → accepted frames mode ≡ None → IsBadAt text at true
bad_end text at frames mode h e =
    let whole : text ≡ h.front = h.whole ∙ append-nil h.front in
    let front_is : take at text ≡ h.front = ap (λ k. take k text) h.place ∙ ap (take (length h.front)) whole ∙ take_all h.front in
    record {
      none = λ tree spells. let r = spelled_read text tree spells in
          let same : r.state ≡ (frames, mode) = same_some r.state (frames, mode) (sym r.is ∙ ap (λ xs. run xs start) whole ∙ h.is) in
          let f : None ≡ Some tree = sym e ∙ ap (λ (s : State). accepted s.0 s.1) (sym same) ∙ r.all in let k : ⊥ = cc in k;
      inside = let l : length text ≡ length h.front = ap length whole in omega (arith, h.place);
      whole = sym (eq-eqb at (length text) (let l : length text ≡ length h.front = ap length whole in omega (arith, h.place)));
      front = subst IsOpen (sym front_is) (reads_open h.front (frames, mode) h.is);
      longest = λ n above below _. let l : length text ≡ length h.front = ap length whole in absurd (omega (arith, h.place));
      within = subst (IsWithin 64) (sym front_is) h.within;
    } where
      same_some : (x y : State) → Some x ≡ Some y → x ≡ y
      same_some x y e = cc

-- the whole text is read
pub record IsRead (text : List ℕ) (tree : Tree) : Type 0 where
  pub spells : Spells text tree
  pub within : IsWithin 64 text

pub read_end : (text : List ℕ) (at : ℕ) (frames : List Frame) (mode : Mode) (tree : Tree) → SoFar text [] at frames mode → accepted frames mode ≡ Some tree → IsRead text tree
read_end text at frames mode tree h e =
    let whole : text ≡ h.front = h.whole ∙ append-nil h.front in
    record { spells = read_spelled text (frames, mode) tree (ap (λ xs. run xs start) whole ∙ h.is) e; within = subst (IsWithin 64) (sym whole) h.within }

byte_at : (xs : List ℕ) (b : ℕ) (ys : List ℕ) → slice_get (xs ++ b ∷ ys) (length xs) ≡ Some b
byte_at [] b ys = refl
byte_at (x ∷ xs) b ys = byte_at xs b ys

pub opens_bracket : (mode : Mode) (c : ℕ) → opens mode c ≡ true → c ≡ 40
opens_bracket Wanted c e = eqb-true c 40 e
opens_bracket Opened c e = absurd (false≢true e)
opens_bracket (Attribute name blanks) c e = absurd (false≢true e)
opens_bracket (Operator d name) c e = absurd (false≢true e)
opens_bracket (Valued d name parts part) c e = absurd (false≢true e)
opens_bracket (Escaped d name parts part) c e = absurd (false≢true e)
opens_bracket (After tree) c e = eqb-true c 40 e

-- where a bracket may open a filter as many stand open as filters do
opens_at : (frames : List Frame) (mode : Mode) (c : ℕ) (s : Scan) → opens mode c ≡ true → AgreesWith (frames, mode) s → (s.0 ≡ false) × (s.1 ≡ length frames)
opens_at frames Wanted c s e a = a
opens_at frames Opened c s e a = absurd (false≢true e)
opens_at frames (Attribute name blanks) c s e a = absurd (false≢true e)
opens_at frames (Operator d name) c s e a = absurd (false≢true e)
opens_at frames (Valued d name parts part) c s e a = absurd (false≢true e)
opens_at frames (Escaped d name parts part) c s e a = absurd (false≢true e)
opens_at frames (After tree) c s e a = a

is_there : (o : Option State) → is_some o ≡ true → (u : State) × (o ≡ Some u)
is_there None e = absurd (false≢true e)
is_there (Some u) e = (u, refl)

-- a bracket opens a filter where 64 stand open
pub too_deep : (text rest more : List ℕ) (at c : ℕ) (frames : List Frame) (mode : Mode) → SoFar text rest at frames mode → rest ≡ encode_utf8 c ++ more → opens mode c ≡ true → 64 ≤ length frames → is_some (read_char frames mode c) ≡ true → IsTooDeepAt text at
too_deep text rest more at c frames mode h is o deep goes =
    let bracket : c ≡ 40 = opens_bracket mode c o in
    let narrow : c < 128 = omega arith in
    let next : rest ≡ 40 ∷ more = is ∙ ap (λ xs. xs ++ more) (encode_ascii c narrow) ∙ ap (λ b. b ∷ more) bracket in
    let u = is_there (read_char frames mode c) goes in
    let goes_on : step frames mode 40 ≡ Some u.0 = ap (step frames mode) (sym bracket) ∙ sym (narrow_is frames mode c (lt-ltb c 128 narrow)) ∙ u.1 in
    let s : Scan = after_bytes false 0 h.front in
    let agrees = opens_at frames mode c s o h.agrees in
    let few : s.1 ≤ 64 = subst (λ k. k ≤ 64) (standing_is h.front) (whole_within h.front h.within) in
    let whole : text ≡ h.front ++ 40 ∷ more = h.whole ∙ ap (λ r. h.front ++ r) next in
    let front_is : take at text ≡ h.front = ap (λ k. take k text) h.place ∙ ap (take (length h.front)) whole ∙ take_front h.front (40 ∷ more) in
    let longer : take (at + 1) text ≡ h.front ++ 40 ∷ [] = ap (λ k. take k text) (ap (λ k. k + 1) h.place ∙ sym (length-append h.front (40 ∷ []))) ∙ ap (take (length (h.front ++ 40 ∷ []))) (whole ∙ sym (append_assoc h.front (40 ∷ []) more)) ∙ take_front (h.front ++ 40 ∷ []) more in
    let count : s.1 ≡ 64 = let l : s.1 ≡ length frames = agrees.1 in omega arith in
    record {
      bracket = ap (λ k. slice_get text k) h.place ∙ ap (λ xs. slice_get xs (length h.front)) whole ∙ byte_at h.front 40 more;
      front = subst IsOpen (sym longer) (reads_open (h.front ++ 40 ∷ []) u.0 (run_snoc h.front 40 (frames, mode) u.0 h.is goes_on));
      within = subst (IsWithin 64) (sym front_is) h.within;
      above = ap standing longer ∙ standing_is (h.front ++ 40 ∷ []) ∙ ap (λ (t : Scan). t.1) (after_snoc h.front false 0 40) ∙ ap (λ e. (after_byte e s.1 40).1) agrees.0 ∙ ap suc count;
    }

nothing_left : (xs : List ℕ) → length xs ≡ 0 → xs ≡ []
nothing_left [] e = refl
nothing_left (x ∷ xs) e = absurd (omega arith)

-- the text is read to its end, and the tree is its own
pub tree_read : (text rest : List ℕ) (at : ℕ) (frames : List Frame) (mode : Mode) (tree : Tree) → SoFar text rest at frames mode → length rest ≡ 0 → accepted frames mode ≡ Some tree → IsTreeOf text tree
tree_read text rest at frames mode tree h e a =
    let r = read_end text at frames mode tree (subst (λ xs. SoFar text xs at frames mode) (nothing_left rest e) h) a in
    record { spells = r.spells; only = λ other spells. one_tree text other tree spells r.spells; within = r.within }

pub text_ended : (text rest : List ℕ) (at : ℕ) (frames : List Frame) (mode : Mode) → SoFar text rest at frames mode → length rest ≡ 0 → accepted frames mode ≡ None → IsBadAt text (length text) true
text_ended text rest at frames mode h e a =
    let g = subst (λ xs. SoFar text xs at frames mode) (nothing_left rest e) h in
    let all : at ≡ length text = h.place ∙ (let l : length text ≡ length (h.front ++ rest) = ap length h.whole in omega (arith, length-append h.front rest)) in
    subst (λ k. IsBadAt text k true) all (bad_end text at frames mode g a)
