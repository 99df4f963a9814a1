-- The bytes of a character that is no ASCII, one after another.
use Rattle.std.proofs.Common.{◌≡◌, refl, sym, ap, ◌∙◌, ℕ, ◌+◌, ◌<◌, ◌≤◌, eqb, ◌&&◌, ◌||◌, not, List, [], ◌∷◌, ◌++◌, Bool, true, false, cond, ltb, ◌/◌, ◌%◌, Some, None, append_assoc, append-nil, arith}
use Rattle.std.specs.Prelude.{option_and_then, option_map}
use Rattle.std.proofs.lemmas.Bool.{eqb-true}
use borrow.Author.Tests.{ltb-true}
use lib.Utf8.{encode}
use Rattle.ldap_filter.specs.declared.comparison.Comparison.{Comparison}
use Rattle.ldap_filter.specs.Spelling.{has_stars, is_attribute}
use Rattle.ldap_filter.specs.Machine.{Frame, Mode, Wanted, Opened, Attribute, Operator, Valued, Escaped, After, State, closed, continued, step, run}
use Rattle.ldap_filter.specs.Reading.{wide}
use Rattle.ldap_filter.proofs.StepsOn.{opened_name, grown_name}

-- bytes above ASCII
abbrev pub AreHigh : List ℕ → Type 0
AreHigh [] = Unit {0}
AreHigh (b ∷ bs) = (128 ≤ b) × AreHigh bs

-- a text that begins so
pub record Begun (text : List ℕ) : Type 0 where
  pub first : ℕ
  pub others : List ℕ
  pub is : text ≡ first ∷ others
  pub high : AreHigh (first ∷ others)

pub encode_high : (c : ℕ) → 128 ≤ c → Begun (encode c)
unfolding encode
encode_high c h = by_tests (ltb c 128) (ltb c 2048) (ltb c 65536) refl where
  by_tests : (x y z : Bool) → ltb c 128 ≡ x → Begun (cond x (c ∷ []) (cond y ((192 + c / 64) ∷ (128 + c % 64) ∷ []) (cond z ((224 + c / 4096) ∷ (128 + (c / 64) % 64) ∷ (128 + c % 64) ∷ []) ((240 + c / 262144) ∷ (128 + (c / 4096) % 64) ∷ (128 + (c / 64) % 64) ∷ (128 + c % 64) ∷ []))))
  by_tests true y z e = absurd (omega (arith, ltb-true c 128 e))
  by_tests false true z e = record { first = 192 + c / 64; others = (128 + c % 64) ∷ []; is = refl; high = (omega arith, (omega arith, tt)) }
  by_tests false false true e = record { first = 224 + c / 4096; others = (128 + (c / 64) % 64) ∷ (128 + c % 64) ∷ []; is = refl; high = (omega arith, (omega arith, (omega arith, tt))) }
  by_tests false false false e = record { first = 240 + c / 262144; others = (128 + (c / 4096) % 64) ∷ (128 + (c / 64) % 64) ∷ (128 + c % 64) ∷ []; is = refl; high = (omega arith, (omega arith, (omega arith, (omega arith, tt)))) }

pub high_is_not : (b k : ℕ) → 128 ≤ b → k < 128 → eqb b k ≡ false
high_is_not b k h l = by_test (eqb b k) refl where
  by_test : (v : Bool) → eqb b k ≡ v → v ≡ false
  by_test true e = absurd (let same : b ≡ k = eqb-true b k e in omega arith)
  by_test false e = refl

none_holds : (a b c d e f : Bool) → a ≡ false → b ≡ false → c ≡ false → d ≡ false → e ≡ false → f ≡ false → not (((((a || b) || c) || d) || e) || f) ≡ true
none_holds a b c d e f ha hb hc hd he hf = ap (λ v. not (((((v || b) || c) || d) || e) || f)) ha ∙ ap (λ v. not ((((v || c) || d) || e) || f)) hb ∙ ap (λ v. not (((v || d) || e) || f)) hc ∙ ap (λ v. not ((v || e) || f)) hd ∙ ap (λ v. not (v || f)) he ∙ ap not hf

high_attribute : (b : ℕ) → 128 ≤ b → is_attribute b ≡ true
high_attribute b h = none_holds (eqb b 61) (eqb b 62) (eqb b 60) (eqb b 126) (eqb b 40) (eqb b 41)
    (high_is_not b 61 h (omega arith)) (high_is_not b 62 h (omega arith)) (high_is_not b 60 h (omega arith)) (high_is_not b 126 h (omega arith)) (high_is_not b 40 h (omega arith)) (high_is_not b 41 h (omega arith))

high_opened : (frames : List Frame) (b : ℕ) → 128 ≤ b → step frames Opened b ≡ Some (frames, Attribute (b ∷ []) [])
high_opened frames b h = opened_name frames b (high_is_not b 32 h (omega arith)) (high_is_not b 38 h (omega arith), high_is_not b 124 h (omega arith), high_is_not b 33 h (omega arith)) (high_attribute b h)

high_named : (frames : List Frame) (name blanks : List ℕ) (b : ℕ) → 128 ≤ b → step frames (Attribute name blanks) b ≡ Some (frames, Attribute (name ++ (blanks ++ b ∷ [])) [])
high_named frames name blanks b h = grown_name frames name blanks b (high_is_not b 32 h (omega arith)) (high_attribute b h)

high_valued : (frames : List Frame) (c : Comparison) (name : List ℕ) (parts : List (List ℕ)) (part : List ℕ) (b : ℕ) → 128 ≤ b → step frames (Valued c name parts part) b ≡ Some (frames, Valued c name parts (part ++ b ∷ []))
high_valued frames c name parts part b h = by_tests (eqb b 41) (eqb b 92) (eqb b 42) (eqb b 40) (has_stars c) _ _ _ _ _ (high_is_not b 41 h (omega arith)) (high_is_not b 92 h (omega arith)) (high_is_not b 42 h (omega arith)) (high_is_not b 40 h (omega arith)) where
  by_tests : {X : Type 0} (x y z w s : Bool) (p q r n t : X) → x ≡ false → y ≡ false → z ≡ false → w ≡ false → cond x p (cond y q (cond (z && s) r (cond w n t))) ≡ t
  by_tests x y z w s p q r n t hx hy hz hw = ap (λ v. cond v p (cond y q (cond (z && s) r (cond w n t)))) hx ∙ ap (λ v. cond v q (cond (z && s) r (cond w n t))) hy ∙ ap (λ v. cond (v && s) r (cond w n t)) hz ∙ ap (λ v. cond v n t) hw

high_wanted : (frames : List Frame) (b : ℕ) → 128 ≤ b → step frames Wanted b ≡ None
high_wanted frames b h = ap (λ v. cond v (Some (frames, Wanted)) (cond (eqb b 40) (Some (frames, Opened)) None)) (high_is_not b 32 h (omega arith)) ∙ ap (λ v. cond v (Some (frames, Opened)) None) (high_is_not b 40 h (omega arith))

high_operator : (frames : List Frame) (c : Comparison) (name : List ℕ) (b : ℕ) → 128 ≤ b → step frames (Operator c name) b ≡ None
high_operator frames c name b h = ap (λ v. cond v (Some (frames, Valued c name [] [])) None) (high_is_not b 61 h (omega arith))

high_after : (frames : List Frame) (tree : _) (b : ℕ) → 128 ≤ b → step frames (After tree) b ≡ None
high_after frames tree b h = ap (λ v. cond v (Some (frames, After tree)) (cond (eqb b 41) (closed frames tree) (cond (eqb b 40) (continued frames tree) None))) (high_is_not b 32 h (omega arith))
    ∙ ap (λ v. cond v (closed frames tree) (cond (eqb b 40) (continued frames tree) None)) (high_is_not b 41 h (omega arith)) ∙ ap (λ v. cond v (continued frames tree) None) (high_is_not b 40 h (omega arith))

run_named : (bs : List ℕ) (frames : List Frame) (name : List ℕ) → AreHigh bs → run bs (frames, Attribute name []) ≡ Some (frames, Attribute (name ++ bs) [])
run_named [] frames name h = ap (λ n. Some (frames, Attribute n [])) (sym (append-nil name))
run_named (b ∷ bs) frames name h = ap (option_and_then (run bs)) (high_named frames name [] b h.0) ∙ run_named bs frames (name ++ b ∷ []) h.1 ∙ ap (λ n. Some (frames, Attribute n [])) (append_assoc name (b ∷ []) bs)

run_valued : (bs : List ℕ) (frames : List Frame) (c : Comparison) (name : List ℕ) (parts : List (List ℕ)) (part : List ℕ) → AreHigh bs → run bs (frames, Valued c name parts part) ≡ Some (frames, Valued c name parts (part ++ bs))
run_valued [] frames c name parts part h = ap (λ p. Some (frames, Valued c name parts p)) (sym (append-nil part))
run_valued (b ∷ bs) frames c name parts part h = ap (option_and_then (run bs)) (high_valued frames c name parts part b h.0) ∙ run_valued bs frames c name parts (part ++ b ∷ []) h.1 ∙ ap (λ p. Some (frames, Valued c name parts p)) (append_assoc part (b ∷ []) bs)

same_some : {X : Type 0} (x y : X) → Some x ≡ Some y → x ≡ y
same_some x y e = cc

-- the bytes of such a character lead where the character does
pub wide_runs : (b : ℕ) (bs : List ℕ) (frames : List Frame) (mode : Mode) (u : State) → AreHigh (b ∷ bs) → option_map (λ m. (frames, m)) (wide mode (b ∷ bs)) ≡ Some u → run (b ∷ bs) (frames, mode) ≡ Some u
wide_runs b bs frames Wanted u h e = absurd (let k : ⊥ = cc in k)
wide_runs b bs frames Opened u h e = ap (option_and_then (run bs)) (high_opened frames b h.0) ∙ run_named bs frames (b ∷ []) h.1 ∙ e
wide_runs b bs frames (Attribute name blanks) u h e = ap (option_and_then (run bs)) (high_named frames name blanks b h.0) ∙ run_named bs frames (name ++ (blanks ++ b ∷ [])) h.1
    ∙ ap (λ n. Some (frames, Attribute n [])) (append_assoc name (blanks ++ b ∷ []) bs ∙ ap (λ n. name ++ n) (append_assoc blanks (b ∷ []) bs)) ∙ e
wide_runs b bs frames (Operator c name) u h e = absurd (let k : ⊥ = cc in k)
wide_runs b bs frames (Valued c name parts part) u h e = ap (option_and_then (run bs)) (high_valued frames c name parts part b h.0) ∙ run_valued bs frames c name parts (part ++ b ∷ []) h.1
    ∙ ap (λ p. Some (frames, Valued c name parts p)) (append_assoc part (b ∷ []) bs) ∙ e
wide_runs b bs frames (Escaped c name parts part) u h e = run_valued bs frames c name parts (part ++ b ∷ []) h.1 ∙ ap (λ p. Some (frames, Valued c name parts p)) (append_assoc part (b ∷ []) bs) ∙ e
wide_runs b bs frames (After tree) u h e = absurd (let k : ⊥ = cc in k)

-- where the character leads nowhere, its first byte doesn't
pub wide_stops : (b : ℕ) (bs : List ℕ) (frames : List Frame) (mode : Mode) → 128 ≤ b → option_map {U = State} (λ m. (frames, m)) (wide mode (b ∷ bs)) ≡ None → step frames mode b ≡ None
wide_stops b bs frames Wanted h e = high_wanted frames b h
wide_stops b bs frames Opened h e = absurd (let k : ⊥ = cc in k)
wide_stops b bs frames (Attribute name blanks) h e = absurd (let k : ⊥ = cc in k)
wide_stops b bs frames (Operator c name) h e = high_operator frames c name b h
wide_stops b bs frames (Valued c name parts part) h e = absurd (let k : ⊥ = cc in k)
wide_stops b bs frames (Escaped c name parts part) h e = absurd (let k : ⊥ = cc in k)
wide_stops b bs frames (After tree) h e = high_after frames tree b h
