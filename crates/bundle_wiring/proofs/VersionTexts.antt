-- The reading of a version that takes no memory stands where the machine of versions stands.
use Rattle.std.proofs.Common.{◌≡◌, refl, sym, ap, ◌∙◌, subst, ℕ, zero, suc, ◌+◌, ◌-◌, ◌<◌, ◌≤◌, Bool, true, false, List, [], ◌∷◌, ◌++◌, length, take, drop, get_or, Option, Some, None, arith}
use Rattle.std.specs.Prelude.{◌==◌, option_map, option_and_then, if◌then◌else◌}
use Rattle.std.proofs.Common.{take-append-drop}
use Rattle.std.proofs.lemmas.List.{drop-take, take_more}
use Rattle.osgi_version.specs.Readings.{run}
use Rattle.osgi_version.proofs.Readers.{run_more, run_none, run_whole}
use Rattle.bundle_wiring.specs.Texts.{version_of}
use Rattle.osgi_version.specs.Numbers.{with_digit}
use Rattle.osgi_version.specs.Versions.{is_qualifier_byte}
use Rattle.bundle_wiring.specs.Inside.{LiesWithin, after_dot, digit_step, numbers_before, part, reading_of, seen_step, seen_version, version_with, with_last}
use Rattle.osgi_version.specs.ReadingStates.{behind, in_number, in_qualifier, inside}
use Rattle.osgi_version.specs.Steps.{after_dot as dot_after, with_last as last_of}
use Rattle.osgi_version.specs.VersionStart.{version_start}
use Rattle.osgi_version.specs.VersionSteps.{version_at_end, version_step}
use Rattle.bundle_wiring.specs.declared.version_text.Before.{Before}
use Rattle.bundle_wiring.specs.declared.version_text.Before.TheVariants.{Major, Minor, Micro}
use Rattle.bundle_wiring.specs.declared.version_text.Numbers.{Numbers}
use Rattle.bundle_wiring.specs.declared.version_text.Seen.{Seen}
use Rattle.bundle_wiring.specs.declared.version_text.Seen.TheVariants.{Blanks, NumberDue, Number, QualifierDue, Qualifier, Behind}

-- a front without its first bytes, and one more byte behind it
drop_snoc : (n : ℕ) (xs : List ℕ) (b : ℕ) → n ≤ length xs → drop n (xs ++ b ∷ []) ≡ drop n xs ++ b ∷ []
drop_snoc zero xs b h = refl
drop_snoc (suc n) [] b h = absurd (omega (arith, h))
drop_snoc (suc n) (x ∷ xs) b h = drop_snoc n xs b (omega (arith, h))

front_length : (n : ℕ) (xs : List ℕ) → n ≤ length xs → length (take n xs) ≡ n
front_length zero xs l = refl
front_length (suc n) [] l = absurd (omega (arith, l))
front_length (suc n) (x ∷ xs) l = ap suc (front_length n xs (omega (arith, l)))

drop_front : (n : ℕ) (xs : List ℕ) → drop n (take n xs) ≡ []
drop_front zero xs = refl
drop_front (suc n) [] = refl
drop_front (suc n) (x ∷ xs) = drop_front n xs

part_is : (start end : ℕ) (text : List ℕ) → start ≤ end → part text start end ≡ drop start (take end text)
part_is start end text h =
    let whole : start + (end - start) ≡ end = omega (arith, h) in
    sym (drop-take start (end - start) text) ∙ ap (λ n. drop start (take n text)) whole

part_more : (text : List ℕ) (start at : ℕ) → start ≤ at → at < length text → part text start (at + 1) ≡ part text start at ++ get_or text at 0 ∷ []
part_more text start at h k =
    let front = front_length at text (omega (arith, k)) in
    part_is start (at + 1) text (omega (arith, h))
    ∙ (ap (drop start) (take_more text at 0 k) ∙ (drop_snoc start (take at text) (get_or text at 0) (omega (arith, front, h)) ∙ ap (λ q. q ++ get_or text at 0 ∷ []) (sym (part_is start at text h))))

empty_part : (text : List ℕ) (at : ℕ) → part text at at ≡ []
empty_part text at = part_is at at text (omega arith) ∙ drop_front at text

-- a version whose number goes on
digit_goes : (text : List ℕ) (at : ℕ) (before : Before) (o : Option ℕ) → option_map (reading_of text at) (option_map (Number before) o) ≡ option_map inside (option_map (in_number (numbers_before before)) o)
digit_goes text at before None = refl
digit_goes text at before (Some n) = refl

map_if : {A B : Type 0} (f : A → B) (c : Bool) (x y : A) (u v : B) → f x ≡ u → f y ≡ v → f (if c then x else y) ≡ (if c then u else v)
map_if f true x y u v e h = e
map_if f false x y u v e h = h

with_both : {A : Type 0} (P : A → Type 0) (c : Bool) (x y : A) → P x → P y → P (if c then x else y)
with_both P true x y h k = h
with_both P false x y h k = k

qualifier_if : (text : List ℕ) (at : ℕ) (ns : Numbers) (start : ℕ) (q r : List ℕ) (c : Bool) → part text start at ≡ r
    → option_map (reading_of text at) (if c then Some (Qualifier ns start) else None) ≡ option_map inside (if c then Some (in_qualifier (record (version_with ns q) { qualifier = r })) else None)
qualifier_if text at ns start q r true e = ap (λ s. Some (inside (in_qualifier (version_with ns s)))) e
qualifier_if text at ns start q r false e = refl

dot_if : (text : List ℕ) (at : ℕ) (before : Before) (n : ℕ) → option_map (reading_of text at) (Some (after_dot before n)) ≡ option_map inside (Some (dot_after (numbers_before before) n))
dot_if text at Major n = refl
dot_if text at (Minor a) n = refl
dot_if text at (Micro a b) n = refl

last_same : (before : Before) (n : ℕ) → version_with (with_last before n) [] ≡ last_of (numbers_before before) n
last_same Major n = refl
last_same (Minor a) n = refl
last_same (Micro a b) n = refl

number_if : (text : List ℕ) (at b : ℕ) (before : Before) (n : ℕ) (c : Bool)
    → option_map (reading_of text at) (if c then Some (after_dot before n) else digit_step before n b) ≡ option_map inside (if c then Some (dot_after (numbers_before before) n) else option_map (in_number (numbers_before before)) (with_digit n b))
number_if text at b before n true = dot_if text at before n
number_if text at b before n false = digit_goes text at before (with_digit n b)

-- each step goes where the machine's goes
pub step_goes : (text : List ℕ) (at : ℕ) (s : Seen) (b : ℕ) → LiesWithin at s → at < length text → get_or text at 0 ≡ b
    → option_map (reading_of text (at + 1)) (seen_step at s b) ≡ version_step (reading_of text at s) b
step_goes text at Blanks b lies k e = map_if (option_map (reading_of text (at + 1))) (b == 32) _ _ _ _ refl (digit_goes text (at + 1) Major (with_digit 0 b))
step_goes text at (NumberDue before) b lies k e = map_if (option_map (reading_of text (at + 1))) (b == 32) _ _ _ _ refl (digit_goes text (at + 1) before (with_digit 0 b))
step_goes text at (Number before n) b lies k e =
    map_if (option_map (reading_of text (at + 1))) (b == 32) _ _ _ _ (ap (λ v. Some (behind v)) (last_same before n)) (number_if text (at + 1) b before n (b == 46))
step_goes text at (QualifierDue ns) b lies k e =
    map_if (option_map (reading_of text (at + 1))) (b == 32) _ _ _ _ refl
    (qualifier_if text (at + 1) ns at [] (b ∷ []) (is_qualifier_byte b) (part_more text at at (omega arith) k ∙ ap (λ q. q ++ get_or text at 0 ∷ []) (empty_part text at) ∙ ap (λ c. c ∷ []) e))
step_goes text at (Qualifier ns start) b lies k e =
    map_if (option_map (reading_of text (at + 1))) (b == 32) _ _ _ _ refl
    (qualifier_if text (at + 1) ns start (part text start at) (part text start at ++ b ∷ []) (is_qualifier_byte b) (part_more text start at lies k ∙ ap (λ c. part text start at ++ c ∷ []) e))
step_goes text at (Behind ns start end) b lies k e = map_if (option_map (reading_of text (at + 1))) (b == 32) _ _ _ _ refl refl

abbrev LieWithin : ℕ → Option Seen → Type 0
LieWithin at None = Unit {0}
LieWithin at (Some s) = LiesWithin at s

digit_lies : (at : ℕ) (before : Before) (o : Option ℕ) → LieWithin at (option_map (Number before) o)
digit_lies at before None = tt
digit_lies at before (Some n) = tt

dot_lies : (at : ℕ) (before : Before) (n : ℕ) → LiesWithin at (after_dot before n)
dot_lies at Major n = tt
dot_lies at (Minor a) n = tt
dot_lies at (Micro a b) n = tt

next_lies : (at : ℕ) (s : Seen) (b : ℕ) → LiesWithin at s → LieWithin (at + 1) (seen_step at s b)
next_lies at Blanks b lies = with_both (LieWithin (at + 1)) (b == 32) _ _ tt (digit_lies (at + 1) Major (with_digit 0 b))
next_lies at (NumberDue before) b lies = with_both (LieWithin (at + 1)) (b == 32) _ _ tt (digit_lies (at + 1) before (with_digit 0 b))
next_lies at (Number before n) b lies =
    with_both (LieWithin (at + 1)) (b == 32) _ _ (omega arith, omega arith) (with_both (LieWithin (at + 1)) (b == 46) _ _ (dot_lies (at + 1) before n) (digit_lies (at + 1) before (with_digit n b)))
next_lies at (QualifierDue ns) b lies = with_both (LieWithin (at + 1)) (b == 32) _ _ tt (with_both (LieWithin (at + 1)) (is_qualifier_byte b) _ _ (omega arith) tt)
next_lies at (Qualifier ns start) b lies =
    with_both (LieWithin (at + 1)) (b == 32) _ _ (lies, omega arith) (with_both (LieWithin (at + 1)) (is_qualifier_byte b) _ _ (let h : start ≤ at = lies in omega arith) tt)
next_lies at (Behind ns start end) b lies = with_both (LieWithin (at + 1)) (b == 32) _ _ (lies.0, (let h : end ≤ at = lies.1 in omega arith)) tt

pub places_go : (at : ℕ) (s : Seen) (b : ℕ) (next : Seen) → LiesWithin at s → seen_step at s b ≡ Some next → LiesWithin (at + 1) next
places_go at s b next lies e = subst (LieWithin (at + 1)) e (next_lies at s b lies)

pub end_same : (text : List ℕ) (at : ℕ) (s : Seen) → version_at_end (reading_of text at s) ≡ seen_version text at s
end_same text at Blanks = refl
end_same text at (NumberDue before) = refl
end_same text at (Number before n) = ap Some (sym (last_same before n))
end_same text at (QualifierDue ns) = refl
end_same text at (Qualifier ns start) = refl
end_same text at (Behind ns start end) = refl

abbrev pub Led : List ℕ → ℕ → Seen → Type 0
Led text at s = run version_step version_start (take at text) ≡ Some (reading_of text at s)

pub led_on : (text : List ℕ) (at : ℕ) (s : Seen) (b : ℕ) (next : Seen) → at < length text → get_or text at 0 ≡ b → LiesWithin at s → Led text at s → seen_step at s b ≡ Some next → Led text (at + 1) next
led_on text at s b next k e lies led is =
    run_more version_step version_start (reading_of text at s) text at k led
    ∙ (ap (version_step (reading_of text at s)) e ∙ (sym (step_goes text at s b lies k e) ∙ ap (option_map (reading_of text (at + 1))) is))

pub stopped : (text : List ℕ) (at : ℕ) (s : Seen) (b : ℕ) → at < length text → get_or text at 0 ≡ b → LiesWithin at s → Led text at s → seen_step at s b ≡ None → version_of text ≡ None
stopped text at s b k e lies led is =
    let ends : run version_step version_start (take (at + 1) text) ≡ None =
    run_more version_step version_start (reading_of text at s) text at k led
    ∙ (ap (version_step (reading_of text at s)) e ∙ (sym (step_goes text at s b lies k e) ∙ ap (option_map (reading_of text (at + 1))) is)) in
    let split : text ≡ take (at + 1) text ++ drop (at + 1) text = sym (take-append-drop (at + 1) text) in
    ap (option_and_then version_at_end) (ap (run version_step version_start) split ∙ run_none version_step version_start (take (at + 1) text) (drop (at + 1) text) ends)

pub ended_with : (text : List ℕ) (at : ℕ) (s : Seen) → length text ≤ at → Led text at s → version_of text ≡ seen_version text at s
ended_with text at s k led =
    ap (option_and_then version_at_end) (run_whole version_step version_start (reading_of text at s) text text at k refl led) ∙ end_same text at s
