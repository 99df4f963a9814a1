-- One more line, unfolded.
use Rattle.std.proofs.Common.{◌≡◌, ℕ, List, [], ◌∷◌, ◌++◌, Bool, true, false, cond, refl, sym, ap, ◌∙◌, if◌then◌else◌, ◌+◌, ◌<◌, length, get_or, take, drop, arith}
use Rattle.std.proofs.lemmas.List.{get_or-drop, get_or_default, length-drop, take_more}
use Rattle.bundle_headers.specs.Folding.{alone, longer, onto, unfold_lines}
use Rattle.bundle_headers.specs.declared.folding.Folded.{Folded}
use Rattle.bundle_headers.specs.declared.line.Line.{Line}

-- a line behind others
abbrev add : List Folded → Line → List Folded
add [] line = alone line ∷ []
add (f ∷ []) line = if line.continues then longer f line ∷ [] else f ∷ alone line ∷ []
add (f ∷ g ∷ fs) line = f ∷ add (g ∷ fs) line

-- the same with the tests as arguments
abbrev onto_by : Bool → Line → Folded → List Folded → List Folded
onto_by continues x f fs = if continues then record { first = x; more = f.first ∷ f.more } ∷ fs else alone x ∷ f ∷ fs

abbrev add_by : Bool → List Folded → Line → List Folded
add_by continues [] line = alone line ∷ []
add_by continues (f ∷ []) line = if continues then longer f line ∷ [] else f ∷ alone line ∷ []
add_by continues (f ∷ g ∷ fs) line = f ∷ add_by continues (g ∷ fs) line

onto_one : (t u : Bool) (x : Line) (f : Folded) (line : Line)
    → cond t (onto_by u x (longer f line) []) (onto_by u x f (alone line ∷ [])) ≡ add_by t (onto_by u x f []) line
onto_one true true x f line = refl
onto_one true false x f line = refl
onto_one false true x f line = refl
onto_one false false x f line = refl

onto_more : (u : Bool) (x : Line) (f g : Folded) (fs : List Folded) (line : Line) → onto_by u x f (add (g ∷ fs) line) ≡ add (onto_by u x f (g ∷ fs)) line
onto_more true x f g fs line = refl
onto_more false x f g fs line = refl

through : (F : List Folded → List Folded) (t : Bool) (xs ys : List Folded) → F (cond t xs ys) ≡ cond t (F xs) (F ys)
through F true xs ys = refl
through F false xs ys = refl

add_is : (fs : List Folded) (line : Line) → add_by line.continues fs line ≡ add fs line
add_is [] line = refl
add_is (f ∷ []) line = refl
add_is (f ∷ g ∷ fs) line = ap (λ gs. f ∷ gs) (add_is (g ∷ fs) line)

onto_add : (x : Line) (fs : List Folded) (line : Line) → onto x (add fs line) ≡ add (onto x fs) line
onto_add x [] line = refl
onto_add x (f ∷ []) line =
    through (onto x) line.continues (longer f line ∷ []) (f ∷ alone line ∷ [])
    ∙ (onto_one line.continues f.first.continues x f line ∙ add_is (onto_by f.first.continues x f []) line)
onto_add x (f ∷ g ∷ fs) line = onto_more f.first.continues x f g fs line

unfold-push : (lines : List Line) (line : Line) → unfold_lines (lines ++ line ∷ []) ≡ add (unfold_lines lines) line
unfold-push [] line = refl
unfold-push (x ∷ lines) line = ap (onto x) (unfold-push lines line) ∙ onto_add x (unfold_lines lines) line

add_last : (front : List Folded) (last : Folded) (line : Line)
    → add (front ++ last ∷ []) line ≡ cond line.continues (front ++ longer last line ∷ []) ((front ++ last ∷ []) ++ alone line ∷ [])
add_last [] last line = refl
add_last (f ∷ []) last line = through (λ gs. f ∷ gs) line.continues (longer last line ∷ []) (last ∷ alone line ∷ [])
add_last (f ∷ g ∷ front) last line =
    ap (λ gs. f ∷ gs) (add_last (g ∷ front) last line)
    ∙ through (λ gs. f ∷ gs) line.continues ((g ∷ front) ++ longer last line ∷ []) (((g ∷ front) ++ last ∷ []) ++ alone line ∷ [])

-- one more line: it goes on with the last, or begins anew
pub unfold_more : (lines : List Line) (n : ℕ) (line : Line) (front : List Folded) (last : Folded)
    → n < length lines → get_or lines n line ≡ line → unfold_lines (take n lines) ≡ front ++ last ∷ []
    → unfold_lines (take (n + 1) lines) ≡ cond line.continues (front ++ longer last line ∷ []) ((front ++ last ∷ []) ++ alone line ∷ [])
unfold_more lines n line front last h here so_far =
    ap unfold_lines (take_more lines n line h ∙ ap (λ x. take n lines ++ x ∷ []) here)
    ∙ (unfold-push (take n lines) line ∙ (ap (λ fs. add fs line) so_far ∙ add_last front last line))

-- the next line, where the lines behind the first are gone over
pub line_at : (lines rest : List Line) (i : ℕ) (d : Line) → rest ≡ drop 1 lines → i < length rest
    → (i + 1 < length lines) × (get_or lines (i + 1) (get_or rest i d) ≡ get_or rest i d)
line_at lines rest i d same h =
    let longer : i + 1 < length lines = omega (arith, ap length same, length-drop 1 lines) in
    let here : 1 + i ≡ i + 1 = omega arith in
    let read : get_or rest i d ≡ get_or lines (i + 1) d = ap (λ xs. get_or xs i d) same ∙ (get_or-drop 1 lines i d ∙ ap (λ k. get_or lines k d) here) in
    (longer, get_or_default lines (i + 1) (get_or rest i d) d longer ∙ sym read)
