-- That the levels by the places are those by the descriptions.
use Rattle.std.proofs.Common.{◌≡◌, ◌<◌, ℕ, ◌+◌, List, [], ◌∷◌, ◌++◌, length, get_or, drop, ap, sym, ◌∙◌, refl, true, false, cond, add-one, drop-cons, arith, length-append, append_assoc}
use Rattle.std.specs.Prelude.{max, map}
use Rattle.component_dto.specs.declared.description.Description.{Description}
use Rattle.level_order.specs.Levels.{consumes, level_from}
use Rattle.level_order.specs.Uses.{uses_from, uses_of, all_uses, level_above, levels_above}

at_end : (pre ls : List ℕ) (l : ℕ) → get_or (pre ++ l ∷ ls) (length pre) 0 ≡ l
at_end [] ls l = refl
at_end (p ∷ pre) ls l = at_end pre ls l

-- the levels of a first part of the list stand before those of the rest
level_above_uses : (d : Description) (es : List Description) (pre ls : List ℕ) → length es ≡ length ls → level_above (uses_from (length pre) d es) (pre ++ ls) ≡ level_from d es ls
level_above_uses d [] pre ls same = refl
level_above_uses d (e ∷ es) pre [] same = absurd (omega (arith, same))
level_above_uses d (e ∷ es) pre (l ∷ ls) same =
    let more : length (pre ++ l ∷ []) ≡ length pre + 1 = length-append pre (l ∷ []) in
    let ih : level_above (uses_from (length (pre ++ l ∷ [])) d es) ((pre ++ l ∷ []) ++ ls) ≡ level_from d es ls = level_above_uses d es (pre ++ l ∷ []) ls (omega (arith, same)) in
    let rest : level_above (uses_from (length pre + 1) d es) (pre ++ l ∷ ls) ≡ level_from d es ls = rw (more, append_assoc pre (l ∷ []) ls) at ih in
    elim (consumes d e) as (λ b. level_above (cond b (length pre ∷ uses_from (length pre + 1) d es) (uses_from (length pre + 1) d es)) (pre ++ l ∷ ls) ≡ cond b (max (l + 1) (level_from d es ls)) (level_from d es ls)) [
      | true ↦ ap (λ w. max (w + 1) (level_above (uses_from (length pre + 1) d es) (pre ++ l ∷ ls))) (at_end pre ls l) ∙ ap (λ w. max (l + 1) w) rest
      | false ↦ rest
    ]

-- the levels above these are those by these
pub levels_above_uses : (ds es : List Description) (ls : List ℕ) → length ds ≡ length ls
    → levels_above (map (λ d. uses_of d ds) es) ls ≡ map (λ d. level_from d ds ls) es
levels_above_uses ds [] ls same = refl
levels_above_uses ds (e ∷ es) ls same = ap (λ l. l ∷ levels_above (map (λ d. uses_of d ds) es) ls) (level_above_uses e ds [] ls same) ∙ ap (λ w. level_from e ds ls ∷ w) (levels_above_uses ds es ls same)

-- one more description is looked at
pub uses_from-more : (d e : Description) (all : List Description) (at : ℕ) (i : ℕ) → i < length all → e ≡ get_or all i e
    → uses_from at d (drop i all) ≡ cond (consumes d e) (at ∷ uses_from (at + 1) d (drop (i + 1) all)) (uses_from (at + 1) d (drop (i + 1) all))
uses_from-more d e all at i within is = ap (λ w. uses_from at d w) (drop-cons all i e within) ∙ rw (← is, add-one i) refl

-- a round by the places is one by the descriptions
pub round_levels : (ds : List Description) (uses : List (List ℕ)) (levels next : List ℕ) → uses ≡ all_uses ds → length levels ≡ length ds → next ≡ levels_above uses levels → next ≡ map (λ d. level_from d ds levels) ds
round_levels ds uses levels next are same is = is ∙ ap (λ w. levels_above w levels) are ∙ levels_above_uses ds ds levels (sym same)
