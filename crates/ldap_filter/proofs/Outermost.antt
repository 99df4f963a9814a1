-- A filter with none open round it.
use Rattle.std.proofs.Common.{◌≡◌, refl, sym, ap, ◌∙◌, ℕ, suc, eqb, List, [], ◌∷◌, Bool, true, false, cond, Some, None, length, map, arith}
use mathlib.Core.List.{reverse_aux}
use Rattle.std.proofs.lemmas.Bool.{eqb-true}
use Rattle.ldap_filter.specs.declared.mode.Frame.{Frame as Open}
use Rattle.ldap_filter.specs.Trees.{Tree}
use Rattle.ldap_filter.specs.Machine.{Frame, whole}
use Rattle.ldap_filter.specs.Reading.{frame_of, stack_of}

none_outside : (xs : List Frame) (f : Frame) (behind : List Frame) (tree : Tree) → whole (reverse_aux xs (f ∷ behind)) tree ≡ None
none_outside [] f behind tree = refl
none_outside (x ∷ xs) f behind tree = none_outside xs x (f ∷ behind) tree

some_stand : (n : ℕ) → eqb (suc n) 0 ≡ false
some_stand n = by_test (eqb (suc n) 0) refl where
  by_test : (v : Bool) → eqb (suc n) 0 ≡ v → v ≡ false
  by_test true e = absurd (let h : suc n ≡ 0 = eqb-true (suc n) 0 e in omega arith)
  by_test false e = refl

pub outermost_is : (frames : List Open) (tree : Tree) → whole (stack_of frames) tree ≡ cond (eqb (length frames) 0) (Some tree) None
outermost_is [] tree = refl
outermost_is (f ∷ frames) tree = none_outside (map frame_of frames) (frame_of f) [] tree ∙ sym (ap (λ v. cond v (Some tree) None) (some_stand (length frames)))
