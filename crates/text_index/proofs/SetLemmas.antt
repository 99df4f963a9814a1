-- Texts among the keys of a set.
use Rattle.std.proofs.Common.{◌≡◌, ℕ, List, [], ◌∷◌, ap, sym, ◌∙◌, refl, Bool, true, false, not, ◌||◌}
use Rattle.std.specs.Prelude.{map}
use Rattle.std.specs.BTreeMap.{is_at}
use Rattle.std.specs.BTreeSet.{insert_key}
use Rattle.std.specs.Cmp.{nat_eq_equiv}
use Rattle.std.specs.Cmp.Lexicographic.{slice_cmp, nat_list_eq_equiv}
use Rattle.std.specs.List.{list_any}
use Rattle.std.specs.Ordering.{is_eq, match_ordering, nat_cmp}
use Rattle.std.specs.Str.{bytes_eq}
use Rattle.std.specs.declared.cmp.Ordering.{Ordering}
use Rattle.std.specs.declared.cmp.Ordering.TheVariants.{Less, Equal, Greater}
use Rattle.std.proofs.lemmas.Map.Text.{is_eq-slice_cmp}
use Rattle.text_index.specs.Texts.{has_text}

turned : (a b : List ℕ) → bytes_eq a b ≡ bytes_eq b a
turned a b = nat_list_eq_equiv.symm a b

twice : (a b : Bool) → (a || b) ≡ (a || (a || b))
twice true b = refl
twice false b = refl

swapped : (a b c : Bool) → (b || (a || c)) ≡ (a || (b || c))
swapped true true c = refl
swapped true false c = refl
swapped false true c = refl
swapped false false c = refl

module _ {K : Type 0} (text : K → List ℕ) where
  -- the keys in whose order a text stands are those with its bytes
  pub found : (q : List ℕ) (ks : List K) → list_any (is_at (λ k. slice_cmp nat_cmp q (text k))) ks ≡ has_text (map text ks) q
  found q [] = refl
  found q (k ∷ ks) = ap (λ b. b || list_any (is_at (λ k. slice_cmp nat_cmp q (text k))) ks) (is_eq-slice_cmp q (text k) ∙ turned q (text k)) ∙ ap (λ b. bytes_eq (text k) q || b) (found q ks)

  same_text : (a b : K) (q : List ℕ) → slice_cmp nat_cmp (text a) (text b) ≡ Equal → bytes_eq (text a) q ≡ bytes_eq (text b) q
  same_text a b q e = nat_list_eq_equiv.congr (text a) (text b) q (sym (is_eq-slice_cmp (text a) (text b)) ∙ ap is_eq e)

  -- a key more is found, and the others as before
  pub inserted : (q : List ℕ) (ks : List K) (k : K) → has_text (map text (insert_key (λ a b. slice_cmp nat_cmp (text a) (text b)) ks k)) q ≡ (bytes_eq (text k) q || has_text (map text ks) q)
  inserted q [] k = refl
  inserted q (x ∷ ks) k = cases (slice_cmp nat_cmp (text k) (text x)) (inserted q ks k) refl where
    cases : (o : Ordering) → has_text (map text (insert_key (λ a b. slice_cmp nat_cmp (text a) (text b)) ks k)) q ≡ (bytes_eq (text k) q || has_text (map text ks) q) → slice_cmp nat_cmp (text k) (text x) ≡ o
        → has_text (map text (match_ordering o (k ∷ x ∷ ks) (x ∷ ks) (x ∷ insert_key (λ a b. slice_cmp nat_cmp (text a) (text b)) ks k))) q ≡ (bytes_eq (text k) q || (bytes_eq (text x) q || has_text (map text ks) q))
    cases Less rest is = refl
    cases Equal rest is = ap (λ b. b || has_text (map text ks) q) (sym (same_text k x q is)) ∙ twice (bytes_eq (text k) q) (has_text (map text ks) q) ∙ ap (λ b. bytes_eq (text k) q || (b || has_text (map text ks) q)) (same_text k x q is)
    cases Greater rest is = ap (λ b. bytes_eq (text x) q || b) rest ∙ swapped (bytes_eq (text k) q) (bytes_eq (text x) q) (has_text (map text ks) q)
