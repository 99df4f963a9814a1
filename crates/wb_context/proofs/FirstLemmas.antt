-- The first item of each text, of a list that is taken in item by item.
use Rattle.std.proofs.Common.{◌≡◌, ℕ, List, [], ◌∷◌, ◌++◌, ap, sym, ◌∙◌, refl, Bool, true, false, cond, not, ◌||◌, append-nil}
use Rattle.std.specs.Prelude.{map}
use Rattle.std.specs.List.{list_any}
use Rattle.std.specs.Str.{bytes_eq}
use Rattle.std.proofs.lemmas.Slice.Eq.{bytes_eq-Decides}
use Rattle.std.proofs.lemmas.List.Folds.{list_any-append}
use Rattle.std.proofs.lemmas.List.{map-append}
use Rattle.text_index.specs.Texts.{has_text}
use Rattle.wb_context.specs.Firsts.{first_of_each, firsts_behind}

same_text : (a b : List ℕ) → bytes_eq a b ≡ true → a ≡ b
same_text a b e = (bytes_eq-Decides a b).0 e

module _ {X : Type 0} (text_of : X → List ℕ) where
  abbrev one_if_new : Bool → X → List X
  one_if_new known x = cond known [] (x ∷ [])

  -- one item more
  more : (before : List (List ℕ)) (xs : List X) (t : X)
      → firsts_behind text_of before (xs ++ t ∷ []) ≡ firsts_behind text_of before xs ++ one_if_new (has_text before (text_of t) || has_text (map text_of xs) (text_of t)) t
  more before [] t = by (has_text before (text_of t)) where
    by : (b : Bool) → cond b [] (t ∷ []) ≡ one_if_new (b || false) t
    by true = refl
    by false = refl
  more before (x ∷ xs) t = by (has_text before (text_of x)) refl (λ b. more b xs t) where
    at : (b : Bool) → has_text before (text_of x) ≡ b → (ys : List X) → firsts_behind text_of before (x ∷ ys) ≡ cond b (firsts_behind text_of before ys) (x ∷ firsts_behind text_of (text_of x ∷ before) ys)
    at b e ys = ap (λ c. cond c (firsts_behind text_of before ys) (x ∷ firsts_behind text_of (text_of x ∷ before) ys)) e

    known : (b : Bool) → has_text before (text_of x) ≡ true → bytes_eq (text_of x) (text_of t) ≡ b → (has_text before (text_of t) || has_text (map text_of xs) (text_of t)) ≡ (has_text before (text_of t) || (bytes_eq (text_of x) (text_of t) || has_text (map text_of xs) (text_of t)))
    known true e f = let g : has_text before (text_of t) ≡ true = ap (has_text before) (sym (same_text (text_of x) (text_of t) f)) ∙ e in
        ap (λ b. b || has_text (map text_of xs) (text_of t)) g ∙ sym (ap (λ b. b || (bytes_eq (text_of x) (text_of t) || has_text (map text_of xs) (text_of t))) g)
    known false e f = ap (λ b. has_text before (text_of t) || (b || has_text (map text_of xs) (text_of t))) (sym f)

    turned : (a b c : Bool) → ((a || b) || c) ≡ (b || (a || c))
    turned true true c = refl
    turned true false c = refl
    turned false true c = refl
    turned false false c = refl

    by : (b : Bool) → has_text before (text_of x) ≡ b
        → ((known_texts : List (List ℕ)) → firsts_behind text_of known_texts (xs ++ t ∷ []) ≡ firsts_behind text_of known_texts xs ++ one_if_new (has_text known_texts (text_of t) || has_text (map text_of xs) (text_of t)) t)
        → firsts_behind text_of before ((x ∷ xs) ++ t ∷ []) ≡ firsts_behind text_of before (x ∷ xs) ++ one_if_new (has_text before (text_of t) || (bytes_eq (text_of x) (text_of t) || has_text (map text_of xs) (text_of t))) t
    by true e further =
        at true e (xs ++ t ∷ []) ∙ further before ∙ ap (λ b. firsts_behind text_of before xs ++ one_if_new b t) (known (bytes_eq (text_of x) (text_of t)) e refl)
        ∙ ap (λ l. l ++ one_if_new (has_text before (text_of t) || (bytes_eq (text_of x) (text_of t) || has_text (map text_of xs) (text_of t))) t) (sym (at true e xs))
    by false e further =
        at false e (xs ++ t ∷ []) ∙ ap (λ l. x ∷ l) (further (text_of x ∷ before) ∙ ap (λ b. firsts_behind text_of (text_of x ∷ before) xs ++ one_if_new b t) (turned (bytes_eq (text_of x) (text_of t)) (has_text before (text_of t)) (has_text (map text_of xs) (text_of t))))
        ∙ ap (λ l. l ++ one_if_new (has_text before (text_of t) || (bytes_eq (text_of x) (text_of t) || has_text (map text_of xs) (text_of t))) t) (sym (at false e xs))

  -- what a set of texts knows of the items so far
  abbrev pub Knows : List (List ℕ) → List X → Type 0
  Knows seen xs = (q : List ℕ) → has_text seen q ≡ has_text (map text_of xs) q

  known_as : (seen : List (List ℕ)) (xs : List X) (t : X) (k : List ℕ) (b : Bool) → Knows seen xs → k ≡ text_of t → b ≡ not (has_text seen k) → has_text (map text_of xs) (text_of t) ≡ not b
  known_as seen xs t k b knows same answer = sym (knows (text_of t)) ∙ ap (has_text seen) (sym same) ∙ sym (ap not answer ∙ back (has_text seen k)) where
    back : (h : Bool) → not (not h) ≡ h
    back true = refl
    back false = refl

  -- an item with a new text is taken in, and another isn't
  pub taken : (seen : List (List ℕ)) (xs : List X) (t : X) (k : List ℕ) (b : Bool) → Knows seen xs → k ≡ text_of t → b ≡ not (has_text seen k) → b ≡ true
      → first_of_each text_of xs ++ t ∷ [] ≡ first_of_each text_of (xs ++ t ∷ [])
  taken seen xs t k b knows same answer is =
      sym (more [] xs t ∙ ap (λ c. first_of_each text_of xs ++ one_if_new c t) (known_as seen xs t k b knows same answer ∙ ap not is))

  pub left_out : (seen : List (List ℕ)) (xs : List X) (t : X) (k : List ℕ) (b : Bool) → Knows seen xs → k ≡ text_of t → b ≡ not (has_text seen k) → b ≡ false
      → first_of_each text_of xs ≡ first_of_each text_of (xs ++ t ∷ [])
  left_out seen xs t k b knows same answer is =
      sym (more [] xs t ∙ ap (λ c. first_of_each text_of xs ++ one_if_new c t) (known_as seen xs t k b knows same answer ∙ ap not is) ∙ append-nil (first_of_each text_of xs))

  -- and the set knows it
  pub knows_more : (seen now : List (List ℕ)) (xs : List X) (t : X) (k : List ℕ) → Knows seen xs → k ≡ text_of t
      → ((q : List ℕ) → has_text now q ≡ (bytes_eq k q || has_text seen q)) → Knows now (xs ++ t ∷ [])
  knows_more seen now xs t k knows same added = λ q.
      added q ∙ ap (λ w. bytes_eq w q || has_text seen q) same ∙ ap (λ h. bytes_eq (text_of t) q || h) (knows q)
      ∙ turned (bytes_eq (text_of t) q) (has_text (map text_of xs) q)
      ∙ sym (ap (λ ts. has_text ts q) (map-append text_of xs (t ∷ [])) ∙ list_any-append (λ x. bytes_eq x q) (map text_of xs) (text_of t ∷ [])) where
        turned : (a b : Bool) → (a || b) ≡ (b || (a || false))
        turned true true = refl
        turned true false = refl
        turned false true = refl
        turned false false = refl
