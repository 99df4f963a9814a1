-- A list of texts that is taken in text by text.
use Rattle.std.proofs.Common.{◌≡◌, ℕ, List, [], ◌∷◌, ◌++◌, ap, sym, ◌∙◌, refl, Bool, true, false, cond, not, ◌||◌, append-nil, Bor, ◌<◌, ◌+◌, suc, length, get_or, take, drop, Some, Option, add-one, drop-cons}
use Rattle.std.specs.Prelude.{map}
use Rattle.std.specs.List.{filter}
use Rattle.std.specs.Str.{bytes_eq}
use Rattle.std.proofs.lemmas.Slice.Eq.{bytes_eq-Decides}
use Rattle.std.proofs.lemmas.List.Elements.{filter-append}
use Rattle.std.proofs.lemmas.List.Folds.{list_any-append}
use Rattle.std.proofs.lemmas.Map.Views.{any-filter_same}
use Rattle.std.proofs.lemmas.List.{map-append, take_more}
use Rattle.component_dto.specs.TextLists.{has_text, each_once, repeated_behind}

pub same_text : (a b : List ℕ) → bytes_eq a b ≡ true → a ≡ b
same_text a b e = (bytes_eq-Decides a b).0 e

pub text_itself : (a : List ℕ) → bytes_eq a a ≡ true
text_itself a = (bytes_eq-Decides a a).1 refl

-- what differs from x is found where it was, and x is not found
filter_keeps : (x t : List ℕ) → bytes_eq t x ≡ false → (ys : List (List ℕ)) → has_text (filter (λ y. not (bytes_eq y x)) ys) t ≡ has_text ys t
filter_keeps x t other ys = any-filter_same (λ y. bytes_eq y t) (λ y. not (bytes_eq y x)) true (λ y is. ap (λ w. not (bytes_eq w x)) (same_text y t is) ∙ ap not other) ys

differs : (x t : List ℕ) → bytes_eq x t ≡ false → bytes_eq t x ≡ false
differs x t other = cases (bytes_eq t x) refl where
  cases : (b : Bool) → b ≡ bytes_eq t x → b ≡ false
  cases false is = refl
  cases true is = let same : bytes_eq x t ≡ true = ap (λ w. bytes_eq x w) (same_text t x (sym is)) ∙ text_itself x in cc

-- without what equals x, a text that equals x adds nothing
drops : (x t : List ℕ) → bytes_eq t x ≡ true → (e : List (List ℕ)) (h : Bool) → filter (λ y. not (bytes_eq y x)) (cond h e (e ++ t ∷ [])) ≡ filter (λ y. not (bytes_eq y x)) e
drops x t same e true = refl
drops x t same e false = filter-append (λ y. not (bytes_eq y x)) e (t ∷ []) ∙ rw same (append-nil (filter (λ y. not (bytes_eq y x)) e))

-- and another text stays
stays : (x t : List ℕ) → bytes_eq t x ≡ false → (e : List (List ℕ)) (h : Bool)
    → x ∷ filter (λ y. not (bytes_eq y x)) (cond h e (e ++ t ∷ [])) ≡ cond h (x ∷ filter (λ y. not (bytes_eq y x)) e) (x ∷ (filter (λ y. not (bytes_eq y x)) e ++ t ∷ []))
stays x t other e true = refl
stays x t other e false = ap (λ w. x ∷ w) (filter-append (λ y. not (bytes_eq y x)) e (t ∷ []) ∙ rw other refl)

-- one text more
pub each_once-more : (texts : List (List ℕ)) (t : List ℕ) → each_once (texts ++ t ∷ []) ≡ cond (has_text (each_once texts) t) (each_once texts) (each_once texts ++ t ∷ [])
each_once-more [] t = refl
each_once-more (x ∷ xs) t =
    let more : List (List ℕ) → List (List ℕ) = λ w. x ∷ filter (λ y. not (bytes_eq y x)) w in
    ap more (each_once-more xs t) ∙ cases (bytes_eq x t) refl where
      cases : (b : Bool) → b ≡ bytes_eq x t
          → x ∷ filter (λ y. not (bytes_eq y x)) (cond (has_text (each_once xs) t) (each_once xs) (each_once xs ++ t ∷ []))
          ≡ cond (bytes_eq x t || has_text (filter (λ y. not (bytes_eq y x)) (each_once xs)) t) (x ∷ filter (λ y. not (bytes_eq y x)) (each_once xs)) (x ∷ (filter (λ y. not (bytes_eq y x)) (each_once xs) ++ t ∷ []))
      cases true is = rw (← is) (ap (λ w. x ∷ w) (drops x t (ap (λ w. bytes_eq t w) (same_text x t (sym is)) ∙ text_itself t) (each_once xs) (has_text (each_once xs) t)))
      cases false is = rw (← is, filter_keeps x t (differs x t (sym is)) (each_once xs)) (stays x t (differs x t (sym is)) (each_once xs) (has_text (each_once xs) t))

grown : (texts : List (Bor (List ℕ))) (at : ℕ) (d : Bor (List ℕ)) → at < length texts → map (λ x. x.now) (take at texts) ++ (get_or texts at d).now ∷ [] ≡ map (λ x. x.now) (take (at + 1) texts)
grown texts at d within = sym (ap (map (λ x. x.now)) (take_more texts at d within) ∙ map-append (λ (x : Bor (List ℕ)). x.now) (take at texts) (get_or texts at d ∷ []))

-- one more text of a list that is looked through for one that was there before
pub repeated_step : (texts : List (Bor (List ℕ))) (at : ℕ) (d : Bor (List ℕ)) → at < length texts
    → repeated_behind (map (λ x. x.now) (take at texts)) (map (λ x. x.now) (drop at texts))
    ≡ cond (has_text (map (λ x. x.now) (take at texts)) (get_or texts at d).now) (Some (get_or texts at d).now)
    (repeated_behind (map (λ x. x.now) (take (at + 1) texts)) (map (λ x. x.now) (drop (at + 1) texts)))
repeated_step texts at d within =
    let found : Option (List ℕ) = Some (get_or texts at d).now in
    let has : Bool = has_text (map (λ x. x.now) (take at texts)) (get_or texts at d).now in
    ap (λ (w : List (Bor (List ℕ))). repeated_behind (map (λ x. x.now) (take at texts)) (map (λ x. x.now) w)) (drop-cons texts at d within)
    ∙ ap (λ w. cond has found (repeated_behind w (map (λ x. x.now) (drop (suc at) texts)))) (grown texts at d within)
    ∙ ap (λ k. cond has found (repeated_behind (map (λ x. x.now) (take (at + 1) texts)) (map (λ x. x.now) (drop k texts)))) (sym (add-one at))

-- a list with a text more, and whether a text is in it
pub has_more : (texts : List (List ℕ)) (t q : List ℕ) → (bytes_eq t q || has_text texts q) ≡ has_text (texts ++ t ∷ []) q
has_more texts t q = sym (list_any-append (λ x. bytes_eq x q) texts (t ∷ []) ∙ turned (has_text texts q) (bytes_eq t q)) where
  turned : (a b : Bool) → (a || (b || false)) ≡ (b || a)
  turned true true = refl
  turned true false = refl
  turned false true = refl
  turned false false = refl

-- a text that is there already adds nothing
pub has_same : (texts : List (List ℕ)) (t q : List ℕ) → has_text texts t ≡ true → (bytes_eq t q || has_text texts q) ≡ has_text texts q
has_same texts t q there = cases (bytes_eq t q) refl where
  cases : (b : Bool) → bytes_eq t q ≡ b → (b || has_text texts q) ≡ has_text texts q
  cases true is = sym there ∙ ap (has_text texts) (same_text t q is)
  cases false is = refl

pub grown_has : (texts : List (Bor (List ℕ))) (at : ℕ) (d : Bor (List ℕ)) → at < length texts → (q : List ℕ)
    → (bytes_eq (get_or texts at d).now q || has_text (map (λ x. x.now) (take at texts)) q) ≡ has_text (map (λ x. x.now) (take (at + 1) texts)) q
grown_has texts at d within q = has_more (map (λ x. x.now) (take at texts)) (get_or texts at d).now q ∙ ap (λ ts. has_text ts q) (grown texts at d within)

-- what is known of the texts so far, by a set of them
abbrev pub Knows : List (List ℕ) → List (List ℕ) → Type 0
Knows seen texts = (q : List ℕ) → has_text seen q ≡ has_text texts q

-- the set with one text more
abbrev pub WithText : List (List ℕ) → List ℕ → List (List ℕ) → Type 0
WithText seen k now = (q : List ℕ) → has_text now q ≡ (bytes_eq k q || has_text seen q)

known_as : (seen texts : List (List ℕ)) (k t : List ℕ) (b : Bool) → Knows seen texts → k ≡ t → b ≡ not (has_text seen k) → has_text texts t ≡ not b
known_as seen texts k t b known same answer = sym (known t) ∙ ap (has_text seen) (sym same) ∙ sym (ap not answer ∙ back (has_text seen k)) where
  back : (h : Bool) → not (not h) ≡ h
  back true = refl
  back false = refl

-- a new text is taken in, and a known one isn't
pub once_new : (seen texts : List (List ℕ)) (k t : List ℕ) (b : Bool) → Knows seen (each_once texts) → k ≡ t → b ≡ not (has_text seen k) → b ≡ true
    → each_once texts ++ t ∷ [] ≡ each_once (texts ++ t ∷ [])
once_new seen texts k t b known same answer is =
    sym (each_once-more texts t ∙ ap (λ h. cond h (each_once texts) (each_once texts ++ t ∷ [])) (known_as seen (each_once texts) k t b known same answer ∙ ap not is))

pub once_old : (seen texts : List (List ℕ)) (k t : List ℕ) (b : Bool) → Knows seen (each_once texts) → k ≡ t → b ≡ not (has_text seen k) → b ≡ false
    → each_once texts ≡ each_once (texts ++ t ∷ [])
once_old seen texts k t b known same answer is =
    sym (each_once-more texts t ∙ ap (λ h. cond h (each_once texts) (each_once texts ++ t ∷ [])) (known_as seen (each_once texts) k t b known same answer ∙ ap not is))

-- then the set knows the texts with that one
pub once_known : (seen now texts : List (List ℕ)) (k t : List ℕ) → Knows seen (each_once texts) → k ≡ t → WithText seen k now → Knows now (each_once (texts ++ t ∷ []))
once_known seen now texts k t known same added = λ q.
    added q ∙ ap (λ w. bytes_eq w q || has_text seen q) same ∙ ap (λ h. bytes_eq t q || h) (known q) ∙ cases q (has_text (each_once texts) t) refl ∙ ap (λ ts. has_text ts q) (sym (each_once-more texts t)) where
      cases : (q : List ℕ) (h : Bool) → has_text (each_once texts) t ≡ h
          → (bytes_eq t q || has_text (each_once texts) q) ≡ has_text (cond (has_text (each_once texts) t) (each_once texts) (each_once texts ++ t ∷ [])) q
      cases q true is = has_same (each_once texts) t q is ∙ ap (λ h. has_text (cond h (each_once texts) (each_once texts ++ t ∷ [])) q) (sym is)
      cases q false is = has_more (each_once texts) t q ∙ ap (λ h. has_text (cond h (each_once texts) (each_once texts ++ t ∷ [])) q) (sym is)

-- one more text of a list that is looked through for one that was there before, by a set of those before it
pub looked_step : (texts : List (Bor (List ℕ))) (at : ℕ) (d : Bor (List ℕ)) (seen : List (List ℕ)) (k : List ℕ) (b : Bool) → at < length texts
    → Knows seen (map (λ x. x.now) (take at texts)) → k ≡ (get_or texts at d).now → b ≡ not (has_text seen k)
    → repeated_behind (map (λ x. x.now) (take at texts)) (map (λ x. x.now) (drop at texts))
    ≡ cond b (repeated_behind (map (λ x. x.now) (take (at + 1) texts)) (map (λ x. x.now) (drop (at + 1) texts))) (Some (get_or texts at d).now)
looked_step texts at d seen k b within known same answer =
    repeated_step texts at d within
    ∙ ap (λ h. cond h (Some (get_or texts at d).now) (repeated_behind (map (λ x. x.now) (take (at + 1) texts)) (map (λ x. x.now) (drop (at + 1) texts)))) (known_as seen (map (λ x. x.now) (take at texts)) k (get_or texts at d).now b known same answer)
    ∙ turned b where
      turned : (b : Bool) → cond (not b) (Some (get_or texts at d).now) (repeated_behind (map (λ x. x.now) (take (at + 1) texts)) (map (λ x. x.now) (drop (at + 1) texts)))
          ≡ cond b (repeated_behind (map (λ x. x.now) (take (at + 1) texts)) (map (λ x. x.now) (drop (at + 1) texts))) (Some (get_or texts at d).now)
      turned true = refl
      turned false = refl

pub looked_known : (texts : List (Bor (List ℕ))) (at : ℕ) (d : Bor (List ℕ)) (seen now : List (List ℕ)) (k : List ℕ) → at < length texts
    → Knows seen (map (λ x. x.now) (take at texts)) → k ≡ (get_or texts at d).now → WithText seen k now → Knows now (map (λ x. x.now) (take (at + 1) texts))
looked_known texts at d seen now k within known same added = λ q.
    added q ∙ ap (λ w. bytes_eq w q || has_text seen q) same ∙ ap (λ h. bytes_eq (get_or texts at d).now q || h) (known q) ∙ grown_has texts at d within q
