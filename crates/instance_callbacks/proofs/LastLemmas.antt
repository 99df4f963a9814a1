-- The callbacks, as those before the last one and the last one.
use Rattle.std.proofs.Common.{◌≡◌, ℕ, List, [], ◌∷◌, ◌++◌, Bool, true, false, refl, ap, ◌∙◌, sym}
use Rattle.std.specs.Prelude.{Option, Some, None, is_none, ◌&&◌}
use Rattle.std.specs.Cmp.Lexicographic.{pointwise}
use Rattle.std.specs.Option.{option_eq, option_map, option_map_or, option_to_list}
use Rattle.std.proofs.Math.Bool.{and-false, and-true, and_assoc}
use Rattle.callback_orders.specs.declared.callback.Callback.{Callback}
use Rattle.callback_orders.specs.declared.callback.Outcome.{Outcome}
use Rattle.callback_orders.specs.declared.word.Called.{Called}
use Rattle.callback_orders.specs.Lives.{held_after, held_by, held_for}
use Rattle.callback_orders.specs.Sequences.{begun, done_with, ended, is_outstanding}

-- whether the last one is outstanding, and what its end makes of the callbacks
is_outstanding-append : (earlier : List Called) (c : Called) → is_outstanding (earlier ++ c ∷ []) ≡ is_none c.outcome
is_outstanding-append [] c = refl
is_outstanding-append (d ∷ []) c = refl
is_outstanding-append (d ∷ e ∷ earlier) c = is_outstanding-append (e ∷ earlier) c

pub is_outstanding-last : (earlier : List Called) (last : Option Called) → (last ≡ None → earlier ≡ [])
    → is_outstanding (earlier ++ option_to_list last) ≡ option_map_or (λ (c : Called). is_none c.outcome) last false
is_outstanding-last earlier None first = ap (λ calls. is_outstanding (calls ++ [])) (first refl)
is_outstanding-last earlier (Some c) first = is_outstanding-append earlier c

pub ended-append : (o : Outcome) (earlier : List Called) (c : Called) → ended o (earlier ++ c ∷ []) ≡ earlier ++ done_with c.callback o ∷ []
ended-append o [] c = refl
ended-append o (d ∷ []) c = refl
ended-append o (d ∷ e ∷ earlier) c = ap (λ (calls : List Called). d ∷ calls) (ended-append o (e ∷ earlier) c)

pub ended-last : (o : Outcome) (earlier : List Called) (last : Option Called) → (last ≡ None → earlier ≡ [])
    → earlier ++ option_to_list (option_map (λ (c : Called). done_with c.callback o) last) ≡ ended o (earlier ++ option_to_list last)
ended-last o earlier None first = ap (λ calls. calls ++ []) (first refl) ∙ sym (ap (λ calls. ended o (calls ++ [])) (first refl))
ended-last o earlier (Some c) first = sym (ended-append o earlier c)

pub is_outstanding-ended : (o : Outcome) (calls : List Called) → is_outstanding (ended o calls) ≡ false
is_outstanding-ended o [] = refl
is_outstanding-ended o (c ∷ []) = refl
is_outstanding-ended o (c ∷ d ∷ []) = refl
is_outstanding-ended o (c ∷ d ∷ e ∷ calls) = is_outstanding-ended o (d ∷ e ∷ calls)

-- what is held by one callback more
held_after-append : (name held : List ℕ) (calls : List Called) (c : Called) → held_after name held (calls ++ c ∷ []) ≡ held_by name c.callback c.outcome (held_after name held calls)
held_after-append name held [] c = refl
held_after-append name held (d ∷ calls) c = held_after-append name (held_by name d.callback d.outcome held) calls c

pub held_for-begun : (name : List ℕ) (calls : List Called) (b : Callback) → held_for name (calls ++ begun b ∷ []) ≡ held_by name b None (held_for name calls)
held_for-begun name calls b = held_after-append name [] calls (begun b)

pub held_for-ended : (name : List ℕ) (o : Outcome) (calls : List Called) (b : Callback) → held_for name (ended o (calls ++ begun b ∷ [])) ≡ held_by name b (Some o) (held_for name calls)
held_for-ended name o calls b = ap (held_for name) (ended-append o calls (begun b)) ∙ held_after-append name [] calls (done_with b o)

-- two lists of callbacks are equal where those before the last ones are, and the last ones
module _ {X : Type 0} (same : X → X → Bool) where
  one_more : (xs ys : List X) (x y : X) → pointwise same (xs ++ x ∷ []) (ys ++ y ∷ []) ≡ (pointwise same xs ys && same x y)
  one_more [] [] x y = and-true (same x y)
  one_more [] (b ∷ []) x y = and-false (same x b)
  one_more [] (b ∷ d ∷ ys) x y = and-false (same x b)
  one_more (a ∷ []) [] x y = and-false (same a y)
  one_more (a ∷ d ∷ xs) [] x y = and-false (same a y)
  one_more (a ∷ xs) (b ∷ ys) x y = ap (λ c. same a b && c) (one_more xs ys x y) ∙ sym (and_assoc (same a b) (pointwise same xs ys) (same x y))

  none_here : (ys : List X) (y : X) → pointwise same [] (ys ++ y ∷ []) ≡ false
  none_here [] y = refl
  none_here (b ∷ ys) y = refl

  none_there : (xs : List X) (x : X) → pointwise same (xs ++ x ∷ []) [] ≡ false
  none_there [] x = refl
  none_there (a ∷ xs) x = refl

  pub pointwise-last : (xs ys : List X) (x y : Option X) → (x ≡ None → xs ≡ []) → (y ≡ None → ys ≡ [])
      → (pointwise same xs ys && option_eq same x y) ≡ pointwise same (xs ++ option_to_list x) (ys ++ option_to_list y)
  pointwise-last xs ys None None f g =
      ap (λ l. pointwise same l ys && true) (f refl) ∙ ap (λ l. pointwise same [] l && true) (g refl)
      ∙ sym (ap (λ l. pointwise same (l ++ []) (ys ++ [])) (f refl) ∙ ap (λ l. pointwise same [] (l ++ [])) (g refl))
  pointwise-last xs ys None (Some y) f g =
      and-false (pointwise same xs ys) ∙ sym (ap (λ l. pointwise same (l ++ []) (ys ++ y ∷ [])) (f refl) ∙ none_here ys y)
  pointwise-last xs ys (Some x) None f g =
      and-false (pointwise same xs ys) ∙ sym (ap (λ l. pointwise same (xs ++ x ∷ []) (l ++ [])) (g refl) ∙ none_there xs x)
  pointwise-last xs ys (Some x) (Some y) f g = sym (one_more xs ys x y)
