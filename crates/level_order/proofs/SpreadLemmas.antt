-- That one round of a search finds all places that come one step before those of the last round.
use Rattle.std.proofs.Common.{◌≡◌, ◌<◌, ◌≤◌, ℕ, zero, suc, ◌+◌, List, [], ◌∷◌, ◌++◌, length, get_or, take, ap, sym, ◌∙◌, refl, Bool, true, false, cond, ◌||◌, arith, inl, inr, ◌⊎◌, subst, Option, Some, None}
use Rattle.std.proofs.Math.ListN.{set}
use Rattle.std.specs.Prelude.{◌==◌}
use Rattle.std.specs.Cmp.{both_ways}
use Rattle.std.specs.List.{list_any}
use Rattle.std.specs.Option.{is_some}
use Rattle.std.proofs.lemmas.Bool.{cases_lt, eq-eqb, eqb-true, or_cases, false≢true}
use Rattle.std.proofs.lemmas.List.{length-set, get_or-set_same, get_or-set_other, get_or_past}
use Rattle.std.proofs.lemmas.List.Folds.{list_any-append, list_any_more}
use Rattle.level_order.specs.Links.{comes_from}
use Rattle.level_order.specs.Spread.{AreMarked, IsKept, marked}
use Rattle.level_order.specs.Ways.{has, is_at}

pub apart : (m n : ℕ) → (m ≡ n → ⊥) → (m == n) ≡ false
apart m n different = both_ways (m == n) false (λ e. absurd (different (eqb-true m n e))) (λ e. absurd (false≢true e))

pub apart_or_same : (m n : ℕ) → (m ≡ n) ⊎ ((m ≡ n → ⊥))
apart_or_same m n = elim (cases_lt m n) [
  | inl below ↦ inr (λ same. omega (arith, same, below))
  | inr from ↦ elim (cases_lt n m) [
    | inl above ↦ inr (λ same. omega (arith, same, above))
    | inr upto ↦ inl (omega (arith, from, upto))
  ]
]

-- ---- marks

marked_no : (k : ℕ) (s : Option ℕ) → marked k false s ≡ s
marked_no k None = refl
marked_no k (Some m) = refl

marked_twice : (k : ℕ) (a b : Bool) (s : Option ℕ) → marked k b (marked k a s) ≡ marked k (a || b) s
marked_twice k a b (Some m) = refl
marked_twice k true true None = refl
marked_twice k true false None = refl
marked_twice k false b None = refl

marked_known : (k : ℕ) (b : Bool) (s : Option ℕ) → (b ≡ true → is_some s ≡ true) → marked k b s ≡ s
marked_known k b (Some m) known = refl
marked_known k false None known = refl
marked_known k true None known = absurd (false≢true (known refl))

marked_some : (k : ℕ) (s : Option ℕ) → is_some (marked k true s) ≡ true
marked_some k None = refl
marked_some k (Some m) = refl

stays_some : (k : ℕ) (b : Bool) (s : Option ℕ) → is_some s ≡ true → is_some (marked k b s) ≡ true
stays_some k b None known = absurd (false≢true known)
stays_some k b (Some m) known = refl

pub marked_start : (k : ℕ) (among : ℕ → Bool) (steps : List (Option ℕ)) → ((p : ℕ) → among p ≡ false) → AreMarked k among steps steps
marked_start k among steps none = record { same = refl; at = λ p within. sym (ap (λ b. marked k b (get_or steps p None)) (none p) ∙ marked_no k (get_or steps p None)) }

pub marked_more : (k : ℕ) (first second both : ℕ → Bool) (a b c : List (Option ℕ)) → AreMarked k first a b → AreMarked k second b c → ((p : ℕ) → both p ≡ (first p || second p)) → AreMarked k both a c
marked_more k first second both a b c one two is = record {
  same = two.same ∙ one.same;
  at = λ p within. two.at p (omega (arith, within, one.same)) ∙ ap (marked k (second p)) (one.at p within) ∙ marked_twice k (first p) (second p) (get_or a p None) ∙ sym (ap (λ w. marked k w (get_or a p None)) (is p));
}

-- ---- one place

has_append : (found : List ℕ) (place p : ℕ) → has (found ++ place ∷ []) p ≡ (has found p || (place == p))
has_append found place p = list_any-append (λ w. w == p) found (place ∷ []) ∙ ap (λ b. has found p || b) (or_false (place == p)) where
  or_false : (b : Bool) → (b || false) ≡ b
  or_false true = refl
  or_false false = refl

itself_at : (k : ℕ) → is_at (Some k) k ≡ true
itself_at k = eq-eqb k k refl

or_true : (b : Bool) → (b || true) ≡ true
or_true true = refl
or_true false = refl

or_false : (b : Bool) → (b || false) ≡ b
or_false true = refl
or_false false = refl

pub mark_new : (k place : ℕ) (steps : List (Option ℕ)) → place < length steps → get_or steps place None ≡ None → AreMarked k (λ p. place == p) steps (set steps place (Some k))
mark_new k place steps within none = record {
  same = length-set steps place (Some k);
  at = λ p below. elim (apart_or_same place p) [
    | inl here ↦ (ap (λ w. get_or (set steps place (Some k)) w None) (sym here) ∙ get_or-set_same steps place (Some k) None within
        ∙ sym (ap (λ b. marked k b (get_or steps p None)) (eq-eqb place p here) ∙ ap (marked k true) (ap (λ w. get_or steps w None) (sym here) ∙ none)))
    | inr other ↦ (get_or-set_other steps place p (Some k) None (λ same. other (sym same))
        ∙ sym (ap (λ b. marked k b (get_or steps p None)) (apart place p other) ∙ marked_no k (get_or steps p None)))
  ];
}

pub mark_known : (k place : ℕ) (steps : List (Option ℕ)) → (place < length steps → is_some (get_or steps place None) ≡ true) → AreMarked k (λ p. place == p) steps steps
mark_known k place steps known = record {
  same = refl;
  at = λ p below. sym (marked_known k (place == p) (get_or steps p None) (λ here. subst (λ w. is_some (get_or steps w None) ≡ true) (eqb-true place p here) (known (omega (arith, below, eqb-true place p here)))));
}

pub kept_new : (back : List (List ℕ)) (seen : List Bool) (steps : List (Option ℕ)) (found : List ℕ) (k place : ℕ) → IsKept back seen steps found k → place < length steps → get_or steps place None ≡ None → IsKept back seen (set steps place (Some k)) (found ++ place ∷ []) k
kept_new back seen steps found k place kept within none = record {
  long = kept.long;
  reached = λ x p looked below there. elim (apart_or_same place p) [
    | inl here ↦ ap is_some (ap (λ w. get_or (set steps place (Some k)) w None) (sym here) ∙ get_or-set_same steps place (Some k) None within)
    | inr other ↦ ap is_some (get_or-set_other steps place p (Some k) None (λ same. other (sym same))) ∙ kept.reached x p looked (omega (arith, below, length-set steps place (Some k))) there
  ];
  last = λ p. has_append found place p ∙ elim (apart_or_same place p) [
    | inl here ↦ (ap (λ b. has found p || b) (eq-eqb place p here) ∙ or_true (has found p)
        ∙ sym (ap (λ o. is_at o k) (ap (λ w. get_or (set steps place (Some k)) w None) (sym here) ∙ get_or-set_same steps place (Some k) None within) ∙ itself_at k))
    | inr other ↦ (ap (λ b. has found p || b) (apart place p other) ∙ or_false (has found p) ∙ kept.last p
        ∙ sym (ap (λ o. is_at o k) (get_or-set_other steps place p (Some k) None (λ same. other (sym same)))))
  ];
}

-- ---- one interface

-- one that was looked at before, or that isn't there, marks nothing new
pub skip_seen : (back : List (List ℕ)) (seen : List Bool) (steps : List (Option ℕ)) (found : List ℕ) (k x : ℕ) → IsKept back seen steps found k → (x < length back → get_or seen x false ≡ true) → AreMarked k (λ p. has (get_or back x []) p) steps steps
skip_seen back seen steps found k x kept looked = record {
  same = refl;
  at = λ p below. sym (marked_known k (has (get_or back x []) p) (get_or steps p None) (λ there. elim (cases_lt x (length back)) [
    | inl within ↦ kept.reached x p (looked within) below there
    | inr past ↦ absurd (false≢true (sym (ap (λ w. has w p) (get_or_past back x [] past)) ∙ there))
  ]));
}

pub kept_seen : (back : List (List ℕ)) (seen : List Bool) (old steps : List (Option ℕ)) (found : List ℕ) (k x : ℕ) → IsKept back seen steps found k → AreMarked k (λ p. has (get_or back x []) p) old steps → x < length seen → IsKept back (set seen x true) steps found k
kept_seen back seen old steps found k x kept marks within = record {
  long = length-set seen x true ∙ kept.long;
  reached = λ y p looked below there. elim (apart_or_same x y) [
    | inl here ↦ (ap is_some (marks.at p (omega (arith, below, marks.same)) ∙ ap (λ b. marked k b (get_or old p None)) (ap (λ w. has (get_or back w []) p) here ∙ there)) ∙ marked_some k (get_or old p None))
    | inr other ↦ kept.reached y p (sym (get_or-set_other seen x y true false (λ same. other (sym same))) ∙ looked) below there
  ];
  last = kept.last;
}

-- one more of a list
pub any_more : {A : Type 0} (q : A → ℕ → Bool) (xs : List A) (i : ℕ) (d : A) → i < length xs → (p : ℕ) → list_any (λ x. q x p) (take (i + 1) xs) ≡ (list_any (λ x. q x p) (take i xs) || q (get_or xs i d) p)
any_more q xs i d within p = list_any_more (λ x. q x p) xs i d within

-- a place that isn't there leads to none
pub no_way_back : (back : List (List ℕ)) (place p : ℕ) → length back ≤ place → comes_from back place p ≡ false
no_way_back back place p past = ap (λ w. list_any (λ x. has (get_or back x []) p) w) (get_or_past back place [] past)
