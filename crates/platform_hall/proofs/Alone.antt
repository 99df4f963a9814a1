-- At most one object is kept for an instance.
use Rattle.std.proofs.Common.{◌≡◌, ◌≤◌, ℕ, ◌+◌, List, [], ◌∷◌, ◌++◌, ap, sym, ◌∙◌, refl, subst, cond, Bool, true, false, ◌&&◌, ◌||◌, inl, inr, arith}
use Rattle.std.specs.Prelude.{filter, not, ◌==◌}
use Rattle.std.specs.List.{sum_by}
use Rattle.std.proofs.lemmas.Bool.{and_parts, cases_Bool, eqb-true, or_parts}
use Rattle.std.proofs.lemmas.List.Sums.{sum_by-cons, sum_by-append}
use Rattle.callback_orders.specs.declared.callback.Outcome.{Outcome}
use Rattle.callback_orders.specs.Grammar.{is_create}
use Rattle.turn_work.specs.declared.work.TurnWork.{TurnWork}
use Rattle.turn_runner.specs.Outcomes.{is_done, makes_object, needs_object}
use Rattle.platform_hall.specs.declared.held.Held.{Held}
use Rattle.platform_hall.specs.Desks.{holders_of, is_holder}
use Rattle.prop_map.specs.Words.{one_if}

sum_zero : (a b : ℕ) → a ≡ 0 → b ≡ 0 → a + b ≡ 0
sum_zero a b first second = omega (arith, first, second)

sum_more : (c a b : ℕ) → a ≤ b → c + a ≤ c + b
sum_more c a b low = omega (arith, low)

sum_skipped : (c a b : ℕ) → a ≤ b → a ≤ c + b
sum_skipped c a b low = omega (arith, low)

nor_either : (a b : Bool) → b ≡ true → not (a || b) ≡ false
nor_either true b is = refl
nor_either false b is = ap not is

-- who makes an object is told of a Create, so there was none
pub makes_anew : (work : TurnWork) (outcome : Outcome) → makes_object work outcome ≡ true → needs_object work ≡ false
makes_anew work outcome makes =
    let create = and_parts (is_create work.callback) (is_done outcome) (and_parts (not (work.instance == 0)) (is_create work.callback && is_done outcome) makes).1 in
    nor_either (work.instance == 0) (is_create work.callback) create.0

module _ {O : Type 0} where
  pub none_alone : (held : List (Held O)) (n : ℕ) → held ≡ [] → holders_of held n ≤ 1
  none_alone held n nobody =
      let zero : holders_of held n ≡ 0 = ap (λ (hs : List (Held O)). holders_of hs n) nobody in omega (arith, zero)

  no_holder : (held : List (Held O)) (n : ℕ) → is_holder held n ≡ false → holders_of held n ≡ 0
  no_holder [] n none = refl
  no_holder (h ∷ held) n none =
      let parts = or_parts (h.instance == n) (is_holder held n) none in
      sum_by-cons (λ (k : Held O). cond (k.instance == n) 1 0) h held
      ∙ sum_zero (cond (h.instance == n) 1 0) (holders_of held n) (ap (λ b. cond b 1 0) parts.0) (no_holder held n parts.1)

  -- one object more
  pub holders_more : (held : List (Held O)) (one : Held O) (n : ℕ) → holders_of (held ++ one ∷ []) n ≡ holders_of held n + one_if (one.instance == n)
  holders_more held one n =
      sum_by-append (λ (h : Held O). cond (h.instance == n) 1 0) held (one ∷ [])
      ∙ ap (λ k. holders_of held n + k) (let last : sum_by (λ (h : Held O). cond (h.instance == n) 1 0) (one ∷ []) ≡ one_if (one.instance == n) = omega arith in last)

  -- where one stays or goes in front
  stays_first : (h : Held O) (rest held : List (Held O)) (n : ℕ) → holders_of rest n ≤ holders_of held n → holders_of (h ∷ rest) n ≤ holders_of (h ∷ held) n
  stays_first h rest held n low =
      let more = sum_by-cons (λ (k : Held O). cond (k.instance == n) 1 0) h rest in
      let all = sum_by-cons (λ (k : Held O). cond (k.instance == n) 1 0) h held in
      let same = sum_more (cond (h.instance == n) 1 0) (holders_of rest n) (holders_of held n) low in
      subst (λ k. k ≤ holders_of (h ∷ held) n) (sym more) (subst (λ k. cond (h.instance == n) 1 0 + holders_of rest n ≤ k) (sym all) same)

  goes_first : (h : Held O) (rest held : List (Held O)) (n : ℕ) → holders_of rest n ≤ holders_of held n → holders_of rest n ≤ holders_of (h ∷ held) n
  goes_first h rest held n low =
      subst (λ k. holders_of rest n ≤ k) (sym (sum_by-cons (λ (k : Held O). cond (k.instance == n) 1 0) h held))
      (sum_skipped (cond (h.instance == n) 1 0) (holders_of rest n) (holders_of held n) low)

  -- some objects less
  pub holders_fewer : (stays : Held O → Bool) (held : List (Held O)) (n : ℕ) → holders_of (filter stays held) n ≤ holders_of held n
  holders_fewer stays [] n = omega arith
  holders_fewer stays (h ∷ held) n =
      let rest = holders_fewer stays held n in
      elim (stays h) as (λ v. holders_of (cond v (h ∷ filter stays held) (filter stays held)) n ≤ holders_of (h ∷ held) n) [
        | true ↦ stays_first h (filter stays held) held n rest
        | false ↦ goes_first h (filter stays held) held n rest
      ]

  -- where one was made for an instance without any, and some are let go
  pub alone_after : (held kept : List (Held O)) (made : Bool) (instance n : ℕ) → holders_of kept n ≤ holders_of held n + one_if (made && (instance == n)) → holders_of held n ≤ 1
      → (made ≡ true → is_holder held instance ≡ false) → holders_of kept n ≤ 1
  alone_after held kept made instance n few before anew =
      elim (cases_Bool (made && (instance == n))) [
        | inl is ↦ (
            let parts = and_parts made (instance == n) is in
            let none : holders_of held n ≡ 0 = no_holder held n (ap (is_holder held) (sym (eqb-true instance n parts.1)) ∙ anew parts.0) in
            let one : one_if (made && (instance == n)) ≡ 1 = ap one_if is in
            omega (arith, few, none, one))
        | inr other ↦ (
            let none : one_if (made && (instance == n)) ≡ 0 = ap one_if other in
            omega (arith, few, before, none))
      ]
