-- The numbers of the services that open in a pass: from the next one on, each once.
use Rattle.std.proofs.Common.{◌≡◌, ◌<◌, ◌≤◌, ◌⊎◌, ℕ, suc, ◌+◌, List, [], ◌∷◌, ap, sym, ◌∙◌, cond, arith, Bool, true, false, inl, inr}
use Rattle.std.specs.Prelude.{count_by, not, ◌==◌}
use Rattle.std.specs.List.{Contains}
use Rattle.std.proofs.lemmas.Bool.{ne_eqb}
use Rattle.std.proofs.lemmas.List.Sums.{sum_by-cons}
use Rattle.component_state.specs.declared.component.Component.{Component}
use Rattle.component_state.specs.Components.{provides_no_service}
use Rattle.component_state.specs.Passes.{opened_from}
use Rattle.component_state.proofs.Apart.{in_cases, in_none}
use Rattle.journal_core.specs.declared.entry.Opened.{Opened}

abbrev pub registers : Opened → Bool
registers o = not (o.service == 0)

counted_more : (o : Opened) (os : List Opened) → count_by registers (o ∷ os) ≡ cond (registers o) 1 0 + count_by registers os
counted_more o os = sum_by-cons (λ (x : Opened). cond (registers x) 1 0) o os

abbrev with_service : Component → ℕ → Bool → Opened
with_service c next b = record { configuration = c.number; service = cond b 0 next }

-- from the next number on, or 0
pub opened_high : (next : ℕ) (cs : List Component) (o : Opened) → Contains (opened_from next cs) o → (o.service ≡ 0) ⊎ (next ≤ o.service)
opened_high next [] o h = absurd (in_none o h)
opened_high next (c ∷ cs) o h = go (λ n. opened_high n cs o) (provides_no_service c) h
  where
    go : ((n : ℕ) → Contains (opened_from n cs) o → (o.service ≡ 0) ⊎ (n ≤ o.service)) → (b : Bool) → Contains (with_service c next b ∷ opened_from (cond b next (next + 1)) cs) o → (o.service ≡ 0) ⊎ (next ≤ o.service)
    go rest true k = elim (in_cases (with_service c next true) (opened_from next cs) o k) [
      | inl same ↦ inl (sym (ap (λ (x : Opened). x.service) same))
      | inr later ↦ rest next later
    ]
    go rest false k = elim (in_cases (with_service c next false) (opened_from (next + 1) cs) o k) [
      | inl same ↦ (let is = ap (λ (x : Opened). x.service) same in inr (omega (arith, is)))
      | inr later ↦ elim (rest (next + 1) later) [
        | inl none ↦ inl none
        | inr high ↦ inr (omega (arith, high))
      ]
    ]

-- and no more of them than are counted
pub opened_low : (next : ℕ) (cs : List Component) → 1 ≤ next → (o : Opened) → Contains (opened_from next cs) o → o.service < next + count_by registers (opened_from next cs)
opened_low next [] some o h = absurd (in_none o h)
opened_low next (c ∷ cs) some o h = go (λ n. opened_low n cs) (provides_no_service c) h
  where
    some_given : not (next == 0) ≡ true
    some_given = ap not (ne_eqb next 0 (λ e. omega (arith, e, some)))

    go : ((n : ℕ) → 1 ≤ n → (x : Opened) → Contains (opened_from n cs) x → x.service < n + count_by registers (opened_from n cs)) → (b : Bool) → Contains (with_service c next b ∷ opened_from (cond b next (next + 1)) cs) o
        → o.service < next + count_by registers (with_service c next b ∷ opened_from (cond b next (next + 1)) cs)
    go each true k =
        let counted : count_by registers (with_service c next true ∷ opened_from next cs) ≡ count_by registers (opened_from next cs) = omega (arith, counted_more (with_service c next true) (opened_from next cs)) in
        elim (in_cases (with_service c next true) (opened_from next cs) o k) [
          | inl same ↦ (let is = ap (λ (x : Opened). x.service) same in omega (arith, is, some))
          | inr later ↦ (let low = each next some o later in omega (arith, low, counted))
        ]
    go each false k =
        let rest = opened_from (next + 1) cs in
        let counted : count_by registers (with_service c next false ∷ rest) ≡ suc (count_by registers rest) =
        counted_more (with_service c next false) rest ∙ ap (λ b. cond b 1 0 + count_by registers rest) some_given ∙ omega arith in
        elim (in_cases (with_service c next false) rest o k) [
          | inl same ↦ (let is = ap (λ (x : Opened). x.service) same in omega (arith, is, counted))
          | inr later ↦ (let low = each (next + 1) (omega arith) o later in omega (arith, low, counted))
        ]

-- each once
pub opened_one_of : (next : ℕ) (cs : List Component) → (a b : Opened) → Contains (opened_from next cs) a → Contains (opened_from next cs) b → a.service ≡ b.service → 0 < a.service → a ≡ b
opened_one_of next [] a b h k same some = absurd (in_none a h)
opened_one_of next (c ∷ cs) a b h k same some = go (λ n p q. opened_one_of n cs a b p q same some) (provides_no_service c) h k
  where
    high_wrong : (o : Opened) → Contains (opened_from (next + 1) cs) o → o.service ≡ next → 0 < o.service → ⊥
    high_wrong o here is above = elim (opened_high (next + 1) cs o here) [
      | inl none ↦ omega (arith, none, above)
      | inr high ↦ omega (arith, high, is)
    ]

    go : ((n : ℕ) → Contains (opened_from n cs) a → Contains (opened_from n cs) b → a ≡ b) → (d : Bool) → Contains (with_service c next d ∷ opened_from (cond d next (next + 1)) cs) a → Contains (with_service c next d ∷ opened_from (cond d next (next + 1)) cs) b → a ≡ b
    go each true p q = elim (in_cases (with_service c next true) (opened_from next cs) a p) [
      | inl is_a ↦ (let none = ap (λ (x : Opened). x.service) is_a in absurd (omega (arith, none, some)))
      | inr later_a ↦ elim (in_cases (with_service c next true) (opened_from next cs) b q) [
        | inl is_b ↦ (let none = ap (λ (x : Opened). x.service) is_b in absurd (omega (arith, none, some, same)))
        | inr later_b ↦ each next later_a later_b
      ]
    ]
    go each false p q = elim (in_cases (with_service c next false) (opened_from (next + 1) cs) a p) [
      | inl is_a ↦ elim (in_cases (with_service c next false) (opened_from (next + 1) cs) b q) [
        | inl is_b ↦ sym is_a ∙ is_b
        | inr later_b ↦ (let first = ap (λ (x : Opened). x.service) is_a in absurd (high_wrong b later_b (omega (arith, first, same)) (omega (arith, some, same))))
      ]
      | inr later_a ↦ elim (in_cases (with_service c next false) (opened_from (next + 1) cs) b q) [
        | inl is_b ↦ (let first = ap (λ (x : Opened). x.service) is_b in absurd (high_wrong a later_a (omega (arith, first, same)) some))
        | inr later_b ↦ each (next + 1) later_a later_b
      ]
    ]
