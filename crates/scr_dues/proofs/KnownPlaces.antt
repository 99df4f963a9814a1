-- What is known of the references of an instance in the making, as one goes on over them.
use Rattle.std.proofs.Common.{◌≡◌, ◌<◌, ◌≤◌, ◌∙◌, ap, sym, subst, refl, arith, cond, ℕ, zero, suc, ◌+◌, List, [], ◌∷◌, Bool, true, false, inl, inr, drop, length, get_or, drop-cons, ◌⊎◌}
use Rattle.std.specs.Prelude.{find, ◌==◌, Some}
use Rattle.std.specs.List.{Contains, enumerate_from}
use Rattle.std.proofs.lemmas.Bool.{eqb-true}
use Rattle.std.proofs.lemmas.List.{drop-drop}
use Rattle.component_dto.specs.declared.description.Reference.{Reference}
use Rattle.component_state.proofs.Apart.{in_cases, in_first, in_none, in_rest, one_of}
use Rattle.prop_map.specs.Words.{with_places}
use Rattle.scr_world.specs.declared.instance.Instance.{Instance}
use Rattle.scr_world.specs.declared.world.World.{World}
use Rattle.scr_dues.specs.declared.making.Making.{Making}
use Rattle.scr_dues.specs.Makings.{AreChoicesFrom, AreNumbered, HoldsUpTo, IsKnown, IsThatFar, holds_choice, nothing_known}

-- ---- lists with places

module _ {X : Type 0} where
  pub not_before : (place : ℕ) (xs : List X) (q : ℕ × X) → Contains (enumerate_from place xs) q → place ≤ q.0
  not_before place [] q h = absurd (in_none q h)
  not_before place (x ∷ xs) q h = elim (in_cases (place, x) (enumerate_from (place + 1) xs) q h) [
    | inl same ↦ (let here : place ≡ q.0 = ap (λ (p : ℕ × X). p.0) same in omega (arith, here))
    | inr later ↦ (let more : place + 1 ≤ q.0 = not_before (place + 1) xs q later in omega (arith, more))
  ]

  -- what stands at a place
  pub stands : (count place : ℕ) (xs : List X) (q : ℕ × X) (x : X) (rest : List X) → Contains (enumerate_from place xs) q → q.0 ≡ place + count → drop count xs ≡ x ∷ rest → q ≡ (place + count, x)
  stands count place [] q x rest h same is = absurd (in_none q h)
  stands zero place (y ∷ ys) q x rest h same is = elim (in_cases (place, y) (enumerate_from (place + 1) ys) q h) [
    | inl here ↦ (let one : y ≡ x = cc in let at : place ≡ place + 0 = omega arith in sym here ∙ (λ j. (at j, one j)))
    | inr later ↦ absurd (let more : place + 1 ≤ q.0 = not_before (place + 1) ys q later in omega (arith, more, same))
  ]
  stands (suc count) place (y ∷ ys) q x rest h same is = elim (in_cases (place, y) (enumerate_from (place + 1) ys) q h) [
    | inl here ↦ absurd (let at : place ≡ q.0 = ap (λ (p : ℕ × X). p.0) here in omega (arith, at, same))
    | inr later ↦ (
        let at : place + 1 + count ≡ place + suc count = omega arith in
        let shifted : q.0 ≡ place + 1 + count = omega (arith, same) in
        stands count (place + 1) ys q x rest later shifted is ∙ ap {B = ℕ × X} (λ n. (n, x)) at)
  ]

-- ---- one reference more

module _ (i : Instance) (rs : List Reference) where
  -- choices that are for references before that place are passed over
  pub choices_on : (m : Making) (choices : ℕ) → HoldsUpTo i rs m → AreChoicesFrom m.place (drop m.choices i.origin.chosen) (drop choices i.origin.chosen) → HoldsUpTo i rs (record m { choices = choices })
  choices_on m choices known same = record { before = known.before; behind = λ later from. same later from ∙ known.behind later from }

  -- the next reference holds what was chosen for it
  pub place_on : (m : Making) (r : Reference) (rest : List Reference) → HoldsUpTo i rs m → drop m.place rs ≡ r ∷ rest → holds_choice i (m.place, r) ≡ true → HoldsUpTo i rs (record m { place = m.place + 1 })
  place_on m r rest known next holds = record {
    before = λ q h low. by q h low;
    behind = λ later from. known.behind later (omega (arith, from));
  }
    where
      last : (q : ℕ × Reference) → Contains (with_places 0 rs) q → q.0 ≡ m.place → holds_choice i q ≡ true
      last q h at =
          let from : q.0 ≡ 0 + m.place = omega (arith, at) in
          let back : 0 + m.place ≡ m.place = omega arith in
          ap (holds_choice i) (stands m.place 0 rs q r rest h from next ∙ ap {B = ℕ × Reference} (λ n. (n, r)) back) ∙ holds

      cases : (a b : ℕ) → a < b + 1 → (a < b) ⊎ (a ≡ b)
      cases zero zero low = inr refl
      cases zero (suc b) low = inl (omega arith)
      cases (suc a) zero low = absurd (omega (arith, low))
      cases (suc a) (suc b) low = elim (cases a b (omega (arith, low))) [ inl less ↦ inl (omega (arith, less)) | inr same ↦ inr (ap suc same) ]

      by : (q : ℕ × Reference) → Contains (with_places 0 rs) q → q.0 < m.place + 1 → holds_choice i q ≡ true
      by q h low = elim (cases q.0 m.place low) [ inl less ↦ known.before q h less | inr at ↦ last q h at ]

-- the item of a list's rest that one comes to
pub next_one : (rs items : List Reference) (place at known : ℕ) (r : Reference) → items ≡ drop place rs → known ≡ place + at → at < length items → r ≡ get_or items at r → drop known rs ≡ r ∷ drop (suc at) items
next_one rs items place at known r rest same low is =
    ap (λ n. drop n rs) same ∙ sym (drop-drop at place rs) ∙ ap (drop at) (sym rest) ∙ drop-cons items at r low ∙ ap (λ x. x ∷ drop (suc at) items) (sym is)

-- ---- nothing is known

pub none_held : (i : Instance) (rs : List Reference) → HoldsUpTo i rs nothing_known
none_held i rs = record { before = λ r h low. absurd (omega (arith, low)); behind = λ later from. refl }

pub fresh : (w : World) (number : ℕ) → number ≤ w.instances_numbered → IsThatFar w (record { instance = number; place = 0; choices = 0 })
fresh w number old = record {
  numbered = old;
  each = λ i there is. record {
    names = λ low. absurd (omega (arith, low));
    holds = record { before = λ r h low. absurd (omega (arith, low)); behind = λ later from. refl };
  };
}

pub nothing_far : (w : World) → IsThatFar w nothing_known
nothing_far w = fresh w 0 (omega arith)

-- ---- the instance of a number

pub found_was : {X : Type 0} (t : X → Bool) (xs : List X) (x : X) → find t xs ≡ Some x → Contains xs x × (t x ≡ true)
found_was t [] x e = absurd cc
found_was {X} t (y ∷ ys) x e = go (found_was t ys x) (t y) refl e
  where
    go : (find t ys ≡ Some x → Contains ys x × (t x ≡ true)) → (b : Bool) → t y ≡ b → cond b (Some y) (find t ys) ≡ Some x → Contains (y ∷ ys) x × (t x ≡ true)
    go later true on is = let same : y ≡ x = cc in (subst (λ (z : X). Contains (y ∷ ys) z) same (in_first y ys), ap t (sym same) ∙ on)
    go later false off is = let back = later is in (in_rest y ys x back.0, back.1)

module _ (w : World) (number : ℕ) (i : Instance) (found : find (λ (j : Instance). j.number == number) w.instances ≡ Some i) where
  pub found_there : Contains w.instances i
  found_there = (found_was (λ (j : Instance). j.number == number) w.instances i found).0

  pub found_number : i.number ≡ number
  found_number = eqb-true i.number number (found_was (λ (j : Instance). j.number == number) w.instances i found).1

-- what is known of an instance is known of its number
pub known_by_number : (w : World) → AreNumbered w → (i : Instance) → Contains w.instances i → (m : Making) → m.instance ≡ i.number → IsKnown w i m → IsThatFar w m
known_by_number w numbers i there m same known = record {
  numbered = subst (λ n. n ≤ w.instances_numbered) (sym same) (numbers.given i there);
  each = λ j h is. subst (λ (k : Instance). IsKnown w k m) (one_of (λ (k : Instance). k.number) w.instances numbers.apart i j there h (sym same ∙ sym is)) known;
}
