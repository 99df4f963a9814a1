-- Lists of which each item stands in a relation to all those behind it.
use Rattle.std.proofs.Common.{List, [], ◌∷◌, ◌++◌, subst, cond, arith, get_or, Bool, true, false, inl, inr}
use Rattle.std.specs.Prelude.{filter, flat_map, map}
use Rattle.std.specs.List.{AllPairs, Contains}
use Rattle.std.proofs.lemmas.List.Elements.{All-contains_itself}
use Rattle.std.proofs.lemmas.List.Kept.{AllPairs-cons}
use Rattle.component_state.proofs.Apart.{in_either, in_first, in_rest, kept_was}
use Rattle.scr_laws.proofs.Listed.{joined_was, mapped_was}

module _ {X : Type 0} (R : X → X → Type 0) where
  abbrev pub AreOrdered : List X → Type 0
  AreOrdered [] = Unit {0}
  AreOrdered (x ∷ xs) = ((y : X) → Contains xs y → R x y) × AreOrdered xs

  pub ordered_join : (xs ys : List X) → AreOrdered xs → AreOrdered ys
      → ((x y : X) → Contains xs x → Contains ys y → R x y) → AreOrdered (xs ++ ys)
  ordered_join [] ys first second across = second
  ordered_join (x ∷ xs) ys first second across = (
    λ y h. elim (in_either xs ys y h) [
      | inl here ↦ first.0 y here
      | inr there ↦ across x y (in_first x xs) there
    ],
    ordered_join xs ys first.1 second (λ a b h k. across a b (in_rest x xs a h) k),
  )

  pub ordered_kept : (t : X → Bool) (xs : List X) → AreOrdered xs → AreOrdered (filter t xs)
  ordered_kept t [] ordered = ordered
  ordered_kept t (x ∷ xs) ordered = go (t x) (ordered_kept t xs ordered.1)
    where
      go : (b : Bool) → AreOrdered (filter t xs) → AreOrdered (cond b (x ∷ filter t xs) (filter t xs))
      go true rest = (λ y h. ordered.0 y (kept_was t xs y h).0, rest)
      go false rest = rest

  pub all_pairs : (xs : List X) → AreOrdered xs → AllPairs R xs
  all_pairs [] ordered = λ i j d lt within. absurd (omega arith)
  all_pairs (x ∷ xs) ordered =
      AllPairs-cons R x xs (λ k d within. ordered.0 (get_or xs k d) (All-contains_itself xs k d within))
      (all_pairs xs ordered.1)

module _ {X Y : Type 0} (R : X → X → Type 0) (S : Y → Y → Type 0) where
  -- lists behind one another
  pub ordered_flat : (f : X → List Y) (xs : List X) → AreOrdered R xs → ((x : X) → Contains xs x → AreOrdered S (f x))
      → ((a b : X) → Contains xs a → Contains xs b → R a b → (p q : Y) → Contains (f a) p → Contains (f b) q → S p q)
      → AreOrdered S (flat_map f xs)
  ordered_flat f [] ordered each across = tt
  ordered_flat f (x ∷ xs) ordered each across =
      ordered_join S (f x) (flat_map f xs) (each x (in_first x xs))
      (ordered_flat f xs ordered.1 (λ y h. each y (in_rest x xs y h))
      (λ a b h k. across a b (in_rest x xs a h) (in_rest x xs b k)))
      (λ p q h k. let b = joined_was f xs q k in across x b.0 (in_first x xs) (in_rest x xs b.0 b.1.0)
      (ordered.0 b.0 b.1.0) p q h b.1.1)

  pub ordered_map : (f : X → Y) (xs : List X) → AreOrdered R xs → ((a b : X) → R a b → S (f a) (f b))
      → AreOrdered S (map f xs)
  ordered_map f [] ordered each = tt
  ordered_map f (x ∷ xs) ordered each = (
    λ y h. let b = mapped_was f xs y h in subst (λ z. S (f x) z) b.1.1 (each x b.0 (ordered.0 b.0 b.1.0)),
    ordered_map f xs ordered.1 each,
  )

-- an order may be weakened
pub ordered_more : {X : Type 0} (R S : X → X → Type 0) (xs : List X) → AreOrdered R xs
    → ((a b : X) → Contains xs a → Contains xs b → R a b → S a b) → AreOrdered S xs
ordered_more R S [] ordered each = tt
ordered_more R S (x ∷ xs) ordered each = (
  λ y h. each x y (in_first x xs) (in_rest x xs y h) (ordered.0 y h),
  ordered_more R S xs ordered.1 (λ a b h k. each a b (in_rest x xs a h) (in_rest x xs b k)),
)
