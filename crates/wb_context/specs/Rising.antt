-- Lists of which no item is less than one before it. Our own word.
use Rattle.std.specs.Prelude.{◌≡◌, List, [], ◌∷◌, Bool, true, not}
use Rattle.std.specs.List.{list_all}

module _ {X : Type 0} (lt : X → X → Bool) where
  -- none of the items is less than y
  abbrev pub NoneBelow : X → List X → Type 0
  NoneBelow y zs = list_all (λ z. not (lt z y)) zs ≡ true

  abbrev pub Rising : List X → Type 0
  Rising [] = Unit {0}
  Rising (y ∷ ys) = NoneBelow y ys × Rising ys

  -- the test that puts an item before those that it ties with
  abbrev pub not_after : X → X → Bool
  not_after a b = not (lt b a)
