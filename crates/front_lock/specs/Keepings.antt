-- What a value keeps for passes, as a turn that one of them began: things in order, each with its owner, the number of a pass. Our own.
use Rattle.std.specs.Prelude.{◌≡◌, ℕ, List, [], ◌∷◌, ◌++◌, eqb, if◌then◌else◌}
use Rattle.front_lock.specs.Histories.{In}

-- what is kept under the number n
abbrev pub kept_under : ℕ → List (ℕ × ℕ) → List (ℕ × ℕ)
kept_under n [] = []
kept_under n (x ∷ xs) = if eqb n x.0 then x ∷ kept_under n xs else kept_under n xs

-- what is kept under these numbers, for one after the other
abbrev pub kept_by : List ℕ → List (ℕ × ℕ) → List (ℕ × ℕ)
kept_by [] xs = []
kept_by (n ∷ ns) xs = kept_under n xs ++ kept_by ns xs

-- under each number that is none of ns there is kept what was kept before
abbrev pub KeepsOthers : List ℕ → List (ℕ × ℕ) → List (ℕ × ℕ) → Type 0
KeepsOthers ns before after = (n : ℕ) → ¬ In n ns → kept_under n after ≡ kept_under n before
