-- Pieces of a list.
use Rattle.std.proofs.Common.{◌≡◌, ℕ, ◌+◌, List, ◌++◌, take, drop}
use Rattle.std.proofs.lemmas.List.{take-append-drop, drop-drop}

-- the next n bytes and those behind them are those from here
pub next_piece : (at n : ℕ) (xs : List ℕ) → take n (drop at xs) ++ drop (at + n) xs ≡ drop at xs
next_piece at n xs = rw (← drop-drop n at xs) (take-append-drop n (drop at xs))
