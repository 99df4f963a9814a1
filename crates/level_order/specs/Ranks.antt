-- Ranks of places, by which places are known that lie on no cycle. Our own words.
use Rattle.std.specs.Prelude.{◌≡◌, ℕ, ◌<◌, ◌≤◌, List, [], get_or, length, true}
use Rattle.level_order.specs.Ways.{has}

abbrev pub rank_at : List ℕ → ℕ → ℕ
rank_at ranks place = get_or ranks place 0

-- no link leads to a lower rank
abbrev pub NeverFall : List (List ℕ) → List ℕ → Type 0
NeverFall links ranks = (i j : ℕ) → i < length links → has (get_or links i []) j ≡ true → rank_at ranks i ≤ rank_at ranks j

-- each link of this place leads to a higher one
abbrev pub RiseAt : List (List ℕ) → List ℕ → ℕ → Type 0
RiseAt links ranks i = (j : ℕ) → has (get_or links i []) j ≡ true → rank_at ranks i < rank_at ranks j
