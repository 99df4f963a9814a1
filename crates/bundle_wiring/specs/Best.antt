-- What the best of several offers is, said of the others. Our own.
use Rattle.std.specs.Prelude.{◌≡◌, ◌⊎◌, List, [], ◌∷◌, not, IsTrue}
use Rattle.std.specs.List.{list_all}
use Rattle.bundle_wiring.specs.Resolution.{Placed, is_better}

abbrev pub IsAmong : List Placed → Placed → Type 0
IsAmong [] offer = ⊥
IsAmong (first ∷ others) offer = (offer ≡ first) ⊎ IsAmong others offer

-- the offer is one of these, and none of them is better
pub record IsBest (offers : List Placed) (offer : Placed) : Type 0 where
  pub is_one : IsAmong offers offer
  pub none_better : IsTrue (list_all (λ o. not (is_better o offer)) offers)
