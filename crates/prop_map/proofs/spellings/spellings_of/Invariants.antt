use Rattle.std.proofs.Common.{◌≡◌, ◌||◌, drop, ℕ, List}
use Rattle.std.specs.Prelude.{map}
use Rattle.serde_json.specs.View.{members_view}
use Rattle.prop_map.specs.JsonProperties.{given_keys, is_repeated}
use Rattle.prop_map.specs.Spellings.{has_another}
use Rattle.prop_map.proofs.spellings.spellings_of.Given as goal

abbrev pub invariant-loop-key : goal.invariant-loop-key
invariant-loop-key l = (key : List ℕ) → (has_another l.spellings key || is_repeated (given_keys (members_view (map (λ e. (e.0.now, e.1.now)) (drop l.key-index l.entries)))) key)
    ≡ is_repeated (given_keys (members_view (map (λ e. (e.0.now, e.1.now)) l.entries))) key
