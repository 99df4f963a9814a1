use Rattle.std.proofs.Common.{◌≡◌, drop, [], List, ℕ}
use Rattle.std.specs.Prelude.{map}
use Rattle.std.specs.BTreeMap.{values}
use Rattle.serde_json.specs.View.{members_view}
use Rattle.prop_map.specs.ByKey.{IsByKey}
use Rattle.prop_map.specs.JsonProperties.{with_members}
use Rattle.prop_map.specs.Spellings.{AreOf}
use Rattle.prop_map.proofs.json_properties.with_members.Given as goal

abbrev pub invariant-loop-key : goal.invariant-loop-key
invariant-loop-key l = IsByKey l.found.entries × ((keys : List (List ℕ)) → AreOf keys l.spellings → with_members keys (values l.found) (members_view (map (λ e. (e.0.now, e.1.now)) (drop l.key-index l.entries)))
    ≡ with_members keys [] (members_view (map (λ e. (e.0.now, e.1.now)) l.entries)))
