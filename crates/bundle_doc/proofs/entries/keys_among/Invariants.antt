use Rattle.std.proofs.Common.{◌≡◌, ◌++◌, drop}
use Rattle.std.specs.Prelude.{map}
use Rattle.serde_json.specs.View.{members_view}
use Rattle.prop_map.specs.JsonProperties.{keys_of}
use Rattle.bundle_doc.proofs.entries.keys_among.Given as goal

abbrev pub invariant-loop-key : goal.invariant-loop-key
invariant-loop-key l = l.keys.items ++ keys_of (members_view (map (λ e. (e.0.now, e.1.now)) (drop l.key-index l.pairs))) ≡ keys_of (members_view (map (λ e. (e.0.now, e.1.now)) l.pairs))
