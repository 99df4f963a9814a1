use Rattle.std.proofs.Common.{ap, sym, ◌∙◌, subst}
use Rattle.std.specs.Map.{values_of}
use Rattle.prop_map.specs.ByKey.{IsByKey}
use Rattle.prop_map.proofs.ByKeyLemmas.{put_by_key}
use Rattle.component_state.proofs.component_configurations.property_draft.put_under.Goals as goal

pub returns-in-Ok-clause-value : goal.returns-in-Ok-clause-value
returns-in-Ok-clause-value c = ap values_of c.in-Ok.ensures.entries
    ∙ (put_by_key c.args.fold c.args.property.key c.args.property.value c.requires.fold c.args.by_key.now.entries c.requires.by_key).0

pub returns-in-Ok-clause-by_key : goal.returns-in-Ok-clause-by_key
returns-in-Ok-clause-by_key c = subst IsByKey (sym c.in-Ok.ensures.entries)
    (put_by_key c.args.fold c.args.property.key c.args.property.value c.requires.fold c.args.by_key.now.entries c.requires.by_key).1
