-- When an update is refused before its descriptions are looked at. Our own.
use Rattle.std.specs.Prelude.{ℕ, [], ◌∷◌, Option}
use Rattle.bundle_doc.specs.declared.document.BundleDoc.{BundleDoc}
use Rattle.prop_map.specs.Words.{first_some}
use Rattle.scr_world.specs.Refusals.{no_bundle, same_name, still_active, still_stopping}
use Rattle.scr_world.specs.declared.reply.CoreFault.{CoreFault}
use Rattle.scr_world.specs.declared.world.World.{World}

abbrev pub update_refusal : World → ℕ → BundleDoc → Option CoreFault
update_refusal w bundle doc = first_some (no_bundle w bundle ∷ still_active w bundle ∷ still_stopping w bundle ∷ same_name w doc bundle ∷ [])
