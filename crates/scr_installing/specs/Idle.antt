-- When an update or an uninstall is refused for the state of its bundle. Our own.
use Rattle.std.specs.Prelude.{◌≡◌, ℕ, [], ◌∷◌, Option, Some, None, Result, Ok, Err}
use Rattle.prop_map.specs.Words.{first_some}
use Rattle.scr_world.specs.Refusals.{no_bundle, still_active, still_stopping}
use Rattle.scr_world.specs.declared.reply.CoreFault.{CoreFault}
use Rattle.scr_world.specs.declared.world.World.{World}

abbrev pub idle_refusal : World → ℕ → Option CoreFault
idle_refusal w bundle = first_some (no_bundle w bundle ∷ still_active w bundle ∷ still_stopping w bundle ∷ [])

-- a call succeeds only where nothing refuses it, and fails with that refusal
abbrev pub IsRefusedBy : {A : Type 0} → Option CoreFault → Result A CoreFault → Type 0
IsRefusedBy refusal (Ok x) = refusal ≡ None
IsRefusedBy refusal (Err fault) = refusal ≡ Some fault
