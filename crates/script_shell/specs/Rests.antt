-- A platform at rest behind a line. Our own form.
use Rattle.std.specs.Prelude.{◌≡◌, ℕ, Bool, true, false, Ok}
use Rattle.platform_hall.specs.Cores.{CoreView}
use Rattle.scr_world.specs.Quiet.{IsQuiet, IsRight}
use Rattle.platform_hall.specs.Platforms.{has_drain, has_due, none_under_way, world}
use Rattle.platform_hall.specs.SettleBounds.{SettlesWithin}
use Rattle.script_shell.specs.Asks.{Setting}

-- behind a line the turns that are due run until none is, within the bound of a calm platform, but in `script --manual`
abbrev pub RestsBy : Bool → Setting → CoreView → CoreView → Type 0
RestsBy true s between after = after ≡ between
RestsBy false s between after = (count : ℕ) × SettlesWithin s.refuses between (Ok count) after

abbrev pub Rests : Setting → CoreView → CoreView → Type 0
Rests s between after = RestsBy s.is_manual s between after

-- where turns run behind each line, and none was under way before, the platform is quiet and right
abbrev pub IsAtRest : Setting → CoreView → CoreView → Type 0
IsAtRest s before after = s.is_manual ≡ false → none_under_way before ≡ true → IsQuiet (world after) × IsRight (world after)

-- no turn is due, and no gate that is shut awaits its drain: a settling would append nothing
abbrev pub HasNothingDue : CoreView → Type 0
HasNothingDue p = (has_due p ≡ false) × (has_drain p ≡ false)
