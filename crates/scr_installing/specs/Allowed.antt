-- Whether a command that changes what the bundles hold is refused, and which descriptions there are after it. Our own.
use Rattle.std.specs.Prelude.{◌≡◌, ◌+◌, [], true, IfSome, List, Some, None, Result, Ok, Err}
use Rattle.component_dto.specs.declared.description.Description.{Description}
use Rattle.scr_installing.specs.Described.{AreDescribed}
use Rattle.scr_installing.specs.declared.described.Described.{Described}
use Rattle.scr_world.specs.Refusals.{refusal}
use Rattle.scr_world.specs.Replies.{TellsPath, takes_memory_to_refuse}
use Rattle.scr_world.specs.Tables.{descriptions_of, documents_by_command}
use Rattle.scr_world.specs.declared.command.Command.{Command}
use Rattle.scr_world.specs.declared.reply.CoreFault.{CoreFault}
use Rattle.scr_world.specs.declared.reply.CoreFault.TheVariants.{Cycle, OutOfMemory}
use Rattle.scr_world.specs.declared.world.World.{World}

-- the descriptions of all bundles after a command
abbrev pub descriptions_after : World → Command → List Description
descriptions_after w command = descriptions_of (documents_by_command command (w.bundles.numbered + 1) w.documents)

-- the answer is the refusal, a cycle with its path, or where there is none the descriptions after the command; want of memory hides no refusal
-- but those that take memory
unfoldable pub IsAllowed : World → Command → Result Described CoreFault → Type 0
IsAllowed w command (Ok described) = (refusal w command ≡ None) × AreDescribed (descriptions_after w command) described
IsAllowed w command (Err (Cycle path)) = (refusal w command ≡ Some (Cycle [])) × TellsPath w command path
IsAllowed w command (Err OutOfMemory) = IfSome (refusal w command) (λ fault. takes_memory_to_refuse command fault ≡ true)
IsAllowed w command (Err fault) = refusal w command ≡ Some fault
