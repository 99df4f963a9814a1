-- What the whiteboard's instance holds in two worlds. Our own.
use Rattle.std.specs.Prelude.{◌≡◌}
use Rattle.std.specs.List.{Contains}
use Rattle.component_dto.specs.declared.description.Reference.{Reference}
use Rattle.scr_readers.specs.Reaching.{held_rows}
use Rattle.scr_world.specs.declared.world.World.{World}
use Rattle.scr_world.specs.Whiteboard.{whiteboard_references}

-- for each of its references it holds the same services, best first, with the same properties
abbrev pub HasSameRows : World → World → Type 0
HasSameRows before now = (r : Reference) → Contains whiteboard_references r → held_rows now r.name now.whiteboard ≡ held_rows before r.name before.whiteboard
