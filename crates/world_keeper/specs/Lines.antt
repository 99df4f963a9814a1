-- A change as the row that keeps it. Our own.
use Rattle.std.specs.Prelude.{ℕ, List, [], ◌∷◌, codes, map, true, false, Some, None, if◌then◌else◌}
use Rattle.std.specs.Str.{bytes_eq}
use Rattle.world_keeper.specs.declared.change.Change.{Change}
use Rattle.world_keeper.specs.declared.change.Change.TheVariants.{Install, Update, Remove, Started}
use Rattle.world_keeper.specs.declared.change.Change.TheVariants.{Configured, Unconfigured}

-- the kind of change, the location or PID that it changes, the PID of a factory, and a document or properties
pub record Line : Type 0 where
  pub kind : List ℕ
  pub name : List ℕ
  pub factory : List ℕ
  pub text : List ℕ

abbrev pub line_of : Change → Line
line_of (Install location document) = record { kind = codes "install"; name = location; factory = []; text = document }
line_of (Update location document) = record { kind = codes "update"; name = location; factory = []; text = document }
line_of (Remove location) = record { kind = codes "remove"; name = location; factory = []; text = [] }
line_of (Started location true) = record { kind = codes "start"; name = location; factory = []; text = [] }
line_of (Started location false) = record { kind = codes "stop"; name = location; factory = []; text = [] }
line_of (Configured pid None properties) =
    record { kind = codes "configure"; name = pid; factory = []; text = properties }
line_of (Configured pid (Some factory) properties) =
    record { kind = codes "factory"; name = pid; factory = factory; text = properties }
line_of (Unconfigured pid) = record { kind = codes "forget"; name = pid; factory = []; text = [] }

-- the change that a row keeps
abbrev pub change_in : Line → Change
change_in l =
    if bytes_eq l.kind (codes "install") then Install l.name l.text
    else (if bytes_eq l.kind (codes "update") then Update l.name l.text
    else (if bytes_eq l.kind (codes "remove") then Remove l.name
    else (if bytes_eq l.kind (codes "start") then Started l.name true
    else (if bytes_eq l.kind (codes "stop") then Started l.name false
    else (if bytes_eq l.kind (codes "configure") then Configured l.name None l.text
    else (if bytes_eq l.kind (codes "factory") then Configured l.name (Some l.factory) l.text
    else Unconfigured l.name))))))
