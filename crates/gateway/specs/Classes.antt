-- The classes of the gateway's components. Our own.
use Rattle.std.specs.Prelude.{ℕ, List, codes, Option, Some, None, if◌then◌else◌}
use Rattle.std.specs.Str.{bytes_eq}
use Rattle.gateway.specs.declared.classes.Class.{Class}
use Rattle.gateway.specs.declared.classes.Class.TheVariants.{Thermometer, Hygrometer, Aggregator, Store, Page}

-- the class of this name, if it is one of the gateway's
abbrev pub class_of : List ℕ → Option Class
class_of name =
    if bytes_eq name (codes "gateway.Thermometer") then Some Thermometer
    else (if bytes_eq name (codes "gateway.Hygrometer") then Some Hygrometer
    else (if bytes_eq name (codes "gateway.Aggregator") then Some Aggregator
    else (if bytes_eq name (codes "gateway.Store") then Some Store
    else (if bytes_eq name (codes "gateway.Page") then Some Page else None))))
