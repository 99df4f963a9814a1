-- The text of a turn. Our own form.
use Rattle.std.specs.Prelude.{ℕ, List, [], ◌++◌, codes, Option, Some, None}
use Rattle.std.specs.Fmt.{decimal}
use Rattle.callback_orders.specs.declared.callback.Callback.{Callback}
use Rattle.callback_orders.specs.declared.callback.Callback.TheVariants.{Create, Bind, Updated, Unbind, Activate, Modified, Deactivate, Destroy}
use Rattle.callback_orders.specs.declared.callback.Outcome.{Outcome}
use Rattle.callback_orders.specs.declared.callback.Outcome.TheVariants.{Done as IsDone, Refused as IsRefused, NoMemory}
use Rattle.scr_world.specs.declared.lines.TurnLine.{TurnLine}
use Rattle.shell_lang.specs.FaultTexts.{spaced}

abbrev pub callback_word : Callback → List ℕ
callback_word Create = codes "create"
callback_word (Bind reference service) = codes "bind"
callback_word (Updated reference service) = codes "updated"
callback_word (Unbind reference service) = codes "unbind"
callback_word Activate = codes "activate"
callback_word Modified = codes "modified"
callback_word Deactivate = codes "deactivate"
callback_word Destroy = codes "destroy"

abbrev pub service_text : List ℕ → ℕ → List ℕ
service_text reference service = spaced reference ++ spaced (decimal service)

-- the reference and the service of a callback that has them
abbrev pub bound_text : Callback → List ℕ
bound_text (Bind reference service) = service_text reference service
bound_text (Updated reference service) = service_text reference service
bound_text (Unbind reference service) = service_text reference service
bound_text _ = []

-- a turn's number, its callback, the instance and its name, and what is bound
abbrev pub turn_text : TurnLine → List ℕ
turn_text line = decimal line.turn ++ codes " " ++ callback_word line.callback ++ codes " " ++ decimal line.instance ++ codes " " ++ line.name ++ bound_text line.callback

-- how a turn ended, where it isn't done
abbrev pub outcome_text : Option Outcome → List ℕ
outcome_text None = codes " outstanding"
outcome_text (Some IsDone) = []
outcome_text (Some IsRefused) = codes " refused"
outcome_text (Some NoMemory) = codes " no-memory"

abbrev pub trace_text : TurnLine → List ℕ
trace_text line = turn_text line ++ outcome_text line.outcome ++ codes "\n"

-- how the turn that a line finishes ended
abbrev pub finished_text : Outcome → List ℕ
finished_text IsDone = codes "ok done\n"
finished_text IsRefused = codes "ok refused\n"
finished_text NoMemory = codes "ok no-memory\n"
