-- The text of a refusal: its name and its fields. Our own form.
use Rattle.std.specs.Prelude.{ℕ, List, ◌++◌, codes, Bool, if◌then◌else◌}
use Rattle.std.specs.Fmt.{decimal}
use Rattle.ldap_filter.specs.declared.filter_fault.FilterFault.{FilterFault}
use Rattle.ldap_filter.specs.declared.filter_fault.FilterFault.TheVariants.{BadFilter, TooDeep, OutOfMemory as NoFilterMemory}
use Rattle.shell_lang.specs.CoreFaultTexts.{core_fault_text}
use Rattle.shell_lang.specs.FaultTexts.{document_fault_text, prop_fault_text, spaced}
use Rattle.shell_lang.specs.declared.call_refusal.CallRefusal.{CallRefusal}
use Rattle.shell_lang.specs.declared.call_refusal.CallRefusal.TheVariants.{Gone, NoObject, Pending, Refused, CallTooLong}
use Rattle.shell_lang.specs.declared.line_fault.LineFault.{LineFault}
use Rattle.shell_lang.specs.declared.line_fault.LineFault.TheVariants.{UnknownCommand, BadWords, Document, NoFile, NotJson, Properties, FilterText, OutOfMemory}
use Rattle.shell_lang.specs.declared.shell_reply.Refusal.{Refusal}
use Rattle.shell_lang.specs.declared.shell_reply.Refusal.TheVariants.{Line, Core, NotManual, NotBuilt, NoTurn, Call}

-- whether a text that is no filter ends where it ceases to be the beginning of one
abbrev pub ending_word : Bool → List ℕ
ending_word ended = if ended then codes "ended" else codes "unexpected"

abbrev pub filter_fault_text : FilterFault → List ℕ
filter_fault_text (BadFilter at ended) = codes "BadFilter" ++ spaced (decimal at) ++ spaced (ending_word ended)
filter_fault_text (TooDeep at) = codes "TooDeep" ++ spaced (decimal at)
filter_fault_text NoFilterMemory = codes "OutOfMemory"

-- why a line is refused before it comes to the core
abbrev pub line_fault_text : LineFault → List ℕ
line_fault_text UnknownCommand = codes "UnknownCommand"
line_fault_text (BadWords at) = codes "BadWords" ++ spaced (decimal at)
line_fault_text (Document fault) = document_fault_text fault
line_fault_text NoFile = codes "NoFile"
line_fault_text NotJson = codes "NotJson"
line_fault_text (Properties fault) = prop_fault_text fault
line_fault_text (FilterText fault) = filter_fault_text fault
line_fault_text OutOfMemory = codes "OutOfMemory"

-- why a call that got its service isn't answered
abbrev pub call_refusal_text : CallRefusal → List ℕ
call_refusal_text Gone = codes "Gone"
call_refusal_text NoObject = codes "NoObject"
call_refusal_text Pending = codes "Pending"
call_refusal_text Refused = codes "Refused"
call_refusal_text CallTooLong = codes "CallTooLong"

abbrev pub refusal_text : Refusal → List ℕ
refusal_text (Line fault) = line_fault_text fault
refusal_text (Core fault) = core_fault_text fault
refusal_text NotManual = codes "NotManual"
refusal_text NotBuilt = codes "NotBuilt"
refusal_text (NoTurn turn) = codes "NoTurn " ++ decimal turn
refusal_text (Call fault) = call_refusal_text fault
