-- When a call on listeners is refused. The limit is our own.
use Rattle.std.specs.Prelude.{◌≡◌, ℕ, Bool, nat_le, length, is_none, Option, Some, None, Result, Ok, Err, if◌then◌else◌}
use Rattle.service_listeners.specs.declared.listen_fault.ListenFault.{ListenFault}
use Rattle.service_listeners.specs.declared.listen_fault.ListenFault.TheVariants.{ListenersFull, NoListener, OutOfMemory}
use Rattle.service_listeners.specs.Listening.{ListenerTable, listener_of}

abbrev pub refuse_if : Bool → ListenFault → Option ListenFault
refuse_if b fault = if b then Some fault else None

-- it would be the 65th
abbrev pub listen_refusal : ListenerTable → Option ListenFault
listen_refusal t = refuse_if (nat_le 64 (length t.rows)) ListenersFull

abbrev pub no_listener : ℕ → ListenerTable → Option ListenFault
no_listener number t = refuse_if (is_none (listener_of t.rows number)) (NoListener number)

-- a call succeeds only where nothing refuses it, and fails with that refusal; for want of memory only where there is none
abbrev pub IsRefusedBy : {A : Type 0} → Option ListenFault → Result A ListenFault → Type 0
IsRefusedBy refusal (Ok x) = refusal ≡ None
IsRefusedBy refusal (Err OutOfMemory) = refusal ≡ None
IsRefusedBy refusal (Err fault) = refusal ≡ Some fault
