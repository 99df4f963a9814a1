-- What a core keeps beside its journal as drains and gets by token come.
use Rattle.std.proofs.Common.{◌≡◌, ◌∙◌, ap, sym, ℕ, List, Bool, Result, Ok, Err}
use Rattle.std.specs.Result.{IfOk, OnErr, OnOk}
use Rattle.journal_core.specs.Rooms.{JournalRows}
use Rattle.journal_core.specs.declared.entry.GateKey.{GateKey}
use Rattle.scr_core.specs.Keeping.{KeepsAll}
use Rattle.scr_core.proofs.FarJournals.{far_drained, far_got, far_released, far_still}
use Rattle.scr_core.proofs.Lines.{drained_lines, got_lines, released_lines, same_lines}
use Rattle.scr_dues.specs.declared.making.Making.{Making}
use Rattle.scr_dues.specs.Makings.{IsThatFar}
use Rattle.scr_state.specs.Keeps.{Keeps}
use Rattle.scr_state.specs.declared.state.State.{State}
use Rattle.scr_world.specs.Calls.{Drains, EndsUse, Gets}
use Rattle.scr_world.specs.Steps.{history_of}
use Rattle.scr_world.specs.TurnLines.{turn_lines}
use Rattle.scr_world.specs.declared.lines.TurnLine.{TurnLine}
use Rattle.scr_world.specs.declared.marks.Token.{Token}
use Rattle.scr_world.specs.declared.reply.CoreFault.{CoreFault}
use Rattle.scr_world.specs.declared.step.Step.{Step}

module _ (limit : ℕ) (j k : JournalRows Step) (s t : State) (lines : List TurnLine) (m : Making) (keeps : KeepsAll limit j s lines) (far : IsThatFar s.world m) (limits : k.limit ≡ j.limit) (after : Keeps k t) where
  abbrev pub All : Type 0
  All = KeepsAll limit k t lines × IsThatFar t.world m

  with_lines : turn_lines (history_of k.entries) ≡ turn_lines (history_of j.entries) → KeepsAll limit k t lines
  with_lines same = record { its_limit = limits ∙ keeps.its_limit; state = after; told = keeps.told ∙ sym same }

  unchanged : k ≡ j → All
  unchanged same = (with_lines (same_lines j.entries k.entries (ap (λ (x : JournalRows Step). x.entries) same)), far_still j k s t keeps.state after m far same)

  pub drained_all : {A E : Type 0} (r : Result A E) (key : GateKey) → OnOk r (Drains j.limit j.entries key k.entries) → OnErr r (k ≡ j) → All
  drained_all (Ok a) key done failed = (with_lines (drained_lines j.limit j.entries k.entries key done), far_drained j k s t keeps.state after m far key done)
  drained_all (Err e) key done failed = unchanged failed

  pub got_all : (bundle service : ℕ) (answer : Result Token CoreFault) → Gets j.limit j.entries bundle service answer k.entries → All
  got_all bundle service answer is = (with_lines (got_lines j.limit j.entries k.entries bundle service answer is), far_got j k s t keeps.state after m far bundle service answer is)

  pub released_all : {E : Type 0} (r : Result Bool E) (note : Token) → IfOk r (λ stood. EndsUse j.limit j.entries note stood k.entries) → OnErr r (k ≡ j) → All
  released_all (Ok stood) note done failed = (with_lines (released_lines j.limit j.entries k.entries note stood done), far_released j k s t keeps.state after m far note stood done)
  released_all (Err e) note done failed = unchanged failed
