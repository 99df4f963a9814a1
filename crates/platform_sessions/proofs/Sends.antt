-- A pass may go to another thread, and threads may share a hall: by what is proved of what lies under its lock, and by the
-- fields beside it, each in its turn.
use denote.Param.Send.{IsSend, IsSync, recorded_sync, struct_sync, view_sync}
use denote.RattleType.{RattleType}
use denote.Struct.Declared.{shape}
use Rattle.front_lock.proofs.lock.FrontLock.TheSendSync as lock
use Rattle.hall_locked.proofs.Sends.{locked_send}
use Rattle.hall_locked.specs.contracts.locked.Locked as Locked
use Rattle.journal_core.specs.contracts.entry.Entry as Entry
use Rattle.kind_trait.specs.declared.kinds.Kinds.{Ghosts}
use Rattle.platform_sessions.proofs.hall_pass.HallPass.TheSendSync as pass
use Rattle.platform_sessions.specs.contracts.hall.Hall as Hall
use Rattle.platform_sessions.specs.contracts.hall.Hall.TheInside as Inside
use Rattle.platform_sessions.specs.contracts.hall_pass.HallPass as HallPass
use Rattle.scr_world.proofs.command.Limits.TheSendSync as limits
use Rattle.scr_world.specs.contracts.step.Step as Step
use Rattle.std.proofs.sync.atomic.AtomicBool.TheSendSync as flag

pub pass_send : IsSend HallPass.the_row
pass_send = pass.the_send

module _ (K O W : RattleType) (g : Ghosts K.Denot O.Denot W.Denot) (code : IsSync K) (sends : IsSend O) (syncs : IsSync O) where
  inside_sync : IsSync (Inside.the_row K O W g)
  inside_sync =
      recorded_sync _ _ _ (Inside.the_type K O W g).to_one
      (struct_sync (shape (Inside.the_type K O W g)) (
        lock.the_sync (Locked.the_row O) (Entry.the_row Step.the_row) _ (locked_send O sends syncs),
        (code, (limits.the_field_sync, (flag.the_field_sync, tt))),
      ))

  pub hall_sync : IsSync (Hall.the_row K O W g)
  hall_sync = view_sync _ _ _ _ _ inside_sync
