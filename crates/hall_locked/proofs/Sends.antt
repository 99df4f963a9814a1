-- What lies under the lock may go to another thread, where its objects may be shared by threads and go from one to
-- another: by the core's own proof, and by the fields beside it, each in its turn.
use denote.RattleType.{RattleType}
use denote.Param.Send.{IsSend, IsSync, recorded_send, sendable, struct_send, view_send}
use denote.Struct.Declared.{shape}
use Rattle.std.proofs.Crossing.{Arc-send, Vec-send}
use Rattle.scr_core.proofs.Sends.{core_send}
use Rattle.turn_work.proofs.site.Site.TheSendSync as site
use Rattle.hall_locked.specs.contracts.owned_core.OwnedCore as OwnedCore
use Rattle.hall_locked.specs.contracts.owned_core.OwnedCore.TheInside as Inside
use Rattle.hall_locked.specs.contracts.locked.Locked as Locked
use Rattle.hall_locked.specs.contracts.locked.Locked.TheInside as LockedInside
use Rattle.hall_locked.specs.contracts.part.Part as Part
use Rattle.call_gate.proofs.gate.CallGate.TheSendSync as gates
use Rattle.gate_keeper.proofs.keeper.Keeper.TheSendSync as keeper

module _ (O : RattleType) (sends : IsSend O) (syncs : IsSync O) where
  part_send : IsSend (Part.the_row O)
  part_send =
      recorded_send _ _ _ (Part.the_type O).to_one
      (struct_send (shape (Part.the_type O)) (search sendable, (Arc-send O sends syncs, (site.the_field_send, tt))))

  inside_send : IsSend (Inside.the_row O)
  inside_send =
      recorded_send _ _ _ (Inside.the_type O).to_one (struct_send (shape (Inside.the_type O)) (
        core_send,
        (
          Vec-send _ (search sendable),
          (Vec-send _ (search sendable depth 60 fits 20000), (Vec-send _ part_send, tt)),
        ),
      ))

  owned_send : IsSend (OwnedCore.the_row O)
  owned_send = view_send _ _ _ _ _ inside_send

  locked_inside_send : IsSend (LockedInside.the_row O)
  locked_inside_send =
      recorded_send _ _ _ (LockedInside.the_type O).to_one
      (struct_send (shape (LockedInside.the_type O)) (owned_send, (search (gates.the_send, sendable), (search (keeper.the_send, sendable), (Vec-send _ (search sendable depth 60 fits 20000), tt)))))

  pub locked_send : IsSend (Locked.the_row O)
  locked_send = view_send _ _ _ _ _ locked_inside_send
