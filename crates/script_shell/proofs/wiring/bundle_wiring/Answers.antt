use Rattle.std.proofs.Common.{refl, subst, sym, List}
use Rattle.kept_wirings.specs.KeptRows.{AreKept}
use Rattle.scr_world.specs.declared.contents.Contents.{Contents}
use Rattle.wiring_reader.specs.Telling.{TellsBundle}
use Rattle.script_shell.proofs.wiring.bundle_wiring.Goals as goal

pub kept_bundle_wiring-requires : goal.kept_bundle_wiring-requires
kept_bundle_wiring-requires c = subst (λ (cs : List Contents). AreKept cs c.wirings.result.now) (sym c.documents.ensures) c.wirings.ensures

pub returns : goal.returns
returns c = (
  c.in_ok-told.told,
  subst (λ (cs : List Contents). TellsBundle cs c.args.bundle c.in_ok-told.told) c.documents.ensures c.in_ok-told.ensures,
  c.bundle_reply.ensures,
  refl,
)
