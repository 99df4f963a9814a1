use Rattle.std.proofs.Common.{refl, subst, sym, List}
use Rattle.kept_wirings.specs.KeptRows.{AreKept}
use Rattle.scr_world.specs.declared.contents.Contents.{Contents}
use Rattle.wiring_reader.specs.Telling.{TellsWiring}
use Rattle.script_shell.proofs.wiring.wiring.Goals as goal

pub kept_wiring_lines-requires : goal.kept_wiring_lines-requires
kept_wiring_lines-requires c = subst (λ (cs : List Contents). AreKept cs c.wirings.result.now) (sym c.documents.ensures) c.wirings.ensures

pub returns : goal.returns
returns c = (
  c.in_ok-lines.lines,
  subst (λ (cs : List Contents). TellsWiring cs c.in_ok-lines.lines) c.documents.ensures c.in_ok-lines.ensures,
  refl,
  refl,
)
