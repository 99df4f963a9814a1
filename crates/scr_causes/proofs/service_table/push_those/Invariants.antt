use Rattle.std.proofs.Common.{◌≡◌, ◌+◌, ◌&&◌, ℕ, Bool, List, take}
use Rattle.prop_map.specs.Words.{one_if}
use Rattle.scr_causes.specs.ServiceTables.{count_under}
use Rattle.service_registry.specs.declared.row.ServiceRow.{ServiceRow}
use Rattle.text_index.specs.Texts.{has_text}
use Rattle.scr_causes.proofs.service_table.push_those.Given as goal

abbrev pub invariant-loop-interface : goal.invariant-loop-interface
invariant-loop-interface l = record {
  seen : (other : List ℕ) → has_text l.found other ≡ has_text (take l.interface-index l.interfaces) other;
  counted : (name : List ℕ) (test : ServiceRow → Bool) → count_under name test l.entries.items ≡ count_under name test l.fn.entries.items + one_if (has_text (take l.interface-index l.interfaces) name && test l.row);
}
