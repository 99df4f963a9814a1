use Rattle.std.proofs.Common.{◌∙◌, ap, length, map, List}
use Rattle.std.specs.Borrow.{Bor}
use Rattle.std.specs.Prelude.{filter}
use Rattle.service_registry.specs.Services.{has_interface}
use Rattle.service_registry.specs.declared.row.ServiceRow.{ServiceRow}
use Rattle.scr_causes.specs.ServiceTables.{is_under}
use Rattle.scr_causes.specs.declared.service_table.Entry.{Entry}
use Rattle.scr_causes.proofs.EntryLemmas.{with_counted}
use Rattle.scr_causes.proofs.service_table.ServiceTable.count_with.Goals as goal

pub returns : goal.returns
returns c =
    ap length c.under.ensures
    ∙ ap (λ (es : List Entry). length (filter (is_under c.args.interface.now) es)) c.deref.ensures.value
    ∙ with_counted (map (λ (r : Bor ServiceRow). r.now) c.self.inside.rows.items) c.self.inside.entries.items c.self.invariant.1 c.args.interface.now
    ∙ ap (λ (rs : List ServiceRow). length (filter (has_interface c.args.interface.now) rs)) c.self.view_is
