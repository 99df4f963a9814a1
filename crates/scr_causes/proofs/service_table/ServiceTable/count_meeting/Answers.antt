use Rattle.std.proofs.Common.{◌∙◌, ap, length, map, List, ℕ}
use Rattle.std.specs.Borrow.{Bor}
use Rattle.std.specs.Prelude.{filter}
use Rattle.reference_match.specs.Targets.{meets}
use Rattle.service_registry.specs.declared.row.ServiceRow.{ServiceRow}
use Rattle.scr_causes.specs.ServiceTables.{is_under}
use Rattle.scr_causes.specs.declared.service_table.Entry.{Entry}
use Rattle.scr_causes.proofs.EntryLemmas.{meeting_counted}
use Rattle.scr_causes.proofs.service_table.ServiceTable.count_meeting.Goals as goal

pub returns : goal.returns
returns c =
    let count = (λ (es : List Entry). length (filter (λ (e : Entry). meets c.args.need.now e.row.now) es)) in
    c.meeting_among.ensures
    ∙ ap count c.under.ensures
    ∙ ap (λ (i : List ℕ). count (filter (is_under i) c.deref.result.now)) c.as_str.ensures
    ∙ ap (λ (es : List Entry). count (filter (is_under c.args.need.now.interface) es)) c.deref.ensures.value
    ∙ meeting_counted (map (λ (r : Bor ServiceRow). r.now) c.self.inside.rows.items) c.self.inside.entries.items c.self.invariant.1 c.args.need.now
    ∙ ap (λ (rs : List ServiceRow). length (filter (meets c.args.need.now) rs)) c.self.view_is
