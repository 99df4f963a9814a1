use Rattle.std.proofs.Common.{rules, ◌∙◌}
use Rattle.scr_causes.specs.ServiceTables.{is_before, is_under}
use Rattle.std.proofs.lemmas.List.Sorted.{IsPartitionPoint-from_clause}
use Rattle.scr_causes.specs.declared.service_table.Entry.{Entry}
use Rattle.scr_causes.proofs.EntryLemmas.{low_parts, same_behind, same_between}
use Rattle.scr_causes.proofs.service_table.under.Goals as goal

pub returns : goal.returns
returns c =
    let interface = c.args.interface.now in
    let low = IsPartitionPoint-from_clause (λ (e : Entry). is_before interface e) _ _ c.partition_point-start.ensures.partitioned (low_parts (λ (e : Entry). e.interface.now) c.args.entries.now interface c.requires) (λ a r q k. search rules) in
    let first = IsPartitionPoint-from_clause (λ (e : Entry). is_under interface e) _ _ c.partition_point-count.ensures.partitioned (same_behind (λ (e : Entry). e.interface.now) c.args.entries.now c.split_at.result.1.now interface c.partition_point-start.result c.requires c.split_at.ensures.back low) (λ a r q k. search rules) in
    c.split_at-2.ensures.front ∙ same_between (λ (e : Entry). e.interface.now) c.args.entries.now c.split_at.result.1.now interface c.partition_point-start.result c.partition_point-count.result c.partition_point-start.ensures.bound c.split_at.ensures.back c.partition_point-count.ensures.bound low first
