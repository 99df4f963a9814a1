use Rattle.std.proofs.Common.{rules, tests, ◌∙◌}
use Rattle.std.proofs.lemmas.List.Sorted.{IsPartitionPoint-from_clause}
use Rattle.ldap_filter.specs.Matching.{begins}
use Rattle.bundle_doc.proofs.Beginnings.{begun_behind, begun_between, is_low, low_parts}
use Rattle.bundle_doc.proofs.entries_by_end.keys_beginning.Goals as goal

pub returns : goal.returns
returns c =
    let low = IsPartitionPoint-from_clause (λ k. is_low k.0.items c.args.start.now) _ _ c.partition_point-below.ensures.partitioned (low_parts (λ k. k.0.items) c.args.keys.now c.args.start.now c.requires) (λ a r q k. search (rules, tests)) in
    let first = IsPartitionPoint-from_clause (λ k. begins k.0.items c.args.start.now) _ _ c.partition_point-count.ensures.partitioned (begun_behind (λ k. k.0.items) c.args.keys.now c.split_at.result.1.now c.args.start.now c.partition_point-below.result c.requires c.split_at.ensures.back low) (λ a r q k. search (rules, tests)) in
    c.split_at-2.ensures.front ∙ begun_between (λ k. k.0.items) c.args.keys.now c.split_at.result.1.now c.args.start.now c.partition_point-below.result c.partition_point-count.result c.partition_point-below.ensures.bound c.split_at.ensures.back c.partition_point-count.ensures.bound low first
