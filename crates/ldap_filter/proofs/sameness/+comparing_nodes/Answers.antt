use Rattle.std.proofs.Common.{◌∙◌, rules, ◌≤◌, length}
use Rattle.ldap_filter.proofs.SameLists.{alike_at_end}
use Rattle.ldap_filter.proofs.sameness.+comparing_nodes.Goals as goal

pub same_nodes-returns : goal.same_nodes-returns
same_nodes-returns t c =
    let done : length c.args.a.now ≤ c.loop-place.place = search rules in
    let within : c.loop-place.place ≤ length c.args.a.now = search rules in
    alike_at_end c.args.a.now c.args.b.now c.loop-place.place done within c.loop-place.invariant.0 ∙ c.loop-place.invariant.1
