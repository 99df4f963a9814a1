use Rattle.std.proofs.Common.{◌≡◌, drop}
use Rattle.ldap_filter.specs.Searching.{found_in_order}
use Rattle.ldap_filter.proofs.matching.find_in_order.Given as goal

abbrev pub invariant-loop-next : goal.invariant-loop-next
invariant-loop-next l = found_in_order l.part (drop l.next-index l.others) l.rest ≡ found_in_order l.first l.others l.text
