use Rattle.std.specs.Str.Iter.{char_indices_rest, char_indices_offset}
use Rattle.ldap_filter.specs.Reading.{stack_of, mode_of}
use Rattle.ldap_filter.proofs.SoFar.{SoFar}
use Rattle.ldap_filter.proofs.filter.Filter.parse.Given as goal

abbrev pub invariant-loop-at : goal.invariant-loop-at
invariant-loop-at l = record {
  can_next : (goal.iterator-loop-at).can_next l.at-iterator;
  is_finite : (goal.iterator-loop-at).is_finite l.at-iterator;
  so_far : SoFar l.text (char_indices_rest l.at-iterator) (char_indices_offset l.at-iterator) (stack_of l.frames.items) (mode_of l.mode);
}
