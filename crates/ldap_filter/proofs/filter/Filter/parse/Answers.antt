use Rattle.std.proofs.Common.{rules, sym, subst, ℕ, false}
use Rattle.std.specs.Str.Iter.{char_indices_rest}
use Rattle.ldap_filter.specs.Places.{IsBadAt, IsTooDeepAt}
use Rattle.ldap_filter.specs.Parsing.{IsTreeOf}
use Rattle.ldap_filter.specs.Reading.{stack_of, mode_of}
use Rattle.ldap_filter.proofs.SoFar.{SoFar, so_far_char, bad_char, too_deep, tree_read, text_ended}
use Rattle.ldap_filter.proofs.filter.Filter.parse.Goals as goal

pub returns-in-Err-Unexpected : goal.returns-in-Err-Unexpected
returns-in-Err-Unexpected c =
    let s = c.in-Some.ensures.steps in
    subst (λ (k : ℕ). IsBadAt c.args.text.now k false) (sym s.0) (bad_char _ _ _ _ c.in-Some.c _ _ c.loop-at.invariant.so_far s.1 (rw c.in-Err-Unexpected.field-0-is at c.in-Err-Unexpected.ensures))

pub returns-in-Err-TooDeep : goal.returns-in-Err-TooDeep
returns-in-Err-TooDeep c =
    let s = c.in-Some.ensures.steps in let d = rw c.in-Err-TooDeep.field-0-is at c.in-Err-TooDeep.ensures in
    subst (λ (k : ℕ). IsTooDeepAt c.args.text.now k) (sym s.0) (too_deep _ _ _ _ c.in-Some.c _ _ c.loop-at.invariant.so_far s.1 d.0 d.1 d.2)

pub loop-at-preserved : goal.loop-at-preserved
loop-at-preserved c =
    let s = c.in-Some.ensures.steps in let d = c.in-Ok.ensures in
    record {
      can_next = search rules;
      is_finite = tt;
      so_far = subst (λ (k : ℕ). SoFar c.args.text.now (char_indices_rest c.next.new.self) k (stack_of c.read.new.frames.items) (mode_of c.in-Ok.next)) (sym s.2) (so_far_char _ _ _ _ c.in-Some.c _ _ _ _ c.loop-at.invariant.so_far s.1 d.0 d.1);
    }

pub returns-in-Some-whole : goal.returns-in-Some-whole
returns-in-Some-whole c =
    subst (IsTreeOf c.args.text.now) (sym c.of.ensures) (tree_read _ _ _ _ _ _ c.loop-at.invariant.so_far c.in-None.ensures.steps.0 (sym (rw c.as_slice.ensures.value at c.in-Some-whole.ensures)))

pub returns : goal.returns
returns c =
    text_ended _ _ _ _ _ c.loop-at.invariant.so_far c.in-None.ensures.steps.0 (sym (rw (c.as_slice.ensures.value, c.in-None-whole.is) at c.whole.ensures))
