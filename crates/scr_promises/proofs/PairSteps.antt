-- What a callback makes of the turns that one service and one reference of an instance may still have: they never get more, and with each Bind, Unbind and Updated fewer.
use Rattle.std.proofs.Common.{◌≡◌, ◌≤◌, ◌+◌, refl, arith, Bool, true, false}
use Rattle.std.proofs.lemmas.Bool.{false≢true}
use Rattle.scr_promises.proofs.Potentials.{pair_value}

pub value_low : (held changed free : Bool) → pair_value held changed free ≤ 2
value_low true true free = omega arith
value_low true false free = omega arith
value_low false changed true = omega arith
value_low false changed false = omega arith

held_value : (changed before free free_before : Bool) → (changed ≡ true → before ≡ true) → pair_value true changed free ≤ pair_value true before free_before
held_value false false free free_before to = omega arith
held_value false true free free_before to = omega arith
held_value true true free free_before to = omega arith
held_value true false free free_before to = absurd (false≢true (to refl))

free_value : (changed before free free_before : Bool) → (free ≡ true → free_before ≡ true) → pair_value false changed free ≤ pair_value false before free_before
free_value changed before false true to = omega arith
free_value changed before false false to = omega arith
free_value changed before true true to = omega arith
free_value changed before true false to = absurd (false≢true (to refl))

-- the service is held as before
pub value_stays : (held then changed changed_then free free_then : Bool) → then ≡ held → (held ≡ true → changed_then ≡ true → changed ≡ true) → (held ≡ false → free_then ≡ true → free ≡ true) → pair_value then changed_then free_then ≤ pair_value held changed free
value_stays true true changed changed_then free free_then same told to = held_value changed_then changed free_then free (told refl)
value_stays false false changed changed_then free free_then same told to = free_value changed_then changed free_then free (to refl)
value_stays true false changed changed_then free free_then same told to = cc
value_stays false true changed changed_then free free_then same told to = cc

-- it is bound
pub value_binds : (held then changed changed_then free free_then : Bool) → held ≡ false → then ≡ true → free ≡ true → changed_then ≡ false → pair_value then changed_then free_then + 1 ≤ pair_value held changed free
value_binds false true changed false true free_then a b c d = omega arith
value_binds true then changed changed_then free free_then a b c d = cc
value_binds false false changed changed_then free free_then a b c d = cc
value_binds false true changed true free free_then a b c d = cc
value_binds false true changed false false free_then a b c d = cc

-- unbound
pub value_unbinds : (held then changed changed_then free free_then : Bool) → held ≡ true → then ≡ false → free_then ≡ false → pair_value then changed_then free_then + 1 ≤ pair_value held changed free
value_unbinds true false true changed_then free false a b c = omega arith
value_unbinds true false false changed_then free false a b c = omega arith
value_unbinds false then changed changed_then free free_then a b c = cc
value_unbinds true true changed changed_then free free_then a b c = cc
value_unbinds true false changed changed_then free true a b c = cc

-- or told of
pub value_tells : (held then changed changed_then free free_then : Bool) → held ≡ true → then ≡ true → changed ≡ true → changed_then ≡ false → pair_value then changed_then free_then + 1 ≤ pair_value held changed free
value_tells true true true false free free_then a b c d = omega arith
value_tells false then changed changed_then free free_then a b c d = cc
value_tells true false changed changed_then free free_then a b c d = cc
value_tells true true false changed_then free free_then a b c d = cc
value_tells true true true true free free_then a b c d = cc

pub value_held : (held changed free : Bool) → held ≡ true → 1 ≤ pair_value held changed free
value_held true true free is = omega arith
value_held true false free is = omega arith
value_held false changed free is = cc

pub value_free : (held changed free : Bool) → held ≡ false → free ≡ true → 1 ≤ pair_value held changed free
value_free false changed true a b = omega arith
value_free true changed free a b = cc
value_free false changed false a b = cc
