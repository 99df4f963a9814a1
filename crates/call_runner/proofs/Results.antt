-- What follows of a value that is there.
use Rattle.std.proofs.Common.{Ok, Err}
use Rattle.std.specs.Prelude.{IfOk, Result}

pub if_ok_then : {A E : Type 0} (P Q : A → Type 0) (result : Result A E) → ((a : A) → P a → Q a) → IfOk result P → IfOk result Q
if_ok_then P Q (Ok a) follows is = follows a is
if_ok_then P Q (Err e) follows is = tt
