-- What a call did that gave no error.
use Rattle.std.proofs.Common.{◌≡◌, true, false, Ok, Err}
use Rattle.std.specs.Prelude.{Result, OnErr, OnOk, is_err}

pub when_ok : {T E P : Type 0} (r : Result T E) → is_err r ≡ false → OnOk r P → P
when_ok (Ok x) is done = done
when_ok (Err e) is done = absurd (let both : true ≡ false = is in cc)

pub when_err : {T E P : Type 0} (r : Result T E) → is_err r ≡ true → OnErr r P → P
when_err (Ok x) is failed = absurd (let both : false ≡ true = is in cc)
when_err (Err e) is failed = failed

pub ok_with : {T E P Q : Type 0} (r : Result T E) → (P → Q) → OnOk r P → OnOk r Q
ok_with (Ok x) follows is = follows is
ok_with (Err e) follows is = tt

pub err_anyway : {T E Q : Type 0} (r : Result T E) → Q → OnErr r Q
err_anyway (Ok x) is = tt
err_anyway (Err e) is = is

pub ok_anyway : {T E Q : Type 0} (r : Result T E) → Q → OnOk r Q
ok_anyway (Ok x) is = is
ok_anyway (Err e) is = tt
