-- Lemmas on what was written.
use Rattle.std.proofs.Common.{ℕ, ◌+◌, List, take, drop, subst, sym, take-add}
use Rattle.std.specs.declared.option.Option.{Option}
use Rattle.std.specs.Io.KnownBytes.{Appends}
use Rattle.std.proofs.KnownBytes.{Appends-trans}

-- what was written, and the next n bytes
pub wrote_more : (a b c : Option (List ℕ)) (bytes : List ℕ) (at n : ℕ) → Appends a b (take at bytes) → Appends b c (take n (drop at bytes)) → Appends a c (take (at + n) bytes)
wrote_more a b c bytes at n before now =
    let P : List ℕ → Type 0 = λ w. Appends a c w in subst P (sym (take-add at n bytes)) (Appends-trans a b c (take at bytes) (take n (drop at bytes)) before now)
