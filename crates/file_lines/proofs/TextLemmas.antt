-- Bytes that are no text.
use Rattle.std.proofs.Common.{◌≡◌, ℕ, List, Bool, true, false, refl, sym}
use Rattle.std.specs.Str.{IsUtf8, is_utf8}
use Rattle.std.proofs.lemmas.Str.{IsUtf8-from_is_utf8}

pub not_utf8 : (bytes : List ℕ) → (IsUtf8 bytes → ⊥) → is_utf8 bytes ≡ false
not_utf8 bytes none = cases (is_utf8 bytes) refl where
  cases : (b : Bool) → b ≡ is_utf8 bytes → b ≡ false
  cases true e = absurd (none (IsUtf8-from_is_utf8 bytes (sym e)))
  cases false e = refl
