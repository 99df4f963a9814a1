-- The canonical spelling of a version.
use Rattle.std.proofs.Common.{ℕ, ◌≤◌, ◌<◌, ◌^◌, List, [], ◌∷◌, refl, sym, append_assoc, arith, decimal}
use Rattle.std.proofs.lemmas.Fmt.{decimal_is_IsNumeral}
use Rattle.std.proofs.lemmas.List.{append-nil}
use Rattle.osgi_version.specs.Numbers.{IsNumber}
use Rattle.osgi_version.specs.Versions.{ArePartsOf, IsPlain, SpellsVersion, IsVersion, version_text}
use Rattle.osgi_version.specs.declared.version.Version.{Version}

decimal_is_number : (n : ℕ) → n ≤ 2147483647 → IsNumber (decimal n) n
decimal_is_number n small =
    let fits : n < 2 ^ 64 = omega arith in
    let is = decimal_is_IsNumeral n fits in
    (is.0, is.1, small)

abbrev made : ℕ → ℕ → ℕ → List ℕ → Version
made a b c q = record { major = a; minor = b; micro = c; qualifier = q }

plain_text : (a b c : ℕ) (q : List ℕ) → IsVersion (made a b c q) → IsPlain (version_text (made a b c q)) (made a b c q)
plain_text a b c [] is = (
  decimal a ∷ decimal b ∷ decimal c ∷ [],
  (decimal_is_number a is.major, decimal_is_number b is.minor, decimal_is_number c is.micro, refl),
  simp (append_assoc, append-nil),
)
plain_text a b c (x ∷ xs) is = (
  decimal a ∷ decimal b ∷ decimal c ∷ (x ∷ xs) ∷ [],
  (decimal_is_number a is.major, decimal_is_number b is.minor, decimal_is_number c is.micro, (omega arith, is.qualifier), refl),
  simp (append_assoc),
)

pub canonical_is_read : (v : Version) → IsVersion v → SpellsVersion (version_text v) v
canonical_is_read v is = (version_text v, ([], [], tt, tt, sym (append-nil (version_text v))), plain_text v.major v.minor v.micro v.qualifier is)

small : (v : Version) (parts : List (List ℕ)) → ArePartsOf parts v → IsVersion v
small v [] h = absurd h
small v (a ∷ []) (na, eb, ec, eq) = record { major = na.2; minor = omega arith; micro = omega arith; qualifier = rw eq refl }
small v (a ∷ b ∷ []) (na, nb, ec, eq) = record { major = na.2; minor = nb.2; micro = omega arith; qualifier = rw eq refl }
small v (a ∷ b ∷ c ∷ []) (na, nb, nc, eq) = record { major = na.2; minor = nb.2; micro = nc.2; qualifier = rw eq refl }
small v (a ∷ b ∷ c ∷ q ∷ []) (na, nb, nc, nq, eq) = record { major = na.2; minor = nb.2; micro = nc.2; qualifier = rw eq nq.1 }
small v (a ∷ b ∷ c ∷ q ∷ more ∷ parts) h = absurd h

pub spelled_is_version : (text : List ℕ) (v : Version) → SpellsVersion text v → IsVersion v
spelled_is_version text v (body, pads, (parts, are, same)) = small v parts are
