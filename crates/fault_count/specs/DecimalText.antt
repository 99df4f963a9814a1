-- Decimal numbers as texts. Our own.
use Rattle.std.specs.Prelude.{ℕ, ◌+◌, ◌-◌, ◌*◌, ◌^◌, ◌&&◌, List, [], ◌∷◌, length, Bool, nat_lt, nat_le, Option, Some, None, if◌then◌else◌}
use Rattle.std.specs.Char.{is_ascii_digit}
use Rattle.std.specs.List.{list_all}

-- the number that digits spell: each digit times ten to the power of its place
abbrev pub number_of : List ℕ → ℕ
number_of [] = 0
number_of (digit ∷ digits) = (digit - 48) * 10 ^ length digits + number_of digits

-- 1 to 20 digits of a number that 64 bits hold
abbrev pub is_decimal : List ℕ → Bool
is_decimal bytes = nat_lt 0 (length bytes) && nat_le (length bytes) 20 && list_all is_ascii_digit bytes && nat_lt (number_of bytes) (2 ^ 64)

abbrev pub decimal_of : List ℕ → Option ℕ
decimal_of bytes = if is_decimal bytes then Some (number_of bytes) else None
