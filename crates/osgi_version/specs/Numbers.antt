-- The numbers of versions (OSGi Core 8, section 3.2.5; the greatest number is that of a signed number of 32 bits).
use Rattle.std.specs.Prelude.{◌≡◌, ℕ, ◌+◌, ◌*◌, ◌≤◌, ◌&&◌, nat_lt, nat_le, List, Option, Some, None, if◌then◌else◌}
use Rattle.std.specs.Char.{digit_value}
use Rattle.std.specs.Str.Parse.{IsNumeral, digits_value}

-- one or more digits of this number, which is at most 2147483647
abbrev pub IsNumber : List ℕ → ℕ → Type 0
IsNumber digits n = IsNumeral 10 digits × (digits_value 10 digits ≡ n) × (n ≤ 2147483647)

-- the number with one more digit behind it
abbrev pub with_digit : ℕ → ℕ → Option ℕ
with_digit n b = if nat_lt (digit_value b) 10 && nat_le (n * 10 + digit_value b) 2147483647 then Some (n * 10 + digit_value b) else None
