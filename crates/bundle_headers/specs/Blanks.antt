-- Texts without the blanks round them (this project's own).
use Rattle.std.specs.Prelude.{ℕ, ◌==◌, Bool, List, [], ◌∷◌, if◌then◌else◌}
use Rattle.std.specs.List.{list_all}

-- nothing but blanks
abbrev pub is_blank : List ℕ → Bool
is_blank bytes = list_all (λ b. b == 32) bytes

abbrev pub trim_start : List ℕ → List ℕ
trim_start [] = []
trim_start (b ∷ bs) = if b == 32 then trim_start bs else b ∷ bs

abbrev pub trim_end : List ℕ → List ℕ
trim_end [] = []
trim_end (b ∷ bs) = if is_blank (b ∷ bs) then [] else b ∷ trim_end bs

abbrev pub without_blanks : List ℕ → List ℕ
without_blanks bytes = trim_end (trim_start bytes)
