-- The walks over a text that find where it ceases to be a topic, or a pattern.
use Rattle.std.specs.Prelude.{◌≡◌, ℕ, ◌+◌, ◌==◌, ◌&&◌, List, [], ◌∷◌, Bool, true, false, not, Option, Some, None}
use Rattle.std.specs.Prelude.{if◌then◌else◌}
use Rattle.event_admin.specs.Topics.{is_token_byte, is_topic}
use Rattle.event_admin.specs.Beginnings.{IsLongest}

-- the place from which on a text is no topic, where it is none; fresh: a token has to begin
abbrev pub topic_end : Bool → ℕ → List ℕ → Option ℕ
topic_end fresh at [] = if fresh then Some at else None
topic_end fresh at (b ∷ bs) =
    if is_token_byte b then topic_end false (at + 1) bs
    else (if b == 47 && not fresh then topic_end true (at + 1) bs else Some at)

-- how far a text begins as a pattern does: a star may stand where a token may begin, and ends it
abbrev pub pattern_end : Bool → ℕ → List ℕ → ℕ
pattern_end fresh at [] = at
pattern_end fresh at (b ∷ bs) =
    if is_token_byte b then pattern_end false (at + 1) bs
    else (if b == 47 && not fresh then pattern_end true (at + 1) bs
    else (if b == 42 && fresh then at + 1 else at))

-- nothing where a text is a topic, else how far it begins as one
abbrev pub Told : List ℕ → Option ℕ → Type 0
Told text None = is_topic text ≡ true
Told text (Some end) = (is_topic text ≡ false) × IsLongest is_topic text end
