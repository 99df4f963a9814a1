-- What is answered to the bytes of a chunked body. Our own.
use Rattle.std.specs.Prelude.{◌≡◌, ℕ, ◌⊎◌, List, length}
use Rattle.http_wire.specs.ChunkedBody.{IsBody, BeginsBody, IsLessBody, IsBodyFront}
use Rattle.http_wire.specs.declared.messages.BodyRead.{BodyRead}
use Rattle.http_wire.specs.declared.messages.BodyRead.TheVariants.{More, Whole, Bad, TooLarge}

-- the answer to the shortest bytes that are not less than a body
abbrev pub AnswersBody : List ℕ → BodyRead → Type 0
AnswersBody front More = ⊥
AnswersBody front (Whole body size) = IsBody front body × (size ≡ length front)
AnswersBody front Bad = ¬ (BeginsBody front)
AnswersBody front TooLarge = ((body : List ℕ) → ¬ (IsBody front body)) × BeginsBody front

-- What the bytes begin with. The two cases exclude each other, since each front of less than a body is less than a body.
abbrev pub ReadsBody : List ℕ → BodyRead → Type 0
ReadsBody bytes r = (IsLessBody bytes × (r ≡ More)) ⊎ ((front : List ℕ) × IsBodyFront front bytes × AnswersBody front r)
