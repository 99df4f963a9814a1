-- The text of an answer (RFC 9112, section 4; its fields are our own).
use Rattle.std.specs.Prelude.{◌≡◌, ℕ, Bool, List, [], ◌∷◌, ◌++◌, length, Option, Some, None, decimal, codes, if◌then◌else◌, ◌==◌}
use Rattle.http.specs.StatusCode.{reason_phrase}
use Rattle.httparse.specs.Ascii.{crlf_bytes}
use Rattle.http_wire.specs.declared.messages.Answered.{Answered}

abbrev pub phrase_or_none : Option (List ℕ) → List ℕ
phrase_or_none None = []
phrase_or_none (Some phrase) = phrase

-- the number of a status, a blank and its phrase
unfoldable pub status_text : ℕ → List ℕ
status_text status = decimal status ++ (32 ∷ []) ++ phrase_or_none (reason_phrase status)

-- a name, a value and CRLF
unfoldable pub line : List ℕ → List ℕ → List ℕ
line name value = name ++ value ++ crlf_bytes

abbrev pub line_if : Bool → List ℕ → List ℕ → List ℕ
line_if asked name value = if asked then line name value else []

abbrev pub response_head : Answered → List ℕ
response_head a =
    line (codes "HTTP/1.1 ") (status_text a.status)
    ++ line (codes "service-id: ") (decimal a.service)
    ++ line_if (a.status == 200) (codes "content-type: ") (codes "text/plain; charset=utf-8")
    ++ line (codes "content-length: ") (decimal (length a.body))
    ++ line_if a.last (codes "connection: ") (codes "close")
    ++ crlf_bytes

unfoldable pub response_text : Answered → List ℕ
response_text a = response_head a ++ (if a.head_only then [] else a.body)

-- bytes were appended
pub record Grows (before now : List ℕ) : Type 0 where
  pub more : List ℕ
  pub is : now ≡ before ++ more
