-- What the bytes of a connection ask for (RFC 9112, sections 2.1, 6.3 and 9.3). Which requests their bytes refuse, and when a connection ends, is our own.
use Rattle.std.specs.Prelude.{◌≡◌, ℕ, ◌==◌, ◌||◌, ◌+◌, ◌<◌, ◌≤◌, ◌⊎◌, Bool, true, List, [], ◌∷◌, length, take, drop}
use Rattle.http_wire.specs.BodyReading.{ReadsBody}
use Rattle.http_wire.specs.HeadMeaning.{ReadsHead}
use Rattle.http_wire.specs.declared.messages.BodyRead.TheVariants.{More as LessBody, Whole as WholeBody, Bad as BadBody, TooLarge as LargeBody}
use Rattle.http_wire.specs.declared.messages.Framing.{Framing}
use Rattle.http_wire.specs.declared.messages.Framing.TheVariants.{Sized, Chunked}
use Rattle.http_wire.specs.declared.messages.Head.{Head}
use Rattle.http_wire.specs.declared.messages.HeadRead.{HeadRead}
use Rattle.http_wire.specs.declared.messages.HeadRead.TheVariants.{More, Whole, Bad, TooLarge, NotImplemented}
use Rattle.http_wire.specs.declared.messages.Request.{Request}
use Rattle.http_front.specs.declared.request_body.Coming.{Coming}
use Rattle.http_front.specs.declared.request_body.Coming.TheVariants.{NoMore, Cut, Asked, Refused}

-- the most bytes of a body, and the most requests of a connection
abbrev pub most_body : ℕ
most_body = 65536

abbrev pub most_requests : ℕ
most_requests = 100

-- the connection ends behind the request of this number: its head says so, or it is the hundredth
abbrev pub is_last : ℕ → Head → Bool
is_last number h = h.last || number == most_requests

abbrev pub request_of : ℕ → Head → List ℕ → Request
request_of number h body = record { method = h.method; target = h.target; path = h.path; body = body; head_only = h.head_only; last = is_last number h }

-- what the bytes behind a head come to whose body has so many bytes, and what stands behind that
abbrev pub ComesSized : ℕ → Head → ℕ → List ℕ → Coming → List ℕ → Type 0
ComesSized number h size behind NoMore rest = ⊥
ComesSized number h size behind Cut rest = (size ≤ most_body) × (length behind < size)
ComesSized number h size behind (Asked r) rest = (size ≤ most_body) × (size ≤ length behind) × (r ≡ request_of number h (take size behind)) × (rest ≡ drop size behind)
ComesSized number h size behind (Refused status) rest = (most_body < size) × (status ≡ 413)

-- the same of a body in chunks
abbrev pub ComesChunked : ℕ → Head → List ℕ → Coming → List ℕ → Type 0
ComesChunked number h behind NoMore rest = ⊥
ComesChunked number h behind Cut rest = ReadsBody behind LessBody
ComesChunked number h behind (Asked r) rest = (body : List ℕ) × (size : ℕ) × ReadsBody behind (WholeBody body size) × (r ≡ request_of number h body) × (rest ≡ drop size behind)
ComesChunked number h behind (Refused status) rest = (ReadsBody behind BadBody × (status ≡ 400)) ⊎ (ReadsBody behind LargeBody × (status ≡ 413))

abbrev pub ComesBehind : ℕ → Head → Framing → List ℕ → Coming → List ℕ → Type 0
ComesBehind number h (Sized size) behind coming rest = ComesSized number h size behind coming rest
ComesBehind number h Chunked behind coming rest = ComesChunked number h behind coming rest

-- what bytes come to whose head is read so
abbrev pub ComesFrom : ℕ → List ℕ → HeadRead → Coming → List ℕ → Type 0
ComesFrom number bytes More coming rest = coming ≡ Cut
ComesFrom number bytes (Whole h) coming rest = ComesBehind number h h.framing (drop h.length bytes) coming rest
ComesFrom number bytes Bad coming rest = coming ≡ Refused 400
ComesFrom number bytes TooLarge coming rest = coming ≡ Refused 431
ComesFrom number bytes NotImplemented coming rest = coming ≡ Refused 501

-- some bytes come to this, and the rest stands behind it
pub record ComesByHead (number : ℕ) (bytes : List ℕ) (coming : Coming) (rest : List ℕ) : Type 0 where
  pub some : 0 < length bytes
  pub read : HeadRead
  pub reads : ReadsHead bytes read
  pub comes : ComesFrom number bytes read coming rest

-- What bytes behind which nothing comes come to as the request of this number, from 1: nothing more, less than a request, a request with what stands behind
-- it, or a refusal.
abbrev pub Comes : ℕ → List ℕ → Coming → List ℕ → Type 0
Comes number bytes NoMore rest = bytes ≡ []
Comes number bytes Cut rest = ComesByHead number bytes Cut rest
Comes number bytes (Asked r) rest = ComesByHead number bytes (Asked r) rest
Comes number bytes (Refused status) rest = ComesByHead number bytes (Refused status) rest

-- The bytes ask for these requests, the first of which has this number, and the rest stands behind them. Behind one that ends the connection none is asked for.
abbrev pub Asks : ℕ → List ℕ → List Request → List ℕ → Type 0
Asks number bytes [] rest = rest ≡ bytes
Asks number bytes (r ∷ rs) rest = (behind : List ℕ) × Comes number bytes (Asked r) behind × (r.last ≡ true → rs ≡ []) × Asks (number + 1) behind rs rest
