-- What a head asks for (RFC 9112, sections 3.2, 6 and 9.6), and what is answered to it (our own).
use Rattle.std.specs.Prelude.{◌≡◌, ℕ, ◌⊎◌, Bool, true, false, not, ◌||◌, ◌&&◌, ◌==◌, if◌then◌else◌, List, [], ◌∷◌, length, codes, bytes_eq, Option, Some, None, map, IsUtf8}
use Rattle.httparse.specs.Grammar.{IsToken, RequestHead}
use Rattle.httparse.specs.declared.spans.RequestSpans.{RequestSpans}
use Rattle.httparse.specs.declared.spans.HeaderSpan.{HeaderSpan}
use Rattle.httparse.specs.Spans.{span_bytes, header_bytes}
use Rattle.fault_count.specs.DecimalText.{decimal_of}
use Rattle.http_wire.specs.FieldValues.{Line, lines_of, values_named, is_same_word, has_item_named}
use Rattle.http_wire.specs.TargetPath.{IsPath}
use Rattle.http_wire.specs.Heads.{IsHead, BeginsHead, EndsInside, GoesOn, IsFront}
use Rattle.http_wire.specs.declared.messages.Framing.TheVariants.{Sized, Chunked}
use Rattle.http_wire.specs.declared.messages.Head.{Head}
use Rattle.http_wire.specs.declared.messages.HeadRead.{HeadRead}
use Rattle.http_wire.specs.declared.messages.HeadRead.TheVariants.{More, Whole, Bad, TooLarge, NotImplemented}
use Rattle.http_wire.specs.declared.head_meaning.Plan.{Plan}
use Rattle.http_wire.specs.declared.head_meaning.Plan.TheVariants as plan

abbrev pub lacks_host : ℕ → List Line → Bool
lacks_host minor lines = minor == 1 && not (length (values_named (codes "host") lines) == 1)

-- HTTP/1.1 without one Host
abbrev pub has_bad_host : RequestHead → Bool
has_bad_host h = lacks_host h.minor (lines_of h)

-- how the body comes, from the values of Content-Length and of Transfer-Encoding
abbrev pub sized_by : Option ℕ → List (List ℕ) → Plan
sized_by None codings = plan.Bad
sized_by (Some n) [] = plan.Known (Sized n)
sized_by (Some n) (coding ∷ codings) = plan.Bad

abbrev pub coded_by : List (List ℕ) → Plan
coded_by [] = plan.Known (Sized 0)
coded_by (coding ∷ []) = if is_same_word coding (codes "chunked") then plan.Known Chunked else plan.Other
coded_by (coding ∷ next ∷ codings) = plan.Other

abbrev pub plan_by : List (List ℕ) → List (List ℕ) → Plan
plan_by [] codings = coded_by codings
plan_by (value ∷ []) codings = sized_by (decimal_of value) codings
plan_by (value ∷ next ∷ values) codings = plan.Bad

abbrev pub plan_of_lines : List Line → Plan
plan_of_lines lines = plan_by (values_named (codes "content-length") lines) (values_named (codes "transfer-encoding") lines)

abbrev pub plan_of : RequestHead → Plan
plan_of h = plan_of_lines (lines_of h)

-- the connection ends after the request
abbrev pub ends_connection : ℕ → List Line → Bool
ends_connection minor lines = minor == 0 || has_item_named (codes "connection") (codes "close") lines

abbrev pub is_last : RequestHead → Bool
is_last h = ends_connection h.minor (lines_of h)

-- the head is one that no server may take
abbrev pub IsBad : RequestHead → Type 0
IsBad h = (has_bad_host h ≡ true) ⊎ ((path : List ℕ) → ¬ (IsPath h.target path)) ⊎ (plan_of h ≡ plan.Bad)

-- what is told of a head of that length
pub record Tells (length : ℕ) (h : RequestHead) (head : Head) : Type 0 where
  pub host : has_bad_host h ≡ false
  pub method : head.method ≡ h.method
  pub target : head.target ≡ h.target
  pub path : IsPath h.target head.path
  pub head_only : head.head_only ≡ bytes_eq h.method (codes "HEAD")
  pub last : head.last ≡ is_last h
  pub length_is : head.length ≡ length
  pub framing : plan_of h ≡ plan.Known head.framing

-- the answer to a head of that length
abbrev pub AnswersHead : ℕ → RequestHead → HeadRead → Type 0
AnswersHead length h More = ⊥
AnswersHead length h (Whole head) = Tells length h head
AnswersHead length h Bad = IsBad h
AnswersHead length h TooLarge = ⊥
AnswersHead length h NotImplemented = ¬ (IsBad h) × (plan_of h ≡ plan.Other)

-- the answer where no head is
abbrev pub AnswersNone : List ℕ → HeadRead → Type 0
AnswersNone front More = ⊥
AnswersNone front (Whole head) = ⊥
AnswersNone front Bad = ¬ (BeginsHead front) × ¬ (EndsInside front)
AnswersNone front TooLarge = ((h : RequestHead) → ¬ (IsHead front h)) × (BeginsHead front ⊎ EndsInside front)
AnswersNone front NotImplemented = ⊥

-- the answer to the shortest bytes that do not go on
abbrev pub Answers : List ℕ → HeadRead → Type 0
Answers front r = ((h : RequestHead) × IsHead front h × AnswersHead (length front) h r) ⊎ AnswersNone front r

-- the spans are those of the head's parts
pub record Shows (bytes : List ℕ) (parts : RequestSpans) (fields : List HeaderSpan) (h : RequestHead) : Type 0 where
  pub method : span_bytes bytes parts.method ≡ h.method
  pub token : IsToken h.method
  pub target : span_bytes bytes parts.path ≡ h.target
  pub text : IsUtf8 h.target
  pub version : parts.version ≡ h.minor
  pub fields_are : map (header_bytes bytes) fields ≡ lines_of h

-- What the bytes begin with. The two cases exclude each other, since each front of what goes on goes on.
abbrev pub ReadsHead : List ℕ → HeadRead → Type 0
ReadsHead bytes r = (GoesOn bytes × (r ≡ More)) ⊎ ((front : List ℕ) × IsFront front bytes × Answers front r)
