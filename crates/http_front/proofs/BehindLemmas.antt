-- Bytes that come behind change nothing of what bytes come to.
use Rattle.std.proofs.Common.{◌≡◌, ◌∙◌, ℕ, ◌+◌, ◌≤◌, List, [], ◌∷◌, ◌++◌, length, drop, true, false, refl, sym, ap, subst, inl, inr, arith, append_assoc, length-append}
use Rattle.std.specs.Prelude.{Bool, ◌||◌, ◌==◌}
use Rattle.std.proofs.lemmas.Bool.{false≢true}
use Rattle.std.proofs.lemmas.Bool.Decides.{nat_tests}
use Rattle.http.specs.StatusCode.{IsStatusCode}
use Rattle.std.proofs.lemmas.List.{take-append-le, drop-append-le}
use Rattle.std.proofs.lemmas.List.Elements.{All-head, All-tail}
use Rattle.http_wire.proofs.ContinuationLemmas.{front_longer}
use Rattle.http_wire.specs.BodyReading.{ReadsBody}
use Rattle.http_wire.specs.HeadMeaning.{ReadsHead}
use Rattle.http_wire.specs.declared.messages.BodyRead.TheVariants.{Whole as WholeBody}
use Rattle.http_wire.specs.declared.messages.Framing.{Framing}
use Rattle.http_wire.specs.declared.messages.Framing.TheVariants.{Sized, Chunked}
use Rattle.http_wire.specs.declared.messages.Head.{Head}
use Rattle.http_wire.specs.declared.messages.HeadRead.{HeadRead}
use Rattle.http_wire.specs.declared.messages.HeadRead.TheVariants.{More, Whole, Bad, TooLarge, NotImplemented}
use Rattle.http_wire.specs.declared.messages.Request.{Request}
use Rattle.http_front.specs.declared.request_body.Coming.{Coming}
use Rattle.http_front.specs.declared.request_body.Coming.TheVariants.{NoMore, Cut, Asked, Refused}
use Rattle.http_front.specs.Connections.{GoOn}
use Rattle.http_front.specs.Requests.{Asks, Comes, ComesBehind, ComesByHead, ComesFrom, is_last}

pub head_behind : (bytes more : List ℕ) (h : Head) → ReadsHead bytes (Whole h) → ReadsHead (bytes ++ more) (Whole h)
head_behind bytes more h (inl m) = absurd (cc m.1)
head_behind bytes more h (inr f) = inr (f.0, front_longer f.0 bytes more f.1, f.2)

-- a whole head is a front of the bytes
pub head_fits : (bytes : List ℕ) (h : Head) → ReadsHead bytes (Whole h) → h.length ≤ length bytes
head_fits bytes h (inl m) = absurd (cc m.1)
head_fits bytes h (inr (front, is, inl a)) = omega (arith, a.2.length_is, ap length is.is, length-append front is.rest)
head_fits bytes h (inr (front, is, inr none)) = absurd none

body_behind : (bytes more body : List ℕ) (size : ℕ) → ReadsBody bytes (WholeBody body size) → ReadsBody (bytes ++ more) (WholeBody body size)
body_behind bytes more body size (inl m) = absurd (cc m.1)
body_behind bytes more body size (inr f) =
    inr (f.0, record { rest = f.1.rest ++ more; is = ap (λ (t : List ℕ). t ++ more) f.1.is ∙ append_assoc f.0 f.1.rest more; ends = f.1.ends; before = f.1.before }, f.2)

-- a whole body is a front of the bytes
pub body_fits : (bytes body : List ℕ) (size : ℕ) → ReadsBody bytes (WholeBody body size) → size ≤ length bytes
body_fits bytes body size (inl m) = absurd (cc m.1)
body_fits bytes body size (inr f) = omega (arith, f.2.1, ap length f.1.is, length-append f.0 f.1.rest)

comes_behind : (number : ℕ) (h : Head) (framing : Framing) (behind more : List ℕ) (r : Request) (rest : List ℕ) → ComesBehind number h framing behind (Asked r) rest
    → ComesBehind number h framing (behind ++ more) (Asked r) (rest ++ more)
comes_behind number h (Sized size) behind more r rest (small, enough, is, left) = (
  small,
  omega (arith, length-append behind more),
  rw (take-append-le size behind more enough) is,
  ap (λ (t : List ℕ). t ++ more) left ∙ sym (drop-append-le size behind more enough),
)
comes_behind number h Chunked behind more r rest (body, size, reads, is, left) =
    (body, size, body_behind behind more body size reads, is, ap (λ (t : List ℕ). t ++ more) left ∙ sym (drop-append-le size behind more (body_fits behind body size reads)))

from_behind : (number : ℕ) (bytes more : List ℕ) (read : HeadRead) (r : Request) (rest : List ℕ) → ReadsHead bytes read → ComesFrom number bytes read (Asked r) rest
    → ReadsHead (bytes ++ more) read × ComesFrom number (bytes ++ more) read (Asked r) (rest ++ more)
from_behind number bytes more More r rest reads comes = absurd (cc comes)
from_behind number bytes more (Whole h) r rest reads comes = (
  head_behind bytes more h reads,
  rw (drop-append-le h.length bytes more (head_fits bytes h reads)) (comes_behind number h h.framing (drop h.length bytes) more r rest comes),
)
from_behind number bytes more Bad r rest reads comes = absurd (cc comes)
from_behind number bytes more TooLarge r rest reads comes = absurd (cc comes)
from_behind number bytes more NotImplemented r rest reads comes = absurd (cc comes)

pub asked_behind : (number : ℕ) (bytes more : List ℕ) (r : Request) (rest : List ℕ) → Comes number bytes (Asked r) rest → Comes number (bytes ++ more) (Asked r) (rest ++ more)
asked_behind number bytes more r rest c =
    let both = from_behind number bytes more c.read r rest c.reads c.comes in
    record { some = omega (arith, c.some, length-append bytes more); read = c.read; reads = both.0; comes = both.1 }

pub asks_behind : (number : ℕ) (bytes more : List ℕ) (rs : List Request) (rest : List ℕ) → Asks number bytes rs rest → Asks number (bytes ++ more) rs (rest ++ more)
asks_behind number bytes more [] rest asks = ap (λ (t : List ℕ). t ++ more) asks
asks_behind number bytes more (r ∷ rs) rest (behind, comes, last, asks) =
    (behind ++ more, asked_behind number bytes more r behind comes, last, asks_behind (number + 1) behind more rs rest asks)

-- one request more
pub asks_one_more : (number : ℕ) (bytes : List ℕ) (rs : List Request) (rest : List ℕ) (n : ℕ) (r : Request) (behind : List ℕ) → Asks number bytes rs rest → GoOn rs → n ≡ length rs + number
    → Comes n rest (Asked r) behind → Asks number bytes (rs ++ r ∷ []) behind
asks_one_more number bytes [] rest n r behind asks going is comes =
    let n_is : n ≡ number = omega (arith, is) in
    (behind, subst (λ (t : List ℕ). Comes number t (Asked r) behind) asks (subst (λ (k : ℕ). Comes k rest (Asked r) behind) n_is comes), λ last. refl, refl)
asks_one_more number bytes (x ∷ xs) rest n r behind (between, first, last, asks) going is comes = (
  between,
  first,
  λ ends. absurd (false≢true (sym (All-head (λ (q : Request). q.last ≡ false) x xs going) ∙ ends)),
  asks_one_more (number + 1) between xs rest n r behind asks (All-tail (λ (q : Request). q.last ≡ false) x xs going) (omega (arith, is)) comes,
)

-- ---- what stands behind matters for a request alone

abbrev pub IsNoRequest : Coming → Type 0
IsNoRequest NoMore = Unit {0}
IsNoRequest Cut = Unit {0}
IsNoRequest (Asked r) = ⊥
IsNoRequest (Refused status) = Unit {0}

behind_free : (number : ℕ) (h : Head) (framing : Framing) (behind : List ℕ) (coming : Coming) (rest rest' : List ℕ) → IsNoRequest coming → ComesBehind number h framing behind coming rest
    → ComesBehind number h framing behind coming rest'
behind_free number h (Sized size) behind NoMore rest rest' other comes = absurd comes
behind_free number h (Sized size) behind Cut rest rest' other comes = comes
behind_free number h (Sized size) behind (Asked r) rest rest' other comes = absurd other
behind_free number h (Sized size) behind (Refused status) rest rest' other comes = comes
behind_free number h Chunked behind NoMore rest rest' other comes = absurd comes
behind_free number h Chunked behind Cut rest rest' other comes = comes
behind_free number h Chunked behind (Asked r) rest rest' other comes = absurd other
behind_free number h Chunked behind (Refused status) rest rest' other comes = comes

from_free : (number : ℕ) (bytes : List ℕ) (read : HeadRead) (coming : Coming) (rest rest' : List ℕ) → IsNoRequest coming → ComesFrom number bytes read coming rest → ComesFrom number bytes read coming rest'
from_free number bytes More coming rest rest' other comes = comes
from_free number bytes (Whole h) coming rest rest' other comes = behind_free number h h.framing (drop h.length bytes) coming rest rest' other comes
from_free number bytes Bad coming rest rest' other comes = comes
from_free number bytes TooLarge coming rest rest' other comes = comes
from_free number bytes NotImplemented coming rest rest' other comes = comes

head_free : (number : ℕ) (bytes : List ℕ) (coming : Coming) (rest rest' : List ℕ) → IsNoRequest coming → ComesByHead number bytes coming rest → ComesByHead number bytes coming rest'
head_free number bytes coming rest rest' other c = record { some = c.some; read = c.read; reads = c.reads; comes = from_free number bytes c.read coming rest rest' other c.comes }

pub rest_free : (number : ℕ) (bytes : List ℕ) (coming : Coming) (rest rest' : List ℕ) → IsNoRequest coming → Comes number bytes coming rest → Comes number bytes coming rest'
rest_free number bytes NoMore rest rest' other comes = comes
rest_free number bytes Cut rest rest' other comes = head_free number bytes Cut rest rest' other comes
rest_free number bytes (Asked r) rest rest' other comes = absurd other
rest_free number bytes (Refused status) rest rest' other comes = head_free number bytes (Refused status) rest rest' other comes

-- ---- the hundredth request is the last one

not_hundredth : (a : Bool) (n : ℕ) → n ≤ 100 → (a || (n == 100)) ≡ false → n + 1 ≤ 100
not_hundredth true n few going = absurd (false≢true (sym going))
not_hundredth false n few going = grind (arith, nat_tests)

last_of : (number : ℕ) (h : Head) (framing : Framing) (behind : List ℕ) (r : Request) (rest : List ℕ) → ComesBehind number h framing behind (Asked r) rest → r.last ≡ is_last number h
last_of number h (Sized size) behind r rest (small, enough, is, left) = ap (λ (q : Request). q.last) is
last_of number h Chunked behind r rest (body, size, reads, is, left) = ap (λ (q : Request). q.last) is

last_from : (number : ℕ) (bytes : List ℕ) (read : HeadRead) (r : Request) (rest : List ℕ) → number ≤ 100 → ComesFrom number bytes read (Asked r) rest → r.last ≡ false → number + 1 ≤ 100
last_from number bytes More r rest few comes going = absurd (cc comes)
last_from number bytes (Whole h) r rest few comes going =
    not_hundredth h.last number few (sym (last_of number h h.framing (drop h.length bytes) r rest comes) ∙ going)
last_from number bytes Bad r rest few comes going = absurd (cc comes)
last_from number bytes TooLarge r rest few comes going = absurd (cc comes)
last_from number bytes NotImplemented r rest few comes going = absurd (cc comes)

pub hundredth : (number : ℕ) (bytes : List ℕ) (r : Request) (rest : List ℕ) → number ≤ 100 → Comes number bytes (Asked r) rest → r.last ≡ false → number + 1 ≤ 100
hundredth number bytes r rest few c going = last_from number bytes c.read r rest few c.comes going

-- ---- statuses of refusals

status_behind : (number : ℕ) (h : Head) (framing : Framing) (behind : List ℕ) (status : ℕ) (rest : List ℕ) → ComesBehind number h framing behind (Refused status) rest → IsStatusCode status
status_behind number h (Sized size) behind status rest (large, is) = rw is (omega arith, omega arith)
status_behind number h Chunked behind status rest (inl (bad, is)) = rw is (omega arith, omega arith)
status_behind number h Chunked behind status rest (inr (large, is)) = rw is (omega arith, omega arith)

status_from : (number : ℕ) (bytes : List ℕ) (read : HeadRead) (status : ℕ) (rest : List ℕ) → ComesFrom number bytes read (Refused status) rest → IsStatusCode status
status_from number bytes More status rest comes = absurd (cc comes)
status_from number bytes (Whole h) status rest comes = status_behind number h h.framing (drop h.length bytes) status rest comes
status_from number bytes Bad status rest comes = let is : status ≡ 400 = cc comes in rw is (omega arith, omega arith)
status_from number bytes TooLarge status rest comes = let is : status ≡ 431 = cc comes in rw is (omega arith, omega arith)
status_from number bytes NotImplemented status rest comes = let is : status ≡ 501 = cc comes in rw is (omega arith, omega arith)

pub refused_status : (number : ℕ) (bytes : List ℕ) (status : ℕ) (rest : List ℕ) → Comes number bytes (Refused status) rest → IsStatusCode status
refused_status number bytes status rest c = status_from number bytes c.read status rest c.comes

-- ---- some bytes come to something

no_nothing : (number : ℕ) (bytes : List ℕ) (read : HeadRead) (rest : List ℕ) → ComesFrom number bytes read NoMore rest → ⊥
no_nothing number bytes More rest comes = cc comes
no_nothing number bytes (Whole h) rest comes = nothing_behind h.framing comes
  where
    nothing_behind : (framing : Framing) → ComesBehind number h framing (drop h.length bytes) NoMore rest → ⊥
    nothing_behind (Sized size) comes = comes
    nothing_behind Chunked comes = comes
no_nothing number bytes Bad rest comes = cc comes
no_nothing number bytes TooLarge rest comes = cc comes
no_nothing number bytes NotImplemented rest comes = cc comes

pub by_head : (number : ℕ) (bytes : List ℕ) (coming : Coming) (rest : List ℕ) → ComesByHead number bytes coming rest → Comes number bytes coming rest
by_head number bytes NoMore rest c = absurd (no_nothing number bytes c.read rest c.comes)
by_head number bytes Cut rest c = c
by_head number bytes (Asked r) rest c = c
by_head number bytes (Refused status) rest c = c
