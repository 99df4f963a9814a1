-- Steps of the bytes of a connection, one behind the other.
use Rattle.std.proofs.Common.{◌≡◌, ◌∙◌, ℕ, ◌<◌, ◌≤◌, List, [], ◌++◌, length, take, drop, true, false, Some, None, refl, sym, ap, subst, arith, append_assoc, append-nil, length-append, take-append-drop}
use Rattle.std.proofs.lemmas.List.{drop-append-le}
use Rattle.std.proofs.Math.Seq.{drop-append_seam}
use Rattle.std.specs.declared.option.Option.{Option}
use Rattle.std.specs.Io.KnownBytes.{Appends, Consumes, IsAtEnd, Keeps}
use Rattle.std.proofs.KnownBytes.{Appends-nil, Appends-trans, Consumes-kept, Consumes-nil, Consumes-trans}
use Rattle.http_wire.specs.declared.messages.Request.{Request}
use Rattle.http_front.specs.declared.connection.ConnectionEnd.{ConnectionEnd}
use Rattle.http_front.specs.declared.connection.ConnectionEnd.TheVariants.{EndOfInput, Closed, Truncated, ReadFault, WriteFault, NoMemory}
use Rattle.http_front.specs.declared.request_body.Coming.{Coming}
use Rattle.http_front.specs.declared.request_body.Coming.TheVariants.{NoMore, Cut, Asked, Refused}
use Rattle.http_front.specs.Flows.{AppendsFront, EndsWith, Flow, HasCome, HasEnded, HasRead, HasSent, IsMore, Stops, TellsAll, Waits}

pub waits_nothing : (s : Flow) → Waits s s
waits_nothing s = record {
  read = record { piece = []; consumed = Consumes-nil s.left; is = sym (append-nil s.pending) };
  sent = record { sent = []; appended = Appends-nil s.written; is = refl };
}

read_on : {a b c : Flow} → HasRead a b → HasRead b c → HasRead a c
read_on {a} {b} {c} first next = record {
  piece = first.piece ++ next.piece;
  consumed = Consumes-trans a.left b.left c.left first.piece next.piece first.consumed next.consumed;
  is = next.is ∙ ap (λ (t : List ℕ). t ++ next.piece) first.is ∙ append_assoc a.pending first.piece next.piece;
}

sent_on : {a b c : Flow} {unsent : List ℕ} → HasSent a b b.texts → HasSent b c unsent → HasSent a c unsent
sent_on {a} {b} {c} {unsent} first next = record {
  sent = first.sent ++ next.sent;
  appended = Appends-trans a.written b.written c.written first.sent next.sent first.appended next.appended;
  is = first.is ∙ ap (λ (t : List ℕ). first.sent ++ t) next.is ∙ sym (append_assoc first.sent next.sent unsent);
}

pub waits_on : {a b c : Flow} → Waits a b → Waits b c → Waits a c
waits_on first next = record { read = read_on first.read next.read; sent = sent_on first.sent next.sent }

-- a stop behind a wait, for another reason
pub stops_behind : {a b : Flow} (c : Flow) (P Q : List ℕ → Type 0) (end : ConnectionEnd) → Waits a b → ((piece : List ℕ) → c.pending ≡ b.pending ++ piece → P c.pending → Q c.pending)
    → Stops P end b c → Stops Q end a c
stops_behind {a} {b} c P Q ReadFault first reason (next, all, is) = (waits_on first next, all, reason next.read.piece next.read.is is)
stops_behind {a} {b} c P Q WriteFault first reason (read, (unsent, sent)) = (read_on first.read read, (unsent, sent_on first.sent sent))
stops_behind {a} {b} c P Q NoMemory first reason ((lost, consumed), sent) =
    ((first.read.piece ++ lost, Consumes-trans a.left b.left c.left first.read.piece lost first.read.consumed consumed), sent_on first.sent sent)
stops_behind {a} {b} c P Q EndOfInput first reason none = absurd none
stops_behind {a} {b} c P Q Closed first reason none = absurd none
stops_behind {a} {b} c P Q Truncated first reason none = absurd none

-- no memory behind a wait
pub lacks_memory : {a b : Flow} → Waits a b → Stops (λ bytes. Unit {0}) NoMemory a b
lacks_memory first = ((first.read.piece, first.read.consumed), first.sent)

-- what was waited for is refused
pub refused_here : {a b : Flow} (P : List ℕ → Coming → List ℕ → Type 0) (status : ℕ) → Waits a b → P b.pending (Refused status) b.pending → HasCome P (Refused status) a b
refused_here {a} {b} P status first is =
    record { piece = first.read.piece; consumed = first.read.consumed; comes = subst (λ (t : List ℕ). P t (Refused status) b.pending) first.read.is is; ended = tt; sent = first.sent }

-- what was waited for is a request, which is taken
pub asked_here : {a b c : Flow} (P : List ℕ → Coming → List ℕ → Type 0) (r : Request) → Waits a b → c.left ≡ b.left → c.written ≡ b.written → c.texts ≡ b.texts → P b.pending (Asked r) c.pending
    → HasCome P (Asked r) a c
asked_here {a} {b} {c} P r first left written texts is = record {
  piece = first.read.piece;
  consumed = subst (λ (t : Option (List ℕ)). Consumes a.left t first.read.piece) (sym left) first.read.consumed;
  comes = subst (λ (t : List ℕ). P t (Asked r) c.pending) first.read.is is;
  ended = tt;
  sent = record {
    sent = first.sent.sent;
    appended = subst (λ (t : Option (List ℕ)). Appends a.written t first.sent.sent) (sym written) first.sent.appended;
    is = first.sent.is ∙ ap (λ (t : List ℕ). first.sent.sent ++ t) (sym texts);
  };
}

pub all_on : (a b : Option (List ℕ)) (bs cs : List ℕ) → Consumes a b bs → TellsAll b cs → TellsAll a (bs ++ cs)
all_on None b bs cs consumed all = tt
all_on (Some x) None bs cs consumed all = absurd consumed
all_on (Some x) (Some y) bs cs consumed all = consumed ∙ ap (λ (t : List ℕ). bs ++ t) all

ends_on : (coming : Coming) (a b : Option (List ℕ)) (bs cs texts : List ℕ) → Consumes a b bs → EndsWith coming b cs texts → EndsWith coming a (bs ++ cs) texts
ends_on NoMore a b bs cs texts consumed (all, none) = (all_on a b bs cs consumed all, none)
ends_on Cut a b bs cs texts consumed (all, none) = (all_on a b bs cs consumed all, none)
ends_on (Asked r) a b bs cs texts consumed ended = tt
ends_on (Refused status) a b bs cs texts consumed ended = tt

-- what comes behind a wait
pub come_behind : {a b c : Flow} (P Q : List ℕ → Coming → List ℕ → Type 0) (coming : Coming) → Waits a b
    → ((piece : List ℕ) → P (b.pending ++ piece) coming c.pending → Q (b.pending ++ piece) coming c.pending) → HasCome P coming b c → HasCome Q coming a c
come_behind {a} {b} {c} P Q coming first weaker next = record {
  piece = first.read.piece ++ next.piece;
  consumed = Consumes-trans a.left b.left c.left first.read.piece next.piece first.read.consumed next.consumed;
  comes =
      subst (λ (t : List ℕ). Q t coming c.pending) (ap (λ (t : List ℕ). t ++ next.piece) first.read.is ∙ append_assoc a.pending first.read.piece next.piece)
      (weaker next.piece next.comes);
  ended = ends_on coming a.left b.left first.read.piece next.piece c.texts first.read.consumed next.ended;
  sent = sent_on first.sent next.sent;
}

-- a front by its length
pub front_of_length : (a b : Option (List ℕ)) (text : List ℕ) (count : ℕ) → Appends a b (take count text) → AppendsFront a b text
front_of_length a b text count wrote = (take count text, drop count text, wrote, sym (take-append-drop count text))

pub sent_by_length : (a b : Flow) (count : ℕ) → Appends a.written b.written (take count a.texts) → HasSent a b (drop count a.texts)
sent_by_length a b count wrote = record { sent = take count a.texts; appended = wrote; is = sym (take-append-drop count a.texts) }

-- all texts were sent
pub sent_all : (a b : Flow) → Appends a.written b.written a.texts → b.texts ≡ [] → HasSent a b b.texts
sent_all a b wrote none = record { sent = a.texts; appended = wrote; is = sym (ap (λ (t : List ℕ). a.texts ++ t) none ∙ append-nil a.texts) }

-- ---- one read behind one write

pub filled : {s t : Flow} (piece : List ℕ) → Appends s.written t.written s.texts → t.texts ≡ [] → 0 < length piece → Consumes s.left t.left piece → t.pending ≡ s.pending ++ piece
    → IsMore true s t
filled {s} {t} piece wrote none some consumed is =
    (record { read = record { piece = piece; consumed = consumed; is = is }; sent = sent_all s t wrote none }, omega (arith, some, ap length is, length-append s.pending piece))

ends_all : (left : Option (List ℕ)) → IsAtEnd left → TellsAll left []
ends_all None ends = tt
ends_all (Some xs) ends = ends

read_none : {s t : Flow} → Keeps s.left t.left → t.pending ≡ s.pending → HasRead s t
read_none {s} {t} kept same = record { piece = []; consumed = Consumes-kept s.left s.left t.left [] (Consumes-nil s.left) kept; is = same ∙ sym (append-nil s.pending) }

pub nothing_left : {s t : Flow} → Appends s.written t.written s.texts → t.texts ≡ [] → IsAtEnd s.left → Keeps s.left t.left → t.pending ≡ s.pending → IsMore false s t
unfolding read_none
nothing_left {s} {t} wrote none ends kept same =
    (record { waits = record { read = read_none kept same; sent = sent_all s t wrote none }; all = ends_all s.left ends; none = none }, same)

pub read_failed : {s t : Flow} → Appends s.written t.written s.texts → t.texts ≡ [] → Keeps s.left t.left → t.pending ≡ s.pending → Stops (λ bytes. bytes ≡ s.pending) ReadFault s t
read_failed {s} {t} wrote none kept same = (record { read = read_none kept same; sent = sent_all s t wrote none }, none, same)

pub no_room : {s t : Flow} (lost : List ℕ) → Appends s.written t.written s.texts → t.texts ≡ [] → Consumes s.left t.left lost → Stops (λ bytes. Unit {0}) NoMemory s t
no_room {s} {t} lost wrote none consumed = ((lost, consumed), sent_all s t wrote none)

pub write_failed : {s t : Flow} (count : ℕ) → Appends s.written t.written (take count s.texts) → t.left ≡ s.left → t.pending ≡ s.pending → Stops (λ bytes. Unit {0}) WriteFault s t
write_failed {s} {t} count wrote left same = (
  record { piece = []; consumed = subst (λ (b : Option (List ℕ)). Consumes s.left b []) (sym left) (Consumes-nil s.left); is = same ∙ sym (append-nil s.pending) },
  (drop count s.texts, sent_by_length s t count wrote),
)

-- ---- the end of the input

pub ended_behind : {a b c : Flow} → Waits a b → HasEnded b c → HasEnded a c
unfolding waits_on read_on
ended_behind {a} {b} {c} first next = record {
  waits = waits_on first next.waits;
  all = all_on a.left b.left first.read.piece next.waits.read.piece first.read.consumed next.all;
  none = next.none;
}

pub come_at_end : {a b : Flow} (P : List ℕ → Coming → List ℕ → Type 0) → HasEnded a b → P b.pending Cut b.pending → HasCome P Cut a b
come_at_end {a} {b} P ended is = record {
  piece = ended.waits.read.piece;
  consumed = ended.waits.read.consumed;
  comes = subst (λ (t : List ℕ). P t Cut b.pending) ended.waits.read.is is;
  ended = (ended.all, ended.none);
  sent = ended.waits.sent;
}

pub nothing_comes : {a b : Flow} (P : List ℕ → Coming → List ℕ → Type 0) → HasEnded a b → P b.pending NoMore b.pending → HasCome P NoMore a b
nothing_comes {a} {b} P ended is = record {
  piece = ended.waits.read.piece;
  consumed = ended.waits.read.consumed;
  comes = subst (λ (t : List ℕ). P t NoMore b.pending) ended.waits.read.is is;
  ended = (ended.all, ended.none);
  sent = ended.waits.sent;
}

-- bytes are still pending behind a wait
pub some_still : {a b : Flow} → Waits a b → 0 < length a.pending → 0 < length b.pending
some_still {a} {b} first some = omega (arith, some, ap length first.read.is, length-append a.pending first.read.piece)

pub at_least : {a b : Flow} → Waits a b → length a.pending ≤ length b.pending
at_least {a} {b} first = omega (arith, ap length first.read.is, length-append a.pending first.read.piece)

-- a reader of what is behind a place has had all of it up to this read
pub told_more : (at n : ℕ) (pending piece pending' told : List ℕ) → at ≤ length pending → pending' ≡ pending ++ piece → n ≡ length pending → told ≡ drop at pending
    → drop at pending' ≡ told ++ drop n pending'
told_more at n pending piece pending' told within is all same =
    ap (drop at) is ∙ drop-append-le at pending piece within
    ∙ sym (ap (λ (t : List ℕ). t ++ drop n pending') same ∙ ap (λ (t : List ℕ). drop at pending ++ t) (ap (drop n) is ∙ ap (λ (k : ℕ). drop k (pending ++ piece)) all ∙ drop-append_seam pending piece))
