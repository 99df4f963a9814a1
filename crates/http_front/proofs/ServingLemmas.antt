-- A connection up to a place, and its ends from there.
use Rattle.std.proofs.Common.{◌≡◌, ◌⊎◌, ◌∙◌, ℕ, ◌+◌, ◌≤◌, List, [], ◌∷◌, ◌++◌, length, Result, Ok, Err, true, false, refl, sym, ap, subst, inl, inr, arith, append_assoc, append-nil, length-append}
use Rattle.std.specs.declared.option.Option.{Option}
use Rattle.std.specs.Io.KnownBytes.{Appends, Consumes}
use Rattle.std.proofs.KnownBytes.{Appends-nil, Appends-trans, Consumes-nil, Consumes-trans}
use Rattle.std.proofs.lemmas.Grind.{flat_map-append}
use Rattle.std.proofs.lemmas.List.Elements.{All-append, All-cons, All-nil}
use Rattle.http_wire.specs.ResponseText.{response_text}
use Rattle.http_wire.specs.declared.messages.AnswerStop.{AnswerStop}
use Rattle.http_wire.specs.declared.messages.Answered.{Answered}
use Rattle.http_wire.specs.declared.messages.Request.{Request}
use Rattle.http_front.specs.declared.connection.ConnectionEnd.{ConnectionEnd}
use Rattle.http_front.specs.declared.connection.ConnectionEnd.TheVariants.{EndOfInput, Closed, Truncated, ReadFault, WriteFault, NoMemory}
use Rattle.http_front.specs.declared.request_body.Coming.TheVariants.{NoMore, Cut, Asked, Refused}
use Rattle.http_front.specs.Answers.{Answers, IsAnswerTo, refusal_of, texts_of}
use Rattle.http_front.specs.Connections.{ClosesRefused, Ends, EndsItself, GoOn, HasServed, IsUnfinished, Refuses}
use Rattle.http_front.specs.Flows.{AppendsFront, Closes, Flow, HasCome, HasSent, Stops}
use Rattle.http_front.specs.Requests.{Asks, Comes}
use Rattle.http_front.proofs.FlowLemmas.{all_on}
use Rattle.http_front.proofs.BehindLemmas.{asks_behind, asks_one_more, hundredth, rest_free}

text_of_one : (answer : Answered) → texts_of (answer ∷ []) ≡ response_text answer
text_of_one answer = append-nil (response_text answer)

texts_one_more : (told : List Answered) (answer : Answered) → texts_of (told ++ answer ∷ []) ≡ texts_of told ++ response_text answer
texts_one_more told answer = flat_map-append response_text told (answer ∷ []) ∙ ap (λ (t : List ℕ). texts_of told ++ t) (text_of_one answer)

pub go_on_one_more : (requests : List Request) (r : Request) → GoOn requests → r.last ≡ false → GoOn (requests ++ r ∷ [])
go_on_one_more requests r going last =
    All-append (λ (q : Request). q.last ≡ false) requests (r ∷ []) going (All-cons (λ (q : Request). q.last ≡ false) r [] last (All-nil (λ (q : Request). q.last ≡ false)))

pub length_one_more : (requests : List Request) (r : Request) → length (requests ++ r ∷ []) ≡ length requests + 1
length_one_more requests r = length-append requests (r ∷ [])

pub refused_closes : (written written' : Option (List ℕ)) (text text' : List ℕ) (status : ℕ) (end : ConnectionEnd) → text' ≡ text ++ response_text (refusal_of status) → Closes written written' text' end
    → ClosesRefused written written' text status end
refused_closes written written' text text' status Closed is wrote = subst (λ (t : List ℕ). Appends written written' t) is wrote
refused_closes written written' text text' status WriteFault is wrote = subst (λ (t : List ℕ). AppendsFront written written' t) is wrote
refused_closes written written' text text' status EndOfInput is none = absurd none
refused_closes written written' text text' status Truncated is none = absurd none
refused_closes written written' text text' status ReadFault is none = absurd none
refused_closes written written' text text' status NoMemory is none = absurd none

module _ {A : Type 0} (answers : A → Request → Result Answered AnswerStop → A → Type 0) where
  answers_one_more : (before : A) (rs : List Request) (told : List Answered) (now : A) (r : Request) (answer : Answered) (after : A) → Answers answers before rs told now
      → answers now r (Ok answer) after → IsAnswerTo r answer → Answers answers before (rs ++ r ∷ []) (told ++ answer ∷ []) after
  answers_one_more before [] told now r answer after (none, same) is form =
      (answer, [], after, ap (λ (t : List Answered). t ++ answer ∷ []) none, subst (λ (a : A). answers a r (Ok answer) after) same is, form, (refl, refl))
  answers_one_more before (x ∷ xs) told now r answer after (first, others, between, are, answered, fits, rest) is form =
      (first, others ++ answer ∷ [], between, ap (λ (t : List Answered). t ++ answer ∷ []) are, answered, fits, answers_one_more between xs others now r answer after rest is form)

  -- these requests were asked and answered, and the bytes flow so
  pub record Reached (left written : Option (List ℕ)) (before : A) (s : Flow) (now : A) (requests : List Request) (told : List Answered) : Type 0 where
    pub read : List ℕ
    pub consumed : Consumes left s.left read
    pub asked : Asks 1 read requests s.pending
    pub answered : Answers answers before requests told now
    pub sent : List ℕ
    pub appended : Appends written s.written sent
    pub texts_are : texts_of told ≡ sent ++ s.texts

  pub reached_start : (s : Flow) (before : A) → s.pending ≡ [] → s.texts ≡ [] → Reached s.left s.written before s before [] []
  reached_start s before pending texts =
      record { read = []; consumed = Consumes-nil s.left; asked = pending; answered = (refl, refl); sent = []; appended = Appends-nil s.written; texts_are = sym texts }

  -- bytes were read, and texts were written
  abbrev reached_read : (left written : Option (List ℕ)) (before : A) (s t : Flow) (now : A) (requests : List Request) (told : List Answered) (piece : List ℕ) → Consumes s.left t.left piece
      → t.pending ≡ s.pending ++ piece → HasSent s t t.texts → Reached left written before s now requests told → Reached left written before t now requests told
  reached_read left written before s t now requests told piece consumed is out p = record {
    read = p.read ++ piece;
    consumed = Consumes-trans left s.left t.left p.read piece p.consumed consumed;
    asked = subst (λ (b : List ℕ). Asks 1 (p.read ++ piece) requests b) (sym is) (asks_behind 1 p.read piece requests s.pending p.asked);
    answered = p.answered;
    sent = p.sent ++ out.sent;
    appended = Appends-trans written s.written t.written p.sent out.sent p.appended out.appended;
    texts_are = p.texts_are ∙ ap (λ (b : List ℕ). p.sent ++ b) out.is ∙ sym (append_assoc p.sent out.sent t.texts);
  }

  -- the flow with these bytes pending
  abbrev pub holding : Flow → List ℕ → Flow
  holding t pending = record { left = t.left; written = t.written; pending = pending; texts = t.texts }

  abbrev reached_here : {left written : Option (List ℕ)} {before : A} {s t : Flow} {now : A} {requests : List Request} {told : List Answered} (piece : List ℕ) → Consumes s.left t.left piece
      → HasSent s t t.texts → Reached left written before s now requests told → Reached left written before (holding t (s.pending ++ piece)) now requests told
  reached_here {left} {written} {before} {s} {t} {now} {requests} {told} piece consumed out p =
      reached_read left written before s (holding t (s.pending ++ piece)) now requests told piece consumed refl (record { sent = out.sent; appended = out.appended; is = out.is }) p

  all_written : {left written : Option (List ℕ)} {before : A} {s : Flow} {now : A} {requests : List Request} {told : List Answered} → Reached left written before s now requests told → s.texts ≡ []
      → Appends written s.written (texts_of told)
  all_written {left} {written} {before} {s} {now} {requests} {told} p none =
      subst (λ (t : List ℕ). Appends written s.written t) (sym (p.texts_are ∙ ap (λ (t : List ℕ). p.sent ++ t) none ∙ append-nil p.sent)) p.appended

  front_written : {left written : Option (List ℕ)} {before : A} {s : Flow} {now : A} {requests : List Request} {told : List Answered} → Reached left written before s now requests told
      → AppendsFront written s.written (texts_of told)
  front_written {left} {written} {before} {s} {now} {requests} {told} p = (p.sent, s.texts, p.appended, p.texts_are)

  served : {left written : Option (List ℕ)} {before : A} {s : Flow} {now : A} {requests : List Request} {told : List Answered} (after : A) (written' : Option (List ℕ)) (end : ConnectionEnd)
      → (p : Reached left written before s now requests told) → Ends answers end requests told s.pending left p.read now after written written'
      → HasServed answers left s.left before after written written' end
  served {left} {written} {before} {s} {now} {requests} {told} after written' end p ends = record {
    read = p.read;
    rest = s.pending;
    requests = requests;
    told = told;
    between = now;
    consumed = p.consumed;
    asked = λ more. asks_behind 1 p.read more requests s.pending p.asked;
    answered = p.answered;
    ends = ends;
  }

  -- a connection between two requests, the next of which has this number
  pub record Progress (left written : Option (List ℕ)) (before : A) (s : Flow) (now : A) (number : ℕ) : Type 0 where
    pub requests : List Request
    pub told : List Answered
    pub reached : Reached left written before s now requests told
    pub go_on : GoOn requests
    pub numbered : number ≡ length requests + 1
    pub few : number ≤ 100

  pub progress_start : (s : Flow) (before : A) → s.pending ≡ [] → s.texts ≡ [] → Progress s.left s.written before s before 1
  progress_start s before pending texts = record {
    requests = [];
    told = [];
    reached = reached_start s before pending texts;
    go_on = All-nil (λ (q : Request). q.last ≡ false);
    numbered = refl;
    few = omega arith;
  }

  pub ends_at_nothing : {left written : Option (List ℕ)} {before : A} {s : Flow} {now : A} {number : ℕ} (t : Flow) → Progress left written before s now number → HasCome (Comes number) NoMore s t
      → HasServed answers left t.left before now written t.written EndOfInput
  ends_at_nothing {left} {written} {before} {s} {now} {number} t p h =
      let q = reached_here h.piece h.consumed h.sent p.reached in
      served now t.written EndOfInput q (p.go_on, h.comes, all_on left s.left p.reached.read h.piece p.reached.consumed h.ended.0, refl, all_written q h.ended.1)

  pub ends_inside : {left written : Option (List ℕ)} {before : A} {s : Flow} {now : A} {number : ℕ} (t : Flow) → Progress left written before s now number → HasCome (Comes number) Cut s t
      → HasServed answers left t.left before now written t.written Truncated
  ends_inside {left} {written} {before} {s} {now} {number} t p h =
      let q = reached_here h.piece h.consumed h.sent p.reached in
      let cut : Comes (length p.requests + 1) (s.pending ++ h.piece) Cut [] = subst (λ (n : ℕ). Comes n (s.pending ++ h.piece) Cut []) p.numbered (rest_free number (s.pending ++ h.piece) Cut t.pending [] tt h.comes) in
      served now t.written Truncated q (p.go_on, cut, all_on left s.left p.reached.read h.piece p.reached.consumed h.ended.0, refl, all_written q h.ended.1)

  pub ends_stopped : {left written : Option (List ℕ)} {before : A} {s : Flow} {now : A} {number : ℕ} (t : Flow) (end : ConnectionEnd) → Progress left written before s now number
      → Stops (IsUnfinished number) end s t → HasServed answers left t.left before now written t.written end
  ends_stopped {left} {written} {before} {s} {now} {number} t ReadFault p (waits, none, unfinished) =
      let q = reached_read left written before s t now p.requests p.told waits.read.piece waits.read.consumed waits.read.is waits.sent p.reached in
      served now t.written ReadFault q (p.go_on, subst (λ (n : ℕ). IsUnfinished n t.pending) p.numbered unfinished, refl, all_written q none)
  ends_stopped {left} {written} {before} {s} {now} {number} t WriteFault p (read, (unsent, sent)) =
      let m : Flow = record { left = t.left; written = t.written; pending = t.pending; texts = unsent } in
      let q = reached_read left written before s m now p.requests p.told read.piece read.consumed read.is (record { sent = sent.sent; appended = sent.appended; is = sent.is }) p.reached in
      served now t.written WriteFault q (refl, inl (front_written q))
  ends_stopped {left} {written} {before} {s} {now} {number} t NoMemory p ((lost, consumed), sent) =
      let q = reached_here lost consumed sent p.reached in
      served now t.written NoMemory q (inl refl, front_written q)
  ends_stopped t EndOfInput p none = absurd none
  ends_stopped t Closed p none = absurd none
  ends_stopped t Truncated p none = absurd none

  pub ends_refused : {left written : Option (List ℕ)} {before : A} {s : Flow} {now : A} {number : ℕ} (t : Flow) (status : ℕ) (written' : Option (List ℕ)) (end : ConnectionEnd)
      → Progress left written before s now number → HasCome (Comes number) (Refused status) s t → ClosesRefused t.written written' t.texts status end
      → HasServed answers left t.left before now written written' end
  ends_refused {left} {written} {before} {s} {now} {number} t status written' end p h closes = go end closes
    where
      q : Reached left written before (holding t (s.pending ++ h.piece)) now p.requests p.told
      q = reached_here h.piece h.consumed h.sent p.reached

      refuses : Refuses p.requests (s.pending ++ h.piece) p.told (p.told ++ refusal_of status ∷ [])
      refuses = record {
        go_on = p.go_on;
        status = status;
        comes = subst (λ (n : ℕ). Comes n (s.pending ++ h.piece) (Refused status) []) p.numbered (rest_free number (s.pending ++ h.piece) (Refused status) t.pending [] tt h.comes);
        are = refl;
      }

      texts : texts_of (p.told ++ refusal_of status ∷ []) ≡ q.sent ++ (t.texts ++ response_text (refusal_of status))
      texts = texts_one_more p.told (refusal_of status) ∙ ap (λ (b : List ℕ). b ++ response_text (refusal_of status)) q.texts_are ∙ append_assoc q.sent t.texts (response_text (refusal_of status))

      go : (end : ConnectionEnd) → ClosesRefused t.written written' t.texts status end → HasServed answers left t.left before now written written' end
      go Closed wrote =
          served now written' Closed q (
            refl,
            inr (
              p.told ++ refusal_of status ∷ [],
              refuses,
              subst (λ (b : List ℕ). Appends written written' b) (sym texts) (Appends-trans written t.written written' q.sent (t.texts ++ response_text (refusal_of status)) q.appended wrote),
            ),
          )
      go WriteFault (sent, unsent, wrote, is) =
          served now written' WriteFault q (
            refl,
            inr (
              p.told ++ refusal_of status ∷ [],
              refuses,
              (
                q.sent ++ sent,
                unsent,
                Appends-trans written t.written written' q.sent sent q.appended wrote,
                texts ∙ ap (λ (b : List ℕ). q.sent ++ b) is ∙ sym (append_assoc q.sent sent unsent),
              ),
            ),
          )
      go NoMemory same =
          served now written' NoMemory q (inl refl, subst (λ (w : Option (List ℕ)). AppendsFront written w (texts_of p.told)) (sym same) (front_written q))
      go EndOfInput none = absurd none
      go Truncated none = absurd none
      go ReadFault none = absurd none

  -- a request was asked and answered
  reached_answer : {left written : Option (List ℕ)} {before : A} {s : Flow} {now : A} {number : ℕ} (t : Flow) (r : Request) (answer : Answered) (after : A) (texts : List ℕ)
      → (p : Progress left written before s now number) → HasCome (Comes number) (Asked r) s t → answers now r (Ok answer) after → IsAnswerTo r answer
      → texts ≡ t.texts ++ response_text answer
      → Reached left written before (record { left = t.left; written = t.written; pending = t.pending; texts = texts }) after (p.requests ++ r ∷ []) (p.told ++ answer ∷ [])
  reached_answer {left} {written} {before} {s} {now} {number} t r answer after texts p h is form text =
      let q = reached_here h.piece h.consumed h.sent p.reached in
      record {
        read = q.read;
        consumed = q.consumed;
        asked = asks_one_more 1 q.read p.requests (s.pending ++ h.piece) number r t.pending q.asked p.go_on p.numbered h.comes;
        answered = answers_one_more before p.requests p.told now r answer after q.answered is form;
        sent = q.sent;
        appended = q.appended;
        texts_are =
            texts_one_more p.told answer ∙ ap (λ (b : List ℕ). b ++ response_text answer) q.texts_are ∙ append_assoc q.sent t.texts (response_text answer)
            ∙ ap (λ (b : List ℕ). q.sent ++ b) (sym text);
      }

  pub ends_unanswered : {left written : Option (List ℕ)} {before : A} {s : Flow} {now : A} {number : ℕ} (t : Flow) (r : Request) (stop : AnswerStop) (after : A)
      → Progress left written before s now number → HasCome (Comes number) (Asked r) s t
      → (answers now r (Err stop) after ⊎ ((answer : Answered) × answers now r (Ok answer) after × IsAnswerTo r answer))
      → HasServed answers left t.left before after written t.written NoMemory
  ends_unanswered {left} {written} {before} {s} {now} {number} t r stop after p h (inl stopped) =
      let q = reached_here h.piece h.consumed h.sent p.reached in
      let comes : Comes (length p.requests + 1) (s.pending ++ h.piece) (Asked r) t.pending = subst (λ (n : ℕ). Comes n (s.pending ++ h.piece) (Asked r) t.pending) p.numbered h.comes in
      served after t.written NoMemory q (inr (r, t.pending, stop, comes, stopped), front_written q)
  ends_unanswered {left} {written} {before} {s} {now} {number} t r stop after p h (inr (answer, is, form)) =
      let q = reached_answer t r answer after (t.texts ++ response_text answer) p h is form refl in
      served after t.written NoMemory q (inl refl, front_written q)

  pub ends_closed : {left written : Option (List ℕ)} {before : A} {s : Flow} {now : A} {number : ℕ} (t : Flow) (r : Request) (answer : Answered) (after : A) (texts : List ℕ)
      (written' : Option (List ℕ)) (end : ConnectionEnd) → Progress left written before s now number → HasCome (Comes number) (Asked r) s t → answers now r (Ok answer) after → IsAnswerTo r answer
      → texts ≡ t.texts ++ response_text answer → r.last ≡ true → Closes t.written written' texts end
      → HasServed answers left t.left before after written written' end
  ends_closed {left} {written} {before} {s} {now} {number} t r answer after texts written' end p h is form text last closes = go end closes
    where
      q : Reached left written before (record { left = t.left; written = t.written; pending = t.pending; texts = texts }) after (p.requests ++ r ∷ []) (p.told ++ answer ∷ [])
      q = reached_answer t r answer after texts p h is form text

      ends : EndsItself (p.requests ++ r ∷ [])
      ends = record { first = p.requests; last = r; are = refl; ends = last }

      go : (end : ConnectionEnd) → Closes t.written written' texts end → HasServed answers left t.left before after written written' end
      go Closed wrote =
          served after written' Closed q (refl, inl (ends, subst (λ (b : List ℕ). Appends written written' b) (sym q.texts_are) (Appends-trans written t.written written' q.sent texts q.appended wrote)))
      go WriteFault (sent, unsent, wrote, is) =
          served after written' WriteFault q (
            refl,
            inl (
              q.sent ++ sent,
              unsent,
              Appends-trans written t.written written' q.sent sent q.appended wrote,
              q.texts_are ∙ ap (λ (b : List ℕ). q.sent ++ b) is ∙ sym (append_assoc q.sent sent unsent),
            ),
          )
      go EndOfInput none = absurd none
      go Truncated none = absurd none
      go ReadFault none = absurd none
      go NoMemory none = absurd none

  pub progress_on : {left written : Option (List ℕ)} {before : A} {s : Flow} {now : A} {number : ℕ} (t : Flow) (r : Request) (answer : Answered) (after : A) (texts : List ℕ)
      → Progress left written before s now number → HasCome (Comes number) (Asked r) s t → answers now r (Ok answer) after → IsAnswerTo r answer
      → texts ≡ t.texts ++ response_text answer → r.last ≡ false
      → Progress left written before (record { left = t.left; written = t.written; pending = t.pending; texts = texts }) after (number + 1)
  progress_on {left} {written} {before} {s} {now} {number} t r answer after texts p h is form text last = record {
    requests = p.requests ++ r ∷ [];
    told = p.told ++ answer ∷ [];
    reached = reached_answer t r answer after texts p h is form text;
    go_on = go_on_one_more p.requests r p.go_on last;
    numbered = ap (λ n. n + 1) p.numbered ∙ ap (λ n. n + 1) (sym (length_one_more p.requests r));
    few = hundredth number (s.pending ++ h.piece) r t.pending p.few h.comes last;
  }
