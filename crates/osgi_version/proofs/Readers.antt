-- Readers that make a step for each byte: where they stop is where no text goes on.
use Rattle.std.proofs.Common.{◌≡◌, ℕ, ◌+◌, ◌<◌, ◌≤◌, List, [], ◌∷◌, ◌++◌, length, get_or, take, drop, Option, Some, None, refl, sym, ap, ◌∙◌, arith, subst, inl, inr, append_assoc, append-nil, take-append-drop}
use Rattle.std.specs.Option.{option_and_then}
use Rattle.std.proofs.Math.Seq.{take-length}
use Rattle.std.proofs.lemmas.Bool.{cases_lt}
use Rattle.std.proofs.lemmas.List.{take_more, take-take, take_all}
use Rattle.osgi_version.proofs.Options.{bind_gives, same_some}
use Rattle.osgi_version.specs.Readings.{run, IsOpen, IsRead, IsBadAt}

-- what a whole text gives
abbrev pub reads : {S V : Type 0} → (S → ℕ → Option S) → (S → Option V) → S → List ℕ → Option V
reads step at_end s text = option_and_then at_end (run step s text)

-- the steps read what is spelled and nothing else, and each place that they reach can be gone on from
pub record IsReader {S V : Type 0} (step : S → ℕ → Option S) (at_end : S → Option V) (start : S) (Spelled : List ℕ → V → Type 0) : Type 0 where
  pub sound : (text : List ℕ) (v : V) → reads step at_end start text ≡ Some v → Spelled text v
  pub complete : (text : List ℕ) (v : V) → Spelled text v → reads step at_end start text ≡ Some v
  pub live : (front : List ℕ) (s : S) → run step start front ≡ Some s → (rest : List ℕ) × (v : V) × (reads step at_end s rest ≡ Some v)

pub run-append : {S : Type 0} (step : S → ℕ → Option S) (s : S) (xs ys : List ℕ) → run step s (xs ++ ys) ≡ option_and_then (λ t. run step t ys) (run step s xs)
run-append step s [] ys = refl
run-append {S} step s (x ∷ xs) ys =
    elim (step s x) as (λ (o : Option S). option_and_then (λ t. run step t (xs ++ ys)) o ≡ option_and_then (λ t. run step t ys) (option_and_then (λ t. run step t xs) o))
    [ None ↦ refl | Some t ↦ run-append step t xs ys ]

-- the bytes up to a place where the steps led, and then others
pub run_on : {S : Type 0} (step : S → ℕ → Option S) (s t : S) (xs ys : List ℕ) → run step s xs ≡ Some t → run step s (xs ++ ys) ≡ run step t ys
run_on step s t xs ys e = run-append step s xs ys ∙ ap (λ o. option_and_then (λ u. run step u ys) o) e

pub run_none : {S : Type 0} (step : S → ℕ → Option S) (s : S) (xs ys : List ℕ) → run step s xs ≡ None → run step s (xs ++ ys) ≡ None
run_none step s xs ys e = run-append step s xs ys ∙ ap (λ o. option_and_then (λ u. run step u ys) o) e

pub run_one : {S : Type 0} (step : S → ℕ → Option S) (s : S) (b : ℕ) → run step s (b ∷ []) ≡ step s b
run_one {S} step s b = elim (step s b) as (λ (o : Option S). option_and_then (λ t. Some t) o ≡ o) [ None ↦ refl | Some t ↦ refl ]

pub run_push : {S : Type 0} (step : S → ℕ → Option S) (s t u : S) (text : List ℕ) (b : ℕ) → run step s text ≡ Some t → step t b ≡ Some u → run step s (text ++ b ∷ []) ≡ Some u
run_push step s t u text b e h = run_on step s t text (b ∷ []) e ∙ (run_one step t b ∙ h)

-- one more byte
pub run_more : {S : Type 0} (step : S → ℕ → Option S) (s t : S) (text : List ℕ) (i : ℕ) → i < length text → run step s (take i text) ≡ Some t → run step s (take (i + 1) text) ≡ step t (get_or text i 0)
run_more step s t text i h e = ap (λ xs. run step s xs) (take_more text i 0 h) ∙ (run_on step s t (take i text) (get_or text i 0 ∷ []) e ∙ run_one step t (get_or text i 0))

module _ {S V : Type 0} {step : S → ℕ → Option S} {at_end : S → Option V} {start : S} {Spelled : List ℕ → V → Type 0} (reader : IsReader step at_end start Spelled) where
  pub open_where : (prefix : List ℕ) (s : S) → run step start prefix ≡ Some s → IsOpen Spelled prefix
  open_where prefix s e =
      let more = reader.live prefix s e in
      (more.0, more.1, reader.sound (prefix ++ more.0) more.1 (ap (λ o. option_and_then at_end o) (run_on step start s prefix more.0 e) ∙ more.2))

  pub not_open_where : (prefix : List ℕ) → run step start prefix ≡ None → IsOpen Spelled prefix → ⊥
  not_open_where prefix e (rest, v, h) =
      let gives = reader.complete (prefix ++ rest) v h in
      let none : reads step at_end start (prefix ++ rest) ≡ None = ap (λ o. option_and_then at_end o) (run_none step start prefix rest e) in
      cc

  pub read_at_end : (text : List ℕ) (s : S) (v : V) → run step start text ≡ Some s → at_end s ≡ Some v → IsRead Spelled text v
  read_at_end text s v e h =
      let gives : reads step at_end start text ≡ Some v = ap (λ o. option_and_then at_end o) e ∙ h in
      record { spelled = reader.sound text v gives; only = λ w k. let other = reader.complete text w k in cc }

  pub bad_at_end : (text : List ℕ) (s : S) → run step start text ≡ Some s → at_end s ≡ None → IsBadAt Spelled text (length text)
  bad_at_end text s e h =
      let gives : reads step at_end start text ≡ None = ap (λ o. option_and_then at_end o) e ∙ h in
      record {
        none = λ v k. let other = reader.complete text v k in cc;
        within = omega arith;
        is_open = rw take-length (open_where text s e);
        longest = λ n h _. h;
      }

  -- no text goes on with the byte at `at`
  pub bad_in : (text : List ℕ) (at : ℕ) (s : S) → at < length text → run step start (take at text) ≡ Some s → step s (get_or text at 0) ≡ None → IsBadAt Spelled text at
  bad_in text at s h e dead =
      let stops : run step start (take (at + 1) text) ≡ None = run_more step start s text at h e ∙ dead in
      record {
        none = λ v k. not_open_where (take (at + 1) text) stops (drop (at + 1) text, v, rw take-append-drop k);
        within = omega arith;
        is_open = open_where (take at text) s e;
        longest = λ n within is_open. elim (cases_lt at n) [
          | inl high ↦
              let split : take n text ≡ take (at + 1) text ++ drop (at + 1) (take n text) =
              sym (take-append-drop (at + 1) (take n text)) ∙ ap (λ xs. xs ++ drop (at + 1) (take n text)) (take-take (at + 1) n text (omega arith)) in
              absurd (not_open_where (take n text) (ap (λ xs. run step start xs) split ∙ run_none step start (take (at + 1) text) (drop (at + 1) (take n text)) stops) is_open)
          | inr low ↦ low
        ];
      }

-- what each step keeps, the steps of a whole text keep
pub run_keeps : {S : Type 0} (step : S → ℕ → Option S) (P : S → List ℕ → Type 0)
    (keeps : (s t : S) (text : List ℕ) (b : ℕ) → P s text → step s b ≡ Some t → P t (text ++ b ∷ []))
    (s t : S) (text more : List ℕ) → P s text → run step s more ≡ Some t → P t (text ++ more)
run_keeps {S} step P keeps s t text [] p e = rw append-nil (subst (λ (u : S). P u text) (same_some e) p)
run_keeps {S} step P keeps s t text (b ∷ bs) p e =
    let next = bind_gives (λ u. run step u bs) (step s b) t e in
    subst (λ xs. P t xs) (append_assoc text (b ∷ []) bs)
    (run_keeps step P keeps next.0 t (text ++ b ∷ []) bs (keeps s next.0 text b p next.1) next.2)

-- A reader within a reader: where the outer steps follow the inner ones, they do so over a whole text.
pub run_within : {S R : Type 0} (inner : R → ℕ → Option R) (outer : S → ℕ → Option S) (at : R → S)
    (follows : (r u : R) (b : ℕ) → inner r b ≡ Some u → outer (at r) b ≡ Some (at u))
    (r t : R) (text : List ℕ) → run inner r text ≡ Some t → run outer (at r) text ≡ Some (at t)
run_within inner outer at follows r t [] e = ap (λ u. Some (at u)) (same_some e)
run_within inner outer at follows r t (b ∷ bs) e =
    let next = bind_gives (λ u. run inner u bs) (inner r b) t e in
    rw (follows r next.0 b next.1) (run_within inner outer at follows next.0 t bs next.2)

-- and where the first step goes in, from outside
pub run_into : {S R : Type 0} (inner : R → ℕ → Option R) (outer : S → ℕ → Option S) (at : R → S) (outside : S) (start : R)
    (enters : (u : R) (b : ℕ) → inner start b ≡ Some u → outer outside b ≡ Some (at u))
    (follows : (r u : R) (b : ℕ) → inner r b ≡ Some u → outer (at r) b ≡ Some (at u))
    (t : R) (b : ℕ) (bs : List ℕ) → run inner start (b ∷ bs) ≡ Some t → run outer outside (b ∷ bs) ≡ Some (at t)
run_into inner outer at outside start enters follows t b bs e =
    let next = bind_gives (λ u. run inner u bs) (inner start b) t e in
    rw (enters next.0 b next.1) (run_within inner outer at follows next.0 t bs next.2)

-- the steps up to the end of the bytes are those of the text
pub run_whole : {S : Type 0} (step : S → ℕ → Option S) (s t : S) (bytes text : List ℕ) (at : ℕ) → length bytes ≤ at → bytes ≡ text → run step s (take at bytes) ≡ Some t → run step s text ≡ Some t
run_whole step s t bytes text at h same e = ap (run step s) (sym same ∙ sym (take_all at bytes h)) ∙ e
