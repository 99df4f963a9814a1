-- Listeners that were told one list of changes after another.
use Rattle.std.proofs.Common.{◌≡◌, ℕ, zero, suc, ◌+◌, ◌<◌, List, [], ◌∷◌, ◌++◌, ◌∙◌, ap, sym, subst, refl, append_assoc, arith, length, get_or, take, Result, Ok, Err}
use Rattle.std.specs.Prelude.{map, OnErr, OnOk}
use Rattle.std.specs.List.{flat_map}
use Rattle.std.proofs.lemmas.List.{append-nil}
use Rattle.std.proofs.lemmas.Grind.{flat_map-append}
use Rattle.service_listeners.specs.Listening.{Change, ListenerTable, after_changes, events_for, with_changes}
use Rattle.service_listeners.specs.Saves.{HaveGrown}
use Rattle.service_listeners.specs.declared.listener.Listener.{Listener}
use Rattle.service_listeners.specs.declared.listener.ServiceEvent.{ServiceEvent}
use Rattle.scr_consequences.specs.Changes.{HasTold}

one_none : (l : Listener) → with_changes [] l ≡ l
one_none l = ap (λ (es : List ServiceEvent). record l { events = es }) (append-nil l.events)

rows_none : (ls : List Listener) → map (with_changes []) ls ≡ ls
rows_none [] = refl
rows_none (l ∷ ls) = ap (λ (m : Listener). m ∷ map (with_changes []) ls) (one_none l) ∙ ap (λ (ms : List Listener). l ∷ ms) (rows_none ls)

-- no change tells nothing
pub after_none : (t : ListenerTable) → after_changes [] t ≡ t
after_none t = ap (λ (ls : List Listener). record t { rows = ls }) (rows_none t.rows)

one_more : (xs ys : List Change) (l : Listener) → with_changes (xs ++ ys) l ≡ with_changes ys (with_changes xs l)
one_more xs ys l =
    let e : l.events ++ flat_map (events_for l.filter) (xs ++ ys) ≡ (l.events ++ flat_map (events_for l.filter) xs) ++ flat_map (events_for l.filter) ys =
    ap (λ (es : List ServiceEvent). l.events ++ es) (flat_map-append (events_for l.filter) xs ys) ∙ sym (append_assoc l.events (flat_map (events_for l.filter) xs) (flat_map (events_for l.filter) ys)) in
    ap (λ (es : List ServiceEvent). record l { events = es }) e

rows_more : (xs ys : List Change) (ls : List Listener) → map (with_changes (xs ++ ys)) ls ≡ map (with_changes ys) (map (with_changes xs) ls)
rows_more xs ys [] = refl
rows_more xs ys (l ∷ ls) =
    ap (λ (m : Listener). m ∷ map (with_changes (xs ++ ys)) ls) (one_more xs ys l) ∙ ap (λ (ms : List Listener). with_changes ys (with_changes xs l) ∷ ms) (rows_more xs ys ls)

-- some changes, and then others
pub after_more : (xs ys : List Change) (t : ListenerTable) → after_changes (xs ++ ys) t ≡ after_changes ys (after_changes xs t)
after_more xs ys t = ap (λ (ls : List Listener). record t { rows = ls }) (rows_more xs ys t.rows)

pub told_none : (a b : ListenerTable) → b ≡ a → HasTold a b
unfolding HasTold
told_none a b e = ([], e ∙ sym (after_none a))

pub told_more : (a b c : ListenerTable) → HasTold a b → HasTold b c → HasTold a c
unfolding HasTold
told_more a b c first then = (first.0 ++ then.0, then.1 ∙ ap (after_changes then.0) first.1 ∙ sym (after_more first.0 then.0 a))

pub told_by : (changes : List Change) (a b : ListenerTable) → b ≡ after_changes changes a → HasTold a b
unfolding HasTold
told_by changes a b e = (changes, e)

-- whether there was memory or not
pub told_either : {X E : Type 0} (r : Result X E) (changes : List Change) (a b : ListenerTable) → OnOk r (b ≡ after_changes changes a) → OnErr r (b ≡ a) → HasTold a b
told_either (Ok x) changes a b ok err = told_by changes a b ok
told_either (Err x) changes a b ok err = told_none a b err

pub after_none_back : (a b : ListenerTable) → b ≡ a → b ≡ after_changes [] a
after_none_back a b e = e ∙ sym (after_none a)

-- one change, and then another
pub after_two : (x y : Change) (a b c : ListenerTable) → b ≡ after_changes (x ∷ []) a → c ≡ after_changes (y ∷ []) b → c ≡ after_changes (x ∷ y ∷ []) a
after_two x y a b c e f = f ∙ ap (after_changes (y ∷ [])) e ∙ sym (after_more (x ∷ []) (y ∷ []) a)

-- the changes of one item more
module _ {X : Type 0} (f : X → List Change) where
  next_at : (xs : List X) (i : ℕ) (x : X) → i < length xs → x ≡ get_or xs i x → flat_map f (take (suc i) xs) ≡ flat_map f (take i xs) ++ f x
  next_at [] i x within e = absurd (omega arith)
  next_at (y ∷ ys) zero x within e = append-nil (f y) ∙ ap f (sym e)
  next_at (y ∷ ys) (suc i) x within e =
      ap (λ (l : List Change). f y ++ l) (next_at ys i x (omega arith) e) ∙ sym (append_assoc (f y) (flat_map f (take i ys)) (f x))

  pub told_next : (xs : List X) (i : ℕ) (x : X) (a b c : ListenerTable) → i < length xs → x ≡ get_or xs i x → b ≡ after_changes (flat_map f (take i xs)) a → c ≡ after_changes (f x) b
      → c ≡ after_changes (flat_map f (take (i + 1) xs)) a
  told_next xs i x a b c within is e g =
      let next : i + 1 ≡ suc i = omega arith in
      g ∙ ap (after_changes (f x)) e ∙ sym (after_more (flat_map f (take i xs)) (f x) a) ∙ ap (λ (l : List Change). after_changes l a) (sym (ap (λ (k : ℕ). flat_map f (take k xs)) next ∙ next_at xs i x within is))

  pub told_so_far : (xs : List X) (i : ℕ) (a b : ListenerTable) → b ≡ after_changes (flat_map f (take i xs)) a → HasTold a b
  told_so_far xs i a b e = told_by (flat_map f (take i xs)) a b e

-- listeners that were told more have only grown
grown_rows : (changes : List Change) (ls : List Listener) → HaveGrown ls (map (with_changes changes) ls)
grown_rows changes [] = tt
grown_rows changes (l ∷ ls) = ((flat_map (events_for l.filter) changes, refl), grown_rows changes ls)

pub grown : (a b : ListenerTable) → HasTold a b → HaveGrown a.rows b.rows
unfolding HasTold
grown a b told = subst (λ (t : ListenerTable). HaveGrown a.rows t.rows) (sym told.1) (grown_rows told.0 a.rows)
