-- A stretch at the lock is a going on, and goings on join.
use Rattle.std.proofs.Common.{◌≡◌, ℕ, ◌+◌, ◌≤◌, ◌<◌, Bool, true, false, if◌then◌else◌, eqb, eq-eqb, ne_eqb, List, [], ◌∷◌, ◌++◌, length, get_or, take, refl, sym, ap, ◌∙◌, subst, inl, inr, append_assoc, Some, arith}
use Rattle.std.specs.Prelude.{slice_get}
use Rattle.std.proofs.lemmas.Bool.{eqb-true}
use Rattle.std.proofs.lemmas.List.{append-nil, length-append, take-append-le}
use Rattle.std.proofs.lemmas.Option.{slice_get-get_or}
use Rattle.front_lock.specs.Histories.{In, Owners, Extends, GrownBy, numbers}
use Rattle.front_lock.specs.Passes.{PassView, names_of}
use Rattle.front_lock.proofs.Histories.{owners_append, owners_map}
use Rattle.hall_goings.specs.Went.{AllStand, own_from, placed, owned_by, up_to, Went}

module _ {E : Type 0} where
  own_append_by : (n at k : ℕ) (x : ℕ × E) (xs ys zs : List (ℕ × E)) → own_from n (at + 1) xs ≡ own_from n (at + 1) ys ++ zs → own_from n at (x ∷ xs) ≡ own_from n at (x ∷ ys) ++ zs
  own_append_by n at k x xs ys zs same = go (eqb n x.0)
    where
      go : (b : Bool) → (if b then (at, x.1) ∷ own_from n (at + 1) xs else own_from n (at + 1) xs) ≡ (if b then (at, x.1) ∷ own_from n (at + 1) ys else own_from n (at + 1) ys) ++ zs
      go true = ap (λ l. (at, x.1) ∷ l) same
      go false = same

  pub own_append : (n at : ℕ) (xs ys : List (ℕ × E)) → own_from n at (xs ++ ys) ≡ own_from n at xs ++ own_from n (at + length xs) ys
  own_append n at [] ys = let e : at ≡ at + 0 = omega arith in ap (λ k. own_from n k ys) e
  own_append n at (x ∷ xs) ys =
      let e : at + 1 + length xs ≡ at + length (x ∷ xs) = omega arith in
      own_append_by n at 0 x (xs ++ ys) xs (own_from n (at + length (x ∷ xs)) ys) (own_append n (at + 1) xs ys ∙ ap (λ k. own_from n (at + 1) xs ++ own_from n k ys) e)

  own_none_by : (n at : ℕ) (x : ℕ × E) (xs : List (ℕ × E)) → eqb n x.0 ≡ false → own_from n (at + 1) xs ≡ [] → own_from n at (x ∷ xs) ≡ []
  own_none_by n at x xs miss none = ap (λ b. if b then (at, x.1) ∷ own_from n (at + 1) xs else own_from n (at + 1) xs) miss ∙ none

  pub own_none : (n at : ℕ) (ns : List ℕ) (xs : List (ℕ × E)) → In n ns → Owners (λ m. ¬ In m ns) xs → own_from n at xs ≡ []
  own_none n at ns [] here o = refl
  own_none n at ns (x ∷ xs) here o = own_none_by n at x xs (ne_eqb n x.0 (λ e. o.0 (subst (λ m. In m ns) e here))) (own_none n (at + 1) ns xs here o.1)

  pub own_all : (n at : ℕ) (es : List E) → own_from n at (owned_by n es) ≡ placed at es
  own_all n at [] = refl
  own_all n at (e ∷ es) = ap (λ b. if b then (at, e) ∷ own_from n (at + 1) (owned_by n es) else own_from n (at + 1) (owned_by n es)) (eq-eqb n n refl) ∙ ap (λ l. (at, e) ∷ l) (own_all n (at + 1) es)

  pub owned_owners : (P : ℕ → Type 0) (n : ℕ) (es : List E) → P n → Owners P (owned_by n es)
  owned_owners P n [] p = tt
  owned_owners P n (e ∷ es) p = (p, owned_owners P n es p)

  -- what `leave` asks of a value to which a pass added these entries
  pub grown : (n : ℕ) (began log : List (ℕ × E)) (es : List E) → log ≡ began ++ owned_by n es → GrownBy n began log
  grown n began log es is = record { added = owned_by n es; is = is; owned = owned_owners (λ m. m ≡ n) n es refl }

  same_by : (p q : PassView E) (log : List (ℕ × E)) (kept : List (ℕ × ℕ)) (n : ℕ) → q ≡ record p { seen = log; kept = kept; entered = n } → q ≡ record p { seen = q.seen; kept = q.kept; entered = q.entered }
  same_by p q log kept n same = subst (λ (v : PassView E). v ≡ record p { seen = v.seen; kept = v.kept; entered = v.entered }) (sym same) refl

  same_on : (a b c : PassView E) → b ≡ record a { seen = b.seen; kept = b.kept; entered = b.entered } → c ≡ record b { seen = c.seen; kept = c.kept; entered = c.entered } → c ≡ record a { seen = c.seen; kept = c.kept; entered = c.entered }
  same_on a b c f g = g ∙ ap (λ (v : PassView E). record v { seen = c.seen; kept = c.kept; entered = c.entered }) f

  -- one stretch: the pass is its number's alone, and none of its joined numbers is its own
  pub went_in_stretch : (p q : PassView E) (began log : List (ℕ × E)) (es : List E) (kept : List (ℕ × ℕ)) → ¬ In p.number (numbers p.joined) → Extends (names_of p) p.seen began → log ≡ began ++ owned_by p.number es → q ≡ record p { seen = log; kept = kept; entered = p.entered + 1 } → Went p q (placed (length began) es)
  went_in_stretch p q began log es kept apart goes is same =
      let at : length p.seen + length goes.rest ≡ length began = sym (length-append p.seen goes.rest) ∙ ap length (sym goes.is) in
      record {
        more = goes.rest ++ owned_by p.number es;
        seen = ap (λ (f : PassView E). f.seen) same ∙ is ∙ ap (λ l. l ++ owned_by p.number es) goes.is ∙ append_assoc p.seen goes.rest (owned_by p.number es);
        own_is = own_append p.number (length p.seen) goes.rest (owned_by p.number es)
            ∙ ap (λ l. l ++ own_from p.number (length p.seen + length goes.rest) (owned_by p.number es)) (own_none p.number (length p.seen) (names_of p) goes.rest (inl refl) goes.foreign)
            ∙ ap (λ k. own_from p.number k (owned_by p.number es)) at ∙ own_all p.number (length began) es;
        others = owners_append (λ n. ¬ In n (numbers p.joined)) goes.rest (owned_by p.number es) (owners_map (λ n. ¬ In n (names_of p)) (λ n. ¬ In n (numbers p.joined)) goes.rest (λ n no h. no (inr h)) goes.foreign) (owned_owners (λ n. ¬ In n (numbers p.joined)) p.number es apart);
        entered = (let e : q.entered ≡ p.entered + 1 = ap (λ (f : PassView E). f.entered) same in omega arith);
        same = same_by p q log kept (p.entered + 1) same;
      }

  -- goings on join
  pub went_on : (a b c : PassView E) (xs ys : List (ℕ × E)) → Went a b xs → Went b c ys → Went a c (xs ++ ys)
  went_on a b c xs ys f g =
      let n : b.number ≡ a.number = ap (λ (v : PassView E). v.number) f.same in
      let j : b.joined ≡ a.joined = ap (λ (v : PassView E). v.joined) f.same in
      let at : length a.seen + length f.more ≡ length b.seen = sym (length-append a.seen f.more) ∙ ap length (sym f.seen) in
      record {
        more = f.more ++ g.more;
        seen = g.seen ∙ ap (λ l. l ++ g.more) f.seen ∙ append_assoc a.seen f.more g.more;
        own_is = own_append a.number (length a.seen) f.more g.more
            ∙ ap (λ l. l ++ own_from a.number (length a.seen + length f.more) g.more) f.own_is
            ∙ ap (λ k. xs ++ own_from a.number k g.more) at
            ∙ ap (λ k. xs ++ own_from k (length b.seen) g.more) (sym n)
            ∙ ap (λ l. xs ++ l) g.own_is;
        others = owners_append (λ m. ¬ In m (numbers a.joined)) f.more g.more f.others (subst (λ js. Owners (λ m. ¬ In m (numbers js)) g.more) j g.others);
        entered = (let x = f.entered in let y = g.entered in omega arith);
        same = same_on a b c f.same g.same;
      }

  pub length_went : (a b : PassView E) (xs : List (ℕ × E)) (f : Went a b xs) → length b.seen ≡ length a.seen + length f.more
  length_went a b xs f = ap length f.seen ∙ length-append a.seen f.more

  pub went_nowhere : (a : PassView E) → Went a a []
  went_nowhere a = record { more = []; seen = sym (append-nil a.seen); own_is = refl; others = tt; entered = omega arith; same = refl }

  -- ---- fronts

  pub longer : (a b : PassView E) (xs : List (ℕ × E)) → Went a b xs → length a.seen ≤ length b.seen
  longer a b xs f = let is = length_went a b xs f in omega (arith, is)

  pub front_stays : (a b : PassView E) (xs : List (ℕ × E)) (front : ℕ) → Went a b xs → front ≤ length a.seen → up_to front b ≡ up_to front a
  front_stays a b xs front f low = ap (take front) f.seen ∙ take-append-le front a.seen f.more low

  -- ---- a pass's own entries stand in the history

  at_end : (xs ys : List (ℕ × E)) (x d : ℕ × E) → get_or (xs ++ x ∷ ys) (length xs) d ≡ x
  at_end [] ys x d = refl
  at_end (y ∷ xs) ys x d = at_end xs ys x d

  there : (xs ys : List (ℕ × E)) (x : ℕ × E) → slice_get (xs ++ x ∷ ys) (length xs) ≡ Some x
  there xs ys x =
      let more : length (xs ++ x ∷ ys) ≡ length xs + length (x ∷ ys) = length-append xs (x ∷ ys) in
      let within : length xs < length (xs ++ x ∷ ys) = omega (arith, more) in
      slice_get-get_or (xs ++ x ∷ ys) (length xs) x within ∙ ap Some (at_end xs ys x x)

  stands_by : (n : ℕ) (x : ℕ × E) (at from : ℕ) (log rest : List (ℕ × E)) → from ≤ at → slice_get log at ≡ Some x → AllStand n from log rest → AllStand n from log (if eqb n x.0 then (at, x.1) ∷ rest else rest)
  stands_by n x at from log rest low here later = go (eqb n x.0) refl
    where
      go : (b : Bool) → eqb n x.0 ≡ b → AllStand n from log (if b then (at, x.1) ∷ rest else rest)
      go true is = (low, here ∙ ap (λ m. Some (m, x.1)) (sym (eqb-true n x.0 is)), later)
      go false is = later

  stands : (n : ℕ) (seen more : List (ℕ × E)) (from : ℕ) (log : List (ℕ × E)) → from ≤ length seen → log ≡ seen ++ more → AllStand n from log (own_from n (length seen) more)
  stands n seen [] from log low is = tt
  stands n seen (x ∷ xs) from log low is =
      let one : length (seen ++ x ∷ []) ≡ length seen + 1 = length-append seen (x ∷ []) in
      let within : from ≤ length (seen ++ x ∷ []) = omega (arith, low, one) in
      let rest = stands n (seen ++ x ∷ []) xs from log within (is ∙ sym (append_assoc seen (x ∷ []) xs)) in
      stands_by n x (length seen) from log (own_from n (length seen + 1) xs) low (ap (λ l. slice_get l (length seen)) is ∙ there seen xs x) (subst (λ at. AllStand n from log (own_from n at xs)) one rest)

  pub own_stand : (a b : PassView E) (xs : List (ℕ × E)) → Went a b xs → AllStand a.number (length a.seen) b.seen xs
  own_stand a b xs f = subst (λ l. AllStand a.number (length a.seen) b.seen l) f.own_is (stands a.number a.seen f.more (length a.seen) b.seen (omega arith) f.seen)
