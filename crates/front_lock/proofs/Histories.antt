-- Entries with owners, and the names of passes.
use Rattle.std.proofs.Common.{◌≡◌, ◌≢◌, ◌⊎◌, ℕ, ◌+◌, ◌-◌, Bool, true, false, if◌then◌else◌, eqb, ltb, eq-eqb, ne_eqb, ◌≤◌, List, [], ◌∷◌, ◌++◌, length, refl, sym, ap, ◌∙◌, subst, inl, inr, ⊎_elim, append_assoc, arith}
use Rattle.std.proofs.lemmas.List.{append-nil, length-append}
use Rattle.std.specs.List.{range_with_len}
use Rattle.std.specs.Prelude.{Option, Some, None}
use Rattle.front_lock.specs.Histories.{In, Distinct, Owners, Extends, GrownBy, places, places_from, numbers, AllEnded, AllPlaced}
use Rattle.front_lock.specs.Passes.{names_with, ended, longer}
use Rattle.std.proofs.lemmas.Bool.{ltb-true, ltb-false}
use Rattle.front_lock.specs.declared.rule.Joined.{Joined}

pub in_left : (n : ℕ) (xs ys : List ℕ) → In n xs → In n (xs ++ ys)
in_left n [] ys h = absurd h
in_left n (x ∷ xs) ys h = ⊎_elim inl (λ t. inr (in_left n xs ys t)) h

pub in_right : (n : ℕ) (xs ys : List ℕ) → In n ys → In n (xs ++ ys)
in_right n [] ys h = h
in_right n (x ∷ xs) ys h = inr (in_right n xs ys h)

pub in_either : (n : ℕ) (xs ys : List ℕ) → In n (xs ++ ys) → In n xs ⊎ In n ys
in_either n [] ys h = inr h
in_either n (x ∷ xs) ys h = ⊎_elim (λ e. inl (inl e)) (λ t. ⊎_elim (λ a. inl (inr a)) inr (in_either n xs ys t)) h

pub distinct_append : (xs ys : List ℕ) → Distinct xs → Distinct ys → ((n : ℕ) → In n xs → ¬ In n ys) → Distinct (xs ++ ys)
distinct_append [] ys d e apart = e
distinct_append (x ∷ xs) ys d e apart = (
  (λ h. ⊎_elim d.0 (apart x (inl refl)) (in_either x xs ys h)),
  distinct_append xs ys d.1 e (λ n p. apart n (inr p)),
)

module _ {E : Type 0} where
  pub owners_map : (P Q : ℕ → Type 0) (xs : List (ℕ × E)) → ((n : ℕ) → P n → Q n) → Owners P xs → Owners Q xs
  owners_map P Q [] f o = tt
  owners_map P Q (x ∷ xs) f o = (f x.0 o.0, owners_map P Q xs f o.1)

  pub owners_append : (P : ℕ → Type 0) (xs ys : List (ℕ × E)) → Owners P xs → Owners P ys → Owners P (xs ++ ys)
  owners_append P [] ys o q = q
  owners_append P (x ∷ xs) ys o q = (o.0, owners_append P xs ys o.1 q)

  pub owners_right : (P : ℕ → Type 0) (xs ys : List (ℕ × E)) → Owners P (xs ++ ys) → Owners P ys
  owners_right P [] ys o = o
  owners_right P (x ∷ xs) ys o = owners_right P xs ys o.1

  -- more entries, of an owner that is none of ns
  pub extends_more : (ns : List ℕ) (n : ℕ) (seen old log : List (ℕ × E)) → ¬ In n ns → GrownBy n old log → Extends ns seen old → Extends ns seen log
  extends_more ns n seen old log other g e = record {
    rest = e.rest ++ g.added;
    is = g.is ∙ ap (λ l. l ++ g.added) e.is ∙ append_assoc seen e.rest g.added;
    foreign = owners_append (λ m. ¬ In m ns) e.rest g.added e.foreign (owners_map (λ m. m ≡ n) (λ m. ¬ In m ns) g.added (λ m is h. other (subst (λ k. In k ns) is h)) g.owned);
  }

  pub extends_all : (ns : List ℕ) (log : List (ℕ × E)) → Extends ns log log
  extends_all ns log = record { rest = []; is = sym (append-nil log); foreign = tt }

  -- of two beginnings of one list, the shorter begins the longer, and what follows it there
  pub between : (xs ys a b : List (ℕ × E)) → xs ++ a ≡ ys ++ b → length xs ≤ length ys → (d : List (ℕ × E)) × (ys ≡ xs ++ d) × (a ≡ d ++ b)
  between [] ys a b e le = (ys, refl, e)
  between (x ∷ xs) [] a b e le = absurd (omega arith)
  between (x ∷ xs) (y ∷ ys) a b e le =
      let h : x ≡ y = cc in let t : xs ++ a ≡ ys ++ b = cc in
      let r = between xs ys a b t (omega arith) in
      (r.0, (λ i. sym h i ∷ r.1 i), r.2)

  pub owners_left : (P : ℕ → Type 0) (xs ys : List (ℕ × E)) → Owners P (xs ++ ys) → Owners P xs
  owners_left P [] ys o = tt
  owners_left P (x ∷ xs) ys o = (o.0, owners_left P xs ys o.1)

  pub owners_both : (P Q : ℕ → Type 0) (xs : List (ℕ × E)) → Owners P xs → Owners Q xs → Owners (λ n. P n × Q n) xs
  owners_both P Q [] o q = tt
  owners_both P Q (x ∷ xs) o q = ((o.0, q.0), owners_both P Q xs o.1 q.1)

  -- what holds of more names holds of fewer
  pub extends_fewer : (ns ms : List ℕ) (seen log : List (ℕ × E)) → ((n : ℕ) → In n ms → In n ns) → Extends ns seen log → Extends ms seen log
  extends_fewer ns ms seen log within e = record { rest = e.rest; is = e.is; foreign = owners_map (λ n. ¬ In n ns) (λ n. ¬ In n ms) e.rest (λ n not h. not (within n h)) e.foreign }

  -- the history grows under a number that is none of theirs
  pub ended_more : (js : List (Joined E)) (n : ℕ) (old log : List (ℕ × E)) → ¬ In n (numbers js) → GrownBy n old log → AllEnded js old → AllEnded js log
  ended_more [] n old log not g a = tt
  ended_more (j ∷ js) n old log not g a = (
    extends_more (j.number ∷ []) n j.seen old log (λ h. ⊎_elim (λ (e : n ≡ j.number). not (inl e)) (λ (e : ⊥). absurd e) h) g a.0,
    ended_more js n old log (λ h. not (inr h)) g a.1,
  )

  pub ended_append : (js ks : List (Joined E)) (log : List (ℕ × E)) → AllEnded js log → AllEnded ks log → AllEnded (js ++ ks) log
  ended_append [] ks log a b = b
  ended_append (j ∷ js) ks log a b = (a.0, ended_append js ks log a.1 b)

  -- a pass that is joined has ended where it had seen
  pub ended_one : (own : Option ℕ) (seen : List (ℕ × E)) (js : List (Joined E)) (log : List (ℕ × E)) → Extends (names_with own js) seen log → AllEnded js log → AllEnded (ended own seen js) log
  ended_one None seen js log e a = a
  ended_one (Some n) seen js log e a = (extends_fewer (n ∷ numbers js) (n ∷ []) seen log (λ m h. ⊎_elim inl (λ (x : ⊥). absurd x) h) e, a)

  pub in_joined : (own : Option ℕ) (js : List (Joined E)) (n : ℕ) → In n (numbers js) → In n (names_with own js)
  in_joined None js n h = h
  in_joined (Some m) js n h = inr h

  pub own_named : (own : Option ℕ) (js : List (Joined E)) (n : ℕ) → own ≡ Some n → In n (names_with own js)
  own_named own js n is = subst (λ (o : Option ℕ). In n (names_with o js)) (sym is) (inl refl)

  pub own_once : (own : Option ℕ) (js : List (Joined E)) (n : ℕ) → own ≡ Some n → Distinct (names_with own js) → ¬ In n (numbers js)
  own_once own js n is distinct = let d : Distinct (n ∷ numbers js) = subst (λ (o : Option ℕ). Distinct (names_with o js)) is distinct in d.0

  numbers_append : (js ks : List (Joined E)) → numbers (js ++ ks) ≡ numbers js ++ numbers ks
  numbers_append [] ks = refl
  numbers_append (j ∷ js) ks = ap (λ (l : List ℕ). j.number ∷ l) (numbers_append js ks)

  pub numbers_ended : (own : Option ℕ) (seen : List (ℕ × E)) (js : List (Joined E)) → numbers (ended own seen js) ≡ names_with own js
  numbers_ended None seen js = refl
  numbers_ended (Some n) seen js = refl

  -- the names of a pass into which another was joined
  pub names_join : (own : Option ℕ) (js : List (Joined E)) (other : Option ℕ) (seen : List (ℕ × E)) (ks : List (Joined E)) → names_with own (js ++ ended other seen ks) ≡ names_with own js ++ names_with other ks
  names_join own js other seen ks = go own
    where
      both : numbers (js ++ ended other seen ks) ≡ numbers js ++ names_with other ks
      both = numbers_append js (ended other seen ks) ∙ ap (λ (l : List ℕ). numbers js ++ l) (numbers_ended other seen ks)

      go : (o : Option ℕ) → names_with o (js ++ ended other seen ks) ≡ names_with o js ++ names_with other ks
      go None = both
      go (Some m) = ap (λ (l : List ℕ). m ∷ l) both

  places_append : (n at : ℕ) (xs ys : List (ℕ × E)) → places_from n at (xs ++ ys) ≡ places_from n at xs ++ places_from n (at + length xs) ys
  places_append n at [] ys = ap (λ (k : ℕ). places_from n k ys) (omega arith)
  places_append n at (x ∷ xs) ys = go (places_append n (at + 1) xs ys ∙ ap (λ (k : ℕ). places_from n (at + 1) xs ++ places_from n k ys) (omega arith)) (eqb n x.0)
    where
      go : places_from n (at + 1) (xs ++ ys) ≡ places_from n (at + 1) xs ++ places_from n (at + length (x ∷ xs)) ys → (b : Bool)
          → (if b then at ∷ places_from n (at + 1) (xs ++ ys) else places_from n (at + 1) (xs ++ ys)) ≡ (if b then at ∷ places_from n (at + 1) xs else places_from n (at + 1) xs) ++ places_from n (at + length (x ∷ xs)) ys
      go tail true = ap (λ (l : List ℕ). at ∷ l) tail
      go tail false = tail

  places_none : (n at : ℕ) (xs : List (ℕ × E)) → Owners (λ m. n ≢ m) xs → places_from n at xs ≡ []
  places_none n at [] o = refl
  places_none n at (x ∷ xs) o = ap (λ (b : Bool). if b then at ∷ places_from n (at + 1) xs else places_from n (at + 1) xs) (ne_eqb n x.0 o.0) ∙ places_none n (at + 1) xs o.1

  places_all : (n at : ℕ) (xs : List (ℕ × E)) → Owners (λ m. m ≡ n) xs → places_from n at xs ≡ range_with_len at (length xs)
  places_all n at [] o = refl
  places_all n at (x ∷ xs) o = ap (λ (b : Bool). if b then at ∷ places_from n (at + 1) xs else places_from n (at + 1) xs) (eq-eqb n x.0 (sym o.0)) ∙ ap (λ (l : List ℕ). at ∷ l) (places_all n (at + 1) xs o.1)

  -- the history goes on without entries of the names
  pub places_kept : (n : ℕ) (ns : List ℕ) (seen log : List (ℕ × E)) → In n ns → Extends ns seen log → places n log ≡ places n seen
  places_kept n ns seen log here e = ap (places n) e.is ∙ places_append n 0 seen e.rest
      ∙ ap (λ (l : List ℕ). places n seen ++ l) (places_none n (0 + length seen) e.rest (owners_map (λ m. ¬ In m ns) (λ m. n ≢ m) e.rest (λ m not is. not (subst (λ (k : ℕ). In k ns) is here)) e.foreign)) ∙ append-nil (places n seen)

  -- the history grows under one number alone
  pub places_grown : (n : ℕ) (old log : List (ℕ × E)) → GrownBy n old log → places n log ≡ places n old ++ range_with_len (length old) (length log - length old)
  places_grown n old log g =
      let more : length log - length old ≡ length g.added = (let a = ap length g.is in let b = length-append old g.added in omega arith) in
      let from : 0 + length old ≡ length old = omega arith in
      ap (places n) g.is ∙ places_append n 0 old g.added
      ∙ ap (λ (l : List ℕ). places n old ++ l) (ap (λ (k : ℕ). places_from n k g.added) from ∙ places_all n (length old) g.added g.owned ∙ ap (λ (k : ℕ). range_with_len (length old) k) (sym more))

  pub all_placed : (js : List (Joined E)) (log : List (ℕ × E)) → AllEnded js log → AllPlaced js log
  all_placed [] log a = tt
  all_placed (j ∷ js) log a = (places_kept j.number (j.number ∷ []) j.seen log (inl refl) a.0, all_placed js log a.1)

  -- of two passes, the longer beginning, with no later entry of either
  pub both_extend : (ns ms : List ℕ) (xs ys log : List (ℕ × E)) → Extends ns xs log → Extends ms ys log → Extends (ns ++ ms) (longer xs ys) log
  both_extend ns ms xs ys log a b = go (ltb (length xs) (length ys)) refl
    where
      neither : (n : ℕ) → (¬ In n ns) × (¬ In n ms) → ¬ In n (ns ++ ms)
      neither n h p = ⊎_elim h.0 h.1 (in_either n ns ms p)

      go : (c : Bool) → ltb (length xs) (length ys) ≡ c → Extends (ns ++ ms) (if c then ys else xs) log
      go true is = let less = ltb-true (length xs) (length ys) is in let d = between xs ys a.rest b.rest (sym a.is ∙ b.is) (omega arith) in record {
        rest = b.rest;
        is = b.is;
        foreign = owners_map (λ n. (¬ In n ns) × (¬ In n ms)) (λ n. ¬ In n (ns ++ ms)) b.rest neither (owners_both (λ n. ¬ In n ns) (λ n. ¬ In n ms) b.rest (owners_right (λ n. ¬ In n ns) d.0 b.rest (subst (Owners (λ n. ¬ In n ns)) d.2 a.foreign)) b.foreign);
      }
      go false is = let more = ltb-false (length xs) (length ys) is in let d = between ys xs b.rest a.rest (sym b.is ∙ a.is) (omega arith) in record {
        rest = a.rest;
        is = a.is;
        foreign = owners_map (λ n. (¬ In n ns) × (¬ In n ms)) (λ n. ¬ In n (ns ++ ms)) a.rest neither (owners_both (λ n. ¬ In n ns) (λ n. ¬ In n ms) a.rest a.foreign (owners_right (λ n. ¬ In n ms) d.0 a.rest (subst (Owners (λ n. ¬ In n ms)) d.2 b.foreign)));
      }

  pub within_this : (ns : List ℕ) (ms : List ℕ) (xs ys log : List (ℕ × E)) → Extends ns xs log → Extends ms ys log → Extends ns xs (longer xs ys)
  within_this ns ms xs ys log a b = go (ltb (length xs) (length ys)) refl
    where
      go : (c : Bool) → ltb (length xs) (length ys) ≡ c → Extends ns xs (if c then ys else xs)
      go true is = let less = ltb-true (length xs) (length ys) is in let d = between xs ys a.rest b.rest (sym a.is ∙ b.is) (omega arith) in
          record { rest = d.0; is = d.1; foreign = owners_left (λ n. ¬ In n ns) d.0 b.rest (subst (Owners (λ n. ¬ In n ns)) d.2 a.foreign) }
      go false is = extends_all ns xs

  pub within_that : (ns : List ℕ) (ms : List ℕ) (xs ys log : List (ℕ × E)) → Extends ns xs log → Extends ms ys log → Extends ms ys (longer xs ys)
  within_that ns ms xs ys log a b = go (ltb (length xs) (length ys)) refl
    where
      go : (c : Bool) → ltb (length xs) (length ys) ≡ c → Extends ms ys (if c then ys else xs)
      go true is = extends_all ms ys
      go false is = let more = ltb-false (length xs) (length ys) is in let d = between ys xs b.rest a.rest (sym b.is ∙ a.is) (omega arith) in
          record { rest = d.0; is = d.1; foreign = owners_left (λ n. ¬ In n ms) d.0 a.rest (subst (Owners (λ n. ¬ In n ms)) d.2 b.foreign) }

  pub unnamed_seen : (P : ℕ → Type 0) (ns : List ℕ) (seen log : List (ℕ × E)) → Extends ns seen log → Owners P log → Owners P seen
  unnamed_seen P ns seen log e o = owners_left P seen e.rest (subst (Owners P) e.is o)
