-- What is kept under the numbers of passes.
use Rattle.std.proofs.Common.{◌≡◌, ◌≢◌, ◌⊎◌, ℕ, Bool, if◌then◌else◌, eq-eqb, ne_eqb, List, [], ◌∷◌, ◌++◌, refl, sym, ap, ◌∙◌, subst, inl, inr, ⊎_elim, append_assoc}
use Rattle.std.proofs.lemmas.List.{append-nil, append_cancel_left}
use mathlib.Core.Logic.{dite}
use native.Mathlib.Decide.{ℕ_discrete}
use Rattle.front_lock.specs.Histories.{In, Distinct, Owners}
use Rattle.front_lock.specs.Keepings.{kept_under, kept_by, KeepsOthers}
use Rattle.front_lock.proofs.Histories.{in_right}

-- a thing of the number, and one of another
kept_mine : (n : ℕ) (x : ℕ × ℕ) (xs : List (ℕ × ℕ)) → n ≡ x.0 → kept_under n (x ∷ xs) ≡ x ∷ kept_under n xs
kept_mine n x xs is = ap (λ (b : Bool). if b then x ∷ kept_under n xs else kept_under n xs) (eq-eqb n x.0 is)

kept_other : (n : ℕ) (x : ℕ × ℕ) (xs : List (ℕ × ℕ)) → n ≢ x.0 → kept_under n (x ∷ xs) ≡ kept_under n xs
kept_other n x xs not = ap (λ (b : Bool). if b then x ∷ kept_under n xs else kept_under n xs) (ne_eqb n x.0 not)

under_append : (n : ℕ) (xs ys : List (ℕ × ℕ)) → kept_under n (xs ++ ys) ≡ kept_under n xs ++ kept_under n ys
under_append n [] ys = refl
under_append n (x ∷ xs) ys = dite (ℕ_discrete n x.0)
    (λ is. kept_mine n x (xs ++ ys) is ∙ ap (λ (l : List (ℕ × ℕ)). x ∷ l) (under_append n xs ys) ∙ ap (λ (l : List (ℕ × ℕ)). l ++ kept_under n ys) (sym (kept_mine n x xs is)))
    (λ not. kept_other n x (xs ++ ys) not ∙ under_append n xs ys ∙ ap (λ (l : List (ℕ × ℕ)). l ++ kept_under n ys) (sym (kept_other n x xs not)))

-- what is kept under a number is kept under it alone
under_same : (n : ℕ) (xs : List (ℕ × ℕ)) → kept_under n (kept_under n xs) ≡ kept_under n xs
under_same n [] = refl
under_same n (x ∷ xs) = dite (ℕ_discrete n x.0)
    (λ is. ap (kept_under n) (kept_mine n x xs is) ∙ kept_mine n x (kept_under n xs) is ∙ ap (λ (l : List (ℕ × ℕ)). x ∷ l) (under_same n xs) ∙ sym (kept_mine n x xs is))
    (λ not. ap (kept_under n) (kept_other n x xs not) ∙ under_same n xs ∙ sym (kept_other n x xs not))

under_none : (n m : ℕ) (xs : List (ℕ × ℕ)) → n ≢ m → kept_under n (kept_under m xs) ≡ []
under_none n m [] ne = refl
under_none n m (x ∷ xs) ne = dite (ℕ_discrete m x.0)
    (λ is. ap (kept_under n) (kept_mine m x xs is) ∙ kept_other n x (kept_under m xs) (λ e. ne (e ∙ sym is)) ∙ under_none n m xs ne)
    (λ not. ap (kept_under n) (kept_other m x xs not) ∙ under_none n m xs ne)

-- nothing is kept under a number that owns nothing
pub under_nobody : (n : ℕ) (xs : List (ℕ × ℕ)) → Owners (λ m. n ≢ m) xs → kept_under n xs ≡ []
under_nobody n [] o = refl
under_nobody n (x ∷ xs) o = kept_other n x xs o.0 ∙ under_nobody n xs o.1

by_none : (n : ℕ) (ns : List ℕ) (xs : List (ℕ × ℕ)) → ¬ In n ns → kept_under n (kept_by ns xs) ≡ []
by_none n [] xs not = refl
by_none n (m ∷ ms) xs not = under_append n (kept_under m xs) (kept_by ms xs) ∙ ap (λ (l : List (ℕ × ℕ)). l ++ kept_under n (kept_by ms xs)) (under_none n m xs (λ e. not (inl e))) ∙ by_none n ms xs (λ p. not (inr p))

-- of numbers that are all different, what is kept under one of them
pub by_one : (n : ℕ) (ns : List ℕ) (xs : List (ℕ × ℕ)) → In n ns → Distinct ns → kept_under n (kept_by ns xs) ≡ kept_under n xs
by_one n [] xs here d = absurd here
by_one n (m ∷ ms) xs here d = under_append n (kept_under m xs) (kept_by ms xs) ∙ ⊎_elim
    (λ (is : n ≡ m). subst (λ (k : ℕ). kept_under n (kept_under k xs) ++ kept_under n (kept_by ms xs) ≡ kept_under n xs) is
    (ap (λ (l : List (ℕ × ℕ)). kept_under n (kept_under n xs) ++ l) (by_none n ms xs (subst (λ (k : ℕ). ¬ In k ms) (sym is) d.0)) ∙ append-nil (kept_under n (kept_under n xs)) ∙ under_same n xs))
    (λ (later : In n ms). ap (λ (l : List (ℕ × ℕ)). l ++ kept_under n (kept_by ms xs)) (under_none n m xs (λ is. d.0 (subst (λ (k : ℕ). In k ms) is later))) ∙ by_one n ms xs later d.1)
    here

pub by_append : (ns ms : List ℕ) (xs : List (ℕ × ℕ)) → kept_by (ns ++ ms) xs ≡ kept_by ns xs ++ kept_by ms xs
by_append [] ms xs = refl
by_append (n ∷ ns) ms xs = ap (λ (l : List (ℕ × ℕ)). kept_under n xs ++ l) (by_append ns ms xs) ∙ sym (append_assoc (kept_under n xs) (kept_by ns xs) (kept_by ms xs))

-- the same is kept under each of the numbers
by_same : (ns : List ℕ) (xs ys : List (ℕ × ℕ)) → ((n : ℕ) → In n ns → kept_under n ys ≡ kept_under n xs) → kept_by ns ys ≡ kept_by ns xs
by_same [] xs ys same = refl
by_same (n ∷ ns) xs ys same = ap (λ (l : List (ℕ × ℕ)). l ++ kept_by ns ys) (same n (inl refl)) ∙ ap (λ (l : List (ℕ × ℕ)). kept_under n xs ++ l) (by_same ns xs ys (λ m p. same m (inr p)))

-- others are left what they had
pub by_others : (ns ms : List ℕ) (xs ys : List (ℕ × ℕ)) → KeepsOthers ms xs ys → ((n : ℕ) → In n ns → ¬ In n ms) → kept_by ns ys ≡ kept_by ns xs
by_others ns ms xs ys keeps apart = by_same ns xs ys (λ n p. keeps n (apart n p))

-- what two passes know of what is kept, where one knows what is kept for both
by_other : (ns ms : List ℕ) (xs mine theirs : List (ℕ × ℕ)) → kept_by ns xs ≡ mine → kept_by (ns ++ ms) xs ≡ mine ++ theirs → kept_by ms xs ≡ theirs
by_other ns ms xs mine theirs one both = append_cancel_left mine (kept_by ms xs) theirs (ap (λ (l : List (ℕ × ℕ)). l ++ kept_by ms xs) (sym one) ∙ sym (by_append ns ms xs) ∙ both)

-- of names that are all different, those of the one aren't the other's
apart : (n : ℕ) (ns ms : List ℕ) → Distinct (ns ++ ms) → In n ns → ¬ In n ms
apart n [] ms d here there = here
apart n (m ∷ rest) ms d here there = ⊎_elim
    (λ (is : n ≡ m). d.0 (subst (λ (k : ℕ). In k (rest ++ ms)) is (in_right n rest ms there)))
    (λ (later : In n rest). apart n rest ms d.1 later there)
    here

-- what one of two passes knows of a number of its own is what is known of it where one knows what is kept for both
pub of_this : (n : ℕ) (ns ms : List ℕ) (xs mine theirs : List (ℕ × ℕ)) → In n ns → Distinct (ns ++ ms) → kept_by ns xs ≡ mine → kept_by (ns ++ ms) xs ≡ mine ++ theirs → kept_under n (mine ++ theirs) ≡ kept_under n mine
of_this n ns ms xs mine theirs here d one both =
    let none : kept_under n theirs ≡ [] = ap (kept_under n) (sym (by_other ns ms xs mine theirs one both)) ∙ by_none n ms xs (apart n ns ms d here) in
    under_append n mine theirs ∙ ap (λ (l : List (ℕ × ℕ)). kept_under n mine ++ l) none ∙ append-nil (kept_under n mine)

pub of_that : (n : ℕ) (ns ms : List ℕ) (xs mine theirs : List (ℕ × ℕ)) → In n ms → Distinct (ns ++ ms) → kept_by ns xs ≡ mine → kept_by (ns ++ ms) xs ≡ mine ++ theirs → kept_under n (mine ++ theirs) ≡ kept_under n theirs
of_that n ns ms xs mine theirs here d one both =
    let none : kept_under n mine ≡ [] = ap (kept_under n) (sym one) ∙ by_none n ns xs (λ p. apart n ns ms d p here) in
    under_append n mine theirs ∙ ap (λ (l : List (ℕ × ℕ)). l ++ kept_under n theirs) none

in_or_not : (n : ℕ) (ns : List ℕ) → In n ns ⊎ ¬ In n ns
in_or_not n [] = inr (λ p. p)
in_or_not n (m ∷ ms) = dite (ℕ_discrete n m)
    (λ is. inl (inl is))
    (λ not. ⊎_elim (λ (p : In n ms). inl (inr p)) (λ (q : ¬ In n ms). inr (λ p. ⊎_elim not q p)) (in_or_not n ms))

-- whoever has something kept owns it, and the other way round
owner_of : (P : ℕ → Type 0) (n : ℕ) (xs : List (ℕ × ℕ)) → Owners P xs → kept_under n xs ≢ [] → P n
owner_of P n [] o some_thing = absurd (some_thing refl)
owner_of P n (x ∷ xs) o some_thing = dite (ℕ_discrete n x.0)
    (λ is. subst P (sym is) o.0)
    (λ not. owner_of P n xs o.1 (λ e. some_thing (kept_other n x xs not ∙ e)))

owners_by : (P : ℕ → Type 0) (xs : List (ℕ × ℕ)) → ((n : ℕ) → kept_under n xs ≢ [] → P n) → Owners P xs
owners_by P [] f = tt
owners_by P (x ∷ xs) f = (
  f x.0 (λ e. thing x (kept_under x.0 xs) (sym (kept_mine x.0 x xs refl) ∙ e)),
  owners_by P xs (λ n some_thing. f n (dite (ℕ_discrete n x.0)
      (λ is. λ e. thing x (kept_under n xs) (sym (kept_mine n x xs is) ∙ e))
      (λ not. λ e. some_thing (sym (kept_other n x xs not) ∙ e)))),
)
  where
    thing : (y : ℕ × ℕ) (ys : List (ℕ × ℕ)) → y ∷ ys ≢ []
    thing y ys e = cc

-- whose is what is kept after a turn
pub keepers_after : (P : ℕ → Type 0) (ns : List ℕ) (xs ys : List (ℕ × ℕ)) → Owners P xs → KeepsOthers ns xs ys → ((n : ℕ) → In n ns → P n) → Owners P ys
keepers_after P ns xs ys o keeps mine = owners_by P ys (λ n some_thing. ⊎_elim
    (λ (p : In n ns). mine n p)
    (λ (q : ¬ In n ns). owner_of P n xs o (λ e. some_thing (keeps n q ∙ e)))
    (in_or_not n ns))

-- for callers of the lock: a thing more under one of the numbers
pub keeps_added : (ns : List ℕ) (x : ℕ × ℕ) (xs : List (ℕ × ℕ)) → In x.0 ns → KeepsOthers ns xs (xs ++ x ∷ [])
keeps_added ns x xs mine n not = under_append n xs (x ∷ []) ∙ ap (λ (l : List (ℕ × ℕ)). kept_under n xs ++ l) (kept_other n x [] (λ is. not (subst (λ (k : ℕ). In k ns) (sym is) mine))) ∙ append-nil (kept_under n xs)

-- and what is left alone under fewer numbers is so under more
pub keeps_within : (ns ms : List ℕ) (xs ys : List (ℕ × ℕ)) → ((n : ℕ) → In n ns → In n ms) → KeepsOthers ns xs ys → KeepsOthers ms xs ys
keeps_within ns ms xs ys within keeps n not = keeps n (λ p. not (within n p))
