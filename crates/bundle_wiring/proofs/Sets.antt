-- Lists and the tests that their items pass.
use Rattle.std.proofs.Common.{◌≡◌, ℕ, zero, suc, ◌+◌, ◌<◌, refl, sym, ap, ◌∙◌, subst, ◌&&◌, Bool, true, false, List, [], ◌∷◌, ◌++◌, length, get_or, Option, Some, None, map, arith}
use Rattle.std.specs.Prelude.{◌||◌, find, is_none, not, filter, if◌then◌else◌}
use Rattle.std.specs.List.{AllByRecursion, list_all, list_any}
use Rattle.std.proofs.lemmas.Bool.{and_left, and_parts, and_right, or_from, or_parts, or_right}
use Rattle.bundle_wiring.specs.Resolution.{Bundle, has_candidate, is_met, meets, platform_offers}
use Rattle.bundle_wiring.specs.declared.wiring.WireNeed.{WireNeed}

pub and_both : (a b : Bool) → a ≡ true → b ≡ true → a && b ≡ true
and_both true b h k = k
and_both false b h k = h

pub or_more : (p x y : Bool) → (x ≡ true → y ≡ true) → p || x ≡ true → p || y ≡ true
or_more true x y f h = refl
or_more false x y f h = f h

if_step : (a b : Bool) → (a ≡ true → b ≡ true) → not a || b ≡ true
if_step true b f = f refl
if_step false b f = refl

module _ {X : Type 0} where
  pub all_more : (P Q : X → Bool) (xs : List X) → ((x : X) → P x ≡ true → Q x ≡ true) → list_all P xs ≡ true → list_all Q xs ≡ true
  all_more P Q [] f h = refl
  all_more P Q (x ∷ xs) f h =
      let parts = and_parts (P x) (list_all P xs) h in
      and_both (Q x) (list_all Q xs) (f x parts.0) (all_more P Q xs f parts.1)

  -- of two parts of a list the second one has what the first has, at one more item
  pub wider_step : (P : X → Bool) (b : X) (xs ys : List X) (o t : Bool) → (o ≡ true → t ≡ true) → (list_any P xs ≡ true → list_any P ys ≡ true)
      → list_any P (if o then b ∷ xs else xs) ≡ true → list_any P (if t then b ∷ ys else ys) ≡ true
  wider_step P b xs ys true true i f h = or_more (P b) (list_any P xs) (list_any P ys) f h
  wider_step P b xs ys true false i f h = let no : false ≡ true = i refl in absurd (cc)
  wider_step P b xs ys false true i f h = or_right (P b) (list_any P ys) (f h)
  wider_step P b xs ys false false i f h = f h

  pub same_step : (b : X) (xs ys : List X) (t u : Bool) → t ≡ u → xs ≡ ys → (if t then b ∷ xs else xs) ≡ (if u then b ∷ ys else ys)
  same_step b xs ys t u e f = ap (λ c. if c then b ∷ xs else xs) e ∙ ap (λ zs. if u then b ∷ zs else zs) f

  kept_step : (Q : X → Bool) (x : X) (xs : List X) (b : Bool) → (b ≡ true → Q x ≡ true) → list_all Q xs ≡ true → list_all Q (if b then x ∷ xs else xs) ≡ true
  kept_step Q x xs true f h = and_both (Q x) (list_all Q xs) (f refl) h
  kept_step Q x xs false f h = h

  -- what is kept by one test passes each test that this one implies
  pub kept_all : (P Q : X → Bool) (xs : List X) → ((x : X) → P x ≡ true → Q x ≡ true) → list_all Q (filter P xs) ≡ true
  kept_all P Q [] f = refl
  kept_all P Q (x ∷ xs) f = kept_step Q x (filter P xs) (P x) (f x) (kept_all P Q xs f)

  -- what passes one test passes another, by place
  pub all_if : (P Q : X → Bool) (xs : List X) → ((k : ℕ) (d : X) → k < length xs → P (get_or xs k d) ≡ true → Q (get_or xs k d) ≡ true) → list_all (λ b. not (P b) || Q b) xs ≡ true
  all_if P Q [] f = refl
  all_if P Q (x ∷ xs) f =
      and_both (not (P x) || Q x) (list_all (λ b. not (P b) || Q b) xs) (if_step (P x) (Q x) (f 0 x (omega arith)))
      (all_if P Q xs (λ k d low. f (suc k) d (omega (arith, low))))

  any_more_step : (P : X → Bool) (b : X) (xs ys : List X) (o t all : Bool) → (not o || t) && all ≡ true → (all ≡ true → list_any P xs ≡ true → list_any P ys ≡ true)
      → list_any P (if o then b ∷ xs else xs) ≡ true → list_any P (if t then b ∷ ys else ys) ≡ true
  any_more_step P b xs ys true true all a f h = or_more (P b) (list_any P xs) (list_any P ys) (f a) h
  any_more_step P b xs ys true false all a f h = absurd (cc)
  any_more_step P b xs ys false true all a f h = or_right (P b) (list_any P ys) (f a h)
  any_more_step P b xs ys false false all a f h = f a h

  pub any_more : (P other test : X → Bool) (xs : List X) → list_all (λ b. not (other b) || test b) xs ≡ true → list_any P (filter other xs) ≡ true → list_any P (filter test xs) ≡ true
  any_more P other test [] a h = h
  any_more P other test (x ∷ xs) a h = any_more_step P x (filter other xs) (filter test xs) (other x) (test x) (list_all (λ b. not (other b) || test b) xs) a (any_more P other test xs) h

  pub any_map : {Y : Type 0} (P : Y → Bool) (f : X → Y) (xs : List X) → list_any P (map f xs) ≡ list_any (λ x. P (f x)) xs
  any_map P f [] = refl
  any_map P f (x ∷ xs) = ap (λ b. P (f x) || b) (any_map P f xs)

  pub any_same : (P Q : X → Bool) (xs : List X) → ((x : X) → P x ≡ Q x) → list_any P xs ≡ list_any Q xs
  any_same P Q [] e = refl
  any_same P Q (x ∷ xs) e = ap (λ b. b || list_any P xs) (e x) ∙ ap (λ b. Q x || b) (any_same P Q xs e)

  none_step : (x : X) (rest : Option X) (t any : Bool) → is_none rest ≡ not any → is_none (if t then Some x else rest) ≡ not (t || any)
  none_step x rest true any h = refl
  none_step x rest false any h = h

  pub find_none : (P : X → Bool) (xs : List X) → is_none (find P xs) ≡ not (list_any P xs)
  find_none P [] = refl
  find_none P (x ∷ xs) = none_step x (find P xs) (P x) (list_any P xs) (find_none P xs)

  found_step : (P : X → Bool) (x f : X) (rest : Option X) (t : Bool) → P x ≡ t → (rest ≡ Some f → P f ≡ true) → (if t then Some x else rest) ≡ Some f → P f ≡ true
  found_step P x f rest true e g h = let same : x ≡ f = cc in ap P (sym same) ∙ e
  found_step P x f rest false e g h = g h

  pub found_passes : (P : X → Bool) (xs : List X) (f : X) → find P xs ≡ Some f → P f ≡ true
  found_passes P [] f h = absurd (cc)
  found_passes P (x ∷ xs) f h = found_step P x f (find P xs) (P x) refl (found_passes P xs f) h

  fails_step : (Q : X → Bool) (x f : X) (rest : Option X) (t : Bool) → Q x ≡ false → (rest ≡ Some f → Q f ≡ false) → (if t then Some x else rest) ≡ Some f → Q f ≡ false
  fails_step Q x f rest true e g h = let same : x ≡ f = cc in ap Q (sym same) ∙ e
  fails_step Q x f rest false e g h = g h

  -- what is found fails each test that all fail
  pub found_fails : (P Q : X → Bool) (xs : List X) (f : X) → find P xs ≡ Some f → list_any Q xs ≡ false → Q f ≡ false
  found_fails P Q [] f h k = absurd (cc)
  found_fails P Q (x ∷ xs) f h k =
      let parts = or_parts (Q x) (list_any Q xs) k in
      fails_step Q x f (find P xs) (P x) parts.0 (λ g. found_fails P Q xs f g parts.1) h

  pub recursion_append : (P : X → Type 0) (xs ys : List X) → AllByRecursion P xs → AllByRecursion P ys → AllByRecursion P (xs ++ ys)
  recursion_append P [] ys h k = k
  recursion_append P (x ∷ xs) ys h k = (h.0, recursion_append P xs ys h.1 k)

  pub recursion_map : {Y : Type 0} (P : Y → Type 0) (f : X → Y) (xs : List X) → AllByRecursion P (map f xs) → AllByRecursion (λ x. P (f x)) xs
  recursion_map P f [] h = tt
  recursion_map P f (x ∷ xs) h = (h.0, recursion_map P f xs h.1)

  pub recursion_weaker : (P Q : X → Type 0) (xs : List X) → ((x : X) → P x → Q x) → AllByRecursion P xs → AllByRecursion Q xs
  recursion_weaker P Q [] f h = tt
  recursion_weaker P Q (x ∷ xs) f h = (f x h.0, recursion_weaker P Q xs f h.1)

-- ---- bundles

-- a candidate in a set is one in each set that contains it
candidate_wider : (set wider : List Bundle) → ((P : Bundle → Bool) → list_any P set ≡ true → list_any P wider ≡ true) → (need : WireNeed) → has_candidate set need ≡ true → has_candidate wider need ≡ true
candidate_wider set wider f need h =
    let offers = λ (b : Bundle). list_any (meets need) b.1.offers in
    or_more (list_any (meets need) platform_offers) (list_any offers set) (list_any offers wider) (f offers) h

pub met_wider : (set wider : List Bundle) → ((P : Bundle → Bool) → list_any P set ≡ true → list_any P wider ≡ true) → (b : Bundle) → is_met set b ≡ true → is_met wider b ≡ true
met_wider set wider f b h =
    all_more (λ (need : WireNeed). need.optional || has_candidate set need) (λ (need : WireNeed). need.optional || has_candidate wider need) b.1.needs
    (λ need k. or_more need.optional (has_candidate set need) (has_candidate wider need) (candidate_wider set wider f need) k) h
