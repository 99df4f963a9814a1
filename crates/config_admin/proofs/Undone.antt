-- What undoes a change gives the configurations as they were.
use Rattle.std.proofs.Common.{◌≡◌, ◌<◌, ℕ, suc, List, [], ◌∷◌, ap, sym, subst, ◌∙◌, refl, cond, arith, Bool, true, false, length, get_or, Option, Some, None, Ok, Err, Result}
use Rattle.std.proofs.Math.ListN.{set}
use Rattle.std.proofs.lemmas.List.{set-get_or}
use Rattle.std.proofs.lemmas.Map.Text.{is_eq-slice_cmp}
use Rattle.std.proofs.lemmas.Slice.Eq.{bytes_eq-Decides}
use Rattle.std.specs.Ordering.{is_eq}
use Rattle.std.specs.List.{AllPairs}
use Rattle.std.specs.Prelude.{filter, find, is_some, not}
use Rattle.std.specs.Str.{bytes_eq}
use Rattle.std.specs.declared.cmp.Ordering.TheVariants.{Less}
use Rattle.prop_map.specs.Words.{insert_by}
use Rattle.row_places.specs.RowPlaces.{IsPlaceOrGap, NoneOf, OnlyAt}
use Rattle.row_places.proofs.RowOrderLaws.{behind}
use Rattle.row_places.proofs.RowPlaceLaws.{filter_none, none_found}
use Rattle.config_admin.specs.declared.configuration.Configuration.{Configuration}
use Rattle.config_admin.specs.declared.overwritten.Overwritten.{Overwritten}
use Rattle.config_admin.specs.Configurations.{of_pid, pid_before, with_configuration, without_pid}
use Rattle.config_admin.specs.Orders.{AreByPid, pid_cmp}
use Rattle.config_admin.specs.Undoing.{overwritten, with_earlier, with_exchanged}
use Rattle.config_admin.proofs.PidRows.{by_pid_with, found_as_defined, left_as_defined, of_pid_nowhere, of_pid_there, pid_cmp_total, put_there, sought}

same_pid : (a b : List ℕ) → bytes_eq a b ≡ true → a ≡ b
same_pid a b e = (bytes_eq-Decides a b).0 e

-- ---- lists of which one item at most passes a test

module _ {X : Type 0} (test : X → Bool) where
  abbrev without : List X → List X
  without xs = filter (λ x. not (test x)) xs

  without_twice : (xs : List X) → without (without xs) ≡ without xs
  without_twice [] = refl
  without_twice (x ∷ xs) = by_test (test x) refl (without_twice xs) where
    by_test : (b : Bool) → test x ≡ b → without (without xs) ≡ without xs
        → without (cond (not (test x)) (x ∷ without xs) (without xs)) ≡ cond (not (test x)) (x ∷ without xs) (without xs)
    by_test true t more = ap (λ b. without (cond (not b) (x ∷ without xs) (without xs))) t ∙ more ∙ sym (ap (λ b. cond (not b) (x ∷ without xs) (without xs)) t)
    by_test false t more =
        ap (λ b. without (cond (not b) (x ∷ without xs) (without xs))) t ∙ ap (λ b. cond (not b) (x ∷ without (without xs)) (without (without xs))) t
        ∙ ap (λ ys. x ∷ ys) more ∙ sym (ap (λ b. cond (not b) (x ∷ without xs) (without xs)) t)

  -- an item that passes, put among those that don't, is left out again
  without_put : (before : X → X → Bool) (y : X) (xs : List X) → test y ≡ true → without (insert_by before y xs) ≡ without xs
  without_put before y [] t = ap (λ b. cond (not b) (y ∷ []) []) t
  without_put before y (x ∷ xs) t = by_test (before y x) (without_put before y xs t) where
    by_test : (b : Bool) → without (insert_by before y xs) ≡ without xs → without (cond b (y ∷ x ∷ xs) (x ∷ insert_by before y xs)) ≡ without (x ∷ xs)
    by_test true more = ap (λ b. cond (not b) (y ∷ without (x ∷ xs)) (without (x ∷ xs))) t
    by_test false more = ap (λ ys. cond (not (test x)) (x ∷ ys) ys) more

  finds_put : (before : X → X → Bool) (y : X) (xs : List X) → test y ≡ true → is_some (find test (insert_by before y xs)) ≡ true
  finds_put before y [] t = ap (λ b. is_some (cond b (Some y) None)) t
  finds_put before y (x ∷ xs) t = by_test (before y x) (finds_put before y xs t) where
    by_test : (b : Bool) → is_some (find test (insert_by before y xs)) ≡ true → is_some (find test (cond b (y ∷ x ∷ xs) (x ∷ insert_by before y xs))) ≡ true
    by_test true more = ap (λ b. is_some (cond b (Some y) (find test (x ∷ xs)))) t
    by_test false more = by_first (test x) more where
      by_first : (b : Bool) → is_some (find test (insert_by before y xs)) ≡ true → is_some (cond b (Some x) (find test (insert_by before y xs))) ≡ true
      by_first true more = refl
      by_first false more = more

  none_left_out : (xs : List X) → find test xs ≡ None → NoneOf test xs
  none_left_out [] e = tt
  none_left_out (x ∷ xs) e = by_test (test x) refl (none_left_out xs) where
    by_test : (b : Bool) → test x ≡ b → (find test xs ≡ None → NoneOf test xs) → (test x ≡ false) × NoneOf test xs
    by_test true t more = absurd (clash (sym (ap (λ b. cond b (Some x) (find test xs)) t) ∙ e)) where
      clash : Some x ≡ None → ⊥
      clash h = cc
    by_test false t more = (t, more (sym (ap (λ b. cond b (Some x) (find test xs)) t) ∙ e))

  abbrev item_or : X → Option X → X
  item_or d None = d
  item_or d (Some x) = x

  pub record StandsIn (xs : List X) (x : X) : Type 0 where
    pub place : ℕ
    pub only : OnlyAt test place xs
    pub is : x ≡ get_or xs place x
    pub passes : test x ≡ true

  module _ (R : X → X → Type 0) (alone : (x y : X) → R x y → test x ≡ true → test y ≡ false) where
    none_behind : (x : X) (xs : List X) → test x ≡ true → ((k : ℕ) (d : X) → k < length xs → R x (get_or xs k d)) → NoneOf test xs
    none_behind x [] t each = tt
    none_behind x (y ∷ ys) t each = (alone x y (each 0 x (omega arith)) t, none_behind x ys t (λ k d within. each (suc k) d (omega (arith, within))))

    stands : (xs : List X) (x : X) → AllPairs R xs → find test xs ≡ Some x → StandsIn xs x
    stands [] x pairs e = absurd (none e) where
      none : None ≡ Some x → ⊥
      none h = cc
    stands (y ∷ ys) x pairs e =
        by_test (test y) refl (stands ys x (λ i j d less within. pairs (suc i) (suc j) d (omega (arith, less)) (omega (arith, within)))) where
          by_test : (b : Bool) → test y ≡ b → (find test ys ≡ Some x → StandsIn ys x) → StandsIn (y ∷ ys) x
          by_test true t more = let same : y ≡ x = ap (item_or x) (sym (ap (λ b. cond b (Some y) (find test ys)) t) ∙ e) in record {
            place = 0;
            only = (t, none_behind y ys t (λ k d within. pairs 0 (suc k) d (omega arith) (omega (arith, within))));
            is = sym same;
            passes = subst (λ z. test z ≡ true) same t;
          }
          by_test false t more = let there =
              more (sym (ap (λ b. cond b (Some y) (find test ys)) t)
              ∙ e) in record { place = suc there.place; only = (t, there.only); is = there.is; passes = there.passes }

-- ---- configurations

own_pid : (pid : List ℕ) → bytes_eq pid pid ≡ true
own_pid pid = (bytes_eq-Decides pid pid).1 refl

module _ (pid : List ℕ) where
  abbrev has_pid : Configuration → Bool
  has_pid c = bytes_eq c.pid pid

  abbrev is_sought : Configuration → Bool
  is_sought c = is_eq (pid_cmp c (sought pid))

  abbrev Earlier : Configuration → Configuration → Type 0
  Earlier c d = pid_cmp c d ≡ Less

  alone : (c d : Configuration) → Earlier c d → is_sought c ≡ true → is_sought d ≡ false
  alone c d less same = ap is_eq (behind pid_cmp pid_cmp_total (sought pid) c d less (λ e. clash (ap is_eq e) same)) where
    clash : is_sought c ≡ false → is_sought c ≡ true → ⊥
    clash f t = cc

  pub stands_in : (cs : List Configuration) (c : Configuration) → AreByPid cs → of_pid pid cs ≡ Some c → StandsIn is_sought cs c
  stands_in cs c ordered there = stands is_sought Earlier alone cs c ordered (found_as_defined pid cs ∙ there)

  pub pid_of : (cs : List Configuration) (c : Configuration) → AreByPid cs → of_pid pid cs ≡ Some c → c.pid ≡ pid
  pid_of cs c ordered there = same_pid c.pid pid (sym (is_eq-slice_cmp c.pid pid) ∙ (stands_in cs c ordered there).passes)

  pub removed_nowhere : (gap : ℕ) (cs : List Configuration) → IsPlaceOrGap (λ (c : Configuration). pid_cmp c (sought pid)) (Err gap) cs
      → cs ≡ without_pid pid cs
  removed_nowhere gap cs place =
      sym (filter_none is_sought cs (none_found Earlier (λ (c : Configuration). pid_cmp c (sought pid)) (behind pid_cmp pid_cmp_total (sought pid)) gap cs place.1)) ∙ left_as_defined pid cs

module _ (c : Configuration) where
  abbrev place_or_gap : Result ℕ ℕ → List Configuration → Type 0
  place_or_gap r cs = IsPlaceOrGap (λ (d : Configuration). pid_cmp d (sought c.pid)) r cs

  pub exchanged_there : (place : ℕ) (cs : List Configuration) → AreByPid cs → place_or_gap (Ok place) cs → set cs place c ≡ with_exchanged c cs
  exchanged_there place cs ordered only =
      put_there c place cs ordered only
      ∙ sym (ap (λ (o : Option Configuration). cond (is_some o) (with_configuration c cs) cs) (of_pid_there c.pid place cs c only))

  pub exchanged_nowhere : (gap : ℕ) (cs : List Configuration) → AreByPid cs → place_or_gap (Err gap) cs → cs ≡ with_exchanged c cs
  exchanged_nowhere gap cs ordered place =
      sym (ap (λ (o : Option Configuration). cond (is_some o) (with_configuration c cs) cs) (of_pid_nowhere c.pid gap cs place ordered))

  pub by_pid_exchanged : (cs : List Configuration) → AreByPid cs → AreByPid (with_exchanged c cs)
  by_pid_exchanged cs ordered = by_test (is_some (of_pid c.pid cs)) where
    by_test : (b : Bool) → AreByPid (cond b (with_configuration c cs) cs)
    by_test true = by_pid_with c cs ordered
    by_test false = ordered

  -- a configuration that stands, in its own place
  itself : (cs : List Configuration) → AreByPid cs → of_pid c.pid cs ≡ Some c → with_configuration c cs ≡ cs
  itself cs ordered there =
      let s = stands_in c.pid cs c ordered there in
      sym (put_there c s.place cs ordered s.only) ∙ ap (set cs s.place) s.is ∙ set-get_or cs s.place c

  pub put_back : (cs : List Configuration) → AreByPid cs → of_pid c.pid cs ≡ Some c → with_configuration c (without_pid c.pid cs) ≡ cs
  put_back cs ordered there = ap (insert_by pid_before c) (without_twice (has_pid c.pid) cs) ∙ itself cs ordered there

pub overwrites : (pid told : List ℕ) (was : Option Configuration) (cs : List Configuration) → told ≡ pid → was ≡ of_pid pid cs
    → record { pid = told; was = was } ≡ overwritten pid cs
overwrites pid told was cs same is = λ i. record { pid = same i; was = is i }

-- what a set put among the others is left out again
set_left_out : (made : Configuration) (cs : List Configuration) → without_pid made.pid (with_configuration made cs) ≡ without_pid made.pid cs
set_left_out made cs = without_put (has_pid made.pid) pid_before made (without_pid made.pid cs) (own_pid made.pid) ∙ without_twice (has_pid made.pid) cs

restored_by : (made : Configuration) (cs : List Configuration) (o : Option Configuration) → of_pid made.pid cs ≡ o → AreByPid cs
    → with_earlier made.pid o (with_configuration made cs) ≡ cs
restored_by made cs None there ordered = set_left_out made cs ∙ filter_none (has_pid made.pid) cs (none_left_out (has_pid made.pid) cs there)
restored_by made cs (Some was) there ordered =
    let same : was.pid ≡ made.pid = pid_of made.pid cs was ordered there in
    let stands : is_some (of_pid was.pid (with_configuration made cs)) ≡ true =
    ap (λ p. is_some (of_pid p (with_configuration made cs))) same
    ∙ finds_put (has_pid made.pid) pid_before made (without_pid made.pid cs) (own_pid made.pid) in
    ap (λ b. cond b (with_configuration was (with_configuration made cs)) (with_configuration made cs)) stands
    ∙ ap (λ p. insert_by pid_before was (without_pid p (with_configuration made cs))) same
    ∙ ap (insert_by pid_before was) (set_left_out made cs)
    ∙ ap (λ p. insert_by pid_before was (without_pid p cs)) (sym same)
    ∙ itself was cs ordered (ap (λ p. of_pid p cs) same ∙ there)

pub restored : (made : Configuration) (before : Overwritten) (cs : List Configuration) → AreByPid cs → before ≡ overwritten made.pid cs
    → with_earlier before.pid before.was (with_configuration made cs) ≡ cs
restored made before cs ordered is =
    ap (λ (o : Overwritten). with_earlier o.pid o.was (with_configuration made cs)) is ∙ restored_by made cs (of_pid made.pid cs) refl ordered
