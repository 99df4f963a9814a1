-- Filters that are looked through in order.
use Rattle.std.proofs.Common.{◌≡◌, ℕ, suc, ◌+◌, ◌<◌, List, [], ◌∷◌, ap, sym, ◌∙◌, refl, cond, filter, Bool, true, false, length, get_or, drop, Option, Some, None, add-one, drop-cons}
use Rattle.std.specs.Prelude.{◌==◌, ◌&&◌}
use Rattle.wb_context.specs.declared.context.Context.{Context}
use Rattle.wb_filters.specs.declared.board_service.BoardService.{BoardService}
use Rattle.wb_filters.specs.Chains.{behind, first, is_on_way, next_in, services}
use Rattle.wb_filters.specs.Inside.{is_it}

-- an empty chain has no first filter, and none behind another
pub none_next : (after : Option ℕ) → None ≡ next_in [] after
none_next None = refl
none_next (Some n) = refl

-- the next one, where it is known behind which
pub first_next : (chain : List ℕ) (after r : Option ℕ) → after ≡ None → r ≡ first chain → r ≡ next_in chain after
first_next chain after r e f = f ∙ sym (ap (next_in chain) e)

pub behind_next : (chain : List ℕ) (after r : Option ℕ) (n : ℕ) → after ≡ Some n → r ≡ behind n chain → r ≡ next_in chain after
behind_next chain after r n e f = f ∙ sym (ap (next_in chain) e)

abbrev on_way : Context → List ℕ → List BoardService → List ℕ
on_way c rest filters = services (filter (is_on_way c rest) filters)

kept : (c : Context) (rest : List ℕ) (f : BoardService) (filters : List BoardService) (b : Bool) → is_on_way c rest f ≡ b → on_way c rest (f ∷ filters) ≡ cond b (f.service ∷ on_way c rest filters) (on_way c rest filters)
kept c rest f filters b e = by (is_on_way c rest f) ∙ ap (λ x. cond x (f.service ∷ on_way c rest filters) (on_way c rest filters)) e where
  by : (x : Bool) → services (cond x (f ∷ filter (is_on_way c rest) filters) (filter (is_on_way c rest) filters)) ≡ cond x (f.service ∷ on_way c rest filters) (on_way c rest filters)
  by true = refl
  by false = refl

-- the filter at a place is the first, or one behind it is
pub first_here : (c : Context) (rest : List ℕ) (filters : List BoardService) (k : ℕ) (d : BoardService) → k < length filters → is_on_way c rest (get_or filters k d) ≡ true
    → Some (get_or filters k d).service ≡ first (services (filter (is_on_way c rest) (drop k filters)))
first_here c rest filters k d h e = sym (ap (λ l. first (on_way c rest l)) (drop-cons filters k d h) ∙ ap first (kept c rest (get_or filters k d) (drop (suc k) filters) true e))

pub first_later : (c : Context) (rest : List ℕ) (filters : List BoardService) (k : ℕ) (d : BoardService) → k < length filters → is_on_way c rest (get_or filters k d) ≡ false
    → first (services (filter (is_on_way c rest) (drop k filters))) ≡ first (services (filter (is_on_way c rest) (drop (k + 1) filters)))
first_later c rest filters k d h e =
    ap (λ l. first (on_way c rest l)) (drop-cons filters k d h) ∙ ap first (kept c rest (get_or filters k d) (drop (suc k) filters) false e)
    ∙ ap (λ n. first (on_way c rest (drop n filters))) (sym (add-one k))

behind_one : (c : Context) (rest : List ℕ) (n : ℕ) (f : BoardService) (filters : List BoardService)
    → behind n (on_way c rest (f ∷ filters)) ≡ cond (is_it c rest n f) (first (on_way c rest filters)) (behind n (on_way c rest filters))
behind_one c rest n f filters = by (is_on_way c rest f) where
  both : (a : Bool) (x y : Option ℕ) → cond a x y ≡ cond (a && true) x y
  both true x y = refl
  both false x y = refl

  neither : (a : Bool) (x y : Option ℕ) → y ≡ cond (a && false) x y
  neither true x y = refl
  neither false x y = refl

  by : (b : Bool) → behind n (services (cond b (f ∷ filter (is_on_way c rest) filters) (filter (is_on_way c rest) filters))) ≡ cond ((f.service == n) && b) (first (on_way c rest filters)) (behind n (on_way c rest filters))
  by true = both (f.service == n) (first (on_way c rest filters)) (behind n (on_way c rest filters))
  by false = neither (f.service == n) (first (on_way c rest filters)) (behind n (on_way c rest filters))

pub behind_here : (c : Context) (rest : List ℕ) (n : ℕ) (filters : List BoardService) (k : ℕ) (d : BoardService) → k < length filters → is_it c rest n (get_or filters k d) ≡ true
    → first (services (filter (is_on_way c rest) (drop (k + 1) filters))) ≡ behind n (services (filter (is_on_way c rest) (drop k filters)))
behind_here c rest n filters k d h e =
    ap (λ m. first (on_way c rest (drop m filters))) (add-one k)
    ∙ sym (ap (λ l. behind n (on_way c rest l)) (drop-cons filters k d h) ∙ behind_one c rest n (get_or filters k d) (drop (suc k) filters)
    ∙ ap (λ b. cond b (first (on_way c rest (drop (suc k) filters))) (behind n (on_way c rest (drop (suc k) filters)))) e)

pub behind_later : (c : Context) (rest : List ℕ) (n : ℕ) (filters : List BoardService) (k : ℕ) (d : BoardService) → k < length filters → is_it c rest n (get_or filters k d) ≡ false
    → behind n (services (filter (is_on_way c rest) (drop k filters))) ≡ behind n (services (filter (is_on_way c rest) (drop (k + 1) filters)))
behind_later c rest n filters k d h e =
    ap (λ l. behind n (on_way c rest l)) (drop-cons filters k d h) ∙ behind_one c rest n (get_or filters k d) (drop (suc k) filters)
    ∙ ap (λ b. cond b (first (on_way c rest (drop (suc k) filters))) (behind n (on_way c rest (drop (suc k) filters)))) e
    ∙ ap (λ m. behind n (on_way c rest (drop m filters))) (sym (add-one k))
