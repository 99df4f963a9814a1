-- Lists that are looked through in order, for the first item that passes a test.
use Rattle.std.proofs.Common.{◌≡◌, ℕ, suc, ◌+◌, ◌<◌, List, ◌∷◌, ap, sym, ◌∙◌, cond, Bool, true, false, length, get_or, drop, Option, Some, add-one, drop-cons}
use Rattle.std.specs.Prelude.{find, option_map}
use Rattle.wb_context.specs.declared.context.Context.{Context}
use Rattle.wb_context.specs.ContextOrder.{covers}
use Rattle.wb_filters.specs.declared.board_service.BoardService.{BoardService}
use Rattle.wb_filters.specs.Pages.{best_named, first_over, is_named}

module _ {X : Type 0} (p : X → Bool) where
  pub found_here : (xs : List X) (k : ℕ) (d : X) → k < length xs → p (get_or xs k d) ≡ true → find p (drop k xs) ≡ Some (get_or xs k d)
  found_here xs k d h e = ap (find p) (drop-cons xs k d h) ∙ ap (λ b. cond b (Some (get_or xs k d)) (find p (drop (suc k) xs))) e

  pub found_later : (xs : List X) (k : ℕ) (d : X) → k < length xs → p (get_or xs k d) ≡ false → find p (drop k xs) ≡ find p (drop (k + 1) xs)
  found_later xs k d h e =
      ap (find p) (drop-cons xs k d h) ∙ ap (λ b. cond b (Some (get_or xs k d)) (find p (drop (suc k) xs))) e ∙ ap (λ n. find p (drop n xs)) (sym (add-one k))

-- the context at a place is over the path, or one behind it is
pub over_here : (contexts : List Context) (k : ℕ) (d : Context) (path : List ℕ) → k < length contexts → covers (get_or contexts k d).path path ≡ true → Some (get_or contexts k d) ≡ first_over path (drop k contexts)
over_here contexts k d path h e = sym (found_here (λ (c : Context). covers c.path path) contexts k d h e)

pub over_later : (contexts : List Context) (k : ℕ) (d : Context) (path : List ℕ) → k < length contexts → covers (get_or contexts k d).path path ≡ false → first_over path (drop k contexts) ≡ first_over path (drop (k + 1) contexts)
over_later contexts k d path h e = found_later (λ (c : Context). covers c.path path) contexts k d h e

-- the page at a place is named, or one behind it is
pub named_here : (text : List ℕ) (c : Context) (pages : List BoardService) (k : ℕ) (d : BoardService) → k < length pages → is_named text c (get_or pages k d) ≡ true → Some (get_or pages k d).service ≡ best_named text c (drop k pages)
named_here text c pages k d h e = sym (ap (λ o. option_map (λ (p : BoardService). p.service) o) (found_here (is_named text c) pages k d h e))

pub named_later : (text : List ℕ) (c : Context) (pages : List BoardService) (k : ℕ) (d : BoardService) → k < length pages → is_named text c (get_or pages k d) ≡ false → best_named text c (drop k pages) ≡ best_named text c (drop (k + 1) pages)
named_later text c pages k d h e = ap (λ o. option_map (λ (p : BoardService). p.service) o) (found_later (is_named text c) pages k d h e)
