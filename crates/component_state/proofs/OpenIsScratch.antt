-- What a pass leaves open is what is satisfied from scratch and isn't held back.
use Rattle.std.proofs.Common.{◌≡◌, ℕ, List, [], ◌∷◌, ap, sym, ◌∙◌, refl, cond, Bool, true, false, ◌&&◌, ◌||◌}
use Rattle.std.specs.Prelude.{not, ◌==◌}
use Rattle.std.proofs.lemmas.Bool.{eqb-true}
use Rattle.prop_map.specs.Words.{has}
use Rattle.component_state.specs.declared.component.Component.{Component}
use Rattle.component_state.specs.declared.pass.Passed.{Passed}
use Rattle.component_state.specs.Components.{numbers_of}
use Rattle.component_state.specs.Passes.{HasPassed, Stage, held_back_in}
use Rattle.component_state.specs.Periods.{is_open}
use Rattle.component_state.specs.Scratch.{offering, open_from_scratch, satisfied}

-- it is the one (b) and left out (o), another has the number (h) that is left out (w)
kept_has : (b o h w : Bool) → (b ≡ true → o ≡ w) → cond (not o) (b || (h && not w)) (h && not w) ≡ ((b || h) && not w)
kept_has false true h w same = refl
kept_has false false h w same = refl
kept_has true o h w same = rw (same refl) (go w h)
  where
    go : (x y : Bool) → cond (not x) true (y && not x) ≡ not x
    go true true = refl
    go true false = refl
    go false y = refl

offering_has : (out : List ℕ) (cs : List Component) (n : ℕ) → has (numbers_of (offering out cs)) n ≡ (has (numbers_of cs) n && not (has out n))
offering_has out [] n = refl
offering_has out (c ∷ cs) n =
    push (has out c.number)
    ∙ ap (λ x. cond (not (has out c.number)) ((c.number == n) || x) x) (offering_has out cs n)
    ∙ kept_has (c.number == n) (has out c.number) (has (numbers_of cs) n) (has out n) (λ e. ap (has out) (eqb-true c.number n e))
  where
    push : (o : Bool) → has (numbers_of (cond (not o) (c ∷ offering out cs) (offering out cs))) n ≡ cond (not o) ((c.number == n) || has (numbers_of (offering out cs)) n) (has (numbers_of (offering out cs)) n)
    push true = refl
    push false = refl

pub open_is_scratch : (s : Stage) (p : Passed) → HasPassed s p → (number : ℕ)
    → is_open p.open_now number ≡ has (open_from_scratch s.descriptions s.levels s.direct p.open_now s.components (held_back_in s p.open_now)) number
open_is_scratch s p passed number =
    passed.scratch number
    ∙ ap (λ w. has w number && not (has (held_back_in s p.open_now) number)) passed.satisfied
    ∙ sym (offering_has (held_back_in s p.open_now) (satisfied s.descriptions s.levels s.direct p.open_now s.components (held_back_in s p.open_now)) number)
