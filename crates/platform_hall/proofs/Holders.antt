-- Who has an object, once one was let go.
use Rattle.std.proofs.Common.{◌≡◌, ℕ, List, ap, sym, ◌∙◌, Bool, true, ◌&&◌}
use Rattle.std.specs.Prelude.{◌==◌, filter, not}
use Rattle.std.proofs.lemmas.Bool.{and_from, and_parts, both_ways, eqb-true, eq-eqb, false_from_ne_true, not-true, not_from_false}
use Rattle.platform_hall.specs.declared.held.Held.{Held}
use Rattle.platform_hall.specs.Desks.{is_holder}
use Rattle.component_state.proofs.Apart.{any_found, any_from, either_way, kept_from, kept_was}

module _ {O : Type 0} (held : List (Held O)) (k n : ℕ) where
  abbrev stays : Held O → Bool
  stays one = not (one.instance == k)

  abbrev has : Held O → Bool
  has one = one.instance == n

  pub holder_less : is_holder (filter stays held) n ≡ (is_holder held n && not (k == n))
  holder_less =
      either_way (is_holder (filter stays held) n) (is_holder held n && not (k == n))
      (λ is.
      let found = any_found has (filter stays held) is in
      let there = kept_was stays held found.0 found.1 in
      and_from (is_holder held n) (not (k == n)) (any_from has held found.0 there.0 found.2)
      (not_from_false (k == n) (false_from_ne_true (k == n) (λ same.
      both_ways (found.0.instance == k) (not-true (found.0.instance == k) there.1) (eq-eqb found.0.instance k (eqb-true found.0.instance n found.2 ∙ sym (eqb-true k n same)))))))
      (λ is.
      let parts = and_parts (is_holder held n) (not (k == n)) is in
      let found = any_found has held parts.0 in
      any_from has (filter stays held) found.0
      (kept_from stays held found.0 found.1 (not_from_false (found.0.instance == k) (false_from_ne_true (found.0.instance == k) (λ same.
      both_ways (k == n) (not-true (k == n) parts.1) (eq-eqb k n (sym (eqb-true found.0.instance k same) ∙ eqb-true found.0.instance n found.2))))))
      found.2)

-- an object that is let go where its instance was destroyed
pub let_go_where : (destroyed here b : Bool) → destroyed ≡ true → (b && not here) ≡ (b && not (destroyed && here))
let_go_where destroyed here b is = ap (λ d. b && not (d && here)) (sym is)
