-- What a pass closed, opened and noted is judged by what is open in the end.
use Rattle.std.proofs.Common.{inl, inr, ◌≡◌, ◌≤◌, ℕ, List, [], ◌∷◌, ◌++◌, ap, sym, ◌∙◌, refl, cond, Bool, true, false, append-nil, append_assoc, arith}
use Rattle.std.specs.Prelude.{filter, fold}
use Rattle.std.proofs.lemmas.Bool.{false_from_ne_true}
use Rattle.journal_core.specs.declared.entry.Opened.{Opened}
use Rattle.level_order.specs.Levels.{consumes}
use Rattle.component_state.specs.declared.component.Component.{Component}
use Rattle.component_state.specs.declared.pass.Passed.{Passed}
use Rattle.component_state.specs.Components.{numbers_of, level_of}
use Rattle.component_state.specs.Passes.{Stage, opened_one, opened_from, next_after, next_from}
use Rattle.component_state.specs.Inside.Runs.{passed_one}
use Rattle.component_state.specs.Inside.Ready.{IsReady}
use Rattle.component_state.proofs.Among.{Among, among_contains, contains_among}
use Rattle.component_state.proofs.Decisions.{OfferSame, step_cases, closes, opens, stands, closes_same, opens_same, stands_same}
use Rattle.component_state.proofs.Order.{Ordered, consumed_lower}
use Rattle.component_state.proofs.Stability.{AreKnown, known_after, steps_offer}

-- what one step closes, opens and notes
pub step_closed : (s : Stage) (p : Passed) (c : Component) → (passed_one s p c).closed ≡ cond (closes s p.open_now c) (p.closed ++ c.number ∷ []) p.closed
step_closed s p c = step_cases s p c (λ q. q.closed ≡ cond (closes s p.open_now c) (p.closed ++ c.number ∷ []) p.closed) (λ was must. rw (was, must) refl) (λ was kept. rw (was, kept) refl) (λ was may. rw was refl) (λ was quiet. rw was refl)

pub step_opened : (s : Stage) (p : Passed) (c : Component) → (passed_one s p c).opened ≡ cond (opens s p.open_now c) (p.opened ++ opened_one p.next_service c ∷ []) p.opened
step_opened s p c = step_cases s p c (λ q. q.opened ≡ cond (opens s p.open_now c) (p.opened ++ opened_one p.next_service c ∷ []) p.opened) (λ was must. rw was refl) (λ was kept. rw was refl) (λ was may. rw (was, may) refl) (λ was quiet. rw (was, quiet) refl)

pub step_next : (s : Stage) (p : Passed) (c : Component) → (passed_one s p c).next_service ≡ cond (opens s p.open_now c) (next_after p.next_service c) p.next_service
step_next s p c = step_cases s p c (λ q. q.next_service ≡ cond (opens s p.open_now c) (next_after p.next_service c) p.next_service) (λ was must. rw was refl) (λ was kept. rw was refl) (λ was may. rw (was, may) refl) (λ was quiet. rw (was, quiet) refl)

pub step_satisfied : (s : Stage) (p : Passed) (c : Component) → (passed_one s p c).satisfied ≡ cond (stands s p.open_now c) (p.satisfied ++ c.number ∷ []) p.satisfied
step_satisfied s p c = step_cases s p c (λ q. q.satisfied ≡ cond (stands s p.open_now c) (p.satisfied ++ c.number ∷ []) p.satisfied) (λ was must. refl) (λ was kept. refl) (λ was may. refl) (λ was quiet. refl)

-- the steps over these component configurations lead from one state to another, and decide as what is open in the end says
pub record ReadsAs (s : Stage) (p : Passed) (cs : List Component) (f : Passed) : Type 0 where
  pub closed : f.closed ≡ p.closed ++ numbers_of (filter (closes s f.open_now) cs)
  pub opened : f.opened ≡ p.opened ++ opened_from p.next_service (filter (opens s f.open_now) cs)
  pub next : f.next_service ≡ next_from p.next_service (filter (opens s f.open_now) cs)
  pub satisfied : f.satisfied ≡ p.satisfied ++ numbers_of (filter (stands s f.open_now) cs)

pub numbers_more : (b : Bool) (before : List ℕ) (c : Component) (kept : List Component) → cond b (before ++ c.number ∷ []) before ++ numbers_of kept ≡ before ++ numbers_of (cond b (c ∷ kept) kept)
numbers_more true before c kept = append_assoc before (c.number ∷ []) (numbers_of kept)
numbers_more false before c kept = refl

pub opened_more : (b : Bool) (before : List Opened) (next : ℕ) (c : Component) (kept : List Component)
    → cond b (before ++ opened_one next c ∷ []) before ++ opened_from (cond b (next_after next c) next) kept ≡ before ++ opened_from next (cond b (c ∷ kept) kept)
opened_more true before next c kept = append_assoc before (opened_one next c ∷ []) (opened_from (next_after next c) kept)
opened_more false before next c kept = refl

pub next_more : (b : Bool) (next : ℕ) (c : Component) (kept : List Component) → next_from (cond b (next_after next c) next) kept ≡ next_from next (cond b (c ∷ kept) kept)
next_more true next c kept = refl
next_more false next c kept = refl

-- one step more at the front
reads_more : (s : Stage) (p : Passed) (c : Component) (cs : List Component) (f : Passed) → OfferSame c p.open_now f.open_now → ReadsAs s (passed_one s p c) cs f → ReadsAs s p (c ∷ cs) f
reads_more s p c cs f same rest = record {
  closed = rest.closed
      ∙ ap (λ w. w ++ numbers_of (filter (closes s f.open_now) cs)) (step_closed s p c ∙ ap (λ b. cond b (p.closed ++ c.number ∷ []) p.closed) (closes_same s c p.open_now f.open_now same))
      ∙ numbers_more (closes s f.open_now c) p.closed c (filter (closes s f.open_now) cs);
  opened = rest.opened
      ∙ ap (λ w. w ++ opened_from (passed_one s p c).next_service (filter (opens s f.open_now) cs))
      (step_opened s p c ∙ ap (λ b. cond b (p.opened ++ opened_one p.next_service c ∷ []) p.opened) (opens_same s c p.open_now f.open_now same))
      ∙ ap (λ n. cond (opens s f.open_now c) (p.opened ++ opened_one p.next_service c ∷ []) p.opened ++ opened_from n (filter (opens s f.open_now) cs))
      (step_next s p c ∙ ap (λ b. cond b (next_after p.next_service c) p.next_service) (opens_same s c p.open_now f.open_now same))
      ∙ opened_more (opens s f.open_now c) p.opened p.next_service c (filter (opens s f.open_now) cs);
  next = rest.next
      ∙ ap (λ n. next_from n (filter (opens s f.open_now) cs)) (step_next s p c ∙ ap (λ b. cond b (next_after p.next_service c) p.next_service) (opens_same s c p.open_now f.open_now same))
      ∙ next_more (opens s f.open_now c) p.next_service c (filter (opens s f.open_now) cs);
  satisfied = rest.satisfied
      ∙ ap (λ w. w ++ numbers_of (filter (stands s f.open_now) cs)) (step_satisfied s p c ∙ ap (λ b. cond b (p.satisfied ++ c.number ∷ []) p.satisfied) (stands_same s c p.open_now f.open_now same))
      ∙ numbers_more (stands s f.open_now c) p.satisfied c (filter (stands s f.open_now) cs);
}

module _ (s : Stage) (ready : IsReady s) where
  -- what stands no lower isn't consumed
  pub not_consumed : (c d : Component) → Among s.components d → level_of s.descriptions s.levels c ≤ level_of s.descriptions s.levels d → consumes c.description d.description ≡ false
  not_consumed c d there low =
      false_from_ne_true (consumes c.description d.description)
      (λ uses. absurd (omega (
        arith,
        low,
        consumed_lower s.descriptions s.levels ready.levels c.description d.description
            (contains_among s.descriptions d.description (ready.described d (among_contains s.components d there))) uses,
      )))

  -- steps in the order of the pass
  pub reads : (cs : List Component) → ((c : Component) → Among cs c → Among s.components c) → Ordered (level_of s.descriptions s.levels) cs → (p : Passed) → AreKnown s.components p.open_now
      → ReadsAs s p cs (fold (passed_one s) p cs)
  reads [] there sorted p known = record { closed = sym (append-nil p.closed); opened = sym (append-nil p.opened); next = refl; satisfied = sym (append-nil p.satisfied) }
  reads (c ∷ cs) there sorted p known =
      reads_more s p c cs (fold (passed_one s) p (c ∷ cs))
      (steps_offer s ready.numbered c (c ∷ cs) each p known)
      (reads cs (λ d here. there d (inr here)) sorted.1 (passed_one s p c) (known_after s p c (there c (inl refl)) known))
    where
      each : (d : Component) → Among (c ∷ cs) d → Among s.components d × (consumes c.description d.description ≡ false)
      each d (inl same) =
          let low : level_of s.descriptions s.levels c ≤ level_of s.descriptions s.levels d = omega (arith, ap (level_of s.descriptions s.levels) same) in
          (there d (inl same), not_consumed c d (there d (inl same)) low)
      each d (inr later) = (there d (inr later), not_consumed c d (there d (inr later)) (sorted.0 d later))
