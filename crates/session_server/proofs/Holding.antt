-- A session behind those that were held before.
use Rattle.std.proofs.Common.{◌+◌, ℕ, List, [], ◌∷◌, ◌++◌, ap, sym, subst, refl, ◌∙◌, append_assoc, Some, None}
use Rattle.std.proofs.lemmas.List.{append-nil, length-append}
use Rattle.std.specs.declared.option.Option.{Option}
use Rattle.hall_goings.specs.Went.{Went}
use Rattle.hall_goings.proofs.Chains.{went_nowhere, went_on}
use Rattle.platform_sessions.specs.Halls.{Own, View}
use Rattle.session_doors.specs.Doors.{Adds, AddsAll, Stays, TakesAll}
use Rattle.session_doors.specs.declared.finished.Finished.{Finished}
use Rattle.session_shell.proofs.SessionGoings.{session_goes}
use Rattle.session_server.specs.Holding.{Ends, Held, Holds, HoldsSoMany}
use Rattle.session_shell.specs.Items.{Setting}

-- ---- lists that are told

module _ {X : Type 0} where
  pub takes_nothing : (a : Option (List X)) → TakesAll a a []
  takes_nothing None = tt
  takes_nothing (Some all) = refl

  pub adds_nothing : (a : Option (List X)) → AddsAll a a []
  adds_nothing None = tt
  adds_nothing (Some all) = sym (append-nil all)

  pub takes_on : (a b c : Option (List X)) (xs ys : List X) → TakesAll a b xs → TakesAll b c ys → TakesAll a c (xs ++ ys)
  takes_on None b c xs ys first then = tt
  takes_on (Some a) None c xs ys first then = absurd first
  takes_on (Some a) (Some b) None xs ys first then = then
  takes_on (Some a) (Some b) (Some c) xs ys first then = first ∙ ap (λ l. xs ++ l) then ∙ sym (append_assoc xs ys c)

  pub takes_same : (a b c : Option (List X)) (xs : List X) → TakesAll a b xs → Stays b c → TakesAll a c xs
  takes_same None b c xs first same = tt
  takes_same (Some a) None c xs first same = absurd first
  takes_same (Some a) (Some b) None xs first same = same
  takes_same (Some a) (Some b) (Some c) xs first same = first ∙ ap (λ l. xs ++ l) (sym same)

  pub adds_on : (a b c : Option (List X)) (xs ys : List X) → AddsAll a b xs → AddsAll b c ys → AddsAll a c (xs ++ ys)
  adds_on None b c xs ys first then = tt
  adds_on (Some a) None c xs ys first then = absurd first
  adds_on (Some a) (Some b) None xs ys first then = then
  adds_on (Some a) (Some b) (Some c) xs ys first then = then ∙ ap (λ l. l ++ ys) first ∙ append_assoc a xs ys

  pub adds_same : (a b c : Option (List X)) (xs : List X) → AddsAll a b xs → Stays b c → AddsAll a c xs
  adds_same None b c xs first same = tt
  adds_same (Some a) None c xs first same = absurd first
  adds_same (Some a) (Some b) None xs first same = same
  adds_same (Some a) (Some b) (Some c) xs first same = same ∙ first

-- ---- sessions

module _ {I O : Type 0} (s : Setting) (ends : Ends I O) where
  -- one more session is held behind these
  pub held_last : (cs : List (I × O)) (c : I × O) (before between after : View) (sessions : List (Finished I O)) (session : Finished I O)
      → Held s ends cs before between sessions → Holds s ends c between after session → Held s ends (cs ++ c ∷ []) before after (sessions ++ session ∷ [])
  held_last [] c before between after sessions session held last =
      (after, session, [], subst (λ (v : View). Holds s ends c v after session) held.0 last, (refl, refl), ap (λ l. l ++ session ∷ []) held.1)
  held_last (d ∷ ds) c before between after sessions session (middle, first, others, holds, rest, is) last =
      (middle, first, others ++ session ∷ [], holds, held_last ds c middle between after others session rest last, ap (λ l. l ++ session ∷ []) is)

  pub none_held : (pass : View) (coming : Option (List (I × O))) (sessions : Option (List (Finished I O))) → HoldsSoMany s ends pass pass coming coming sessions sessions 0
  none_held pass coming sessions = record { came = []; held = []; first = takes_nothing coming; each = (refl, refl); told = adds_nothing sessions; many = refl }

  -- the next connection came, its session was held, and it was handed back
  pub one_more_held : (before between after : View) (coming coming' came came' : Option (List (I × O))) (sessions sessions' told told' : Option (List (Finished I O))) (count : ℕ) (c : I × O) (session : Finished I O)
      → HoldsSoMany s ends before between coming coming' sessions sessions' count
      → TakesAll coming' came (c ∷ []) → Stays sessions' told → Holds s ends c between after session → Stays came came' → Adds told told' session
      → HoldsSoMany s ends before after coming came' sessions told' (count + 1)
  one_more_held before between after coming coming' came came' sessions sessions' told told' count c session so taken kept holds still added =
      record {
        came = so.came ++ c ∷ [];
        held = so.held ++ session ∷ [];
        first = takes_same coming came came' (so.came ++ c ∷ []) (takes_on coming coming' came so.came (c ∷ []) so.first taken) still;
        each = held_last so.came c before between after so.held session so.each holds;
        told = adds_on sessions told told' so.held (session ∷ []) (adds_same sessions sessions' told so.held so.told kept) added;
        many = length-append so.came (c ∷ []) ∙ ap (λ n. n + 1) so.many;
      }

  -- over the sessions the pass goes on
  pub held_goes : (cs : List (I × O)) (before after : View) (sessions : List (Finished I O)) → Held s ends cs before after sessions → (own : Own) × Went before after own
  held_goes [] before after sessions held = ([], subst (λ (v : View). Went before v []) (sym held.0) (went_nowhere before))
  held_goes (c ∷ cs) before after sessions (between, session, others, holds, rest, is) =
      let first = session_goes s (ends.left c.0) before between [] session.notes.items (ends.written c.1) (ends.written session.output) session.end holds.served in
      let then = held_goes cs between after others rest in
      (first.0 ++ then.0, went_on before between after first.0 then.0 first.1 then.1)
