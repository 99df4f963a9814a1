-- Telling listeners of a change and taking it back leaves them as they were.
use Rattle.std.proofs.Common.{◌≡◌, ◌<◌, ◌+◌, ◌-◌, ℕ, List, [], ◌∷◌, ◌++◌, ap, ◌∙◌, refl, arith, length, take}
use Rattle.std.proofs.lemmas.List.{get_or-map, length-map}
use Rattle.std.proofs.lemmas.List.Elements.{All-map}
use Rattle.std.specs.Prelude.{map}
use Rattle.service_listeners.specs.declared.listener.Listener.{Listener}
use Rattle.service_listeners.specs.declared.listener.ServiceEvent.{ServiceEvent}
use Rattle.service_listeners.specs.Listening.{Change, events_for, with_changes}
use Rattle.service_listeners.specs.Numbers.{AreNumbered, IsGiven}
use Rattle.service_listeners.specs.Undoing.{untold}
use Rattle.service_listeners.proofs.CutRows.{first_events}

both : (events more : List ServiceEvent) → length (events ++ more) ≡ length events + length more
both [] more = omega arith
both (e ∷ es) more = omega (arith, both es more)

first_kept : (events more : List ServiceEvent) → take (length (events ++ (more ++ [])) - length more) (events ++ (more ++ [])) ≡ events
first_kept events more =
    let count : length (events ++ (more ++ [])) - length more ≡ length events = omega (arith, both events (more ++ []), both more []) in
    ap (λ n. take n (events ++ (more ++ []))) count ∙ first_events (more ++ []) events

-- one listener that was told
pub untold_told : (change : Change) (l : Listener) → untold change (with_changes (change ∷ []) l) ≡ l
untold_told change l = ap (λ (events : List ServiceEvent). let k : Listener = record l { events = events } in k) (first_kept l.events (events_for l.filter change))

-- all that were told
pub all_untold : (change : Change) (rows : List Listener) → map (untold change) (map (with_changes (change ∷ [])) rows) ≡ rows
all_untold change [] = refl
all_untold change (l ∷ ls) = ap (λ k. k ∷ map (untold change) (map (with_changes (change ∷ [])) ls)) (untold_told change l) ∙ ap (λ rest. l ∷ rest) (all_untold change ls)

-- numbers are as they were
pub numbered_untold : (numbered : ℕ) (change : Change) (rows : List Listener) → AreNumbered numbered rows → AreNumbered numbered (map (untold change) rows)
numbered_untold numbered change rows ok = (
  (λ i j d lt within.
      let wide : j < length rows = omega (arith, within, length-map rows (untold change)) in
      let at_i = ap (λ (l : Listener). l.number) (get_or-map (untold change) rows i d d (omega (arith, lt, wide))) in
      let at_j = ap (λ (l : Listener). l.number) (get_or-map (untold change) rows j d d wide) in
      omega (arith, ok.0 i j d lt wide, at_i, at_j)),
  All-map (IsGiven numbered) (untold change) rows (λ k d within. ok.1 k d within),
)
