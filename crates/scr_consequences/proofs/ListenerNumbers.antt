-- The numbers of the listeners of a journal's world.
use Rattle.std.proofs.Common.{ℕ, ◌+◌, ◌<◌, List, [], ◌∷◌, arith}
use Rattle.std.specs.Prelude.{◌==◌, Bool, filter, not}
use Rattle.std.proofs.lemmas.List.Elements.{All-filter, All-push, All-weaker}
use Rattle.std.proofs.lemmas.List.Kept.{AllPairs-filter}
use Rattle.std.proofs.lemmas.List.Quantifiers.{all_pairs_push}
use Rattle.ldap_filter.specs.Trees.{Tree}
use Rattle.service_listeners.specs.declared.listener.Listener.{Listener}
use Rattle.service_listeners.specs.Listening.{ListenerTable, after_changes, after_listen}
use Rattle.service_listeners.specs.Numbers.{AreNumbered, IsGiven}
use Rattle.service_listeners.proofs.ToldRows.{numbered_told}
use Rattle.scr_world.specs.declared.command.Command.{Command}
use Rattle.scr_world.specs.declared.command.Command.TheVariants.{Install, Update, Start, Stop, Uninstall, Enable, Disable, Register, Unregister, SetProperties, Get, Unget, Listen, Unlisten, Configure, ConfigureFactory, Unconfigure}
use Rattle.scr_world.specs.declared.step.Step.{Step}
use Rattle.scr_world.specs.declared.step.Step.TheVariants.{Command as Commanded, Begin, End, Drained, Got, Released}
use Rattle.scr_world.specs.Lists.{changes_between, with_lists_of, world_after_entry, world_of}
use Rattle.scr_world.specs.Steps.{History}
use Rattle.scr_world.specs.Stepping.{world_after_step}
use Rattle.scr_world.specs.Tables.{listeners_by, listeners_by_command}

abbrev HasNumbers : ListenerTable → Type 0
HasNumbers t = AreNumbered t.numbered t.rows

kept : (p : Listener → Bool) (n : ℕ) (rows : List Listener) → AreNumbered n rows → AreNumbered n (filter p rows)
kept p n rows h = (AllPairs-filter (λ (l m : Listener). l.number < m.number) p rows h.0, All-filter p (IsGiven n) rows h.1)

one_more : (bundle : ℕ) (filter : Tree) (t : ListenerTable) → HasNumbers t → HasNumbers (after_listen bundle filter t)
one_more bundle filter t h =
    let l : Listener = record { number = t.numbered + 1; bundle = bundle; filter = filter; events = [] } in (
      all_pairs_push (λ (l m : Listener). l.number < m.number) t.rows l h.0 (λ k d within. omega (arith, (h.1 k d within).1)),
      All-push (IsGiven (t.numbered + 1)) t.rows l (All-weaker (IsGiven t.numbered) (IsGiven (t.numbered + 1)) (λ m given. (given.0, omega (arith, given.1))) t.rows h.1) (omega arith, omega arith),
    )

by_command : (command : Command) (t : ListenerTable) → HasNumbers t → HasNumbers (listeners_by_command command t)
by_command (Install doc) t h = h
by_command (Update bundle doc) t h = h
by_command (Start bundle) t h = h
by_command (Stop bundle) t h = kept (λ (l : Listener). not (l.bundle == bundle)) t.numbered t.rows h
by_command (Uninstall bundle) t h = h
by_command (Enable bundle name) t h = h
by_command (Disable bundle name) t h = h
by_command (Register bundle interfaces properties) t h = h
by_command (Unregister bundle service) t h = h
by_command (SetProperties bundle service properties) t h = h
by_command (Get bundle service) t h = h
by_command (Unget bundle service) t h = h
by_command (Listen bundle filter) t h = one_more bundle filter t h
by_command (Unlisten listener) t h = kept (λ (l : Listener). not (l.number == listener)) t.numbered t.rows h
by_command (Configure pid properties) t h = h
by_command (ConfigureFactory factory name properties) t h = h
by_command (Unconfigure pid) t h = h

by_step : (step : Step) (t : ListenerTable) → HasNumbers t → HasNumbers (listeners_by step t)
by_step (Commanded command) t h = by_command command t h
by_step (Begin turn instance configuration consumer callback chosen) t h = h
by_step (End turn outcome) t h = h
by_step (Drained instance) t h = h
by_step (Got bundle service) t h = h
by_step (Released place) t h = h

none_numbered : HasNumbers (record { rows = []; numbered = 0 })
none_numbered = (λ i j d lt within. absurd (omega arith), λ k d within. absurd (omega arith))

-- rising, and given
pub numbered_listeners : (history : History) → AreNumbered (world_of history).listeners.numbered (world_of history).listeners.rows
unfolding world_of world_after_entry
numbered_listeners [] = none_numbered
numbered_listeners (entry ∷ past) =
    let w = world_of past in
    let now = with_lists_of entry (world_after_step entry.step w) in
    by_step entry.step (after_changes (changes_between w now) w.listeners) (numbered_told w.listeners.numbered (changes_between w now) w.listeners.rows (numbered_listeners past))
