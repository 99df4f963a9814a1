-- What a listener knows by its events. OSGi Core 8, chapter 5, "Service Events": REGISTERED 1, MODIFIED 2, UNREGISTERING 4, MODIFIED_ENDMATCH 8.
use Rattle.std.specs.Prelude.{◌≡◌, ◌≢◌, ◌↔◌, ℕ, ◌==◌, ◌&&◌, ◌||◌, List, [], ◌∷◌, ◌++◌, Bool, true, nat_lt, not, filter, if◌then◌else◌}
use Rattle.std.specs.List.{AllPairs, Contains, list_any}
use Rattle.component_state.specs.declared.component.Component.{Component}
use Rattle.component_state.specs.declared.open_period.OpenPeriod.{OpenPeriod}
use Rattle.component_state.specs.Components.{level_of}
use Rattle.ldap_filter.specs.Matching.{matches}
use Rattle.ldap_filter.specs.Trees.{Tree}
use Rattle.prop_map.specs.Words.{has}
use Rattle.scr_world.specs.Levels.{levels_of}
use Rattle.scr_world.specs.Readers.{listed}
use Rattle.scr_world.specs.Tables.{descriptions_of}
use Rattle.scr_world.specs.declared.world.World.{World}
use Rattle.service_listeners.specs.declared.listener.Listener.{Listener}
use Rattle.service_listeners.specs.declared.listener.ServiceEvent.{ServiceEvent}
use Rattle.service_registry.specs.declared.row.ServiceRow.{ServiceRow}
use Rattle.service_registry.specs.Services.{ids}

-- the registered services that match a filter
abbrev pub matching : World → Tree → List ℕ
matching w tree = ids (filter (λ (r : ServiceRow). matches tree r.properties) (listed w))

-- an event tells of a service that matches, or of one that doesn't any more
abbrev pub tells_match : ServiceEvent → Bool
tells_match e = (e.value == 1) || (e.value == 2)

-- the services known after an event
abbrev pub after_event : List ℕ → ServiceEvent → List ℕ
after_event known e = if tells_match e then e.service ∷ known else filter (λ n. not (n == e.service)) known

-- the services known after these events, where those were known before them
abbrev pub replayed : List ℕ → List ServiceEvent → List ℕ
replayed known [] = known
replayed known (e ∷ events) = replayed (after_event known e) events

-- a listener at two times: what it was told between them leads from the services that matched its filter to those that match it now
pub record IsToldOf (before now : World) (old new : Listener) : Type 0 where
  pub filter : new.filter ≡ old.filter
  pub more : List ServiceEvent
  pub told : new.events ≡ old.events ++ more
  pub leads : (service : ℕ) → has (replayed (matching before old.filter) more) service ≡ has (matching now old.filter) service

-- a listener's events lead from the services that matched its filter when it was registered to those that match it now
pub record IsToldAll (first now : World) (tree : Tree) (new : Listener) : Type 0 where
  pub filter : new.filter ≡ tree
  pub leads : (service : ℕ) → has (replayed (matching first tree) new.events) service ≡ has (matching now tree) service

-- ---- what an entry tells

-- a service of this number is registered
abbrev pub is_listed : World → ℕ → Bool
is_listed w service = list_any (λ (r : ServiceRow). r.id == service) (listed w)

-- it is with a revision above this one
abbrev pub is_listed_above : World → ℕ → ℕ → Bool
is_listed_above w service revision = list_any (λ (r : ServiceRow). (r.id == service) && nat_lt revision r.revision) (listed w)

-- its properties were set: it was registered, and its revision rose
abbrev pub was_set : World → World → ℕ → Bool
was_set before now service =
    list_any (λ (old : ServiceRow). (old.id == service) && is_listed_above now service old.revision) (listed before)

-- an event of an entry says what happened in it to a service: REGISTERED, it wasn't registered before and matches
-- afterwards; MODIFIED, its properties were set and match afterwards, whether or not they did before; UNREGISTERING, it
-- matched and isn't registered any more; MODIFIED_ENDMATCH, its properties were set, and matched before alone
abbrev pub tells_truth : World → World → Tree → ServiceEvent → Bool
tells_truth before now tree e =
    let matched = has (matching before tree) e.service in
    let matches_now = has (matching now tree) e.service in
    if e.value == 1 then not (is_listed before e.service) && matches_now else (
    if e.value == 2 then was_set before now e.service && matches_now else (
    if e.value == 4 then matched && not (is_listed now e.service) else
    (e.value == 8) && (was_set before now e.service && (matched && not matches_now))))

-- ---- in which order (our own)

-- a service that was registered by a command, and not by a component
abbrev pub is_commanded : World → World → ℕ → Bool
is_commanded before now service = has (ids before.registry.rows) service || has (ids now.registry.rows) service

-- a service of this component configuration, before or now
abbrev pub is_of : World → World → ℕ → Component → Bool
is_of before now service c =
    list_any (λ (p : OpenPeriod). (p.configuration == c.number) && (p.row.id == service)) (before.open_periods ++ now.open_periods)

-- a component configuration stands before another in a pass: by level, then by number
abbrev pub passes_before : World → Component → Component → Bool
passes_before w c d =
    let ds = descriptions_of w.documents in
    let level = level_of ds (levels_of ds) in
    nat_lt (level c) (level d) || ((level c == level d) && nat_lt c.number d.number)

-- a service of one that stands behind this one
abbrev pub is_behind : World → World → ℕ → Component → Bool
is_behind before now service c = list_any (λ (d : Component). is_of before now service d && passes_before now c d) now.components

-- a service is told of before another: those that commands registered first, by number, then those of components in the
-- order of the pass
abbrev pub is_told_before : World → World → ℕ → ℕ → Bool
is_told_before before now a b =
    if is_commanded before now a then not (is_commanded before now b) || nat_lt a b else
    not (is_commanded before now b) && list_any (λ (c : Component). is_of before now a c && is_behind before now b c) now.components

-- a listener before an entry and behind it: it is told just what happened, of each service at most once, in this order
pub record IsToldTruth (before now : World) (old new : Listener) : Type 0 where
  pub filter : new.filter ≡ old.filter
  pub more : List ServiceEvent
  pub told : new.events ≡ old.events ++ more
  pub just_truth : (e : ServiceEvent) → Contains more e ↔ (tells_truth before now old.filter e ≡ true)
  pub one_each : AllPairs (λ (a b : ServiceEvent). a.service ≢ b.service) more
  pub in_order : AllPairs (λ (a b : ServiceEvent). is_told_before before now a.service b.service ≡ true) more
