-- The events of a listener lead from the services that matched its filter at one time to those that match it at a later one, and each entry tells just what happened, in order.
use Rattle.std.proofs.Common.{◌≡◌, ◌⊎◌, ℕ, ◌+◌, [], ◌∷◌, ◌++◌, ap, sym, ◌∙◌, refl, arith, Bool, true, false, inl, inr, Option, Some, append_assoc, append-nil}
use Rattle.std.specs.Prelude.{flat_map, ◌==◌, ◌≢◌}
use Rattle.std.specs.List.{Contains, list_any}
use Rattle.std.proofs.lemmas.Bool.{both_ways, cases_Bool, eq-eqb, eqb-true}
use Rattle.component_state.proofs.Apart.{any_found, any_from}
use Rattle.journal_core.specs.declared.entry.Entry.{Entry}
use Rattle.ldap_filter.specs.Trees.{Tree}
use Rattle.ldap_filter.specs.Matching.{matches}
use Rattle.prop_map.specs.Words.{has}
use Rattle.scr_laws.proofs.Listed.{joined_was}
use Rattle.scr_promises.specs.Events.{IsToldAll, IsToldOf, IsToldTruth, is_told_before, matching, replayed, tells_truth}
use Rattle.scr_promises.proofs.ChangeLaws.{Keeps, Made, match_gone, match_is, match_was, pair_keeps, pair_makes_new, pair_makes_old}
use Rattle.scr_promises.proofs.EventOrder.{IsBehind, told_in_order}
use Rattle.scr_promises.proofs.EventsDue.{due_told}
use Rattle.scr_promises.proofs.EventTruths.{NoneFalls, pair_true}
use Rattle.scr_promises.proofs.ListenerSteps.{added_there, count_rises, listeners_counted, listeners_one, told_was}
use Rattle.scr_promises.proofs.Orders.{all_pairs, ordered_more}
use Rattle.scr_promises.proofs.ServicePairs.{are, are_then, listed_one, pair_of_change, pair_of_new, pair_of_old, same_service}
use Rattle.scr_promises.proofs.Statuses.{replayed_status, status, status_of_all, status_over}
use Rattle.scr_world.specs.Legal.{IsLegal}
use Rattle.scr_world.specs.Lists.{change_between, changes_between, world_of}
use Rattle.scr_world.specs.Readers.{listed}
use Rattle.scr_world.specs.Steps.{History}
use Rattle.scr_world.specs.declared.command.Command.TheVariants.{Listen}
use Rattle.scr_world.specs.declared.step.Step.{Step}
use Rattle.scr_world.specs.declared.step.Step.TheVariants.{Command as Commanded}
use Rattle.scr_world.specs.declared.world.World.{World}
use Rattle.service_listeners.specs.declared.listener.Listener.{Listener}
use Rattle.service_listeners.specs.declared.listener.ServiceEvent.{ServiceEvent}
use Rattle.service_listeners.specs.Listening.{Change, events_for}
use Rattle.service_registry.specs.declared.row.ServiceRow.{ServiceRow}

-- ---- over an entry

module _ (limit : ℕ) (entry : Entry Step) (past : History) (legal : IsLegal limit (entry ∷ past)) where
  abbrev w : World
  w = world_of past

  abbrev then : World
  then = world_of (entry ∷ past)

  one_was : (a b : ServiceRow) → Contains (listed w) a → Contains (listed w) b → a.id ≡ b.id → a ≡ b
  one_was = listed_one w (are limit entry past legal)

  one_now : (a b : ServiceRow) → Contains (listed then) a → Contains (listed then) b → a.id ≡ b.id → a ≡ b
  one_now = listed_one then (are_then limit entry past legal)

  module _ (tree : Tree) (s : ℕ) where
    keeps : (c : Change) → Contains (changes_between w then) c → Keeps w then tree s one_now c
    keeps c h = let p = pair_of_change limit entry past legal c h in pair_keeps w then tree s one_now p.0 p.1 p.2 c p.3

    abbrev Leads : Type 0
    Leads = (has (matching w tree) s ≡ has (matching then tree) s) ⊎ ((c : Change) × Contains (changes_between w then) c × (status s (has (matching w tree) s) (events_for tree c) ≡ has (matching then tree) s))

    leads_by : (b : Bool) (before after : Option ServiceRow) → b ≡ has (matching w tree) s → ((c : Change) → Contains (change_between before after) c → Contains (changes_between w then) c) → Made w then tree s one_now b before after → Leads
    leads_by b before after is within (inl same) = inl (sym is ∙ same)
    leads_by b before after is within (inr made) = inr (made.0, within made.0 made.1, ap (λ k. status s k (events_for tree made.0)) (sym is) ∙ made.2)

    -- a service that was there
    was_there : (old : ServiceRow) → Contains (listed w) old → old.id ≡ s → Leads
    was_there old h is =
        let p = pair_of_old limit entry past legal old h in
        leads_by (matches tree old.properties) (Some old) p.0 (sym (match_is w tree s one_was old h is)) p.1.within
        (pair_makes_old w then tree s one_now old is p.0 p.1.pair (λ fresh after same revision. (same_service limit entry past legal old fresh h (p.1.pair.new_listed fresh after) same).properties revision))

    module _ (none : (x : ServiceRow) → Contains (listed w) x → x.id ≡ s → ⊥) where
      -- one that came
      is_there : (x : ServiceRow) → Contains (listed then) x → x.id ≡ s → Leads
      is_there x h is =
          let p = pair_of_new limit entry past legal x h in
          leads_by false p.0 (Some x) (sym (match_gone w tree s none)) p.1.within
          (pair_makes_new w then tree s one_now x is p.0 p.1.pair (λ old before same. none old (p.1.pair.old_listed old before) same))

      from_none : Leads
      from_none = elim (cases_Bool (has (matching then tree) s)) [
        | inr off ↦ inl (match_gone w tree s none ∙ sym off)
        | inl on ↦ (let x = match_was then tree s on in is_there x.0 x.1 x.2)
      ]

    leads : Leads
    leads = elim (cases_Bool (list_any (λ (r : ServiceRow). r.id == s) (listed w))) [
      | inl on ↦ (let x = any_found (λ (r : ServiceRow). r.id == s) (listed w) on in was_there x.0 x.1 (eqb-true x.0.id s x.2))
      | inr off ↦ from_none (λ x h is. both_ways (list_any (λ (r : ServiceRow). r.id == s) (listed w)) off (any_from (λ (r : ServiceRow). r.id == s) (listed w) x h (eq-eqb x.id s is)))
    ]

    entry_leads : status s (has (matching w tree) s) (flat_map (events_for tree) (changes_between w then)) ≡ has (matching then tree) s
    entry_leads = status_of_all (events_for tree) s (has (matching then tree) s) (changes_between w then) (has (matching w tree) s) keeps leads

  none_falls : NoneFalls w then
  none_falls old fresh h k same = (same_service limit entry past legal old fresh h k same).later

  told_true : (tree : Tree) (e : ServiceEvent) → Contains (flat_map (events_for tree) (changes_between w then)) e → tells_truth w then tree e ≡ true
  told_true tree e h =
      let c = joined_was (events_for tree) (changes_between w then) e h in
      let p = pair_of_change limit entry past legal c.0 c.1.0 in
      pair_true w then tree one_now one_was none_falls p.0 p.1 p.2 c.0 p.3 e c.1.1

pub told_truth : (limit : ℕ) (entry : Entry Step) (past : History) → IsLegal limit (entry ∷ past) → (old new : Listener) → Contains (world_of past).listeners.rows old → Contains (world_of (entry ∷ past)).listeners.rows new → new.number ≡ old.number
    → IsToldTruth (world_of past) (world_of (entry ∷ past)) old new
told_truth limit entry past legal old new h k same =
    let low = listeners_counted past old h in
    let was = told_was entry past new k (omega (arith, low, same)) in
    let it = listeners_one past was.0 old was.1 h (ap (λ (l : Listener). l.number) (sym was.2) ∙ same) in
    let changes = changes_between (world_of past) (world_of (entry ∷ past)) in
    let more = flat_map (events_for old.filter) changes in
    let ordered = told_in_order limit entry past legal old.filter in record {
      filter = ap (λ (l : Listener). l.filter) was.2 ∙ ap (λ (l : Listener). l.filter) it;
      more = more;
      told = ap (λ (l : Listener). l.events) was.2 ∙ ap (λ (l : Listener). l.events ++ flat_map (events_for l.filter) changes) it;
      one_each = all_pairs (λ (a b : ServiceEvent). a.service ≢ b.service) more
          (ordered_more (IsBehind limit entry past legal old.filter) (λ (a b : ServiceEvent). a.service ≢ b.service) more ordered (λ a b p q both. both.0));
      just_truth = λ e. (told_true limit entry past legal old.filter e, due_told limit entry past legal old.filter e);
      in_order = all_pairs (λ (a b : ServiceEvent). is_told_before (world_of past) (world_of (entry ∷ past)) a.service b.service ≡ true) more
          (ordered_more (IsBehind limit entry past legal old.filter) (λ (a b : ServiceEvent). is_told_before (world_of past) (world_of (entry ∷ past)) a.service b.service ≡ true) more ordered (λ a b p q both. both.1));
    }

-- ---- over a journal

pub told_between : (limit : ℕ) (later past : History) → IsLegal limit (later ++ past) → (old new : Listener) → Contains (world_of past).listeners.rows old → Contains (world_of (later ++ past)).listeners.rows new → new.number ≡ old.number
    → IsToldOf (world_of past) (world_of (later ++ past)) old new
told_between limit [] past legal old new h k same =
    let it = listeners_one past new old k h same in record {
      filter = ap (λ (l : Listener). l.filter) it;
      more = [];
      told = ap (λ (l : Listener). l.events) it ∙ sym (append-nil old.events);
      leads = λ s. refl;
    }
told_between limit (entry ∷ later) past legal old new h k same =
    let before = listeners_counted past old h in
    let rises = count_rises later past in
    let was = told_was entry (later ++ past) new k (omega (arith, before, rises, same)) in
    let changes = changes_between (world_of (later ++ past)) (world_of (entry ∷ later ++ past)) in
    let number : was.0.number ≡ old.number = ap (λ (l : Listener). l.number) (sym was.2) ∙ same in
    let so_far = told_between limit later past legal.1 old was.0 h was.1 number in
    let now = flat_map (events_for old.filter) changes in record {
      filter = ap (λ (l : Listener). l.filter) was.2 ∙ so_far.filter;
      more = so_far.more ++ now;
      told = ap (λ (l : Listener). l.events) was.2 ∙ ap (λ f. was.0.events ++ flat_map (events_for f) changes) so_far.filter ∙ ap (λ es. es ++ now) so_far.told ∙ append_assoc old.events so_far.more now;
      leads = λ s.
          replayed_status (matching (world_of past) old.filter) (so_far.more ++ now) s
          ∙ status_over s (has (matching (world_of past) old.filter) s) so_far.more now
          ∙ ap (λ b. status s b now) (sym (replayed_status (matching (world_of past) old.filter) so_far.more s) ∙ so_far.leads s)
          ∙ entry_leads limit entry (later ++ past) legal old.filter s;
    }

pub told_all : (limit : ℕ) (later past : History) → (entry : Entry Step) → IsLegal limit (later ++ entry ∷ past) → (bundle : ℕ) → (tree : Tree) → entry.step ≡ Commanded (Listen bundle tree) → (new : Listener) → Contains (world_of (later ++ entry ∷ past)).listeners.rows new
    → new.number ≡ (world_of past).listeners.numbered + 1 → IsToldAll (world_of (entry ∷ past)) (world_of (later ++ entry ∷ past)) tree new
told_all limit later past entry legal bundle tree is new h number =
    let first : Listener = record { number = (world_of past).listeners.numbered + 1; bundle = bundle; filter = tree; events = [] } in
    let told = told_between limit later (entry ∷ past) legal first new (added_there entry past bundle tree is) h number in record {
      filter = told.filter;
      leads = λ s. ap (λ es. has (replayed (matching (world_of (entry ∷ past)) tree) es) s) told.told ∙ told.leads s;
    }

-- a listener that comes
abbrev coming : World → ℕ → Tree → Listener
coming was bundle tree = record { number = was.listeners.numbered + 1; bundle = bundle; filter = tree; events = [] }

pub told_first : (limit : ℕ) (entry : Entry Step) (past : History) → IsLegal limit (entry ∷ past) → (bundle : ℕ) (tree : Tree)
    → entry.step ≡ Commanded (Listen bundle tree) → (new : Listener) → Contains (world_of (entry ∷ past)).listeners.rows new
    → new.number ≡ (world_of past).listeners.numbered + 1 → (new.filter ≡ tree) × (new.events ≡ [])
told_first limit entry past legal bundle tree is new h number =
    let same = listeners_one (entry ∷ past) new (coming (world_of past) bundle tree) h (added_there entry past bundle tree is) number in
    (ap (λ (l : Listener). l.filter) same, ap (λ (l : Listener). l.events) same)
