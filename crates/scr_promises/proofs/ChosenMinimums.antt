-- What an instance chose for a static reference are as many services as the least minimum that this has had since its Create.
use Rattle.std.proofs.Common.{◌≡◌, ℕ, List, [], ◌∷◌, ap, sym, ◌∙◌, subst, true, inl, inr, Option}
use Rattle.std.specs.List.{Contains}
use Rattle.std.specs.Option.{option_map_or}
use Rattle.component_dto.specs.declared.description.Reference.{Reference}
use Rattle.component_state.specs.declared.component.Component.{Component}
use Rattle.component_state.specs.declared.origin.Choice.{Choice}
use Rattle.component_state.specs.declared.origin.Origin.{Origin}
use Rattle.component_state.specs.Components.{component_of}
use Rattle.component_state.specs.Periods.{is_open}
use Rattle.component_state.specs.Reasons.{choice_at}
use Rattle.journal_core.specs.declared.entry.Entry.{Entry}
use Rattle.prop_map.specs.Words.{with_places}
use Rattle.reference_match.specs.Needs.{need_of}
use Rattle.reference_match.specs.Targets.{is_static}
use Rattle.scr_promises.proofs.Comings.{WasBefore}
use Rattle.scr_promises.proofs.EndingLaws.{comes, current_open, none_at_first}
use Rattle.scr_promises.proofs.InstanceComponents.{its_component, references_kept}
use Rattle.scr_promises.proofs.ViewedReferences.{placed_was}
use Rattle.scr_laws.specs.Stills.{life_made}
use Rattle.scr_laws.proofs.Calm.{found_of}
use Rattle.scr_laws.proofs.LegalCalm.{legal_is_calm}
use Rattle.scr_laws.proofs.Sounding.{legal_sound}
use Rattle.scr_promises.specs.Minimums.{least_minimum}
use Rattle.scr_promises.proofs.EnoughTargets.{chosen_for_minimum}
use Rattle.scr_promises.proofs.FreshChoices.{fresh_choice}
use Rattle.scr_promises.proofs.LeastMinimums.{least_falls, least_first}
use Rattle.scr_promises.proofs.TargetLists.{AreEnough, fewer}
use Rattle.scr_laws.proofs.CreatedLaws.{created_before, entries_of}
use Rattle.scr_laws.proofs.InstanceLemmas.{IsMade}
use Rattle.scr_world.specs.Dues.{choices_of}
use Rattle.scr_world.specs.Legal.{IsLegal, MayCome}
use Rattle.scr_world.specs.Lists.{world_after_entry, world_of}
use Rattle.scr_world.specs.Steps.{History}
use Rattle.scr_world.specs.Stepping.{components_by, world_after_step}
use Rattle.scr_world.specs.Views.{references_in}
use Rattle.scr_world.specs.Worlds.{registered_services}
use Rattle.scr_world.specs.declared.instance.Instance.{Instance}
use Rattle.scr_world.specs.declared.step.Step.{Step}
use Rattle.scr_world.specs.declared.world.World.{World}

-- as many were chosen for the reference at a place
abbrev pub ChoseEnough : History → Reference → ℕ → Origin → Type 0
ChoseEnough history q k o = AreEnough (least_minimum o.created o.configuration q history) (choice_at o.chosen k)

abbrev pub HaveChosenEnough : History → Type 0
HaveChosenEnough history = (i : Instance) → Contains (world_of history).instances i → (k : ℕ) (q : Reference) → Contains (with_places 0 (references_in (world_of history) i)) (k, q) → is_static q.policy ≡ true → ChoseEnough history q k i.origin

module _ (limit : ℕ) (entry : Entry Step) (past : History) (legal : IsLegal limit (entry ∷ past)) where
  abbrev w : World
  w = world_of past

  abbrev then : World
  then = world_of (entry ∷ past)

  components_were : (c : Component) → Contains then.components c → Contains (components_by entry.step w) c
  unfolding world_of world_after_entry world_after_step
  components_were c h = h

  chose_before : HaveChosenEnough past → (i : Instance) → WasBefore w entry.step i → (k : ℕ) (q : Reference) → Contains (with_places 0 (references_in then i)) (k, q) → is_static q.policy ≡ true → ChoseEnough (entry ∷ past) q k i.origin
  chose_before before i was k q in_q static =
      let refs = references_kept limit entry past legal was.was i was.there was.same.origin in
      let chose = before was.was was.there k q (subst (λ (rs : List Reference). Contains (with_places 0 rs) (k, q)) refs in_q) static in
      subst (λ (o : Origin). ChoseEnough (entry ∷ past) q k o) (sym was.same.origin)
      (fewer chose (least_falls was.was.origin.created was.was.origin.configuration q entry past (created_before past was.was was.there)))

  chose_new : (i : Instance) → Contains then.instances i → IsMade entry.step w i → (k : ℕ) (q : Reference) → Contains (with_places 0 (references_in then i)) (k, q) → is_static q.policy ≡ true → ChoseEnough (entry ∷ past) q k i.origin
  chose_new i h made k q in_q static =
      let its = its_component limit (entry ∷ past) legal i h in
      let c = its.0 in
      let there : Contains w.components c = subst (λ (s : Step). Contains (components_by s w) c) made.4.1.0 (components_were c its.1.there) in
      let calm = legal_is_calm limit past legal.1 (legal_sound limit past legal.1) in
      let creates = calm.creates made.0 made.1 made.2 made.3 made.4.0 (subst (λ (s : Step). MayCome w s) made.4.1.0 legal.0.step) in
      let configuration : made.2 ≡ c.number = ap (λ (x : Instance). x.origin.configuration) made.4.1.1 ∙ sym its.1.number in
      let opened = ap (is_open w.open_periods) (sym configuration) ∙ current_open w.open_periods (life_made w made.2) creates.1 in
      let found = ap (component_of w.components) configuration ∙ found_of w.components (legal_sound limit past legal.1).numbered c there in
      let refs = subst (λ (rs : List Reference). Contains (with_places 0 rs) (k, q)) its.1.references in_q in
      let chosen = ap (λ (x : Instance). x.origin.chosen) (sym made.4.1.1) ∙ creates.0 ∙ ap (λ (o : Option Component). option_map_or (choices_of (registered_services w)) o []) found in
      let choice = ap (λ (cs : List Choice). choice_at cs k) chosen ∙ fresh_choice (registered_services w) c k q refs static in
      let first = least_first i.origin.created i.origin.configuration q entry past (ap (λ (x : Instance). x.origin.created) (sym made.4.1.1) ∙ entries_of past) in
      let minimum = first ∙ ap (λ (o : Option Component). (need_of (option_map_or (λ (x : Component). x.properties) o []) q).minimum) its.1.found in
      subst (λ n. AreEnough n (choice_at i.origin.chosen k)) (sym minimum)
      (subst (λ (ss : List ℕ). AreEnough (need_of c.properties q).minimum ss) (sym choice) (chosen_for_minimum limit past legal.1 c there opened q (placed_was 0 c.description.references k q refs)))

  chosen_then : HaveChosenEnough past → HaveChosenEnough (entry ∷ past)
  chosen_then before i h k q in_q static = elim (comes limit entry past legal i h) [
    | inl was ↦ chose_before before i was k q in_q static
    | inr made ↦ chose_new i h made k q in_q static
  ]

pub have_chosen_enough : (limit : ℕ) (past : History) → IsLegal limit past → HaveChosenEnough past
have_chosen_enough limit [] legal = λ i h. absurd (none_at_first i h)
have_chosen_enough limit (entry ∷ past) legal = chosen_then limit entry past legal (have_chosen_enough limit past legal.1)
