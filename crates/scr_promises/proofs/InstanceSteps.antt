-- Over an entry of a settling an instance never has more turns to come, and fewer where one of its turns begins.
use Rattle.std.proofs.Common.{◌≡◌, ◌≤◌, ℕ, ◌+◌, List, [], ◌∷◌, ap, sym, ◌∙◌, refl, subst, cond, arith, Bool, true, false, Option, Some, None}
use Rattle.std.specs.Prelude.{find, ◌==◌}
use Rattle.std.specs.List.{Contains}
use Rattle.std.specs.Option.{option_map_or}
use Rattle.component_dto.specs.TextLists.{has_text}
use Rattle.component_dto.specs.declared.description.Reference.{Reference}
use Rattle.component_state.specs.declared.component.Component.{Component}
use Rattle.component_state.specs.declared.open_period.OpenPeriod.{OpenPeriod}
use Rattle.component_state.specs.declared.origin.Origin.{Origin}
use Rattle.component_state.specs.Periods.{is_open}
use Rattle.component_state.specs.Rows.{service_in}
use Rattle.component_state.proofs.Apart.{kept_was}
use Rattle.journal_core.specs.declared.entry.Entry.{Entry}
use Rattle.prop_map.specs.Words.{with_places}
use Rattle.scr_laws.proofs.Listed.{found_was}
use Rattle.scr_promises.proofs.ServiceLaws.{are_services}
use Rattle.scr_promises.specs.Settlings.{is_settling}
use Rattle.scr_promises.proofs.EntryGrowth.{components_stay, open_then, service_stays}
use Rattle.scr_promises.proofs.LifeSteps.{life_low}
use Rattle.scr_promises.proofs.PairMoves.{HasOwnNames, Moves, pair_low}
use Rattle.scr_promises.proofs.PairSteps.{value_low}
use Rattle.scr_promises.proofs.Potentials.{component_left, components_with, direct_with, held_at, instance_left, life_left, pair_left, reference_left}
use Rattle.scr_promises.proofs.Sums.{total, total_less, total_low}
use Rattle.scr_world.specs.Legal.{IsLegal}
use Rattle.scr_world.specs.Lists.{world_of}
use Rattle.scr_world.specs.Steps.{History}
use Rattle.scr_world.specs.Views.{references_in}
use Rattle.scr_world.specs.Whiteboard.{component_in}
use Rattle.scr_world.specs.Worlds.{direct_services}
use Rattle.scr_world.specs.declared.instance.Instance.{Instance}
use Rattle.scr_world.specs.declared.step.Step.{Step}
use Rattle.scr_world.specs.declared.world.World.{World}
use Rattle.service_registry.specs.declared.row.ServiceRow.{ServiceRow}

-- the services that the counts of a settling look at have been numbered
pub record Reaches (start w : World) : Type 0 where
  pub direct : (q : ServiceRow) → Contains (direct_services start) q → q.id ≤ w.registry.numbered
  pub held : (number : ℕ) (name : List ℕ) (s : ℕ) → Contains (held_at start number name) s → s ≤ w.registry.numbered

-- a count looks at a service for a reference of the instance of a number
pub data IsCounted (start w : World) (number : ℕ) (r : ℕ × Reference) (s : ℕ) : Type 0 where
  as_direct : (q : ServiceRow) → Contains (direct_with start r.1.interface_name) q → q.id ≡ s → IsCounted start w number r s
  of_component : (c : Component) → Contains (components_with start r.1.interface_name) c → is_open w.open_periods c.number ≡ true → service_in w.open_periods c.number ≡ s → IsCounted start w number r s
  as_held : Contains (held_at start number r.1.name) s → IsCounted start w number r s

two_at_most : (b : Bool) (n : ℕ) → n ≤ 2 → cond b n 2 ≤ 2
two_at_most true n low = low
two_at_most false n low = omega arith

module _ (start : World) (limit : ℕ) (entry : Entry Step) (past : History) (legal : IsLegal limit (entry ∷ past)) (settles : is_settling entry.step (world_of past) ≡ true) (closed : entry.closed ≡ []) (reaches : Reaches start (world_of past))
    (e d : Bool) (goes_on : e ≡ true → d ≡ true) (i j : Instance) (number : j.number ≡ i.number) (origin : j.origin ≡ i.origin) (own : HasOwnNames (world_of past) i) (moves : Moves e (world_of past) i j) where
  abbrev w : World
  w = world_of past

  abbrev then : World
  then = world_of (entry ∷ past)

  pub references_same : references_in then j ≡ references_in w i
  references_same =
      ap (λ (o : Origin). option_map_or (λ (c : Component). c.description.references) (component_in then.components o.configuration) []) origin
      ∙ ap (λ (cs : List Component). option_map_or (λ (c : Component). c.description.references) (component_in cs i.origin.configuration) []) (components_stay limit entry past legal settles closed)

  service_low : (n : ℕ) → is_open w.open_periods n ≡ true → service_in w.open_periods n ≤ w.registry.numbered
  service_low n on = go (find (λ (p : OpenPeriod). p.configuration == n) w.open_periods) refl
    where
      go : (o : Option OpenPeriod) → find (λ (p : OpenPeriod). p.configuration == n) (world_of past).open_periods ≡ o → option_map_or (λ (p : OpenPeriod). p.row.id) o 0 ≤ (world_of past).registry.numbered
      go None is = omega arith
      go (Some p) is = (are_services limit past legal.1).period_given p (found_was (λ (q : OpenPeriod). q.configuration == n) (world_of past).open_periods p is).0

  module _ (r : ℕ × Reference) (in_r : Contains (with_places 0 (references_in w i)) r) where
    pair_no_more : (s : ℕ) → s ≤ w.registry.numbered → pair_left d then j r s ≤ pair_left e w i r s
    pair_no_more s low = pair_low limit entry past legal settles closed e d goes_on i j origin r s low moves own in_r

    component_now : (c : Component) → is_open w.open_periods c.number ≡ true → component_left d then j r c ≡ pair_left d then j r (service_in w.open_periods c.number)
    component_now c on =
        ap (λ b. cond b (pair_left d then j r (service_in then.open_periods c.number)) 2) (open_then limit entry past legal settles closed c.number on)
        ∙ ap (pair_left d then j r) (service_stays limit entry past legal settles closed c.number on)

    component_was : (c : Component) → is_open w.open_periods c.number ≡ true → component_left e w i r c ≡ pair_left e w i r (service_in w.open_periods c.number)
    component_was c on = ap (λ b. cond b (pair_left e w i r (service_in w.open_periods c.number)) 2) on

    component_low : (c : Component) → component_left d then j r c ≤ component_left e w i r c
    component_low c = go (is_open w.open_periods c.number) refl
      where
        go : (b : Bool) → is_open (world_of past).open_periods c.number ≡ b → component_left d (world_of (entry ∷ past)) j r c ≤ component_left e (world_of past) i r c
        go true on = (let now = component_now c on in let was = component_was c on in let low = pair_no_more (service_in w.open_periods c.number) (service_low c.number on) in omega (arith, now, was, low))
        go false off =
            let was : component_left e (world_of past) i r c ≡ 2 = ap (λ b. cond b (pair_left e (world_of past) i r (service_in (world_of past).open_periods c.number)) 2) off in
            let low = two_at_most (is_open (world_of (entry ∷ past)).open_periods c.number) (pair_left d (world_of (entry ∷ past)) j r (service_in (world_of (entry ∷ past)).open_periods c.number)) (value_low _ _ _) in
            omega (arith, was, low)

    directs_low : total (λ (q : ServiceRow). pair_left d then j r q.id) (direct_with start r.1.interface_name) ≤ total (λ (q : ServiceRow). pair_left e w i r q.id) (direct_with start r.1.interface_name)
    directs_low = total_low (λ (q : ServiceRow). pair_left d then j r q.id) (λ (q : ServiceRow). pair_left e w i r q.id) (direct_with start r.1.interface_name)
        (λ q h. pair_no_more q.id (reaches.direct q (kept_was (λ (x : ServiceRow). has_text x.interfaces r.1.interface_name) (direct_services start) q h).0))

    components_low : total (component_left d then j r) (components_with start r.1.interface_name) ≤ total (component_left e w i r) (components_with start r.1.interface_name)
    components_low = total_low (component_left d then j r) (component_left e w i r) (components_with start r.1.interface_name) (λ c h. component_low c)

    helds_same : total (pair_left d then j r) (held_at start j.number r.1.name) ≡ total (pair_left d then j r) (held_at start i.number r.1.name)
    helds_same = ap (λ n. total (pair_left d then j r) (held_at start n r.1.name)) number

    helds_low : total (pair_left d then j r) (held_at start i.number r.1.name) ≤ total (pair_left e w i r) (held_at start i.number r.1.name)
    helds_low = total_low (pair_left d then j r) (pair_left e w i r) (held_at start i.number r.1.name) (λ s h. pair_no_more s (reaches.held i.number r.1.name s h))

    reference_low : reference_left start d then j r ≤ reference_left start e w i r
    reference_low = (let a = directs_low in let b = components_low in let c = helds_low in let same = helds_same in omega (arith, a, b, c, same))

    -- where one of the services that are counted has fewer turns to come
    reference_less : (s : ℕ) → IsCounted start w i.number r s → pair_left d then j r s + 1 ≤ pair_left e w i r s → reference_left start d then j r + 1 ≤ reference_left start e w i r
    reference_less s (as_direct q h is) less =
        let a = total_less (λ (x : ServiceRow). pair_left d then j r x.id) (λ (x : ServiceRow). pair_left e w i r x.id) (direct_with start r.1.interface_name)
        (λ x k. pair_no_more x.id (reaches.direct x (kept_was (λ (y : ServiceRow). has_text y.interfaces r.1.interface_name) (direct_services start) x k).0)) q h
        (subst (λ n. pair_left d then j r n + 1 ≤ pair_left e w i r n) (sym is) less) in
        let b = components_low in let c = helds_low in let same = helds_same in omega (arith, a, b, c, same)
    reference_less s (of_component c h on is) less =
        let now = component_now c on ∙ ap (pair_left d then j r) is in
        let was = component_was c on ∙ ap (pair_left e w i r) is in
        let one : component_left d then j r c + 1 ≤ component_left e w i r c = omega (arith, now, was, less) in
        let a = directs_low in
        let b = total_less (component_left d then j r) (component_left e w i r) (components_with start r.1.interface_name) (λ x k. component_low x) c h one in
        let c = helds_low in let same = helds_same in omega (arith, a, b, c, same)
    reference_less s (as_held h) less =
        let a = directs_low in
        let b = components_low in
        let c = total_less (pair_left d then j r) (pair_left e w i r) (held_at start i.number r.1.name) (λ x k. pair_no_more x (reaches.held i.number r.1.name x k)) s h less in
        let same = helds_same in omega (arith, a, b, c, same)

  references_are : total (reference_left start d then j) (with_places 0 (references_in then j)) ≡ total (reference_left start d then j) (with_places 0 (references_in w i))
  references_are = ap (λ (rs : List Reference). total (reference_left start d then j) (with_places 0 rs)) references_same

  references_low : total (reference_left start d then j) (with_places 0 (references_in w i)) ≤ total (reference_left start e w i) (with_places 0 (references_in w i))
  references_low = total_low (reference_left start d then j) (reference_left start e w i) (with_places 0 (references_in w i)) (λ r h. reference_low r h)

  pub instance_low : instance_left start d then j ≤ instance_left start e w i
  instance_low =
      let a = life_low limit entry past legal settles closed e i j origin moves in
      let b = references_are in let c = references_low in
      omega (arith, a, b, c)

  pub life_fewer : life_left then j + 1 ≤ life_left w i → instance_left start d then j + 1 ≤ instance_left start e w i
  life_fewer a = (let b = references_are in let c = references_low in omega (arith, a, b, c))

  pub pair_fewer : (r : ℕ × Reference) → Contains (with_places 0 (references_in w i)) r → (s : ℕ) → IsCounted start w i.number r s → pair_left d then j r s + 1 ≤ pair_left e w i r s → instance_left start d then j + 1 ≤ instance_left start e w i
  pair_fewer r in_r s counted less =
      let a = life_low limit entry past legal settles closed e i j origin moves in
      let b = references_are in
      let c = total_less (reference_left start d then j) (reference_left start e w i) (with_places 0 (references_in w i)) (λ q h. reference_low q h) r in_r (reference_less r in_r s counted less) in
      omega (arith, a, b, c)
