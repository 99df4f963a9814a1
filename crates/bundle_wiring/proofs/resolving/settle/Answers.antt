use Rattle.std.proofs.Common.{◌≡◌, ◌∙◌, ◌<◌, ap, sym, subst, length, map, arith, true, false, List, Bool}
use Rattle.std.specs.List.{list_any}
use Rattle.std.specs.Prelude.{fold}
use Rattle.std.specs.Vec.{vec_len}
use Rattle.std.proofs.lemmas.List.{with_items_is}
use Rattle.bundle_wiring.specs.Standings.{HoldsConsistent, all_standing, is_left, is_lost, standing_of, struck}
use Rattle.bundle_wiring.specs.declared.standings.Stand.{Stand}
use Rattle.bundle_wiring.proofs.Sets.{any_map}
use Rattle.bundle_wiring.proofs.Stands.{all_rest, count, fewer, holds_on, looked_on, shrinks}
use Rattle.bundle_wiring.proofs.resolving.settle.Goals as goal

pub look_on-requires-clause-rest : goal.look_on-requires-clause-rest
look_on-requires-clause-rest c =
    let table = c.args.table.now in
    let bundles = c.args.bundles.now in
    let left = c.rounds.left.items in
    let standing = all_standing left table 0 bundles in
    let round : c.strike_lost.new.left ≡ fold (struck table) left standing =
    c.strike_lost.ensures
    ∙ (ap (λ (l : List Bool). fold (struck table) l (map standing_of c.as_slice-in-rounds-3.result.now)) c.as_mut_slice.ensures.value
    ∙ (ap (λ (ss : List Stand). fold (struck table) left (map standing_of ss)) c.as_slice-in-rounds-3.ensures.value ∙ ap (fold (struck table) left) c.rounds.invariant.stand)) in
    let whole : length c.strike_lost.new.left ≡ vec_len c.rounds.left = omega (arith, c.strike_lost.auto.left, c.as_mut_slice.ensures.len) in
    let less : c.as_slice-in-rounds-4.result.now ≡ fold (struck table) left standing = c.as_slice-in-rounds-4.ensures.value ∙ (with_items_is c.rounds.left c.strike_lost.new.left whole ∙ round) in
    all_rest left c.as_slice-in-rounds-4.result.now table bundles c.as_mut_slice-in-rounds.result.now
    (λ k h. shrinks table left standing k (subst (λ (l : List Bool). is_left l k ≡ true) less h)) (ap (map standing_of) c.as_mut_slice-in-rounds.ensures.value ∙ c.rounds.invariant.stand)

pub rounds-smaller : goal.rounds-smaller
rounds-smaller c =
    let table = c.args.table.now in
    let bundles = c.args.bundles.now in
    let left = c.rounds.left.items in
    let standing = all_standing left table 0 bundles in
    let round : c.strike_lost.new.left ≡ fold (struck table) left standing =
    c.strike_lost.ensures
    ∙ (ap (λ (l : List Bool). fold (struck table) l (map standing_of c.as_slice-in-rounds-3.result.now)) c.as_mut_slice.ensures.value
    ∙ (ap (λ (ss : List Stand). fold (struck table) left (map standing_of ss)) c.as_slice-in-rounds-3.ensures.value ∙ ap (fold (struck table) left) c.rounds.invariant.stand)) in
    let whole : length c.strike_lost.new.left ≡ vec_len c.rounds.left = omega (arith, c.strike_lost.auto.left, c.as_mut_slice.ensures.len) in
    let some : c.some_lost.result ≡ list_any (is_lost left table) standing =
    c.some_lost.ensures
    ∙ (ap (λ (l : List Bool). list_any (λ s. is_lost l table (standing_of s)) c.as_slice-in-rounds-2.result.now) c.as_slice-in-rounds.ensures.value
    ∙ (ap (list_any (λ s. is_lost left table (standing_of s))) c.as_slice-in-rounds-2.ensures.value
    ∙ (sym (any_map (is_lost left table) standing_of c.rounds.stands.items) ∙ ap (list_any (is_lost left table)) c.rounds.invariant.stand))) in
    subst (λ (l : List Bool). count l < count left) (sym (with_items_is c.rounds.left c.strike_lost.new.left whole ∙ round)) (fewer table left standing (sym some ∙ c.rounds-test.true))

pub rounds-preserved : goal.rounds-preserved
rounds-preserved c =
    let table = c.args.table.now in
    let bundles = c.args.bundles.now in
    let left = c.rounds.left.items in
    let standing = all_standing left table 0 bundles in
    let round : c.strike_lost.new.left ≡ fold (struck table) left standing =
    c.strike_lost.ensures
    ∙ (ap (λ (l : List Bool). fold (struck table) l (map standing_of c.as_slice-in-rounds-3.result.now)) c.as_mut_slice.ensures.value
    ∙ (ap (λ (ss : List Stand). fold (struck table) left (map standing_of ss)) c.as_slice-in-rounds-3.ensures.value ∙ ap (fold (struck table) left) c.rounds.invariant.stand)) in
    let whole : length c.strike_lost.new.left ≡ vec_len c.rounds.left = omega (arith, c.strike_lost.auto.left, c.as_mut_slice.ensures.len) in
    let all : length c.look_on.new.stands ≡ vec_len c.rounds.stands = omega (arith, c.look_on.auto.stands, c.as_mut_slice-in-rounds.ensures.len) in
    let is = with_items_is c.rounds.left c.strike_lost.new.left whole ∙ round in
    record {
      stand =
          ap (map standing_of) (with_items_is c.rounds.stands c.look_on.new.stands all ∙ c.look_on.ensures)
          ∙ (looked_on left c.as_slice-in-rounds-4.result.now table bundles c.as_mut_slice-in-rounds.result.now (ap (map standing_of) c.as_mut_slice-in-rounds.ensures.value ∙ c.rounds.invariant.stand)
          ∙ ap (λ (l : List Bool). all_standing l table 0 bundles) c.as_slice-in-rounds-4.ensures.value);
      holds = subst (HoldsConsistent bundles) (sym is) (holds_on table bundles left c.requires c.rounds.invariant.holds);
    }

pub returns : goal.returns
returns c =
    let table = c.args.table.now in
    let left = c.rounds.left.items in
    let none : c.some_lost.result ≡ list_any (is_lost left table) (map standing_of c.rounds.stands.items) =
    c.some_lost.ensures
    ∙ (ap (λ (l : List Bool). list_any (λ s. is_lost l table (standing_of s)) c.as_slice-in-rounds-2.result.now) c.as_slice-in-rounds.ensures.value
    ∙ (ap (list_any (λ s. is_lost left table (standing_of s))) c.as_slice-in-rounds-2.ensures.value
    ∙ sym (any_map (is_lost left table) standing_of c.rounds.stands.items))) in
    record { stand = c.rounds.invariant.stand; holds = c.rounds.invariant.holds; none_lost = sym none ∙ c.rounds-test.false }
