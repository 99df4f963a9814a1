-- As long as a get stands, the instance that serves it isn't ending.
use Rattle.std.proofs.Common.{◌≡◌, ◌<◌, ℕ, ap, sym, ◌∙◌, subst, arith, true, false, inr}
use Rattle.std.specs.Prelude.{◌==◌}
use Rattle.std.specs.List.{Contains}
use Rattle.std.proofs.lemmas.Bool.{and_parts, both_ways, eqb-true}
use Rattle.component_state.proofs.Apart.{any_found}
use Rattle.scr_promises.specs.Gets.{GotGoOn}
use Rattle.scr_promises.proofs.GetNumbers.{uses_numbered_in}
use Rattle.scr_promises.proofs.InstanceServices.{have_periods}
use Rattle.scr_promises.proofs.ServingLaws.{serving_goes_on}
use Rattle.scr_promises.proofs.ServiceLaws.{IsKind, are_services, of_command, of_component, of_platform, of_those_left, registered_is, registered_kind}
use Rattle.scr_laws.proofs.OwnerLaws.{active_owners}
use Rattle.scr_world.specs.Legal.{IsLegal}
use Rattle.scr_world.specs.Lists.{world_of}
use Rattle.scr_world.specs.Steps.{History}
use Rattle.scr_world.specs.Views.{ends, serves}
use Rattle.scr_world.specs.Worlds.{is_registered, registered_services}
use Rattle.scr_world.specs.declared.instance.Instance.{Instance}
use Rattle.scr_world.specs.declared.world.World.{World}
use Rattle.service_registry.specs.declared.row.ServiceRow.{ServiceRow}
use Rattle.use_counts.specs.declared.uses.UseRow.{UseRow}

module _ (limit : ℕ) (past : History) (legal : IsLegal limit past) (u : UseRow) (h : Contains (world_of past).uses u) (i : Instance) (there : Contains (world_of past).instances i) (serving : serves (world_of past) u.bundle u.service i ≡ true) where
  abbrev w : World
  w = world_of past

  some : 0 < u.service
  some = uses_numbered_in limit past legal u h

  service : i.service ≡ u.service
  service = eqb-true i.service u.service (and_parts (i.service == u.service) _ serving).0

  by_kind : (r : ServiceRow) → Contains (registered_services w) r → r.id ≡ u.service → IsKind w r → ends w i ≡ false
  by_kind r k number (of_platform is) = (let none = ap (λ (x : ServiceRow). x.id) is in let high = some in absurd (omega (arith, none, number, high)))
  by_kind r k number (of_command here) = absurd ((have_periods limit past legal i there).of_component r here (number ∙ sym service) (subst (λ n. 0 < n) (sym service) some))
  by_kind r k number (of_those_left here) = absurd (both_ways (is_registered w r.id) ((are_services limit past legal).left_gone r here) (registered_is w r k))
  by_kind r k number (of_component p here is above) =
      serving_goes_on limit past legal p here u.service (ap (λ (x : ServiceRow). x.id) is ∙ number) some u.bundle (inr ((active_owners limit past legal).uses u h)) i there serving

  goes_on : ends w i ≡ false
  goes_on =
      let r = any_found (λ (x : ServiceRow). x.id == u.service) (registered_services w) ((active_owners limit past legal).used u h) in
      by_kind r.0 r.1 (eqb-true r.0.id u.service r.2) (registered_kind w r.0 r.1)

pub got_go_on : (limit : ℕ) (past : History) → IsLegal limit past → GotGoOn (world_of past)
got_go_on limit past legal = record { numbered = uses_numbered_in limit past legal; going_on = goes_on limit past legal }
