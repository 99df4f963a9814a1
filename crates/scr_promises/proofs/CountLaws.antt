-- Each component configuration that exists is made of its description and of the configurations that count for it.
use Rattle.std.proofs.Common.{◌≡◌, ℕ, List, ap, sym, ◌∙◌, refl, subst, cond, Bool, true, false, Option, Some, None}
use Rattle.std.specs.Prelude.{find, is_some}
use Rattle.std.specs.List.{Contains, list_all}
use Rattle.std.specs.Option.{option_map_or}
use Rattle.component_dto.specs.declared.description.Description.{Description}
use Rattle.component_state.specs.declared.component.Component.{Component}
use Rattle.component_state.specs.Components.{existing, numbers_of}
use Rattle.component_state.specs.ComponentConfigurations.{as_configured, component_after, component_for, component_properties, is_same_component, with_number}
use Rattle.component_state.proofs.Apart.{kept_was}
use Rattle.config_admin.specs.declared.configuration.Configuration.{Configuration}
use Rattle.scr_laws.specs.Askeds.{IsAsked, asked_in}
use Rattle.scr_laws.proofs.Asking.{same_parts}
use Rattle.scr_laws.proofs.Histories.{legal_is_asked}
use Rattle.scr_laws.proofs.Listed.{found_was}
use Rattle.scr_laws.proofs.Stillness.{same_kept}
use Rattle.scr_promises.specs.Counts.{CountRightly, IsMadeOfCounting, counting_in, is_part, made_of}
use Rattle.scr_promises.proofs.CountedConfigurations.{IsNamed, counting_at, counts_as_part, counts_made, made_counts}
use Rattle.scr_promises.proofs.PlacedDescriptions.{StandsAt, all_stand, asked_of, one_stands}
use Rattle.scr_readers.specs.Counting.{counts_for}
use Rattle.scr_world.specs.Legal.{IsLegal}
use Rattle.scr_world.specs.Lists.{world_of}
use Rattle.scr_world.specs.Steps.{History}
use Rattle.scr_world.specs.declared.world.World.{World}

-- which of those that there are to be one that exists is
record IsThatOne (these : List Component) (c : Component) : Type 0 where
  one : Component
  there : Contains these one
  same : is_same_component c one ≡ true
  configured : c.configured ≡ one.configured
  properties : c.properties ≡ with_number c.number one.properties

that_one : (these : List Component) (c : Component) → component_after 0 these c ≡ c → c.exists ≡ true → IsThatOne these c
that_one these c stands lives = go c.exists lives (find (is_same_component c) these) refl stands
  where
    gone : record c { exists = false } ≡ c → ⊥
    gone is = wrong (ap (λ (x : Component). x.exists) is ∙ lives)
      where
        wrong : false ≡ true → ⊥
        wrong e = cc

    go : (b : Bool) → b ≡ true → (o : Option Component) → find (is_same_component c) these ≡ o → cond b (option_map_or (as_configured 0 c) o (record c { exists = false })) c ≡ c → IsThatOne these c
    go false off o found is = absurd (wrong off)
      where
        wrong : false ≡ true → ⊥
        wrong e = cc
    go true on None found is = absurd (gone is)
    go true on (Some a) found is = let was = found_was (is_same_component c) these a found in record {
      one = a;
      there = was.0;
      same = was.1;
      configured = sym (ap (λ (x : Component). x.configured) is);
      properties = sym (ap (λ (x : Component). x.properties) is);
    }

module _ (w : World) (asked : IsAsked w) (stand : (c : Component) → Contains w.components c → c.exists ≡ true → StandsAt w.documents c.bundle c.index c.description) (c : Component) (here : Contains w.components c) (lives : c.exists ≡ true) where
  is : IsThatOne (asked_in w) c
  is = that_one (asked_in w) c (asked.components.stand 0 c here) lives

  -- its description is that of the one that there is to be
  described : c.description ≡ is.one.description
  described =
      let parts = same_parts c is.one is.same in
      let there = (asked_of w.bundles.rows w.documents w.configurations asked.apart.one_configuration is.one is.there).stands in
      one_stands w.documents asked.apart.one_document c.bundle c.index c.description is.one.description (stand c here lives)
      (subst (λ n. StandsAt w.documents c.bundle n is.one.description) (sym parts.1.0) (subst (λ n. StandsAt w.documents n is.one.index is.one.description) (sym parts.0) there))

  naming : IsNamed w.configurations c.description.configuration_policy c.description.configuration_pids c.pid
  naming =
      let parts = same_parts c is.one is.same in
      let by = (asked_of w.bundles.rows w.documents w.configurations asked.apart.one_configuration is.one is.there).by in
      subst (λ (d : Description). IsNamed w.configurations d.configuration_policy d.configuration_pids c.pid) (sym described)
      (subst (λ p. IsNamed w.configurations is.one.description.configuration_policy is.one.description.configuration_pids p) (sym parts.1.1) by.naming)

  -- and the two differ in number, and in when the properties changed, alone
  as_asked : record c { number = 0; configured = list_all is_some (counting_in w.configurations c); properties = component_properties c.description (made_of w.configurations c); changed = None } ≡ is.one
  as_asked =
      let parts = same_parts c is.one is.same in
      let a = asked_of w.bundles.rows w.documents w.configurations asked.apart.one_configuration is.one is.there in
      let home : c.bundle ≡ a.bundle.id = parts.0 ∙ a.by.home in
      let first : record c { number = 0; configured = list_all is_some (counting_in w.configurations c); properties = component_properties c.description (made_of w.configurations c); changed = None }
      ≡ component_for a.bundle c.index c.description c.pid (counting_in w.configurations c)
      = λ i. record { number = 0; bundle = home i; index = c.index; pid = c.pid; exists = lives i; description = c.description; configured = list_all is_some (counting_in w.configurations c); properties = component_properties c.description (made_of w.configurations c); changed = None } in
      first
      ∙ ap (λ n. component_for a.bundle n c.description c.pid (counting_at w.configurations c.description.configuration_policy c.description.configuration_pids c.pid)) parts.1.0
      ∙ ap (λ (d : Description). component_for a.bundle is.one.index d c.pid (counting_at w.configurations d.configuration_policy d.configuration_pids c.pid)) described
      ∙ ap (λ p. component_for a.bundle is.one.index is.one.description p (counting_at w.configurations is.one.description.configuration_policy is.one.description.configuration_pids p)) parts.1.1
      ∙ a.by.made

  configured : c.configured ≡ list_all is_some (counting_in w.configurations c)
  configured = is.configured ∙ sym (ap (λ (x : Component). x.configured) as_asked)

  pub made_so : IsMadeOfCounting w c
  made_so = record {
    asked = subst (λ (x : Component). Contains (asked_in w) x) (sym (ap (λ b. record c { number = 0; configured = b; properties = component_properties c.description (made_of w.configurations c); changed = None }) configured ∙ as_asked)) is.there;
    properties = is.properties ∙ ap (with_number c.number) (sym (ap (λ (x : Component). x.properties) as_asked));
    configured = configured;
    made = made_counts w.configurations asked.apart.one_configuration c naming;
    counted = counts_made w.configurations asked.apart.one_configuration c naming;
  }

  pub counts_so : (k : Configuration) → Contains w.configurations k → counts_for w.configurations k c ≡ is_part k (made_of w.configurations c)
  counts_so k there = counts_as_part w.configurations asked.apart.one_configuration c naming k there

pub count_rightly : (limit : ℕ) (past : History) → IsLegal limit past → CountRightly (world_of past)
count_rightly limit past legal =
    let w = world_of past in
    let asked = legal_is_asked limit past legal in
    let stand = all_stand limit past legal in
    let live = kept_was (λ (c : Component). c.exists) w.components in
    record {
      made = λ c h. made_so w asked stand c (live c h).0 (live c h).1;
      told = λ k there. ap numbers_of (same_kept (counts_for w.configurations k) (λ (c : Component). is_part k (made_of w.configurations c)) (existing w.components)
          (λ c h. counts_so w asked stand c (live c h).0 (live c h).1 k there));
    }
