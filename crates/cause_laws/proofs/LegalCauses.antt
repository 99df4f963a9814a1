-- Direct causes in the world of a legal journal.
use Rattle.std.proofs.Common.{◌≡◌, ℕ, List, [], ◌∷◌, ap, sym, ◌∙◌, refl, subst, cond, map, Bool, true, false, ◌&&◌, Option}
use Rattle.std.specs.Prelude.{is_some}
use Rattle.std.specs.List.{list_all}
use Rattle.component_dto.specs.declared.description.ConfigurationPolicy.{ConfigurationPolicy}
use Rattle.component_dto.specs.declared.description.ConfigurationPolicy.TheVariants.{Optional, Require, Ignore}
use Rattle.component_state.specs.declared.component.Component.{Component}
use Rattle.component_state.specs.ComponentConfigurations.{counting, factory_of}
use Rattle.component_state.specs.Components.{is_required}
use Rattle.config_admin.specs.declared.configuration.Configuration.{Configuration}
use Rattle.scr_laws.proofs.Described.{legal_in_order}
use Rattle.scr_laws.proofs.Legal.{legal_scratch}
use Rattle.scr_promises.proofs.CountLaws.{count_rightly}
use Rattle.scr_readers.specs.Counting.{lets_count}
use Rattle.scr_world.specs.Legal.{IsLegal}
use Rattle.scr_world.specs.Lists.{world_of}
use Rattle.scr_world.specs.Steps.{History}
use Rattle.scr_causes.specs.CauseLaws.{AreConfigured, TellWhy}
use Rattle.scr_causes.specs.DirectCauses.{counting_under, naming}
use Rattle.scr_causes.proofs.CauseLaws.{tell_why}

required_counts : (p : ConfigurationPolicy) → is_required p ≡ true → lets_count p ≡ true
required_counts Optional is = refl
required_counts Require is = refl
required_counts Ignore is = is

all_mapped : {X Y : Type 0} (p : Y → Bool) (g : X → Y) (xs : List X) → list_all p (map g xs) ≡ list_all (λ x. p (g x)) xs
all_mapped p g [] = refl
all_mapped p g (x ∷ xs) = ap (λ b. p (g x) && b) (all_mapped p g xs)

pub legal_configured : (limit : ℕ) (past : History) → IsLegal limit past → AreConfigured (world_of past)
legal_configured limit past legal c here required =
    let ks = (world_of past).configurations in
    let these = counting ks (factory_of ks c.description.configuration_pids) (naming ks c) c.description.configuration_pids in
    ((count_rightly limit past legal).made c here).configured
    ∙ ap (λ b. list_all is_some (cond b these [])) (required_counts c.description.configuration_policy required)
    ∙ all_mapped is_some (counting_under ks c) c.description.configuration_pids

pub legal_tells_why : (limit : ℕ) (past : History) → IsLegal limit past → TellWhy (world_of past)
legal_tells_why limit past legal = tell_why (world_of past) (legal_in_order limit past legal) (legal_scratch limit past legal) (legal_configured limit past legal)
