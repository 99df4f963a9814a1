-- Where a target ceases to be a filter: there is one such place, and the machine finds it.
use Rattle.std.proofs.Common.{◌≡◌, refl, ap, ℕ, List, Option, Some, None}
use Rattle.std.specs.Prelude.{Ok, Err}
use Rattle.std.specs.Result.{result_err}
use Rattle.ldap_filter.proofs.Texts.{reading_only}
use Rattle.component_dto.specs.Targets.{HasPlace, bad_target}

pub place_is : (target : Option (List ℕ)) (place : Option ℕ) → HasPlace target place → place ≡ bad_target target
place_is None None h = refl
place_is None (Some at) h = absurd h
place_is (Some text) None h = ap result_err (reading_only text (Ok h.0) h.1)
place_is (Some text) (Some at) h = ap result_err (reading_only text (Err at) h)
