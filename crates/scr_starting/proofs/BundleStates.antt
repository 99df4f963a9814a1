-- What is known of a bundle whose state is known.
use Rattle.std.proofs.Common.{◌≡◌, ap, refl, sym, Bool, false, Option, Some, None}
use Rattle.std.specs.Option.{option_map_or, unwrap_or}
use Rattle.std.specs.Prelude.{[], ◌∷◌, option_map}
use Rattle.bundle_life.specs.declared.bundle.BundleLife.{BundleLife}
use Rattle.bundle_life.specs.declared.bundle.BundleState.{BundleState}
use Rattle.prop_map.specs.Words.{first_some}

abbrev pub state_in : Option BundleLife → Option BundleState
state_in o = option_map (λ (b : BundleLife). b.state) o

-- the state of the bundle that is there
pub state_there : (row : BundleLife) (state : BundleState) → Some state ≡ state_in (Some row) → row.state ≡ state
state_there row state is = sym (ap (λ (o : Option BundleState). unwrap_or o state) is)

pub none_there : (o : Option BundleLife) → None ≡ state_in o → o ≡ None
none_there None is = refl
none_there (Some row) is = absurd cc

-- a test of the state
pub state_test : (test : BundleState → Bool) (state : BundleState) (o : Option BundleLife) → Some state ≡ state_in o → option_map_or (λ (b : BundleLife). test b.state) o false ≡ test state
state_test test state None is = absurd cc
state_test test state (Some row) is = ap test (state_there row state is)

-- a lone refusal is the first one
pub lone : {X : Type 0} (o : Option X) → first_some (o ∷ []) ≡ o
lone None = refl
lone (Some x) = refl
