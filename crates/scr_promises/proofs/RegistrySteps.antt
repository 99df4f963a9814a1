-- What a step makes of the services that were registered by commands.
use Rattle.std.proofs.Common.{◌≡◌, ◌≤◌, ◌⊎◌, ℕ, ◌+◌, List, [], ◌∷◌, ◌++◌, ap, sym, ◌∙◌, refl, subst, cond, arith, Bool, true, false, inl, inr}
use Rattle.std.specs.Prelude.{filter, map, not, ◌==◌}
use Rattle.std.specs.List.{Contains}
use Rattle.component_state.proofs.Apart.{in_either, kept_was}
use Rattle.prop_map.specs.declared.properties.Property.{Property}
use Rattle.scr_laws.specs.Askeds.{HasOneOfEach}
use Rattle.scr_laws.proofs.Listed.{mapped_was, single}
use Rattle.scr_promises.specs.Services.{IsSameService}
use Rattle.scr_world.specs.Tables.{direct_scope, registry_by}
use Rattle.scr_world.specs.declared.command.Command.TheVariants.{Install, Update, Start, Stop, Uninstall, Enable, Disable, Register, Unregister, SetProperties, Get, Unget, Listen, Unlisten, Configure, ConfigureFactory, Unconfigure}
use Rattle.scr_world.specs.declared.step.Step.{Step}
use Rattle.scr_world.specs.declared.step.Step.TheVariants.{Command as Commanded, Begin, End, Drained, Got, Released}
use Rattle.service_registry.specs.declared.row.ServiceRow.{ServiceRow}
use Rattle.service_registry.specs.Registries.{Registered, has_number, new_row, set_row}

abbrev pub number_of : ServiceRow → ℕ
number_of r = r.id

pub itself : (r : ServiceRow) → IsSameService r r
itself r = record { number = refl; bundle = refl; interfaces = refl; direct = refl; later = omega arith; properties = λ e. refl }

-- a service that was there before a step
pub record WasDirect (t : Registered) (x : ServiceRow) : Type 0 where
  pub was : ServiceRow
  pub there : Contains t.rows was
  pub same : IsSameService was x

-- or that the step registers
pub record IsRegistered (step : Step) (t : Registered) (x : ServiceRow) : Type 0 where
  pub number : x.id ≡ t.numbered + 1
  pub counted : (registry_by step t).numbered ≡ t.numbered + 1
  pub direct : x.direct ≡ true

pub was_there : (t : Registered) (x : ServiceRow) → Contains t.rows x → WasDirect t x
was_there t x h = record { was = x; there = h; same = itself x }

pub set_same : (given : List Property) (service : ℕ) (r : ServiceRow) → IsSameService r (cond (has_number service r) (set_row given r) r)
set_same given service r = go (has_number service r)
  where
    go : (b : Bool) → IsSameService r (cond b (set_row given r) r)
    go true = record { number = refl; bundle = refl; interfaces = refl; direct = refl; later = omega arith; properties = λ e. absurd (omega (arith, e)) }
    go false = itself r

-- each is an earlier one, or the one that is registered
pub registry_was : (step : Step) (t : Registered) (x : ServiceRow) → Contains (registry_by step t).rows x → WasDirect t x ⊎ IsRegistered step t x
registry_was (Commanded (Install doc)) t x h = inl (was_there t x h)
registry_was (Commanded (Update bundle doc)) t x h = inl (was_there t x h)
registry_was (Commanded (Start bundle)) t x h = inl (was_there t x h)
registry_was (Commanded (Stop bundle)) t x h = inl (was_there t x (kept_was (λ (r : ServiceRow). not (r.bundle == bundle)) t.rows x h).0)
registry_was (Commanded (Uninstall bundle)) t x h = inl (was_there t x h)
registry_was (Commanded (Enable bundle name)) t x h = inl (was_there t x h)
registry_was (Commanded (Disable bundle name)) t x h = inl (was_there t x h)
registry_was (Commanded (Register bundle interfaces properties)) t x h = elim (in_either t.rows (new_row (t.numbered + 1) bundle interfaces direct_scope properties true ∷ []) x h) [
  | inl old ↦ inl (was_there t x old)
  | inr new ↦ (let is = single (new_row (t.numbered + 1) bundle interfaces direct_scope properties true) x new in
      inr (record { number = sym (ap number_of is); counted = refl; direct = ap (λ (r : ServiceRow). r.direct) (sym is) }))
]
registry_was (Commanded (Unregister bundle service)) t x h = inl (was_there t x (kept_was (λ (r : ServiceRow). not (has_number service r)) t.rows x h).0)
registry_was (Commanded (SetProperties bundle service properties)) t x h =
    let was = mapped_was (λ (r : ServiceRow). cond (has_number service r) (set_row properties r) r) t.rows x h in
    inl (record { was = was.0; there = was.1.0; same = subst (λ (y : ServiceRow). IsSameService was.0 y) was.1.1 (set_same properties service was.0) })
registry_was (Commanded (Get bundle service)) t x h = inl (was_there t x h)
registry_was (Commanded (Unget bundle service)) t x h = inl (was_there t x h)
registry_was (Commanded (Listen bundle test)) t x h = inl (was_there t x h)
registry_was (Commanded (Unlisten listener)) t x h = inl (was_there t x h)
registry_was (Commanded (Configure pid given)) t x h = inl (was_there t x h)
registry_was (Commanded (ConfigureFactory factory name given)) t x h = inl (was_there t x h)
registry_was (Commanded (Unconfigure pid)) t x h = inl (was_there t x h)
registry_was (Begin turn instance configuration consumer callback chosen) t x h = inl (was_there t x h)
registry_was (End turn outcome) t x h = inl (was_there t x h)
registry_was (Drained instance) t x h = inl (was_there t x h)
registry_was (Got bundle service) t x h = inl (was_there t x h)
registry_was (Released place) t x h = inl (was_there t x h)

-- how many were numbered doesn't fall
pub numbered_on : (step : Step) (t : Registered) → t.numbered ≤ (registry_by step t).numbered
numbered_on (Commanded (Install doc)) t = omega arith
numbered_on (Commanded (Update bundle doc)) t = omega arith
numbered_on (Commanded (Start bundle)) t = omega arith
numbered_on (Commanded (Stop bundle)) t = omega arith
numbered_on (Commanded (Uninstall bundle)) t = omega arith
numbered_on (Commanded (Enable bundle name)) t = omega arith
numbered_on (Commanded (Disable bundle name)) t = omega arith
numbered_on (Commanded (Register bundle interfaces properties)) t = omega arith
numbered_on (Commanded (Unregister bundle service)) t = omega arith
numbered_on (Commanded (SetProperties bundle service properties)) t = omega arith
numbered_on (Commanded (Get bundle service)) t = omega arith
numbered_on (Commanded (Unget bundle service)) t = omega arith
numbered_on (Commanded (Listen bundle test)) t = omega arith
numbered_on (Commanded (Unlisten listener)) t = omega arith
numbered_on (Commanded (Configure pid given)) t = omega arith
numbered_on (Commanded (ConfigureFactory factory name given)) t = omega arith
numbered_on (Commanded (Unconfigure pid)) t = omega arith
numbered_on (Begin turn instance configuration consumer callback chosen) t = omega arith
numbered_on (End turn outcome) t = omega arith
numbered_on (Drained instance) t = omega arith
numbered_on (Got bundle service) t = omega arith
numbered_on (Released place) t = omega arith

-- numbers stay apart
abbrev pub DirectApart : Registered → Type 0
DirectApart t = HasOneOfEach number_of t.rows

module _ (t : Registered) (one : DirectApart t) (given : (r : ServiceRow) → Contains t.rows r → r.id ≤ t.numbered) where
  kept_one : (test : ServiceRow → Bool) → HasOneOfEach number_of (filter test t.rows)
  kept_one test a b h k same = one a b (kept_was test t.rows a h).0 (kept_was test t.rows b k).0 same

  set_one : (properties : List Property) (service : ℕ) → HasOneOfEach number_of (map (λ (r : ServiceRow). cond (has_number service r) (set_row properties r) r) t.rows)
  set_one properties service a b h k same =
      let p = mapped_was (λ (r : ServiceRow). cond (has_number service r) (set_row properties r) r) t.rows a h in
      let q = mapped_was (λ (r : ServiceRow). cond (has_number service r) (set_row properties r) r) t.rows b k in
      sym p.1.1
      ∙ ap (λ (r : ServiceRow). cond (has_number service r) (set_row properties r) r)
      (one p.0 q.0 p.1.0 q.1.0 (sym (set_same properties service p.0).number ∙ ap number_of p.1.1 ∙ same ∙ ap number_of (sym q.1.1) ∙ (set_same properties service q.0).number)) ∙ q.1.1

  added_one : (new : ServiceRow) → new.id ≡ t.numbered + 1 → HasOneOfEach number_of (t.rows ++ new ∷ [])
  added_one new next a b h k same = go (in_either t.rows (new ∷ []) a h) (in_either t.rows (new ∷ []) b k)
    where
      wrong : (r x : ServiceRow) → Contains t.rows r → Contains (new ∷ []) x → r.id ≡ x.id → ⊥
      wrong r x here there e = let low = given r here in let is = ap number_of (single new x there) in omega (arith, low, is, next, e)

      go : Contains t.rows a ⊎ Contains (new ∷ []) a → Contains t.rows b ⊎ Contains (new ∷ []) b → a ≡ b
      go (inl p) (inl q) = one a b p q same
      go (inl p) (inr q) = absurd (wrong a b p q same)
      go (inr p) (inl q) = absurd (wrong b a q p (sym same))
      go (inr p) (inr q) = sym (single new a p) ∙ single new b q

  pub registry_one : (step : Step) → DirectApart (registry_by step t)
  registry_one (Commanded (Install doc)) = one
  registry_one (Commanded (Update bundle doc)) = one
  registry_one (Commanded (Start bundle)) = one
  registry_one (Commanded (Stop bundle)) = kept_one (λ (r : ServiceRow). not (r.bundle == bundle))
  registry_one (Commanded (Uninstall bundle)) = one
  registry_one (Commanded (Enable bundle name)) = one
  registry_one (Commanded (Disable bundle name)) = one
  registry_one (Commanded (Register bundle interfaces properties)) = added_one (new_row (t.numbered + 1) bundle interfaces direct_scope properties true) refl
  registry_one (Commanded (Unregister bundle service)) = kept_one (λ (r : ServiceRow). not (has_number service r))
  registry_one (Commanded (SetProperties bundle service properties)) = set_one properties service
  registry_one (Commanded (Get bundle service)) = one
  registry_one (Commanded (Unget bundle service)) = one
  registry_one (Commanded (Listen bundle test)) = one
  registry_one (Commanded (Unlisten listener)) = one
  registry_one (Commanded (Configure pid properties)) = one
  registry_one (Commanded (ConfigureFactory factory name properties)) = one
  registry_one (Commanded (Unconfigure pid)) = one
  registry_one (Begin turn instance configuration consumer callback chosen) = one
  registry_one (End turn outcome) = one
  registry_one (Drained instance) = one
  registry_one (Got bundle service) = one
  registry_one (Released place) = one
