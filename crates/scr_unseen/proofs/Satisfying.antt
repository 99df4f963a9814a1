-- The same component configurations are satisfied behind a command that no component tells apart.
use Rattle.std.proofs.Common.{◌≡◌, ℕ, List, [], ◌∷◌, ◌++◌, ap, sym, ◌∙◌, refl, cond, Bool, true, false, ◌&&◌, ◌||◌}
use Rattle.std.specs.Prelude.{filter, ◌==◌}
use Rattle.std.specs.List.{Contains, list_any}
use Rattle.component_state.specs.declared.component.Component.{Component}
use Rattle.component_state.specs.Rows.{rows_of}
use Rattle.component_state.specs.Scratch.{is_satisfied}
use Rattle.component_state.proofs.Apart.{in_first, in_rest}
use Rattle.scr_laws.specs.Opens.{meets_all, some_numbered}
use Rattle.scr_laws.specs.Stills.{SeeSame}
use Rattle.scr_unseen.proofs.SeenSame.{satisfied_same}
use Rattle.scr_world.specs.Worlds.{direct_services}
use Rattle.scr_world.specs.declared.world.World.{World}

-- a test that what isn't kept doesn't pass passes the same
any_kept : {X : Type 0} (p t : X → Bool) (xs : List X) → ((x : X) → t x ≡ false → p x ≡ false) → list_any p (filter t xs) ≡ list_any p xs
any_kept p t [] off = refl
any_kept p t (x ∷ xs) off = go (t x) refl (any_kept p t xs off)
  where
    go : (b : Bool) → t x ≡ b → list_any p (filter t xs) ≡ list_any p xs → list_any p (cond b (x ∷ filter t xs) (filter t xs)) ≡ (p x || list_any p xs)
    go true kept rest = ap (λ b. p x || b) rest
    go false gone rest = rest ∙ ap (λ b. b || list_any p xs) (sym (off x gone))

any_alike : {X : Type 0} (p q : X → Bool) (xs : List X) → ((x : X) → Contains xs x → p x ≡ q x) → list_any p xs ≡ list_any q xs
any_alike p q [] each = refl
any_alike p q (x ∷ xs) each = ap (λ b. b || list_any p xs) (each x (in_first x xs)) ∙ ap (λ b. q x || b) (any_alike p q xs (λ y h. each y (in_rest x xs y h)))

-- what is open and each need's direct services are the same, and of the component configurations those are kept that exist
module _ (w now : World) (t : Component → Bool) (components : now.components ≡ filter t w.components) (exist : (c : Component) → t c ≡ false → c.exists ≡ false)
    (open_same : now.open_periods ≡ w.open_periods) (same : SeeSame (direct_services w) (direct_services now) w.components) where
  met : (c : Component) → Contains w.components c → meets_all now c ≡ meets_all w c
  met c here =
      ap (λ ps. c.exists && is_satisfied (direct_services now ++ rows_of ps) c) open_same
      ∙ ap (λ b. c.exists && b) (sym (satisfied_same (direct_services w) (direct_services now) c (same c here) (rows_of w.open_periods)))

  gone : (number : ℕ) (c : Component) → t c ≡ false → ((c.number == number) && meets_all now c) ≡ false
  gone number c off = ap (λ b. (c.number == number) && (b && is_satisfied (direct_services now ++ rows_of now.open_periods) c)) (exist c off) ∙ never (c.number == number)
    where
      never : (b : Bool) → (b && false) ≡ false
      never true = refl
      never false = refl

  pub satisfied_numbered : (number : ℕ) → some_numbered (meets_all now) now.components number ≡ some_numbered (meets_all w) w.components number
  satisfied_numbered number =
      ap (λ cs. some_numbered (meets_all now) cs number) components
      ∙ any_kept (λ (c : Component). (c.number == number) && meets_all now c) t w.components (gone number)
      ∙ any_alike (λ (c : Component). (c.number == number) && meets_all now c) (λ (c : Component). (c.number == number) && meets_all w c) w.components
      (λ c here. ap (λ b. (c.number == number) && b) (met c here))
