-- Whom a nested call reaches is decided by the best service that is held.
use Rattle.std.proofs.Common.{◌≡◌, ap, sym, ℕ, List, [], ◌∷◌, cond, Some, None, Result, Ok, Err, IfOk, refl}
use Rattle.scr_world.specs.declared.world.World.{World}
use Rattle.scr_readers.specs.declared.live.Inward.{Inward}
use Rattle.scr_readers.specs.declared.live.Inward.TheVariants.{NoService, NoObject}
use Rattle.scr_readers.specs.Inside.{first_one}
use Rattle.scr_readers.specs.Reaching.{inward_by, inward_to, is_direct, server_of}

module _ (w : World) (bundle : ℕ) where
  abbrev pub inward_of : ℕ → Inward
  inward_of s = cond (is_direct w s) (NoObject s) (inward_by w s (server_of w bundle s))

  is_same : (x s : ℕ) → Some s ≡ Some x → x ≡ s
  is_same x s e = cc

  not_none : (x : ℕ) → None ≡ Some x → ⊥
  not_none x e = cc

  not_some : (s : ℕ) → Some s ≡ None → ⊥
  not_some s e = cc

  pub some_held : (s : ℕ) (held : List ℕ) → Some s ≡ first_one held → inward_of s ≡ inward_to w bundle held
  some_held s [] e = absurd (not_some s e)
  some_held s (x ∷ xs) e = ap inward_of (sym (is_same x s e))

  pub none_held : (held : List ℕ) → None ≡ first_one held → NoService ≡ inward_to w bundle held
  none_held [] e = refl
  none_held (x ∷ xs) e = absurd (not_none x e)

-- what follows of the value of a success
pub ok_then : {A E : Type 0} (r : Result A E) (P Q : A → Type 0) → ((x : A) → P x → Q x) → IfOk r P → IfOk r Q
ok_then (Ok x) P Q f h = f x h
ok_then (Err e) P Q f h = h
