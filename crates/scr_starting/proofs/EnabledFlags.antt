-- Flags where a list of them or of descriptions is at its end.
use Rattle.std.proofs.Common.{◌≡◌, ◌⊎◌, ℕ, List, [], ◌∷◌, ◌++◌, ap, refl, ◌∙◌, append-nil, Bool, false, inl, inr}
use Rattle.component_dto.specs.declared.description.Description.{Description}
use Rattle.scr_starting.specs.Enabled.{has_disabled}
use Rattle.scr_world.specs.Replies.{flag_of}
use Rattle.scr_world.specs.Tables.{with_flag}

none_enabled : (name : List ℕ) (ds : List Description) → flag_of name ds [] ≡ false
none_enabled name [] = refl
none_enabled name (d ∷ ds) = refl

none_disabled : (name : List ℕ) (ds : List Description) → has_disabled name ds [] ≡ false
none_disabled name [] = refl
none_disabled name (d ∷ ds) = refl

no_flags : (name : List ℕ) (flag : Bool) (ds : List Description) → with_flag name flag ds [] ≡ []
no_flags name flag [] = refl
no_flags name flag (d ∷ ds) = refl

pub none_at_end : (name : List ℕ) (ds : List Description) (fs : List Bool) → (ds ≡ []) ⊎ (fs ≡ []) → flag_of name ds fs ≡ false
none_at_end name ds fs (inl end) = ap (λ xs. flag_of name xs fs) end
none_at_end name ds fs (inr end) = ap (λ xs. flag_of name ds xs) end ∙ none_enabled name ds

pub all_at_end : (name : List ℕ) (flag : Bool) (ds : List Description) (fs flags : List Bool) → (ds ≡ []) ⊎ (fs ≡ []) → flags ++ with_flag name flag ds fs ≡ flags
all_at_end name flag ds fs flags (inl end) = ap (λ xs. flags ++ with_flag name flag xs fs) end ∙ append-nil flags
all_at_end name flag ds fs flags (inr end) = ap (λ xs. flags ++ with_flag name flag ds xs) end ∙ ap (λ xs. flags ++ xs) (no_flags name flag ds) ∙ append-nil flags

pub none_disabled_at_end : (name : List ℕ) (ds : List Description) (fs : List Bool) → (ds ≡ []) ⊎ (fs ≡ []) → has_disabled name ds fs ≡ false
none_disabled_at_end name ds fs (inl end) = ap (λ xs. has_disabled name xs fs) end
none_disabled_at_end name ds fs (inr end) = ap (λ xs. has_disabled name ds xs) end ∙ none_disabled name ds
