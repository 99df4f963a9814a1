-- The one token of a turn, and the one part of an instance, where they stand.
use Rattle.std.proofs.Common.{◌≡◌, ◌≤◌, ◌<◌, ℕ, List, ap, sym, ◌∙◌, Bool, true, false, Some, None, length, get_or, arith}
use Rattle.std.proofs.Math.ListN.{set}
use Rattle.std.specs.Prelude.{◌==◌, insert, remove}
use Rattle.std.specs.List.{count_by, position}
use Rattle.std.proofs.lemmas.Bool.{eqb-true}
use Rattle.hall_locked.specs.declared.part.Part.{Part}
use Rattle.hall_locked.specs.OwnedCores.{parts_of}
use Rattle.hall_locked.specs.Owned.{turn_numbers, without_turn}
use Rattle.hall_locked.specs.Parts.{parts_told}
use Rattle.hall_locked.proofs.Counts.{count_mapped, none_placed, only_placed, put_back, some_placed}
use Rattle.platform_hall.specs.Desks.{tokens_of}
use Rattle.prop_map.specs.Words.{one_if}
use Rattle.row_places.specs.RowPlaces.{OnlyAt}
use Rattle.row_places.proofs.RowPlaceLaws.{filter_only, map_none, map_only, only_passes, only_within}
use Rattle.turn_work.specs.declared.site.Site.{Site}

pub one_at_most : (b : Bool) → one_if b ≤ 1
one_at_most true = omega arith
one_at_most false = omega arith

module _ (turns : List (ℕ × ℕ)) (number : ℕ) (one : tokens_of (turn_numbers turns) number ≡ 1) where
  abbrev is_its : ℕ × ℕ → Bool
  is_its t = t.1 == number

  many : count_by is_its turns ≡ 1
  many = sym (count_mapped (λ (t : ℕ × ℕ). t.1) turns number) ∙ one

  pub token_there : position is_its turns ≡ None → ⊥
  token_there none = some_placed is_its turns (let all = many in omega (arith, all)) none

  module _ (place : ℕ) (is : position is_its turns ≡ Some place) where
    only : OnlyAt is_its place turns
    only = only_placed is_its turns place is (let all = many in omega (arith, all))

    pub token_within : place < length turns
    token_within = only_within is_its place turns only

    pub token_left : remove turns place ≡ without_turn number turns
    token_left = sym (filter_only is_its place turns only)

    module _ (taken : ℕ × ℕ) (its : taken ≡ get_or turns place taken) where
      pub token_number : taken.1 ≡ number
      token_number = ap (λ (t : ℕ × ℕ). t.1) its ∙ eqb-true (get_or turns place taken).1 number (only_passes is_its place turns taken only)

      pub token_back : insert (remove turns place) place taken ≡ turns
      token_back = ap (insert (remove turns place) place) its ∙ put_back turns place taken token_within

module _ {O : Type 0} (parts : List (Part O)) (instance : ℕ) (site : Site) (few : parts_of parts instance ≤ 1) where
  abbrev is_part : Part O → Bool
  is_part p = p.instance == instance

  pub part_within : (place : ℕ) → position is_part parts ≡ Some place → place < length parts
  part_within place is = only_within is_part place parts (only_placed is_part parts place is few)

  pub part_told : (place : ℕ) → position is_part parts ≡ Some place → (part : Part O) → part ≡ get_or parts place part → set parts place (record part { site = site }) ≡ parts_told instance site parts
  part_told place is part its =
      ap (λ (p : Part O). set parts place (record p { site = site })) its
      ∙ sym (map_only is_part (λ (p : Part O). record p { site = site }) place parts part (only_placed is_part parts place is few))

  pub none_told : position is_part parts ≡ None → parts ≡ parts_told instance site parts
  none_told none = sym (map_none is_part (λ (p : Part O). record p { site = site }) parts (none_placed is_part parts none))
