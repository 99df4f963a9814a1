-- Texts that are cut at one byte after another.
use Rattle.std.proofs.Common.{◌≡◌, refl, sym, ap, ◌∙◌, ℕ, suc, ◌+◌, ◌<◌, ◌≤◌, List, [], ◌∷◌, Bool, true, false, cond, eqb, ◌||◌, length, take, drop, arith, ◌-◌, Option, Some, None, Bor, length-drop}
use Rattle.std.specs.Prelude.{MatchOption}
use Rattle.std.specs.List.{after_first, before_first, position_or_len}
use Rattle.bundle_doc.specs.Names.{has_byte, last_part, onto, parted}

-- where the first place of a byte is
abbrev pub place : ℕ → List ℕ → ℕ
place c s = position_or_len (λ b. eqb b c) s

pub parted_step : (c : ℕ) (s : List ℕ) → place c s < length s → parted c s ≡ before_first (λ b. eqb b c) s ∷ parted c (after_first (λ b. eqb b c) s)
parted_step c [] within = absurd (omega arith)
parted_step c (b ∷ bs) within = by_test (eqb b c) refl (parted_step c bs) where
  by_test : (v : Bool) → eqb b c ≡ v → (place c bs < length bs → parted c bs ≡ before_first (λ x. eqb x c) bs ∷ parted c (after_first (λ x. eqb x c) bs))
      → parted c (b ∷ bs) ≡ before_first (λ x. eqb x c) (b ∷ bs) ∷ parted c (after_first (λ x. eqb x c) (b ∷ bs))
  by_test true is rest = rw is refl
  by_test false is rest =
      let at : place c (b ∷ bs) ≡ suc (place c bs) = rw is (omega arith) in
      let less : place c bs < length bs = omega arith in
      let next : suc (place c bs + 1) ≡ suc (place c bs) + 1 = omega arith in
      ap (λ v. cond v ([] ∷ parted c bs) (onto b (parted c bs))) is ∙ ap (onto b) (rest less)
      ∙ ap (λ n. (b ∷ take (place c bs) bs) ∷ parted c (drop n (b ∷ bs))) next
      ∙ ap (λ n. take n (b ∷ bs) ∷ parted c (drop (n + 1) (b ∷ bs))) (sym at)

pub parted_last : (c : ℕ) (s : List ℕ) → place c s ≡ length s → parted c s ≡ s ∷ []
parted_last c [] all = refl
parted_last c (b ∷ bs) all = by_test (eqb b c) refl (parted_last c bs) where
  by_test : (v : Bool) → eqb b c ≡ v → (place c bs ≡ length bs → parted c bs ≡ bs ∷ []) → parted c (b ∷ bs) ≡ (b ∷ bs) ∷ []
  by_test true is rest = let at : place c (b ∷ bs) ≡ 0 = rw is refl in absurd (omega arith)
  by_test false is rest =
      let at : place c (b ∷ bs) ≡ suc (place c bs) = rw is (omega arith) in
      let same : place c bs ≡ length bs = omega arith in
      ap (λ v. cond v ([] ∷ parted c bs) (onto b (parted c bs))) is ∙ ap (onto b) (rest same)

has_where : (c : ℕ) (s : List ℕ) → place c s < length s → has_byte c s ≡ true
has_where c [] within = absurd (omega arith)
has_where c (b ∷ bs) within = by_test (eqb b c) refl (has_where c bs) where
  by_test : (v : Bool) → eqb b c ≡ v → (place c bs < length bs → has_byte c bs ≡ true) → has_byte c (b ∷ bs) ≡ true
  by_test true is rest = ap (λ v. v || has_byte c bs) is
  by_test false is rest =
      let at : place c (b ∷ bs) ≡ suc (place c bs) = rw is (omega arith) in
      let less : place c bs < length bs = omega arith in
      ap (λ v. v || has_byte c bs) is ∙ rest less

has_not : (c : ℕ) (s : List ℕ) → place c s ≡ length s → has_byte c s ≡ false
has_not c [] all = refl
has_not c (b ∷ bs) all = by_test (eqb b c) refl (has_not c bs) where
  by_test : (v : Bool) → eqb b c ≡ v → (place c bs ≡ length bs → has_byte c bs ≡ false) → has_byte c (b ∷ bs) ≡ false
  by_test true is rest = let at : place c (b ∷ bs) ≡ 0 = rw is refl in absurd (omega arith)
  by_test false is rest =
      let at : place c (b ∷ bs) ≡ suc (place c bs) = rw is (omega arith) in
      let same : place c bs ≡ length bs = omega arith in
      ap (λ v. v || has_byte c bs) is ∙ rest same

-- the last part stands behind the first slash
pub last_step : (s : List ℕ) → place 47 s < length s → last_part s ≡ last_part (after_first (λ b. eqb b 47) s)
last_step [] within = absurd (omega arith)
last_step (b ∷ bs) within = ap (λ v. cond v (last_part bs) (b ∷ bs)) (has_where 47 (b ∷ bs) within) ∙ by_test (eqb b 47) refl (last_step bs) where
  by_test : (v : Bool) → eqb b 47 ≡ v → (place 47 bs < length bs → last_part bs ≡ last_part (after_first (λ x. eqb x 47) bs)) → last_part bs ≡ last_part (after_first (λ x. eqb x 47) (b ∷ bs))
  by_test true is rest = rw is refl
  by_test false is rest =
      let at : place 47 (b ∷ bs) ≡ suc (place 47 bs) = rw is (omega arith) in
      let less : place 47 bs < length bs = omega arith in
      let next : suc (place 47 bs + 1) ≡ suc (place 47 bs) + 1 = omega arith in
      rest less ∙ ap (λ n. last_part (drop n (b ∷ bs))) next ∙ ap (λ n. last_part (drop (n + 1) (b ∷ bs))) (sym at)

-- without a slash the whole is the last part
pub last_whole : (s : List ℕ) → place 47 s ≡ length s → last_part s ≡ s
last_whole [] all = refl
last_whole (b ∷ bs) all = ap (λ v. cond v (last_part bs) (b ∷ bs)) (has_not 47 (b ∷ bs) all)

-- the last part is no longer than the whole
pub last_shorter : (s : List ℕ) → length (last_part s) ≤ length s
last_shorter [] = omega arith
last_shorter (b ∷ bs) = by_test (has_byte 47 (b ∷ bs)) (last_shorter bs) where
  by_test : (v : Bool) → length (last_part bs) ≤ length bs → length (cond v (last_part bs) (b ∷ bs)) ≤ suc (length bs)
  by_test true rest = omega arith
  by_test false rest = omega arith

behind_shorter : (c : ℕ) (s : List ℕ) (rest : List ℕ) → rest ≡ after_first (λ b. eqb b c) s → place c s < length s → length rest < length s
behind_shorter c s rest is within =
    let same : length rest ≡ length (drop (place c s + 1) s) = ap length is in
    let left : length (drop (place c s + 1) s) ≡ length s - (place c s + 1) = length-drop (place c s + 1) s in
    omega arith

-- a cut, in the words of parts
pub cut_parted : (c : ℕ) (s : List ℕ) (r : Option (Bor (List ℕ) × Bor (List ℕ)))
    → MatchOption r (place c s ≡ length s) (λ x. (x.0.now ≡ before_first (λ b. eqb b c) s) × (x.1.now ≡ after_first (λ b. eqb b c) s) × (place c s < length s))
    → MatchOption r (parted c s ≡ s ∷ []) (λ x. (parted c s ≡ x.0.now ∷ parted c x.1.now) × (length x.1.now < length s))
cut_parted c s None h = parted_last c s h
cut_parted c s (Some x) h =
    (parted_step c s h.2 ∙ ap (λ w. w ∷ parted c (after_first (λ b. eqb b c) s)) (sym h.0) ∙ ap (λ w. x.0.now ∷ parted c w) (sym h.1), behind_shorter c s x.1.now h.1 h.2)

-- a cut at a slash, in the words of last parts
pub cut_folder : (s : List ℕ) (r : Option (Bor (List ℕ) × Bor (List ℕ)))
    → MatchOption r (place 47 s ≡ length s) (λ x. (x.0.now ≡ before_first (λ b. eqb b 47) s) × (x.1.now ≡ after_first (λ b. eqb b 47) s) × (place 47 s < length s))
    → MatchOption r (last_part s ≡ s) (λ x. (last_part s ≡ last_part x.1.now) × (length x.1.now < length s))
cut_folder s None h = last_whole s h
cut_folder s (Some x) h = (last_step s h.2 ∙ ap last_part (sym h.1), behind_shorter 47 s x.1.now h.1 h.2)
