-- The level of a slot by what becomes of its gate.
use Rattle.std.proofs.Common.{◌≡◌, ℕ, ◌+◌, sym, ◌∙◌, refl, subst, cond, arith, Bool, true, false, ◌&&◌}
use Rattle.std.specs.Prelude.{not, ◌*◌}

-- a stage: active or not, ending or not, drained or not
abbrev pub stage : Bool → Bool → Bool → ℕ
stage a e d = cond a (cond e (cond d 3 1) 0) 3

abbrev pub drained_level : Bool → ℕ → ℕ
drained_level posted level = cond posted (level + 2) level

abbrev pub level_before : Bool → Bool → ℕ → ℕ → ℕ → ℕ
level_before opened posted next count was = drained_level posted (cond opened (4 * next) (4 * count + was))

-- the level afterwards is that before, moved
abbrev pub Moves : Bool → Bool → Bool → Bool → Bool → Bool → Bool → Bool → ℕ → ℕ → Type 0
Moves opened posted a e d b f g next count =
    4 * cond opened next count + stage b f g
    ≡ cond ((b && f) && not (a && e)) (level_before opened posted next count (stage a e d) + 1) (level_before opened posted next count (stage a e d))

count_stays : (a e f d : Bool) (next count : ℕ) → (a ≡ true → e ≡ true → f ≡ true) → (a ≡ true → d ≡ true → e ≡ true) → Moves false false a e d a f d next count
count_stays false e f d next count goes_on before = refl
count_stays true true true d next count goes_on before = refl
count_stays true true false d next count goes_on before = let on : false ≡ true = goes_on refl refl in absurd cc
count_stays true false f true next count goes_on before = let on : false ≡ true = before refl refl in absurd cc
count_stays true false true false next count goes_on before = omega arith
count_stays true false false false next count goes_on before = refl

pub moves_stays : (opened posted a e d b f g : Bool) (next count : ℕ) → opened ≡ false → posted ≡ false → b ≡ a → g ≡ d → (b ≡ true → e ≡ true → f ≡ true) → (a ≡ true → d ≡ true → e ≡ true) → Moves opened posted a e d b f g next count
moves_stays opened posted a e d b f g next count o p ab dg goes_on before =
    subst (λ x. Moves x posted a e d b f g next count) (sym o)
    (subst (λ x. Moves false x a e d b f g next count) (sym p)
    (subst (λ x. Moves false false a e d x f g next count) (sym ab)
    (subst (λ x. Moves false false a e d a f x next count) (sym dg)
    (count_stays a e f d next count (λ on. goes_on (ab ∙ on)) before))))

count_opens : (e f d : Bool) (next count : ℕ) → Moves true false false e d true f false next count
count_opens e true d next count = refl
count_opens e false d next count = omega arith

pub moves_opens : (opened posted a e d b f g : Bool) (next count : ℕ) → opened ≡ true → posted ≡ false → a ≡ false → b ≡ true → g ≡ false → Moves opened posted a e d b f g next count
moves_opens opened posted a e d b f g next count o p off on open_now =
    subst (λ x. Moves x posted a e d b f g next count) (sym o)
    (subst (λ x. Moves true x a e d b f g next count) (sym p)
    (subst (λ x. Moves true false x e d b f g next count) (sym off)
    (subst (λ x. Moves true false false e d x f g next count) (sym on)
    (subst (λ x. Moves true false false e d true f x next count) (sym open_now)
    (count_opens e f d next count)))))

pub moves_leaves : (opened posted a e d b f g : Bool) (next count : ℕ) → opened ≡ false → posted ≡ false → a ≡ true → b ≡ false → e ≡ true → d ≡ true → Moves opened posted a e d b f g next count
moves_leaves opened posted a e d b f g next count o p on off ending drained =
    subst (λ x. Moves x posted a e d b f g next count) (sym o)
    (subst (λ x. Moves false x a e d b f g next count) (sym p)
    (subst (λ x. Moves false false x e d b f g next count) (sym on)
    (subst (λ x. Moves false false true e d x f g next count) (sym off)
    (subst (λ x. Moves false false true x d false f g next count) (sym ending)
    (subst (λ x. Moves false false true true x false f g next count) (sym drained) refl)))))

pub moves_drains : (opened posted a e d b f g : Bool) (next count : ℕ) → opened ≡ false → posted ≡ true → a ≡ true → b ≡ true → e ≡ true → d ≡ false → g ≡ true → f ≡ true → Moves opened posted a e d b f g next count
moves_drains opened posted a e d b f g next count o p on also ending open_yet drained goes_on =
    subst (λ x. Moves x posted a e d b f g next count) (sym o)
    (subst (λ x. Moves false x a e d b f g next count) (sym p)
    (subst (λ x. Moves false true x e d b f g next count) (sym on)
    (subst (λ x. Moves false true true e d x f g next count) (sym also)
    (subst (λ x. Moves false true true x d true f g next count) (sym ending)
    (subst (λ x. Moves false true true true x true f g next count) (sym open_yet)
    (subst (λ x. Moves false true true true false true f x next count) (sym drained)
    (subst (λ x. Moves false true true true false true x true next count) (sym goes_on) (omega arith))))))))
