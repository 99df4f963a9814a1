-- What telling leaves: who was told and then not, and numbers as they were.
use Rattle.std.proofs.Common.{◌≡◌, ◌<◌, ℕ, List, ◌++◌, ap, sym, subst, ◌∙◌, arith, length, get_or}
use Rattle.std.proofs.Math.ListN.{set}
use Rattle.std.proofs.lemmas.List.{get_or-map, get_or-set_same, length-map, set-get_or, set-set}
use Rattle.std.proofs.lemmas.List.Elements.{All-map}
use Rattle.std.specs.Prelude.{map, take, drop, OnOk, OnErr, Result, Ok, Err}
use Rattle.std.specs.declared.alloc.AllocError.{AllocError}
use Rattle.service_listeners.specs.declared.listener.Listener.{Listener}
use Rattle.service_listeners.specs.Listening.{Change, with_changes}
use Rattle.service_listeners.specs.Numbers.{AreNumbered, IsGiven}

-- a row that was exchanged and then put back as it was
pub put_back : (rows later : List Listener) (at : ℕ) (first told second back : Listener) → at < length rows → first ≡ get_or rows at first → later ≡ set rows at told → second ≡ get_or later at second
    → (second ≡ told → back ≡ first) → set later at back ≡ rows
put_back rows later at first told second back within is exchanged reads undone =
    let seen : second ≡ told = reads ∙ ap (λ rs. get_or rs at second) exchanged ∙ get_or-set_same rows at told second within in
    ap (λ rs. set rs at back) exchanged ∙ set-set rows at told back ∙ ap (set rows at) (undone seen ∙ is) ∙ set-get_or rows at first

-- who is told keeps its number
pub numbered_told : (numbered : ℕ) (changes : List Change) (rows : List Listener) → AreNumbered numbered rows → AreNumbered numbered (map (with_changes changes) rows)
numbered_told numbered changes rows ok = (
  (λ i j d lt within.
      let wide : j < length rows = omega (arith, within, length-map rows (with_changes changes)) in
      let at_i = ap (λ (l : Listener). l.number) (get_or-map (with_changes changes) rows i d d (omega (arith, lt, wide))) in
      let at_j = ap (λ (l : Listener). l.number) (get_or-map (with_changes changes) rows j d d wide) in
      omega (arith, ok.0 i j d lt wide, at_i, at_j)),
  All-map (IsGiven numbered) (with_changes changes) rows (λ k d within. ok.1 k d within),
)

-- whether all were told or none
pub numbered_after : (numbered : ℕ) (changes : List Change) (rows later : List Listener) (told : Result (Unit {0}) AllocError) → OnOk told (later ≡ take 0 rows ++ map (with_changes changes) (drop 0 rows)) → OnErr told (later ≡ rows)
    → AreNumbered numbered rows → AreNumbered numbered later
numbered_after numbered changes rows later (Ok u) all none ok = subst (AreNumbered numbered) (sym all) (numbered_told numbered changes rows ok)
numbered_after numbered changes rows later (Err e) all none ok = subst (AreNumbered numbered) (sym none) ok
