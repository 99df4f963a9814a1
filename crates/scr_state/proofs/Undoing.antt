-- A draft brings back what there was.
use Rattle.std.proofs.Common.{◌≡◌, ◌<◌, ◌≤◌, ◌∙◌, ℕ, List, zero, suc, [], ◌∷◌, ◌++◌, ap, arith, length, refl, Option, Some, None}
use Rattle.std.proofs.Math.ListN.{get_or, set}
use Rattle.std.specs.Option.{unwrap_or}
use Rattle.std.specs.Prelude.{insert, option_map, remove}
use Rattle.scr_state.specs.Drafts.{HasRoom, IsUndoing, with_draft}
use Rattle.scr_state.specs.Rows.{HasRoomAmong, Undoes, with_change}
use Rattle.scr_state.specs.declared.draft.Draft.{Draft}
use Rattle.scr_state.specs.declared.row_change.RowChange.{RowChange}
use Rattle.scr_state.specs.declared.row_change.RowChange.TheVariants.{Same, One, Inserted, Removed}
use Rattle.scr_world.specs.declared.world.World.{World}

back : {X : Type 0} (o u : Option X) (x : X) → u ≡ option_map (λ (y : X). x) o → unwrap_or u (unwrap_or o x) ≡ x
back None u x e = rw e refl
back (Some y) u x e = rw e refl

set_back : {X : Type 0} (xs : List X) (i : ℕ) (y : X) → set (set xs i y) i (get_or xs i y) ≡ xs
set_back [] i y = refl
set_back (x ∷ xs) zero y = refl
set_back (x ∷ xs) (suc i) y = ap (λ zs. x ∷ zs) (set_back xs i y)

insert_back : {X : Type 0} (xs : List X) (i : ℕ) (y : X) → i ≤ length xs → remove (insert xs i y) i ≡ xs
insert_back [] zero y low = refl
insert_back [] (suc i) y low = absurd (omega (arith, low))
insert_back (x ∷ xs) zero y low = refl
insert_back (x ∷ xs) (suc i) y low = ap (λ zs. x ∷ zs) (insert_back xs i y (omega (arith, low)))

remove_back : {X : Type 0} (xs : List X) (i : ℕ) (y : X) → i < length xs → insert (remove xs i) i (get_or xs i y) ≡ xs
remove_back [] i y low = absurd (omega (arith, low))
remove_back (x ∷ []) zero y low = refl
remove_back (x ∷ z ∷ xs) zero y low = refl
remove_back (x ∷ xs) (suc i) y low = ap (λ zs. x ∷ zs) (remove_back xs i y (omega (arith, low)))

change_back : {X : Type 0} (change undo : RowChange X) (before : List X) → HasRoomAmong change before → Undoes change before undo → with_change undo (with_change change before) ≡ before
change_back Same undo before room is = rw is refl
change_back (One place row) undo before room is = ap (λ u. with_change u (set before place row)) is ∙ set_back before place row
change_back {X = X} (Inserted place row room) undo before has is = ap (λ (u : RowChange X). with_change u (insert before place row)) is.1 ∙ insert_back before place row has.0
change_back {X = X} (Removed place room) undo before has is =
    ap (λ (u : RowChange X). with_change u (remove before place)) is.1.1.1
    ∙ ap (insert (remove before place) place) is.1.0
    ∙ remove_back before place is.0 has.0

pub undone : (d : Draft) (w : World) (u : Draft) → HasRoom d w → IsUndoing d w u → with_draft u (with_draft d w) ≡ w
unfolding with_draft
undone d w u room is = rw (
  back d.documents u.documents w.documents is.documents,
  back d.registry u.registry w.registry is.registry,
  back d.configurations u.configurations w.configurations is.configurations,
  back d.components u.components w.components is.components,
  is.components_numbered,
  back d.open_periods u.open_periods w.open_periods is.open_periods,
  is.failed,
  change_back d.failures u.failures w.failures room.0 is.failures,
  change_back d.instances u.instances w.instances room.1.0 is.instances,
  back d.whiteboard u.whiteboard w.whiteboard is.whiteboard,
  is.instances_numbered,
  is.turns_begun,
  change_back d.generations u.generations w.generations room.1.1.0 is.generations,
  back d.uses u.uses w.uses is.uses,
  change_back d.tokens u.tokens w.tokens room.1.1.1 is.tokens,
) refl

-- a row at the end of others
pub insert_end : {X : Type 0} (xs : List X) (y : X) → insert xs (length xs) y ≡ xs ++ y ∷ []
insert_end [] y = refl
insert_end (x ∷ xs) y = ap (λ zs. x ∷ zs) (insert_end xs y)
