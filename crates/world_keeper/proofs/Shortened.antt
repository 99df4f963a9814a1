-- A list of changes that began anew keeps what it kept.
use Rattle.std.proofs.Common.{◌≡◌, List, Bool, true, false, MatchBool, Result, Ok, Err, OnOk, OnErr, refl, ap, sym, subst, subst₂, ◌∙◌}
use Rattle.world_keeper.specs.Again.{changes_again}
use Rattle.world_keeper.specs.KeptWorlds.{kept_by}
use Rattle.world_keeper.specs.Orders.{IsOrdered}
use Rattle.world_keeper.specs.Tables.{KeepsChanges, Place, Stays, changes_at}
use Rattle.world_keeper.specs.declared.change.Change.{Change}
use Rattle.world_keeper.specs.declared.kept.Kept.{Kept}
use Rattle.world_keeper.proofs.ChangeLemmas.{changes_are, own}
use Rattle.world_keeper.proofs.KeptAgain.{kept_again}
use Rattle.world_keeper.proofs.KeptOrders.{ordered_by}

anew : (t : Place) (cs : List Change) (kept : Kept) → kept ≡ kept_by cs → KeepsChanges t (changes_again kept) → Stays t cs
anew t cs kept is has = (
  own t (changes_again kept) has,
  ap kept_by (changes_are t (changes_again kept) has) ∙ kept_again kept (subst IsOrdered (sym is) (ordered_by cs)) ∙ is,
)

pub stays : (t : Place) (cs : List Change) → KeepsChanges t cs → Stays t cs
stays t cs has = (own t cs has, ap kept_by (changes_are t cs has))

pub shortened : {X E : Type 0} (s t : Place) (cs : List Change) (kept : Kept) (long : Bool) (r : Result X E) → KeepsChanges s cs → kept ≡ kept_by cs
    → OnOk r (MatchBool long (KeepsChanges t (changes_again kept)) (t ≡ s)) → OnErr r (t ≡ s) → Stays t cs
shortened s t cs kept true (Ok x) has is ok err = anew t cs kept is ok
shortened s t cs kept false (Ok x) has is ok err = stays t cs (subst (λ p. KeepsChanges p cs) (sym ok) has)
shortened s t cs kept long (Err e) has is ok err = stays t cs (subst (λ p. KeepsChanges p cs) (sym err) has)

pub same_changes : {X E : Type 0} (B : Type 0) (P : List Change → Type 0) (r : Result X E) (s t : Bool) (cs ds : List Change) → s ≡ t → cs ≡ ds → OnOk r (MatchBool s (P cs) B) → OnOk r (MatchBool t (P ds) B)
same_changes B P r s t cs ds st cd h = subst₂ (λ (b : Bool) (xs : List Change). OnOk r (MatchBool b (P xs) B)) st cd h
