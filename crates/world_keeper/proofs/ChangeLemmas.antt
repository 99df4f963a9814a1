-- Changes read back from the rows that keep them.
use Rattle.std.proofs.Common.{◌≡◌, ◌<◌, ◌+◌, ℕ, zero, suc, List, [], ◌∷◌, ◌++◌, length, map, fold, take, get_or, Bool, true, false, Some, None, refl, ap, ap₂, sym, subst, ◌∙◌, arith}
use Rattle.sqlite.specs.Held.{Held, state}
use Rattle.sqlite.specs.Order.{Row}
use Rattle.sqlite.specs.Steps.{over_memory}
use Rattle.sqlite_trees.specs.declared.memory.MemStore.{MemStore}
use Rattle.world_keeper.specs.KeptWorlds.{kept_after, kept_by, nothing}
use Rattle.world_keeper.specs.Lines.{Line, change_in, line_of}
use Rattle.world_keeper.specs.Tables.{KeepsChanges, KeepsLines, Place, changes_at, line_in, shown, stored_from}
use Rattle.world_keeper.specs.declared.change.Change.{Change}
use Rattle.world_keeper.specs.declared.kept.Kept.{Kept}
use Rattle.world_keeper.specs.declared.change.Change.TheVariants.{Install, Update, Remove, Started, Configured, Unconfigured}

pub change_back : (c : Change) → change_in (line_of c) ≡ c
change_back (Install location document) = refl
change_back (Update location document) = refl
change_back (Remove location) = refl
change_back (Started location true) = refl
change_back (Started location false) = refl
change_back (Configured pid None properties) = refl
change_back (Configured pid (Some factory) properties) = refl
change_back (Unconfigured pid) = refl

pub changes_back : (cs : List Change) → map change_in (map line_of cs) ≡ cs
changes_back [] = refl
changes_back (c ∷ cs) = ap₂ (λ (x : Change) (xs : List Change). x ∷ xs) (change_back c) (changes_back cs)

rows_back : (n : ℕ) (cs : List Change) → map (λ r. change_in (line_in r)) (stored_from n (map line_of cs)) ≡ cs
rows_back n [] = refl
rows_back n (c ∷ cs) = ap₂ (λ (x : Change) (xs : List Change). x ∷ xs) (change_back c) (rows_back (suc n) cs)

-- the changes that are kept in a place are those that are read off it
pub changes_are : (p : Place) (cs : List Change) → KeepsChanges p cs → changes_at p ≡ cs
changes_are None cs has = sym has
changes_are (Some held) cs has = ap (map (λ r. change_in (line_in r))) has.rows ∙ rows_back 1 cs

pub own : (p : Place) (cs : List Change) → KeepsChanges p cs → KeepsChanges p (changes_at p)
own p cs has = subst (KeepsChanges p) (sym (changes_are p cs has)) has

pub lines_end : (cs : List Change) (c : Change) → map line_of cs ++ line_of c ∷ [] ≡ map line_of (cs ++ c ∷ [])
lines_end [] c = refl
lines_end (d ∷ cs) c = ap (λ ls. line_of d ∷ ls) (lines_end cs c)

-- a line with the texts of another keeps the same change
pub line_same : (kind name factory text : List ℕ) (l : Line) → (kind ≡ l.kind) × (name ≡ l.name) × (factory ≡ l.factory) × (text ≡ l.text)
    → change_in (record { kind = kind; name = name; factory = factory; text = text }) ≡ change_in l
line_same kind name factory text l same = λ i. change_in (record { kind = same.0 i; name = same.1 i; factory = same.2 i; text = same.3 i })

-- the first change that is kept in a place
pub first_kept : (held : Held MemStore) (cs : List Change) (c : Change) → cs ≡ [] → KeepsLines (state over_memory held) (line_of c ∷ []) → KeepsChanges (Some held) (cs ++ c ∷ [])
first_kept held cs c is has = subst (λ (ds : List Change). KeepsLines (state over_memory held) (map line_of (ds ++ c ∷ []))) (sym is) has

pub none_kept : (held : Held MemStore) (cs : List Change) → cs ≡ [] → KeepsLines (state over_memory held) [] → KeepsChanges (Some held) cs
none_kept held cs is has = subst (λ (ds : List Change). KeepsLines (state over_memory held) (map line_of ds)) (sym is) has

-- what is kept behind one change more
from_kept : (k : Kept) (cs : List Change) (c : Change) → fold kept_after k (cs ++ c ∷ []) ≡ kept_after (fold kept_after k cs) c
from_kept k [] c = refl
from_kept k (d ∷ cs) c = from_kept (kept_after k d) cs c

pub kept_more : (cs : List Change) (c : Change) → kept_by (cs ++ c ∷ []) ≡ kept_after (kept_by cs) c
kept_more cs c = from_kept nothing cs c

-- ---- rows that are read one by one

abbrev pub nobody : Line
nobody = record { kind = []; name = []; factory = []; text = [] }

taken : (ls : List Line) (i : ℕ) → i < length ls → map change_in (take (suc i) ls) ≡ map change_in (take i ls) ++ change_in (get_or ls i nobody) ∷ []
taken [] i low = absurd (omega (arith, low))
taken (l ∷ ls) zero low = refl
taken (l ∷ ls) (suc i) low = ap (λ xs. change_in l ∷ xs) (taken ls i (omega (arith, low)))

got_shown : (ls : List Line) (i : ℕ) (d : Row) → i < length (map shown ls) → (get_or (map shown ls) i d ≡ shown (get_or ls i nobody)) × (i < length ls)
got_shown [] i d low = absurd (omega (arith, low))
got_shown (l ∷ ls) zero d low = (refl, omega arith)
got_shown (l ∷ ls) (suc i) d low = let h = got_shown ls i d (omega (arith, low)) in (h.0, omega (arith, h.1))

pub one_more : (rows : List Row) (ls : List Line) (items : List Change) (c : Change) (i : ℕ) (d : Row) → rows ≡ map shown ls → i < length rows → items ≡ map change_in (take i ls)
    → ((l : Line) → get_or rows i d ≡ shown l → c ≡ change_in l) → items ++ c ∷ [] ≡ map change_in (take (i + 1) ls)
one_more rows ls items c i d is low before reads =
    let h = got_shown ls i d (subst (λ rs. i < length rs) is low) in
    ap₂ (λ (xs : List Change) (x : Change). xs ++ x ∷ []) before (reads (get_or ls i nobody) (ap (λ rs. get_or rs i d) is ∙ h.0)) ∙ sym (taken ls i h.1)
    ∙ ap (λ k. map change_in (take k ls)) {x = suc i} {y = i + 1} (omega arith)
