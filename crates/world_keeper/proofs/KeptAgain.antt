-- The changes that keep a world again keep just that world.
use Rattle.std.proofs.Common.{◌≡◌, ◌<◌, ℕ, suc, List, [], ◌∷◌, ◌++◌, Bool, true, false, cond, length, map, fold, get_or, refl, ap, ap₂, sym, subst, ◌∙◌, arith}
use Rattle.std.proofs.lemmas.Map.Text.{is_eq-slice_cmp}
use Rattle.std.proofs.lemmas.Slice.Eq.{bytes_eq-Decides}
use Rattle.std.specs.Ordering.{is_eq, is_lt, ordering_reverse}
use Rattle.std.specs.Prelude.{filter}
use Rattle.std.specs.Str.{bytes_eq}
use Rattle.std.specs.declared.cmp.Ordering.TheVariants.{Less, Greater}
use Rattle.prop_map.specs.Words.{insert_by}
use Rattle.row_places.specs.RowPlaces.{NoneOf}
use Rattle.row_places.proofs.RowPlaceLaws.{filter_none}
use Rattle.world_keeper.specs.declared.change.Change.{Change}
use Rattle.world_keeper.specs.declared.kept.Kept.{Kept}
use Rattle.world_keeper.specs.declared.kept.KeptBundle.{KeptBundle}
use Rattle.world_keeper.specs.declared.kept.KeptConfiguration.{KeptConfiguration}
use Rattle.world_keeper.specs.Again.{changes_again, configured, installed, is_started, start_of}
use Rattle.world_keeper.specs.KeptWorlds.{bundles_after, configurations_after, kept_after, kept_by, nothing, pid_before, with_configuration, with_install, with_mark}
use Rattle.world_keeper.specs.Orders.{AreApart, AreByPid, IsOrdered, is_at, pid_cmp}
use Rattle.world_keeper.proofs.KeptOrders.{pid_cmp_total}
use Rattle.world_keeper.proofs.Located.{apart_mapped, marked, marked_not, none_mapped, none_marked, other_way}

fold_append : {A B : Type 0} (f : A → B → A) (a : A) (xs ys : List B) → fold f a (xs ++ ys) ≡ fold f (fold f a xs) ys
fold_append f a [] ys = refl
fold_append f a (x ∷ xs) ys = fold_append f (f a x) xs ys

join : {X : Type 0} (xs : List X) (y : X) (zs : List X) → (xs ++ y ∷ []) ++ zs ≡ xs ++ y ∷ zs
join [] y zs = refl
join (x ∷ xs) y zs = ap (λ ws. x ∷ ws) (join xs y zs)

end_nil : {X : Type 0} (xs : List X) → xs ++ [] ≡ xs
end_nil [] = refl
end_nil (x ∷ xs) = ap (λ ws. x ∷ ws) (end_nil xs)

abbrev both : List KeptBundle → List KeptConfiguration → Kept
both bs cs = record { bundles = bs; configurations = cs }

-- bundles and configurations are kept each by themselves
parts : (kept : Kept) (cs : List Change) → fold kept_after kept cs ≡ both (fold bundles_after kept.bundles cs) (fold configurations_after kept.configurations cs)
parts kept [] = refl
parts kept (c ∷ cs) = parts (kept_after kept c) cs

-- ---- bundles

unchanged_bundles : (bs : List KeptBundle) (cs : List KeptConfiguration) → fold bundles_after bs (map configured cs) ≡ bs
unchanged_bundles bs [] = refl
unchanged_bundles bs (c ∷ cs) = unchanged_bundles bs cs

abbrev unmarked : KeptBundle → KeptBundle
unmarked b = record b { started = false }

at_middle : (location : List ℕ) (ds : List KeptBundle) (x : KeptBundle) (more : List KeptBundle) → NoneOf (is_at location) (ds ++ x ∷ more) → bytes_eq x.location location ≡ false
at_middle location [] x more h = h.0
at_middle location (d ∷ ds) x more h = at_middle location ds x more h.1

middle : (ds : List KeptBundle) (x : KeptBundle) (more : List KeptBundle) → AreApart (ds ++ x ∷ more) → NoneOf (is_at x.location) ds × NoneOf (is_at x.location) more
middle [] x more h = (tt, h.0)
middle (d ∷ ds) x more h = let rest = middle ds x more h.1 in ((other_way x.location d.location (at_middle d.location ds x more h.0), rest.0), rest.1)

abbrev with_one : KeptBundle → List KeptBundle → Bool → List KeptBundle
with_one r bs so = bs ++ record r { started = so } ∷ []

installed_last : (r : KeptBundle) (ds : List KeptBundle) → NoneOf (is_at r.location) ds → with_install r.location r.document ds ≡ ds ++ unmarked r ∷ []
installed_last r ds none =
    ap₂ (λ (bs : List KeptBundle) (so : Bool). bs ++ record { location = r.location; document = r.document; started = so } ∷ []) (filter_none (is_at r.location) ds none) (none_marked r.location ds none)

installs : (ds rs : List KeptBundle) → AreApart (ds ++ map unmarked rs) → fold bundles_after ds (map installed rs) ≡ ds ++ map unmarked rs
installs ds [] h = sym (end_nil ds)
installs ds (r ∷ rs) h =
    ap (λ bs. fold bundles_after bs (map installed rs)) (installed_last r ds (middle ds (unmarked r) (map unmarked rs) h).0)
    ∙ installs (ds ++ unmarked r ∷ []) rs (subst AreApart (sym (join ds (unmarked r) (map unmarked rs))) h) ∙ join ds (unmarked r) (map unmarked rs)

marks_none : (location : List ℕ) (so : Bool) (bs : List KeptBundle) → NoneOf (is_at location) bs → map (with_mark location so) bs ≡ bs
marks_none location so [] none = refl
marks_none location so (b ∷ bs) none = ap₂ (λ (x : KeptBundle) (xs : List KeptBundle). x ∷ xs) (marked_not location so b none.0) (marks_none location so bs none.1)

marks_middle : (location : List ℕ) (so : Bool) (ds : List KeptBundle) (x : KeptBundle) (more : List KeptBundle) → NoneOf (is_at location) ds → NoneOf (is_at location) more
    → bytes_eq x.location location ≡ true → map (with_mark location so) (ds ++ x ∷ more) ≡ ds ++ record x { started = so } ∷ more
marks_middle location so [] x more none others here =
    ap₂ (λ (y : KeptBundle) (ys : List KeptBundle). y ∷ ys) (marked location so x here) (marks_none location so more others)
marks_middle location so (d ∷ ds) x more none others here =
    ap₂ (λ (y : KeptBundle) (ys : List KeptBundle). y ∷ ys) (marked_not location so d none.0) (marks_middle location so ds x more none.1 others here)

own_location : (location : List ℕ) → bytes_eq location location ≡ true
own_location location = (bytes_eq-Decides location location).1 refl

abbrev all_starts : List KeptBundle → List Change
all_starts bs = map start_of (filter is_started bs)

starts : (ds rs : List KeptBundle) → AreApart (ds ++ rs) → fold bundles_after (ds ++ map unmarked rs) (all_starts rs) ≡ ds ++ rs
starts ds [] h = refl
starts ds (r ∷ rs) h = by_mark r.started refl (starts (ds ++ r ∷ []) rs (subst AreApart (sym (join ds r rs)) h)) where
  apart : NoneOf (is_at r.location) ds × NoneOf (is_at r.location) rs
  apart = middle ds r rs h

  by_mark : (so : Bool) → r.started ≡ so → fold bundles_after ((ds ++ r ∷ []) ++ map unmarked rs) (all_starts rs) ≡ (ds ++ r ∷ []) ++ rs
      → fold bundles_after (ds ++ unmarked r ∷ map unmarked rs) (map start_of (cond so (r ∷ filter is_started rs) (filter is_started rs))) ≡ ds ++ r ∷ rs
  by_mark true e more =
      ap (λ bs. fold bundles_after bs (all_starts rs))
      (marks_middle r.location true ds (unmarked r) (map unmarked rs) apart.0 (none_mapped unmarked (λ b. refl) r.location rs apart.1) (own_location r.location)
      ∙ ap (λ so. ds ++ record r { started = so } ∷ map unmarked rs) (sym e) ∙ sym (join ds r (map unmarked rs)))
      ∙ more ∙ join ds r rs
  by_mark false e more =
      ap (λ bs. fold bundles_after bs (all_starts rs)) (ap (λ so. ds ++ record r { started = so } ∷ map unmarked rs) (sym e) ∙ sym (join ds r (map unmarked rs)))
      ∙ more ∙ join ds r rs

bundles_again : (bs : List KeptBundle) (cs : List KeptConfiguration) → AreApart bs → fold bundles_after [] (map configured cs ++ map installed bs ++ all_starts bs) ≡ bs
bundles_again bs cs h =
    fold_append bundles_after [] (map configured cs ++ map installed bs) (all_starts bs)
    ∙ ap (λ k. fold bundles_after k (all_starts bs))
    (fold_append bundles_after [] (map configured cs) (map installed bs) ∙ ap (λ k. fold bundles_after k (map installed bs)) (unchanged_bundles [] cs)
    ∙ installs [] bs (apart_mapped unmarked (λ b. refl) bs h))
    ∙ starts [] bs h

-- ---- configurations

abbrev EachBefore : KeptConfiguration → List KeptConfiguration → Type 0
EachBefore r [] = Unit {0}
EachBefore r (d ∷ ds) = (pid_cmp d r ≡ Less) × EachBefore r ds

get_middle : (ds : List KeptConfiguration) (r : KeptConfiguration) (rs : List KeptConfiguration) (d : KeptConfiguration) → get_or (ds ++ r ∷ rs) (length ds) d ≡ r
get_middle [] r rs d = refl
get_middle (x ∷ ds) r rs d = get_middle ds r rs d

within_middle : (ds : List KeptConfiguration) (r : KeptConfiguration) (rs : List KeptConfiguration) → length ds < length (ds ++ r ∷ rs)
within_middle [] r rs = omega arith
within_middle (x ∷ ds) r rs = omega (arith, within_middle ds r rs)

before_middle : (ds : List KeptConfiguration) (r : KeptConfiguration) (rs : List KeptConfiguration) → AreByPid (ds ++ r ∷ rs) → EachBefore r ds
before_middle [] r rs h = tt
before_middle (d ∷ ds) r rs h = (
  subst (λ (x : KeptConfiguration). pid_cmp d x ≡ Less) (get_middle ds r rs r) (h 0 (suc (length ds)) r (omega arith) (omega (arith, within_middle ds r rs))),
  before_middle ds r rs (λ i j x less within. h (suc i) (suc j) x (omega (arith, less)) (omega (arith, within))),
)

none_same : (r : KeptConfiguration) (ds : List KeptConfiguration) → EachBefore r ds → NoneOf (λ (c : KeptConfiguration). bytes_eq c.pid r.pid) ds
none_same r [] h = tt
none_same r (d ∷ ds) h = (sym (is_eq-slice_cmp d.pid r.pid) ∙ ap is_eq h.0, none_same r ds h.1)

put_at_end : (r : KeptConfiguration) (ds : List KeptConfiguration) → EachBefore r ds → insert_by pid_before r ds ≡ ds ++ r ∷ []
put_at_end r [] h = refl
put_at_end r (d ∷ ds) h =
    ap (λ b. cond b (r ∷ d ∷ ds) (d ∷ insert_by pid_before r ds)) (ap is_lt (pid_cmp_total.antisymm r d ∙ ap ordering_reverse h.0)) ∙ ap (λ xs. d ∷ xs) (put_at_end r ds h.1)

configured_last : (r : KeptConfiguration) (ds : List KeptConfiguration) → EachBefore r ds → with_configuration r ds ≡ ds ++ r ∷ []
configured_last r ds h = ap (insert_by pid_before r) (filter_none (λ (c : KeptConfiguration). bytes_eq c.pid r.pid) ds (none_same r ds h)) ∙ put_at_end r ds h

configures : (ds rs : List KeptConfiguration) → AreByPid (ds ++ rs) → fold configurations_after ds (map configured rs) ≡ ds ++ rs
configures ds [] h = sym (end_nil ds)
configures ds (r ∷ rs) h =
    ap (λ cs. fold configurations_after cs (map configured rs)) (configured_last r ds (before_middle ds r rs h))
    ∙ configures (ds ++ r ∷ []) rs (subst AreByPid (sym (join ds r rs)) h) ∙ join ds r rs

unchanged_by_installs : (cs : List KeptConfiguration) (bs : List KeptBundle) → fold configurations_after cs (map installed bs) ≡ cs
unchanged_by_installs cs [] = refl
unchanged_by_installs cs (b ∷ bs) = unchanged_by_installs cs bs

unchanged_by_starts : (cs : List KeptConfiguration) (bs : List KeptBundle) → fold configurations_after cs (map start_of bs) ≡ cs
unchanged_by_starts cs [] = refl
unchanged_by_starts cs (b ∷ bs) = unchanged_by_starts cs bs

configurations_again : (bs : List KeptBundle) (cs : List KeptConfiguration) → AreByPid cs → fold configurations_after [] (map configured cs ++ map installed bs ++ all_starts bs) ≡ cs
configurations_again bs cs h =
    fold_append configurations_after [] (map configured cs ++ map installed bs) (all_starts bs)
    ∙ ap (λ k. fold configurations_after k (all_starts bs))
    (fold_append configurations_after [] (map configured cs) (map installed bs) ∙ ap (λ k. fold configurations_after k (map installed bs)) (configures [] cs h) ∙ unchanged_by_installs cs bs)
    ∙ unchanged_by_starts cs (filter is_started bs)

-- ---- both

pub kept_again : (kept : Kept) → IsOrdered kept → kept_by (changes_again kept) ≡ kept
kept_again kept h =
    parts nothing (changes_again kept)
    ∙ ap₂ both (bundles_again kept.bundles kept.configurations h.bundles)
    (configurations_again kept.bundles kept.configurations h.configurations)
