-- What changes keep is in order.
use Rattle.std.proofs.Common.{◌≡◌, ◌<◌, arith, ℕ, List, [], ◌∷◌, fold, refl, ap, sym, subst, ◌∙◌, Bool}
use Rattle.std.proofs.lemmas.List.Kept.{AllPairs-filter}
use Rattle.std.proofs.lemmas.Map.Text.{is_eq-slice_cmp}
use Rattle.std.specs.Cmp.{IsTotalOrder}
use Rattle.std.specs.Cmp.Lexicographic.{on_texts}
use Rattle.std.specs.Ordering.{is_eq, ordering_reverse}
use Rattle.std.specs.Prelude.{filter, not}
use Rattle.std.specs.declared.cmp.Ordering.{Ordering}
use Rattle.std.specs.declared.cmp.Ordering.TheVariants.{Less, Equal, Greater}
use Rattle.prop_map.specs.Words.{insert_by}
use Rattle.row_places.proofs.RowOrderLaws.{ordered_with}
use Rattle.world_keeper.specs.declared.change.Change.{Change}
use Rattle.world_keeper.specs.declared.change.Change.TheVariants.{Install, Update, Remove, Started, Configured, Unconfigured}
use Rattle.world_keeper.specs.declared.kept.Kept.{Kept}
use Rattle.world_keeper.specs.declared.kept.KeptBundle.{KeptBundle}
use Rattle.world_keeper.specs.declared.kept.KeptConfiguration.{KeptConfiguration}
use Rattle.world_keeper.specs.KeptWorlds.{bundles_after, configurations_after, kept_after, kept_by, nothing, pid_before, with_configuration, without_pid}
use Rattle.world_keeper.specs.Orders.{AreApart, AreByPid, IsOrdered, pid_cmp}
use Rattle.world_keeper.proofs.Located.{apart_documented, apart_filtered, apart_installed, apart_marked}

pub pid_cmp_total : IsTotalOrder pid_cmp
pid_cmp_total = on_texts (λ (c : KeptConfiguration). c.pid)

own_tie : (o : Ordering) → o ≡ ordering_reverse o → o ≡ Equal
own_tie Less e = cc
own_tie Equal e = refl
own_tie Greater e = cc

left_as_defined : (c : KeptConfiguration) (cs : List KeptConfiguration) → filter (λ (d : KeptConfiguration). not (is_eq (pid_cmp d c))) cs ≡ without_pid c.pid cs
left_as_defined c cs = λ i. filter (λ (d : KeptConfiguration). not (is_eq-slice_cmp d.pid c.pid i)) cs

by_pid_with : (c : KeptConfiguration) (cs : List KeptConfiguration) → AreByPid cs → AreByPid (with_configuration c cs)
by_pid_with c cs ordered = subst AreByPid (ap (insert_by pid_before c) (left_as_defined c cs)) (ordered_with pid_cmp pid_cmp_total c c (own_tie (pid_cmp c c) (pid_cmp_total.antisymm c c)) cs ordered)

apart_after : (bs : List KeptBundle) (change : Change) → AreApart bs → AreApart (bundles_after bs change)
apart_after bs (Install location document) h = apart_installed location document bs h
apart_after bs (Update location document) h = apart_documented location document bs h
apart_after bs (Remove location) h = apart_filtered _ bs h
apart_after bs (Started location so) h = apart_marked location so bs h
apart_after bs (Configured pid factory properties) h = h
apart_after bs (Unconfigured pid) h = h

by_pid_after : (cs : List KeptConfiguration) (change : Change) → AreByPid cs → AreByPid (configurations_after cs change)
by_pid_after cs (Install location document) h = h
by_pid_after cs (Update location document) h = h
by_pid_after cs (Remove location) h = h
by_pid_after cs (Started location so) h = h
by_pid_after cs (Configured pid factory properties) h = by_pid_with _ cs h
by_pid_after cs (Unconfigured pid) h = AllPairs-filter (λ (c d : KeptConfiguration). pid_cmp c d ≡ Less) _ cs h

pub ordered_after : (kept : Kept) (change : Change) → IsOrdered kept → IsOrdered (kept_after kept change)
ordered_after kept change h = record { bundles = apart_after kept.bundles change h.bundles; configurations = by_pid_after kept.configurations change h.configurations }

ordered_from : (kept : Kept) (changes : List Change) → IsOrdered kept → IsOrdered (fold kept_after kept changes)
ordered_from kept [] h = h
ordered_from kept (change ∷ changes) h = ordered_from (kept_after kept change) changes (ordered_after kept change h)

-- what changes keep of an empty platform is in order
pub ordered_by : (changes : List Change) → IsOrdered (kept_by changes)
ordered_by changes = ordered_from nothing changes (record { bundles = tt; configurations = λ i j d less within. absurd (none j within) })
  where
    none : (j : ℕ) → j < 0 → ⊥
    none j within = omega (arith, within)
