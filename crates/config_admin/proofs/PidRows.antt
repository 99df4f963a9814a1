-- Configurations by PID: the one of a PID where it was found and where there is none, and what an exchange, an insert and a
-- removal make of them.
use Rattle.std.proofs.Common.{◌≡◌, ℕ, List, [], ap, sym, subst, ◌∙◌, refl, Bool, get_or, Some, None, Ok, Err}
use Rattle.std.proofs.Math.ListN.{set}
use Rattle.std.proofs.lemmas.List.Kept.{AllPairs-filter}
use Rattle.std.proofs.lemmas.Map.Text.{is_eq-slice_cmp}
use Rattle.std.proofs.lemmas.Option.{slice_get-get_or}
use Rattle.std.specs.Cmp.{IsTotalOrder}
use Rattle.std.specs.Cmp.Lexicographic.{on_texts}
use Rattle.std.specs.Ordering.{is_eq, ordering_reverse}
use Rattle.std.specs.Prelude.{filter, find, insert, not, remove}
use Rattle.std.specs.declared.cmp.Ordering.{Ordering}
use Rattle.std.specs.declared.cmp.Ordering.TheVariants.{Less, Equal, Greater}
use Rattle.prop_map.specs.Words.{insert_by}
use Rattle.row_places.specs.RowPlaces.{IsPlaceOrGap}
use Rattle.row_places.proofs.RowOrderLaws.{behind, exchanged, inserted, ordered_with}
use Rattle.row_places.proofs.RowPlaceLaws.{filter_only, find_none, find_only, none_found, only_within}
use Rattle.config_admin.specs.declared.configuration.Configuration.{Configuration}
use Rattle.config_admin.specs.Configurations.{of_pid, own_configuration, pid_before, with_configuration, without_pid}
use Rattle.config_admin.specs.Orders.{AreByPid, pid_cmp}

pub pid_cmp_total : IsTotalOrder pid_cmp
pid_cmp_total = on_texts (λ (c : Configuration). c.pid)

own_tie : (o : Ordering) → o ≡ ordering_reverse o → o ≡ Equal
own_tie Less e = cc
own_tie Equal e = refl
own_tie Greater e = cc

module _ (pid : List ℕ) where
  -- some configuration of the PID, to compare with
  abbrev pub sought : Configuration
  sought = own_configuration pid []

  abbrev order : Configuration → Ordering
  order c = pid_cmp c sought

  abbrev is_sought : Configuration → Bool
  is_sought c = is_eq (order c)

  pub found_as_defined : (cs : List Configuration) → find is_sought cs ≡ of_pid pid cs
  found_as_defined cs = λ i. find (λ (c : Configuration). is_eq-slice_cmp c.pid pid i) cs

  pub left_as_defined : (cs : List Configuration) → filter (λ (c : Configuration). not (is_sought c)) cs ≡ without_pid pid cs
  left_as_defined cs = λ i. filter (λ (c : Configuration). not (is_eq-slice_cmp c.pid pid i)) cs

  pub of_pid_there : (place : ℕ) (cs : List Configuration) (d : Configuration) → IsPlaceOrGap order (Ok place) cs → of_pid pid cs ≡ Some (get_or cs place d)
  of_pid_there place cs d only = sym (found_as_defined cs) ∙ find_only is_sought place cs only ∙ slice_get-get_or cs place d (only_within is_sought place cs only)

  pub of_pid_nowhere : (gap : ℕ) (cs : List Configuration) → IsPlaceOrGap order (Err gap) cs → AreByPid cs → of_pid pid cs ≡ None
  of_pid_nowhere gap cs place ordered =
      sym (found_as_defined cs)
      ∙ find_none is_sought cs (none_found (λ (c d : Configuration). pid_cmp c d ≡ Less) order (behind pid_cmp pid_cmp_total sought) gap cs place.1)

  pub removed : (place : ℕ) (cs : List Configuration) → IsPlaceOrGap order (Ok place) cs → remove cs place ≡ without_pid pid cs
  removed place cs only = sym (filter_only is_sought place cs only) ∙ left_as_defined cs

  pub by_pid_without : (cs : List Configuration) → AreByPid cs → AreByPid (without_pid pid cs)
  by_pid_without cs ordered = AllPairs-filter (λ (c d : Configuration). pid_cmp c d ≡ Less) _ cs ordered

module _ (c : Configuration) where
  ties : pid_cmp c (sought c.pid) ≡ Equal
  ties = own_tie (pid_cmp c c) (pid_cmp_total.antisymm c c)

  pub put_there : (place : ℕ) (cs : List Configuration) → AreByPid cs → IsPlaceOrGap (order c.pid) (Ok place) cs → set cs place c ≡ with_configuration c cs
  put_there place cs ordered only =
      sym (exchanged pid_cmp pid_cmp_total (sought c.pid) c ties place cs ordered only) ∙ ap (insert_by pid_before c) (left_as_defined c.pid cs)

  pub put_new : (gap : ℕ) (cs : List Configuration) → IsPlaceOrGap (order c.pid) (Err gap) cs → insert cs gap c ≡ with_configuration c cs
  put_new gap cs place = sym (inserted pid_cmp pid_cmp_total (sought c.pid) c ties gap cs place) ∙ ap (insert_by pid_before c) (left_as_defined c.pid cs)

  pub by_pid_with : (cs : List Configuration) → AreByPid cs → AreByPid (with_configuration c cs)
  by_pid_with cs ordered = subst AreByPid (ap (insert_by pid_before c) (left_as_defined c.pid cs)) (ordered_with pid_cmp pid_cmp_total (sought c.pid) c ties cs ordered)
