-- The row of a number, where it was found, and where there is none.
use Rattle.std.proofs.Common.{◌≡◌, ◌<◌, ℕ, List, ap, ◌∙◌, sym, Option, Some, None, Bool, true, false, cond, get_or, length}
use Rattle.std.proofs.lemmas.Bool.{eq-eqb, ne_eqb}
use Rattle.std.proofs.lemmas.Option.{slice_get-get_or}
use Rattle.std.specs.Prelude.{◌==◌, filter, map, not, remove, slice_get}
use Rattle.std.proofs.Math.ListN.{set}
use Rattle.prop_map.specs.declared.properties.Property.{Property}
use Rattle.row_places.specs.RowPlaces.{NoneOf, OnlyAt}
use Rattle.row_places.proofs.RowPlaceLaws.{filter_only, find_none, find_only, map_only}
use Rattle.service_registry.specs.declared.fault.RegistryFault.{RegistryFault}
use Rattle.service_registry.specs.declared.fault.RegistryFault.TheVariants.{NoService, NotOwner}
use Rattle.service_registry.specs.declared.row.ServiceRow.{ServiceRow}
use Rattle.service_registry.specs.Registries.{Registered, has_number, refusal_for, row_of, set_row, unregistered, with_properties}

abbrev pub as_table : List ServiceRow → ℕ → Registered
as_table rows numbered = record { rows = rows; numbered = numbered }

pub found : (service place : ℕ) (rows : List ServiceRow) (d : ServiceRow) → OnlyAt (has_number service) place rows → place < length rows → row_of rows service ≡ Some (get_or rows place d)
found service place rows d only within = find_only (has_number service) place rows only ∙ slice_get-get_or rows place d within

pub not_found : (bundle service : ℕ) (rows : List ServiceRow) → NoneOf (has_number service) rows → Some (NoService service) ≡ refusal_for bundle service (row_of rows service)
not_found bundle service rows none = sym (ap (refusal_for bundle service) (find_none (has_number service) rows none))

pub owned : (bundle service place : ℕ) (rows : List ServiceRow) (d : ServiceRow) → OnlyAt (has_number service) place rows → place < length rows → (get_or rows place d).bundle ≡ bundle
    → None ≡ refusal_for bundle service (row_of rows service)
owned bundle service place rows d only within own =
    sym (ap (refusal_for bundle service) (found service place rows d only within) ∙ ap (λ b. cond b None (Some (NotOwner (get_or rows place d).bundle))) (eq-eqb (get_or rows place d).bundle bundle own))

pub not_owned : (bundle service place : ℕ) (rows : List ServiceRow) (d : ServiceRow) → OnlyAt (has_number service) place rows → place < length rows → ((get_or rows place d).bundle ≡ bundle → ⊥)
    → Some (NotOwner (get_or rows place d).bundle) ≡ refusal_for bundle service (row_of rows service)
not_owned bundle service place rows d only within other =
    sym (ap (refusal_for bundle service) (found service place rows d only within) ∙ ap (λ b. cond b None (Some (NotOwner (get_or rows place d).bundle))) (ne_eqb (get_or rows place d).bundle bundle other))

-- where xs, of which the place is known, are the rows of a table
pub removed : (service place numbered : ℕ) (xs ys rows : List ServiceRow) → xs ≡ rows → OnlyAt (has_number service) place xs → ys ≡ remove rows place
    → as_table ys numbered ≡ unregistered service (as_table rows numbered)
removed service place numbered xs ys rows e only is =
    ap (λ l. as_table l numbered) (is ∙ ap (λ l. remove l place) (sym e) ∙ sym (filter_only (has_number service) place xs only) ∙ ap (filter (λ (r : ServiceRow). not (has_number service r))) e)

pub exchanged : (service place numbered : ℕ) (given : List Property) (xs rows : List ServiceRow) (row d : ServiceRow) → xs ≡ rows → OnlyAt (has_number service) place xs → row ≡ set_row given (get_or rows place d)
    → as_table (set rows place row) numbered ≡ with_properties service given (as_table rows numbered)
exchanged service place numbered given xs rows row d e only is =
    ap (λ l. as_table l numbered)
    (ap (set rows place) is ∙ ap (λ l. set l place (set_row given (get_or l place d))) (sym e) ∙ sym (map_only (has_number service) (set_row given) place xs d only)
    ∙ ap (map (λ (r : ServiceRow). cond (has_number service r) (set_row given r) r)) e)
