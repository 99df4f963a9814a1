-- The rows of all references, where those of one are replaced.
use Rattle.std.proofs.Common.{◌≡◌, ◌==◌, ℕ, List, Bool, true, false, cond, refl, ap, ◌∙◌, sym, subst}
use Rattle.std.specs.Prelude.{◌&&◌}
use Rattle.std.specs.Str.{bytes_eq}
use Rattle.std.proofs.lemmas.Slice.Eq.{bytes_eq-Decides}
use Rattle.shared_map.specs.declared.rows.Row.{Row}
use Rattle.told_revisions.specs.declared.services.ServiceRevision.{ServiceRevision}
use Rattle.told_revisions.specs.Services.{AreByService, AreOrdered, revision_of, services_in, with_service, without_service}
use Rattle.told_revisions.proofs.ServiceLemmas.{order_with, order_without, revision_with, revision_without}

module _ (reference : List ℕ) (services : List ServiceRevision) (latest changed : List (Row (List ServiceRevision)))
    (replaced : (name : List ℕ) → services_in name changed ≡ cond (bytes_eq reference name) services (services_in name latest)) where
  still_ordered : AreByService services → AreOrdered latest → AreOrdered changed
  still_ordered new old name = subst AreByService (sym (replaced name)) (by_test (bytes_eq reference name)) where
    by_test : (b : Bool) → AreByService (cond b services (services_in name latest))
    by_test true = new
    by_test false = old name

  module _ (service revision : ℕ) (made : (n : ℕ) → revision_of services n ≡ cond (service == n) revision (revision_of (services_in reference latest) n)) where
    -- one service's revision for one reference is another
    revisions_replaced : (name : List ℕ) (n : ℕ) → revision_of (services_in name changed) n ≡ cond (bytes_eq reference name && (service == n)) revision (revision_of (services_in name latest) n)
    revisions_replaced name n = ap (λ rows. revision_of rows n) (replaced name) ∙ by_test (bytes_eq reference name) refl where
      by_test : (b : Bool) → bytes_eq reference name ≡ b
          → revision_of (cond b services (services_in name latest)) n ≡ cond (b && (service == n)) revision (revision_of (services_in name latest) n)
      by_test true e = made n ∙ ap (λ other. cond (service == n) revision (revision_of (services_in other latest) n)) ((bytes_eq-Decides reference name).0 e)
      by_test false e = refl

module _ (reference : List ℕ) (latest changed : List (Row (List ServiceRevision))) (ordered : AreOrdered latest) where
  module _ (row : ServiceRevision) (replaced : (name : List ℕ) → services_in name changed ≡ cond (bytes_eq reference name) (with_service row (services_in reference latest)) (services_in name latest)) where
    pub ordered_with : AreOrdered changed
    ordered_with = still_ordered reference (with_service row (services_in reference latest)) latest changed replaced (order_with row (services_in reference latest) (ordered reference)) ordered

    pub revisions_with : (name : List ℕ) (n : ℕ) → revision_of (services_in name changed) n ≡ cond (bytes_eq reference name && (row.service == n)) row.revision (revision_of (services_in name latest) n)
    revisions_with = revisions_replaced reference (with_service row (services_in reference latest)) latest changed replaced row.service row.revision (revision_with row (services_in reference latest))

  module _ (service : ℕ) (replaced : (name : List ℕ) → services_in name changed ≡ cond (bytes_eq reference name) (without_service service (services_in reference latest)) (services_in name latest)) where
    pub ordered_without : AreOrdered changed
    ordered_without = still_ordered reference (without_service service (services_in reference latest)) latest changed replaced (order_without service (services_in reference latest) (ordered reference)) ordered

    pub revisions_without : (name : List ℕ) (n : ℕ) → revision_of (services_in name changed) n ≡ cond (bytes_eq reference name && (service == n)) 0 (revision_of (services_in name latest) n)
    revisions_without = revisions_replaced reference (without_service service (services_in reference latest)) latest changed replaced service 0 (revision_without service (services_in reference latest))
