-- The revisions that are known after one telling more.
use Rattle.std.proofs.Common.{◌≡◌, ◌==◌, ◌++◌, ◌∷◌, ℕ, List, [], Bool, true, false, cond, Option, refl, ap, ◌∙◌, sym}
use Rattle.std.specs.Prelude.{◌&&◌}
use Rattle.std.specs.Option.{option_map_or}
use Rattle.std.specs.Str.{bytes_eq}
use Rattle.std.proofs.lemmas.Bool.{and_parts, eqb-true}
use Rattle.std.proofs.lemmas.Slice.Eq.{bytes_eq-Decides}
use Rattle.shared_map.specs.declared.rows.Row.{Row}
use Rattle.told_revisions.specs.declared.services.ServiceRevision.{ServiceRevision}
use Rattle.told_revisions.specs.declared.tellings.Telling.{Telling}
use Rattle.told_revisions.specs.declared.tellings.ToldRevision.{ToldRevision}
use Rattle.told_revisions.specs.Services.{AreLatest, AreOrdered, revision_of, services_in}
use Rattle.told_revisions.specs.Tellings.{told_after, told_by}
use Rattle.told_revisions.specs.Told.{is_told_of, revision_told, with_told, without_told}
use Rattle.told_revisions.proofs.FoundLemmas.{new_found, none_left, old_found, still_found}

abbrev revision_in : Option ToldRevision → ℕ
revision_in o = option_map_or (λ (t : ToldRevision). t.revision) o 0

-- the last telling comes on top
pub told_onto : (ts : List ToldRevision) (tellings : List Telling) (telling : Telling) → told_after ts (tellings ++ telling ∷ []) ≡ told_by telling (told_after ts tellings)
told_onto ts [] telling = refl
told_onto ts (first ∷ tellings) telling = told_onto (told_by first ts) tellings telling

module _ (q name : List ℕ) (t s : ℕ) where
  abbrev is_it : Bool
  is_it = bytes_eq q name && (t == s)

  same : is_it ≡ true → (x : ToldRevision) → is_told_of name s x ≡ is_told_of q t x
  same on x =
      let both = and_parts (bytes_eq q name) (t == s) on in
      ap (λ k. bytes_eq x.reference k && (x.service == s)) (sym ((bytes_eq-Decides q name).0 both.0)) ∙ ap (λ n. bytes_eq x.reference q && (x.service == n)) (sym (eqb-true t s both.1))

  apart : is_it ≡ false → (x : ToldRevision) → is_told_of q t x ≡ true → is_told_of name s x ≡ false
  apart off x is =
      let both = and_parts (bytes_eq x.reference q) (x.service == t) is in
      ap (λ k. bytes_eq k name && (x.service == s)) ((bytes_eq-Decides x.reference q).0 both.0) ∙ ap (λ n. bytes_eq q name && (n == s)) (eqb-true x.service t both.1) ∙ off

  pub revision_with_told : (revision : ℕ) (ts : List ToldRevision) → revision_told (with_told q t revision ts) name s ≡ cond is_it revision (revision_told ts name s)
  revision_with_told revision ts = by_test is_it refl where
    new : ToldRevision
    new = record { reference = q; service = t; revision = revision }

    by_test : (b : Bool) → is_it ≡ b → revision_told (with_told q t revision ts) name s ≡ cond b revision (revision_told ts name s)
    by_test true on = ap revision_in (new_found (is_told_of name s) (is_told_of q t) (same on) ts new on)
    by_test false off = ap revision_in (old_found (is_told_of name s) (is_told_of q t) (apart off) ts new off)

  pub revision_without_told : (ts : List ToldRevision) → revision_told (without_told q t ts) name s ≡ cond is_it 0 (revision_told ts name s)
  revision_without_told ts = by_test is_it refl where
    by_test : (b : Bool) → is_it ≡ b → revision_told (without_told q t ts) name s ≡ cond b 0 (revision_told ts name s)
    by_test true on = ap revision_in (none_left (is_told_of name s) (is_told_of q t) (same on) ts)
    by_test false off = ap revision_in (still_found (is_told_of name s) (is_told_of q t) (apart off) ts)

module _ (reference : List ℕ) (service : ℕ) (latest changed : List (Row (List ServiceRevision))) (told : List ToldRevision) (agree : AreLatest latest told) where
  -- what is kept by reference says what is told then
  pub latest_with : (revision : ℕ) → AreOrdered changed
      → ((name : List ℕ) (n : ℕ) → revision_of (services_in name changed) n ≡ cond (bytes_eq reference name && (service == n)) revision (revision_of (services_in name latest) n))
      → AreLatest changed (with_told reference service revision told)
  latest_with revision ordered revisions = record {
    order = ordered;
    revisions = λ name n. revisions name n ∙ ap (cond (bytes_eq reference name && (service == n)) revision) (agree.revisions name n) ∙ sym (revision_with_told reference name service n revision told);
  }

  pub latest_without : AreOrdered changed
      → ((name : List ℕ) (n : ℕ) → revision_of (services_in name changed) n ≡ cond (bytes_eq reference name && (service == n)) 0 (revision_of (services_in name latest) n))
      → AreLatest changed (without_told reference service told)
  latest_without ordered revisions = record {
    order = ordered;
    revisions = λ name n. revisions name n ∙ ap (cond (bytes_eq reference name && (service == n)) 0) (agree.revisions name n) ∙ sym (revision_without_told reference name service n told);
  }
