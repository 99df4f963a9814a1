-- What a name with stars takes, by the places of what it takes.
use Rattle.std.proofs.Common.{◌≡◌, ℕ, List, ◌++◌, length, drop, ap, ◌∙◌, Bool, true, ◌&&◌, subst, Result}
use Rattle.std.specs.Prelude.{IfOk, filter, map, reverse}
use Rattle.std.specs.List.{filter_map, slice_get}
use Rattle.std.specs.List.Sorted.{IsPermutation, IsSorted}
use Rattle.std.specs.Ordering.{nat_cmp}
use Rattle.ldap_filter.specs.Matching.{begins}
use Rattle.bundle_doc.specs.Entries.{with_new}
use Rattle.bundle_doc.specs.Names.{folder, last_part, matches, parted, rest_matches}
use Rattle.bundle_doc.specs.Inside.{HasAll, first_of, last_of, passes, places_of}
use Rattle.bundle_doc.proofs.EndLemmas.{begins_before_star, ends_behind_star}
use Rattle.bundle_doc.proofs.PlaceLemmas.{places_are, texts_at_places}

-- what a name with stars takes, by its places
pub entries_matched : {E : Type 0} (r : Result (List (List ℕ)) E) (found entries : List (List ℕ)) (places items name other : List ℕ) → other ≡ name → items ≡ places_of (matches other) 0 entries → places ≡ items
    → IfOk r (λ now. now ≡ with_new found (filter_map (slice_get entries) places)) → IfOk r (λ now. now ≡ with_new found (filter (matches name) entries))
entries_matched r found entries places items name other same_name is same read =
    subst (λ w. IfOk r (λ now. now ≡ with_new found w)) (ap (filter_map (slice_get entries)) (same ∙ is ∙ ap (λ n. places_of (matches n) 0 entries) same_name) ∙ texts_at_places (matches name) entries) read

-- the parts of a name, as they were found
pub record IsCut (name front_folder : List ℕ) (parts : List (List ℕ)) : Type 0 where
  pub in_folder : front_folder ≡ folder name
  pub in_parts : parts ≡ parted 42 (last_part name)

pub parts_of : (name front_folder last : List ℕ) (found parts : List (List ℕ)) → front_folder ≡ folder name → last ≡ last_part name → found ≡ parted 42 last → parts ≡ found → IsCut name front_folder parts
parts_of name front_folder last found parts is_folder is_last is_found same = record { in_folder = is_folder; in_parts = same ∙ is_found ∙ ap (parted 42) is_last }

-- the places among keys with all that begins and ends as the name does
pub star_places : {K : Type 0} (key : K → List ℕ × ℕ) (name front_folder front back : List ℕ) (entries parts parts_front parts_back : List (List ℕ)) (keys : List K) (found places : List ℕ)
    → IsCut name front_folder parts → IsCut name front_folder parts_front → IsCut name front_folder parts_back
    → front ≡ front_folder ++ first_of parts_front → back ≡ reverse (last_of parts_back)
    → ((test : List ℕ → Bool) → ((text : List ℕ) → test text ≡ true → begins text front ≡ true) → ((text : List ℕ) → test text ≡ true → begins (reverse text) back ≡ true) → HasAll key test entries keys)
    → found ≡ filter (λ p. passes (λ e. begins e front_folder && rest_matches parts (drop (length front_folder) e)) (slice_get entries p)) (map (λ k. (key k).1) keys)
    → IsPermutation found places → IsSorted nat_cmp places → places ≡ places_of (matches name) 0 entries
star_places key name front_folder front back entries parts parts_front parts_back keys found places of of_front of_back is_front is_back all is moved sorted =
    let begun : front ≡ folder name ++ first_of (parted 42 (last_part name)) = is_front ∙ ap (λ w. w ++ first_of parts_front) of_front.in_folder ∙ ap (λ w. folder name ++ first_of w) of_front.in_parts in
    let ended : back ≡ reverse (last_of (parted 42 (last_part name))) = is_back ∙ ap (λ w. reverse (last_of w)) of_back.in_parts in
    places_are key (matches name) entries keys found places
    (all (matches name) (λ text e. ap (begins text) begun ∙ begins_before_star name text e) (λ text e. ap (begins (reverse text)) ended ∙ ends_behind_star name text e))
    (is ∙ ap (λ f. filter (λ p. passes (λ e. begins e f && rest_matches parts (drop (length f) e)) (slice_get entries p)) (map (λ k. (key k).1) keys)) of.in_folder
    ∙ ap (λ w. filter (λ p. passes (λ e. begins e (folder name) && rest_matches w (drop (length (folder name)) e)) (slice_get entries p)) (map (λ k. (key k).1) keys)) of.in_parts)
    moved sorted
