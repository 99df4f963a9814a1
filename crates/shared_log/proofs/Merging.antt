-- The items of the parts once those towards the end are merged.
use Rattle.std.proofs.Common.{◌≡◌, ◌∙◌, ◌++◌, ◌∷◌, ◌-◌, ℕ, List, [], ap, append_assoc, drop, length, length-drop, sym, take}
use Rattle.std.proofs.lemmas.List.{append-nil, take-append-drop}
use Rattle.std.proofs.lemmas.List.Concat.{flat_map-append}
use Rattle.std.proofs.Math.Seq.{take-length}
use Rattle.shared_log.specs.Parts.{joined}

-- a slice from a place to the end
from_place : {T : Type 0} (parts : List (List T)) (place : ℕ) → take (length parts - place) (drop place parts) ≡ drop place parts
from_place parts place =
    ap (λ n. take n (drop place parts)) (sym (length-drop place parts)) ∙ take-length (drop place parts)

-- one part in the place of those from a place on, with their items and one more
joined-merged : {T : Type 0} (parts : List (List T)) (place : ℕ) (item : T) (last : List T)
    → last ≡ joined (drop place parts) ++ item ∷ [] → joined (take place parts ++ last ∷ []) ≡ joined parts ++ item ∷ []
joined-merged parts place item last e =
    flat_map-append (λ part. part) (take place parts) (last ∷ [])
    ∙ ap (λ items. joined (take place parts) ++ items) (append-nil last ∙ e)
    ∙ sym (append_assoc (joined (take place parts)) (joined (drop place parts)) (item ∷ []))
    ∙ ap (λ items. items ++ item ∷ []) (sym (flat_map-append (λ part. part) (take place parts) (drop place parts)) ∙ ap joined (take-append-drop place parts))

-- the same as the code has it: the parts are cut at the place, and the merged one is put behind those that stay
pub joined-pushed : {T : Type 0} (parts cut pushed : List (List T)) (place : ℕ) (item : T) (last : List T) → cut ≡ parts
    → last ≡ joined (take (length cut - place) (drop place cut)) ++ item ∷ [] → pushed ≡ take place parts ++ last ∷ []
    → joined pushed ≡ joined parts ++ item ∷ []
joined-pushed parts cut pushed place item last c m p =
    ap joined p
    ∙ joined-merged parts place item last (m ∙ ap (λ rest. joined rest ++ item ∷ []) (from_place cut place ∙ ap (drop place) c))
