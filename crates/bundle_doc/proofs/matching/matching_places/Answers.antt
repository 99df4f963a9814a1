use Rattle.std.proofs.Common.{◌≡◌, ◌∙◌, List, ℕ}
use Rattle.bundle_doc.proofs.StarLemmas.{parts_of, star_places}
use Rattle.bundle_doc.proofs.matching.matching_places.Goals as goal

pub returns : goal.returns
returns c =
    let parts = λ (ps : List (List ℕ)) (same : ps ≡ c.in_ok-parts.parts). parts_of c.args.name.now c.folder-folder.result.now c.last_part.result.now c.in_ok-parts.parts ps c.folder-folder.ensures c.last_part.ensures c.in_ok-parts.ensures same in
    star_places (λ k. (k.0.items, k.1)) c.args.name.now c.folder-folder.result.now c.deref.result.now c.deref-2.result.now c.args.entries.now
    c.as_slice-3.result.now c.as_slice.result.now c.as_slice-2.result.now c.keys_for-keys.result.now c.in_ok-places.places.items c.sort_unstable.new.self.items
    (parts c.as_slice-3.result.now c.as_slice-3.ensures) (parts c.as_slice.result.now c.as_slice.ensures) (parts c.as_slice-2.result.now c.as_slice-2.ensures)
    (c.deref.ensures.value ∙ c.in_ok-front.ensures) (c.deref-2.ensures.value ∙ c.in_ok-back.ensures) c.keys_for-keys.ensures c.in_ok-places.ensures c.sort_unstable.ensures.permutation c.sort_unstable.ensures.sorted
