use Rattle.std.proofs.Common.{ℕ, List, [], ◌∷◌, ◌++◌, get_or, take, sym, ap, ◌∙◌, subst, arith, append_assoc, append-nil}
use Rattle.std.proofs.lemmas.List.{take_all, take_more}
use Rattle.http_wire.specs.ChunkPlaces.{EndsAt}
use Rattle.http_wire.proofs.chunk_place.walk.Goals as goal

pub loop-byte-init : goal.loop-byte-init
loop-byte-init c = λ front e. subst (λ (t : List ℕ). EndsAt t c.args.from) (sym (append-nil front)) e

pub loop-byte-preserved : goal.loop-byte-preserved
loop-byte-preserved c =
    let xs = c.args.bytes.now in let i = c.loop-byte.byte-index in
    λ front e.
    subst (λ (t : List ℕ). EndsAt t c.after-next.result) (append_assoc front (take i xs) (get_or xs i 0 ∷ []) ∙ ap (λ (t : List ℕ). front ++ t) (sym (take_more xs i 0 c.loop-byte-test.true)))
    (c.after-next.ensures (front ++ take i xs) (c.loop-byte.invariant front e))

pub returns : goal.returns
returns c =
    λ front e. subst (λ (t : List ℕ). EndsAt (front ++ t) c.loop-byte.reached) (take_all c.loop-byte.byte-index c.args.bytes.now (omega arith)) (c.loop-byte.invariant front e)
