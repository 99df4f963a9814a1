use Rattle.std.proofs.Common.{◌≡◌, ◌-◌, ◌∙◌, ◌++◌, ◌∷◌, [], ap, arith, length, length-append, List, Some}
use Rattle.std.proofs.lemmas.List.{get_or_push}
use Rattle.std.proofs.lemmas.Option.{slice_get-get_or}
use Rattle.std.specs.List.{slice_get}
use Rattle.std.specs.Option.{unwrap_or}
use Rattle.journal_core.specs.declared.entry.Entry.{Entry}
use Rattle.scr_growth.specs.Growths.{with_listeners_told}
use Rattle.scr_world.specs.declared.step.Step.{Step}
use Rattle.scr_growth.proofs.listening.tell_last.Goals as goal

last_pushed : {X : Type 0} (xs : List X) (y : X) → slice_get (xs ++ y ∷ []) (length (xs ++ y ∷ []) - 1) ≡ Some y
last_pushed xs y =
    let long = length-append xs (y ∷ []) in
    slice_get-get_or (xs ++ y ∷ []) (length (xs ++ y ∷ []) - 1) y (omega (arith, long)) ∙ ap Some (get_or_push xs y y (length (xs ++ y ∷ []) - 1) (omega (arith, long)))

pub returns-in_ok-tell-in-Some-clause-ok : goal.returns-in_ok-tell-in-Some-clause-ok
returns-in_ok-tell-in-Some-clause-ok c = λ entries entry was is before.
    let same : c.in-Some.entry.now ≡ entry =
    ap (λ o. unwrap_or o entry) (c.in-Some.ensures.value ∙ ap (λ (es : List (Entry Step)). slice_get es (length es - 1)) (c.entries.ensures ∙ is) ∙ last_pushed entries entry) in
    c.in_ok-tell-in-Some.ensures.ok was before
    ∙ ap (λ (e : Entry Step). record c.args.state.now { world = with_listeners_told e.step was c.args.state.now.world }) same
