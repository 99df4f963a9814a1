-- What is told of what instances hold is one thing.
use Rattle.std.proofs.Common.{◌≡◌, ℕ, List, ap, sym, ◌∙◌, refl, Ok, Err}
use Rattle.std.specs.Prelude.{Result}
use Rattle.std.proofs.lemmas.Bool.{both_ways}
use Rattle.component_state.specs.Components.{exists}
use Rattle.scr_world.specs.Readers.{TellsHeld}
use Rattle.scr_world.specs.declared.lines.HeldLine.{HeldLine}
use Rattle.scr_world.specs.declared.reply.CoreFault.{CoreFault}
use Rattle.scr_world.specs.declared.reply.CoreFault.TheVariants.{NoComponent, OutOfMemory}
use Rattle.scr_world.specs.declared.world.World.{World}

pub held_once : (w : World) (configuration : ℕ) (a b : Result (List HeldLine) CoreFault) → (a ≡ Err OutOfMemory → ⊥) → (b ≡ Err OutOfMemory → ⊥) → TellsHeld w configuration a → TellsHeld w configuration b → a ≡ b
held_once w configuration (Err OutOfMemory) b some some' tells tells' = absurd (some refl)
held_once w configuration (Ok lines) (Ok others) some some' (there, is) (there', is') = ap (λ (l : List HeldLine). Ok l) (is ∙ sym is')
held_once w configuration (Ok lines) (Err (NoComponent name)) some some' (there, is) (gone, is') = absurd (both_ways (exists w.components configuration) gone there)
held_once w configuration (Ok lines) (Err OutOfMemory) some some' tells tells' = absurd (some' refl)
held_once w configuration (Ok lines) (Err _) some some' tells tells' = absurd tells'
held_once w configuration (Err (NoComponent name)) (Ok lines) some some' (gone, is) (there, is') = absurd (both_ways (exists w.components configuration) gone there)
held_once w configuration (Err (NoComponent name)) (Err (NoComponent other)) some some' (gone, is) (gone', is') = ap (λ (n : List ℕ). Err (NoComponent n)) (is ∙ sym is')
held_once w configuration (Err (NoComponent name)) (Err OutOfMemory) some some' tells tells' = absurd (some' refl)
held_once w configuration (Err (NoComponent name)) (Err _) some some' tells tells' = absurd tells'
held_once w configuration (Err _) b some some' tells tells' = absurd tells
