use Rattle.std.proofs.Common.{◌∙◌, ap, subst, sym}
use Rattle.scr_state.specs.Keeps.{IsDraft}
use Rattle.scr_world.specs.Legal.{MayCome}
use Rattle.scr_world.specs.Room.{has_room, needed_by}
use Rattle.scr_world.specs.declared.step.Step.{Step}
use Rattle.scr_core.proofs.turns.grow_by_end.Goals as goal

pub is_still_end-requires : goal.is_still_end-requires
is_still_end-requires c = record { journal = c.args.journal.now; keeps = c.requires.keeps }

pub grow_still_end-requires-clause-may : goal.grow_still_end-requires-clause-may
grow_still_end-requires-clause-may c = subst (λ (x : Step). MayCome c.args.state.now.world x) c.requires.step c.requires.may

pub grow_still_end-requires-clause-room : goal.grow_still_end-requires-clause-room
grow_still_end-requires-clause-room c = ap (λ (x : Step). has_room c.args.journal.now.limit c.args.state.now.world (needed_by x)) (sym c.requires.step) ∙ c.requires.room

pub grow_still_end-requires-clause-draft : goal.grow_still_end-requires-clause-draft
grow_still_end-requires-clause-draft c = subst (λ (x : Step). IsDraft c.args.state.now x c.args.draft) c.requires.step c.requires.draft
