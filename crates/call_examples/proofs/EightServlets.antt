-- The servlet that a request reaches, by its context, its pattern and its ranking.
use Rattle.std.specs.Prelude.{refl, ℕ, ◌+◌, zero, suc, List, [], ◌∷◌, ◌++◌, codes, pos}
use Rattle.std.specs.Str.Lossy.{utf8_lossy}
use Rattle.prop_map.specs.declared.properties.Property.{Property}
use Rattle.prop_map.specs.declared.value.Value.TheVariants.{Whole}
use Rattle.component_dto.specs.declared.description.Description.{Description}
use Rattle.journal_core.specs.declared.entry.Entry.{Entry}
use Rattle.journal_core.specs.declared.entry.Opened.{Opened}
use Rattle.demonstration_kinds.specs.Demonstrations.{next}
use Rattle.call_moves.specs.Evaluations.{Said, after_moves}
use Rattle.scr_world.specs.declared.command.Command.TheVariants.{Install, Register, Start, Stop}
use Rattle.scr_world.specs.declared.step.Step.{Step}
use Rattle.scr_world.specs.declared.step.Step.TheVariants.{Drained}
use Rattle.scr_calls.specs.Answers.{AnswersRequest}
use Rattle.scr_calls.specs.Evaluates.{world_up_to}
use Rattle.call_examples.proofs.Journals.{asked, closing, component, did, document, held, let_go, made, opening, pattern, text, unmade, with_service}
use Rattle.call_examples.proofs.Asking.{answer, request}
use Rattle.scr_world.specs.Worlds.{satisfied_in}
use Rattle.scr_world.specs.Room.{has_room}
use Rattle.scr_world.specs.Consequences.{stage_in, stage_of, stopped_in, stopped_by, shut_between}
use Rattle.scr_world.specs.Stepping.{world_after_step}
use Rattle.scr_world.specs.Lists.{world_after_entry, world_of}

-- a servlet that answers its digit
abbrev servlet : List ℕ → List Property → List ℕ → List Property → Description
servlet digit before path ranking =
    component (codes "s" ++ digit) (codes "demo.Text") (codes "javax.servlet.Servlet")
    (before ++ (pattern path ∷ (ranking ++ (text (codes "text") digit ∷ [])))) []

abbrev in_a : List Property
in_a = text (codes "osgi.http.whiteboard.context.select") (codes "(osgi.http.whiteboard.context.name=ca)") ∷ []

abbrev seven : List Description
seven =
    servlet (codes "1") [] (codes "/a") [] ∷ servlet (codes "2") [] (codes "/a/*") []
    ∷ servlet (codes "3") [] (codes "/a/b/*") [] ∷ servlet (codes "4") [] (codes "*.x") []
    ∷ servlet (codes "5") [] (codes "/") [] ∷ servlet (codes "6") [] [] []
    ∷ servlet (codes "7") in_a (codes "/c") [] ∷ []

abbrev better : List Description
better = servlet (codes "8") [] (codes "/a") (record { key = codes "service.ranking"; value = Whole (pos 1) } ∷ []) ∷ []

-- component configurations from this one on, each with the service behind its number
abbrev opened_from : ℕ → ℕ → List Opened
opened_from k zero = []
opened_from k (suc n) = with_service k (k + 1) ∷ opened_from (k + 1) n

-- each instance is made, and the whiteboard binds its service
abbrev bound_from : ℕ → ℕ → ℕ → List (Entry Step)
bound_from number k zero = []
bound_from number k (suc n) =
    made number k k ++ (held (number + 2) (codes "servlets") (k + 1) ++ bound_from (number + 3) (k + 1) n)

abbrev journal : List (Entry Step)
journal =
    asked (Install (document (codes "d") [])) ∷ asked (Start 1)
    ∷ asked (Register 1 (codes "org.osgi.service.http.context.ServletContextHelper" ∷ [])
    (text (codes "osgi.http.whiteboard.context.name") (codes "ca")
    ∷ text (codes "osgi.http.whiteboard.context.path") (codes "/a") ∷ []))
    ∷ (held 1 (codes "contexts") 1
    ++ (asked (Install (document (codes "s") seven)) ∷ asked (Install (document (codes "s8") better))
    ∷ opening (Start 2) (opened_from 1 7) ∷ (bound_from 2 1 7
    ++ (opening (Start 3) (opened_from 8 1) ∷ (bound_from 23 8 1
    ++ (closing (Stop 3) (8 ∷ []) ∷ did (Drained 8) ∷ (let_go 26 9 ++ unmade 27 8 8 3)))))))

equal_path : AnswersRequest (world_up_to journal) next (request (codes "GET") (codes "/a") [])
    (record { front = 50; service = 2; nested = []; answer = answer 200 2 (codes "1") })
unfolding after_moves world_after_entry world_of world_after_step stage_in stage_of stopped_in stopped_by shut_between has_room satisfied_in utf8_lossy
equal_path = (refl, (Said (codes "1"), refl, refl))

-- the longer context path counts first
longer_context : AnswersRequest (world_up_to journal) next (request (codes "GET") (codes "/a/c") [])
    (record { front = 50; service = 8; nested = []; answer = answer 200 8 (codes "7") })
unfolding after_moves world_after_entry world_of world_after_step stage_in stage_of stopped_in stopped_by shut_between has_room satisfied_in utf8_lossy
longer_context = (refl, (Said (codes "7"), refl, refl))

path_below : AnswersRequest (world_up_to journal) next (request (codes "GET") (codes "/a/d") [])
    (record { front = 50; service = 3; nested = []; answer = answer 200 3 (codes "2") })
unfolding after_moves world_after_entry world_of world_after_step stage_in stage_of stopped_in stopped_by shut_between has_room satisfied_in utf8_lossy
path_below = (refl, (Said (codes "2"), refl, refl))

longer_pattern : AnswersRequest (world_up_to journal) next (request (codes "GET") (codes "/a/b") [])
    (record { front = 50; service = 4; nested = []; answer = answer 200 4 (codes "3") })
unfolding after_moves world_after_entry world_of world_after_step stage_in stage_of stopped_in stopped_by shut_between has_room satisfied_in utf8_lossy
longer_pattern = (refl, (Said (codes "3"), refl, refl))

path_before_extension : AnswersRequest (world_up_to journal) next (request (codes "GET") (codes "/a/b/c.x") [])
    (record { front = 50; service = 4; nested = []; answer = answer 200 4 (codes "3") })
unfolding after_moves world_after_entry world_of world_after_step stage_in stage_of stopped_in stopped_by shut_between has_room satisfied_in utf8_lossy
path_before_extension = (refl, (Said (codes "3"), refl, refl))

extension : AnswersRequest (world_up_to journal) next (request (codes "GET") (codes "/c.x") [])
    (record { front = 50; service = 5; nested = []; answer = answer 200 5 (codes "4") })
unfolding after_moves world_after_entry world_of world_after_step stage_in stage_of stopped_in stopped_by shut_between has_room satisfied_in utf8_lossy
extension = (refl, (Said (codes "4"), refl, refl))

any_path : AnswersRequest (world_up_to journal) next (request (codes "GET") (codes "/zzz") [])
    (record { front = 50; service = 6; nested = []; answer = answer 200 6 (codes "5") })
unfolding after_moves world_after_entry world_of world_after_step stage_in stage_of stopped_in stopped_by shut_between has_room satisfied_in utf8_lossy
any_path = (refl, (Said (codes "5"), refl, refl))

root : AnswersRequest (world_up_to journal) next (request (codes "GET") (codes "/") [])
    (record { front = 50; service = 7; nested = []; answer = answer 200 7 (codes "6") })
unfolding after_moves world_after_entry world_of world_after_step stage_in stage_of stopped_in stopped_by shut_between has_room satisfied_in utf8_lossy
root = (refl, (Said (codes "6"), refl, refl))

-- a better servlet of the same pattern
better_one : AnswersRequest (world_up_to journal) next (request (codes "GET") (codes "/a") [])
    (record { front = 57; service = 9; nested = []; answer = answer 200 9 (codes "8") })
unfolding after_moves world_after_entry world_of world_after_step stage_in stage_of stopped_in stopped_by shut_between has_room satisfied_in utf8_lossy
better_one = (refl, (Said (codes "8"), refl, refl))

better_one_gone : AnswersRequest (world_up_to journal) next (request (codes "GET") (codes "/a") [])
    (record { front = 65; service = 2; nested = []; answer = answer 200 2 (codes "1") })
unfolding after_moves world_after_entry world_of world_after_step stage_in stage_of stopped_in stopped_by shut_between has_room satisfied_in utf8_lossy
better_one_gone = (refl, (Said (codes "1"), refl, refl))
