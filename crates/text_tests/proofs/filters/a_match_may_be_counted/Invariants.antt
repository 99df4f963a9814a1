use Rattle.text_tests.proofs.filters.a_match_may_be_counted.Given as goal

abbrev pub ghosts-counted : goal.ghosts-counted
ghosts-counted g a = record { name = a.blank.name; parts = a.blank.parts }
