-- The lines of two loads by the numbers that are drawn, as a program of its own drew them by the rules.
use Rattle.std.proofs.Common.{◌≡◌, ◌++◌, ◌∷◌, [], codes, decimal, refl}
use Rattle.shell_lang.specs.Loads.{drawn, install_line, lines_from, load_lines, next_of, policy_text, reference_text, start_line}

first_draw : next_of 7 ≡ 1282168116
first_draw = refl

second_policy : drawn (next_of (next_of 7)) 4 ≡ 2
second_policy = refl

-- `load 7 2 0`
two_bundles : load_lines 7 2 0
    ≡ install_line 1 []
    ∷ start_line 1
    ∷ install_line 2 (reference_text 1 (policy_text 2))
    ∷ start_line 2 ∷ []
unfolding lines_from
two_bundles = refl

-- `load 26 4 4`: each kind of command
four_kinds : load_lines 26 4 4
    ≡ install_line 1 []
    ∷ start_line 1
    ∷ install_line 2 (reference_text 1 (policy_text 3))
    ∷ start_line 2
    ∷ install_line 3 (reference_text 2 (policy_text 2))
    ∷ start_line 3
    ∷ install_line 4 (reference_text 1 (policy_text 0))
    ∷ start_line 4
    ∷ (codes "config g" ++ decimal 4 ++ codes " {\"v\":" ++ decimal 60 ++ codes "}")
    ∷ start_line 1
    ∷ (codes "unconfig g" ++ decimal 4)
    ∷ (codes "stop " ++ decimal 2) ∷ []
unfolding lines_from
four_kinds = refl
