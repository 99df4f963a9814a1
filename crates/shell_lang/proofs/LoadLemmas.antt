-- The lines of a load, one after the other.
use Rattle.std.proofs.Common.{◌≡◌, ◌+◌, ◌-◌, ◌*◌, ◌<◌, ℕ, zero, suc, List, [], ◌∷◌, length, ap, refl, arith}
use Rattle.shell_lang.specs.Loads.{after_command, after_install, command_at, command_lines, install_line, lines_from, references_at, start_line}

length_commands : (x bundles more : ℕ) → length (command_lines x bundles more) ≡ more
length_commands x bundles zero = refl
length_commands x bundles (suc more) = omega (arith, length_commands (after_command x) bundles more)

-- how many lines a load has
pub length_lines : (x bundle more bundles commands : ℕ) → length (lines_from x bundle more bundles commands) ≡ 2 * more + commands
unfolding lines_from
length_lines x bundle zero bundles commands = omega (arith, length_commands x bundles commands)
length_lines x bundle (suc more) bundles commands = omega (arith, length_lines (after_install x bundle) (bundle + 1) more bundles commands)

-- the first of the lines that are left: that of an install
pub left_install : (x bundle more bundles commands : ℕ) → 0 < more
    → lines_from x bundle more bundles commands ≡ install_line bundle (references_at x bundle) ∷ start_line bundle ∷ lines_from (after_install x bundle) (bundle + 1) (more - 1) bundles commands
unfolding lines_from
left_install x bundle zero bundles commands some = absurd (omega arith)
left_install x bundle (suc more) bundles commands some =
    let less : more ≡ suc more - 1 = omega arith in
    ap (λ n. install_line bundle (references_at x bundle) ∷ start_line bundle ∷ lines_from (after_install x bundle) (bundle + 1) n bundles commands) less

left_command_lines : (x bundles commands : ℕ) → 0 < commands → command_lines x bundles commands ≡ command_at x bundles ∷ command_lines (after_command x) bundles (commands - 1)
left_command_lines x bundles zero some = absurd (omega arith)
left_command_lines x bundles (suc commands) some =
    let less : commands ≡ suc commands - 1 = omega arith in ap (λ n. command_at x bundles ∷ command_lines (after_command x) bundles n) less

-- that of a command
pub left_command : (x bundle more bundles commands : ℕ) → more ≡ 0 → 0 < commands
    → lines_from x bundle more bundles commands ≡ command_at x bundles ∷ lines_from (after_command x) bundle more bundles (commands - 1)
unfolding lines_from
left_command x bundle zero bundles commands none some = left_command_lines x bundles commands some
left_command x bundle (suc more) bundles commands none some = absurd (omega (arith, none))

-- none
pub left_none : (x bundle more bundles commands : ℕ) → more ≡ 0 → commands ≡ 0 → lines_from x bundle more bundles commands ≡ []
unfolding lines_from
left_none x bundle zero bundles zero none nothing = refl
left_none x bundle zero bundles (suc commands) none nothing = absurd (omega (arith, nothing))
left_none x bundle (suc more) bundles commands none nothing = absurd (omega (arith, none))
