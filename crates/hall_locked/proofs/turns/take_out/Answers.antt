use Rattle.std.proofs.Common.{◌<◌, ℕ, List, ap, sym, ◌∙◌, length, subst, arith}
use Rattle.std.specs.Prelude.{◌==◌, insert}
use Rattle.std.specs.List.{position}
use Rattle.hall_locked.proofs.Placed.{token_back, token_left, token_number, token_there, token_within}
use Rattle.hall_locked.proofs.turns.take_out.Goals as goal

pub remove-taken-requires : goal.remove-taken-requires
remove-taken-requires c =
    let turns = c.args.turns.now.items in
    let is = ap (position (λ (t : ℕ × ℕ). t.1 == c.args.number)) (sym c.as_slice.ensures.value) ∙ sym c.in-Some.ensures in
    let within : c.in-Some.place < length c.as_slice.result.now = subst (λ (ts : List (ℕ × ℕ)). c.in-Some.place < length ts) (sym c.as_slice.ensures.value) (token_within turns c.args.number c.requires c.in-Some.place is) in
    omega (arith, within, c.as_slice.ensures.len)

pub returns-clause-turn : goal.returns-clause-turn
returns-clause-turn c =
    let turns = c.args.turns.now.items in
    let is = ap (position (λ (t : ℕ × ℕ). t.1 == c.args.number)) (sym c.as_slice.ensures.value) ∙ sym c.in-Some.ensures in
    token_number turns c.args.number c.requires c.in-Some.place is c.remove-taken.result c.remove-taken.ensures.value

pub returns-clause-left : goal.returns-clause-left
returns-clause-left c =
    let turns = c.args.turns.now.items in
    let is = ap (position (λ (t : ℕ × ℕ). t.1 == c.args.number)) (sym c.as_slice.ensures.value) ∙ sym c.in-Some.ensures in
    c.remove-taken.ensures.items ∙ token_left turns c.args.number c.requires c.in-Some.place is

pub returns-clause-back : goal.returns-clause-back
returns-clause-back c =
    let turns = c.args.turns.now.items in
    let is = ap (position (λ (t : ℕ × ℕ). t.1 == c.args.number)) (sym c.as_slice.ensures.value) ∙ sym c.in-Some.ensures in
    ap (λ (ts : List (ℕ × ℕ)). insert ts c.in-Some.place c.remove-taken.result) c.remove-taken.ensures.items
    ∙ token_back turns c.args.number c.requires c.in-Some.place is c.remove-taken.result c.remove-taken.ensures.value

pub returns-clause-place : goal.returns-clause-place
returns-clause-place c =
    let turns = c.args.turns.now.items in
    let is = ap (position (λ (t : ℕ × ℕ). t.1 == c.args.number)) (sym c.as_slice.ensures.value) ∙ sym c.in-Some.ensures in
    let within : c.in-Some.place < length c.as_slice.result.now = subst (λ (ts : List (ℕ × ℕ)). c.in-Some.place < length ts) (sym c.as_slice.ensures.value) (token_within turns c.args.number c.requires c.in-Some.place is) in
    omega (arith, within, c.as_slice.ensures.len, c.remove-taken.ensures.len)

pub unreachable-requires : goal.unreachable-requires
unreachable-requires c =
    let turns = c.args.turns.now.items in
    let none = ap (position (λ (t : ℕ × ℕ). t.1 == c.args.number)) (sym c.as_slice.ensures.value) ∙ sym c.in-None.ensures in
    absurd (token_there turns c.args.number c.requires none)
