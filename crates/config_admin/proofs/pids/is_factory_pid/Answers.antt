-- A text is a factory's PID, `~` and a name where it has the factory's PID in front, and `~` and the name behind.
use Rattle.std.proofs.Common.{◌≡◌, ◌∙◌, ◌∷◌, ap, subst, sym, true, false, drop, length, take}
use Rattle.std.specs.Str.{bytes_eq}
use Rattle.config_admin.proofs.FactoryPids.{other_front, same_behind}
use Rattle.config_admin.proofs.pids.is_factory_pid.Goals as goal

pub returns-in-Some : goal.returns-in-Some
returns-in-Some c =
    let front : bytes_eq (take (length c.args.factory.now) c.args.text.now) c.args.factory.now ≡ true = rw (c.as_bytes.ensures.value, c.as_bytes-2.ensures.value) at c.in-Some.ensures.cases.0 in
    let rest = rw (c.as_bytes.ensures.value, c.as_bytes-2.ensures.value) at c.in-Some.ensures.cases.1 in
    c.is_name.ensures ∙ ap (λ xs. bytes_eq xs (126 ∷ c.as_bytes-in-Some.result.now)) rest
    ∙ ap (λ xs. bytes_eq (drop (length c.args.factory.now) c.args.text.now) (126 ∷ xs)) c.as_bytes-in-Some.ensures.value
    ∙ sym (same_behind c.args.text.now c.args.factory.now (126 ∷ c.args.name.now) front)

pub returns-in-None : goal.returns-in-None
returns-in-None c =
    let front : bytes_eq (take (length c.args.factory.now) c.args.text.now) c.args.factory.now ≡ false = rw (c.as_bytes.ensures.value, c.as_bytes-2.ensures.value) at c.in-None.ensures.cases in
    sym (other_front c.args.text.now c.args.factory.now (126 ∷ c.args.name.now) front)
