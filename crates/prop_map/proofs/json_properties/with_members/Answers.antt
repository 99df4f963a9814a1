use Rattle.std.proofs.Common.{rules, ◌≡◌, ◌<◌, ◌+◌, ap, sym, ◌∙◌, subst, length, get_or, string_bytes, Option}
use Rattle.std.specs.BTreeMap.{values}
use Rattle.serde_json.specs.View.{view}
use Rattle.prop_map.specs.declared.value.Value.{Value}
use Rattle.prop_map.specs.JsonProperties.{given_value, put_given}
use Rattle.prop_map.specs.Words.{after}
use Rattle.prop_map.specs.Readings.{Tells}
use Rattle.prop_map.proofs.MemberSteps.{told, left, member_at}
use Rattle.prop_map.proofs.json_properties.with_members.Goals as goal

pub returns-in-Err : goal.returns-in-Err
returns-in-Err c = λ keys are.
    let key-is : c.as_str.result.now ≡ string_bytes c.loop-key-item.result.0.now = search rules in
    let within : c.loop-key.key-index < length c.args.entries.now = search rules in
    let item-is : c.loop-key-item.result ≡ get_or c.args.entries.now c.loop-key.key-index c.loop-key-item.result = search rules in
    let fault-is : Tells c.in-Err.fault (given_value keys (string_bytes c.loop-key-item.result.0.now) (view c.loop-key-item.result.1.now)) =
    subst (λ k. Tells c.in-Err.fault (given_value keys k (view c.loop-key-item.result.1.now))) key-is (c.in-Err.ensures keys are) in
    subst (Tells c.in-Err.fault) (sym (member_at keys (values c.loop-key.found) c.args.entries.now c.loop-key.key-index c.loop-key-item.result within item-is) ∙ c.loop-key.invariant.1 keys are)
    (told _ c.in-Err.fault _ fault-is)

pub loop-key-preserved : goal.loop-key-preserved
loop-key-preserved c = (
  c.in_ok-put_given-in-Ok.ensures.by_key,
  λ keys are.
      let key-is : c.as_str.result.now ≡ string_bytes c.loop-key-item.result.0.now = search rules in
      let key-is-2 : c.as_str-in-Ok.result.now ≡ string_bytes c.loop-key-item.result.0.now = search rules in
      let within : c.loop-key.key-index < length c.args.entries.now = search rules in
      let item-is : c.loop-key-item.result ≡ get_or c.args.entries.now c.loop-key.key-index c.loop-key-item.result = search rules in
      let next = λ (value : Option Value). left keys (values c.loop-key.found) c.args.entries.now c.loop-key.key-index (c.loop-key.key-index + 1) (put_given (values c.loop-key.found) (string_bytes c.loop-key-item.result.0.now) value) in
      ap (λ ps. left keys (values c.loop-key.found) c.args.entries.now c.loop-key.key-index (c.loop-key.key-index + 1) ps)
      (c.in_ok-put_given-in-Ok.ensures.value ∙ ap (λ k. put_given (values c.loop-key.found) k c.in-Ok.value) key-is-2)
      ∙ sym (ap (λ r. after r next) (ap (λ k. given_value keys k (view c.loop-key-item.result.1.now)) (sym key-is) ∙ c.in-Ok.ensures keys are))
      ∙ sym (member_at keys (values c.loop-key.found) c.args.entries.now c.loop-key.key-index c.loop-key-item.result within item-is)
      ∙ c.loop-key.invariant.1 keys are,
)
