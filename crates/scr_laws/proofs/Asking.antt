-- Asking twice is asking once.
use Rattle.std.proofs.Common.{◌≡◌, ℕ, ◌+◌, List, [], ◌∷◌, ◌++◌, ap, sym, ◌∙◌, refl, subst, cond, Bool, true, false, ◌&&◌, inl, inr, Option, Some, None}
use Rattle.std.specs.Prelude.{filter, find, map, not, ◌==◌}
use Rattle.std.specs.List.{Contains, list_any}
use Rattle.std.specs.Option.{option_map_or}
use Rattle.std.proofs.lemmas.Bool.{and_from, and_parts, both_ways, cases_Bool, eq-eqb, eqb-true}
use Rattle.std.proofs.lemmas.Slice.Eq.{bytes_eq-Decides}
use Rattle.prop_map.specs.declared.properties.Property.{Property}
use Rattle.prop_map.specs.Sameness.{properties_decide, same_properties}
use Rattle.component_state.specs.declared.component.Component.{Component}
use Rattle.component_state.specs.ComponentConfigurations.{components_after, as_configured, is_same_component, component_after, new_components, with_numbers, same_pid, with_number}
use Rattle.component_state.proofs.Apart.{any_from, in_cases, in_either, in_first, in_none, in_rest, kept_was}
use Rattle.scr_laws.proofs.Stillness.{none_added}
use Rattle.scr_laws.specs.Askeds.{AreAsked}
use Rattle.scr_laws.proofs.Listed.{any_was, found_is, in_left, in_mapped, in_right, kept_in, map_same, mapped_was, none_found, none_kept, none_passes}

same_as_itself : (ps : List Property) → same_properties ps ps ≡ true
same_as_itself ps = (properties_decide ps ps).1 refl

pid_itself : (p : Option (List ℕ)) → same_pid p p ≡ true
pid_itself None = refl
pid_itself (Some a) = (bytes_eq-Decides a a).1 refl

pub is_itself : (c : Component) → is_same_component c c ≡ true
is_itself c = and_from (c.bundle == c.bundle) ((c.index == c.index) && same_pid c.pid c.pid) (eq-eqb c.bundle c.bundle refl) (and_from (c.index == c.index) (same_pid c.pid c.pid) (eq-eqb c.index c.index refl) (pid_itself c.pid))

pid_is : (p q : Option (List ℕ)) → same_pid p q ≡ true → p ≡ q
pid_is None None e = refl
pid_is (Some a) (Some b) e = ap (λ (n : List ℕ). Some n) ((bytes_eq-Decides a b).0 e)
pid_is None (Some b) e = absurd cc
pid_is (Some a) None e = absurd cc

pub same_parts : (a b : Component) → is_same_component a b ≡ true → (a.bundle ≡ b.bundle) × ((a.index ≡ b.index) × (a.pid ≡ b.pid))
same_parts a b e =
    let one = and_parts (a.bundle == b.bundle) ((a.index == b.index) && same_pid a.pid b.pid) e in
    let two = and_parts (a.index == b.index) (same_pid a.pid b.pid) one.1 in
    (eqb-true a.bundle b.bundle one.0, (eqb-true a.index b.index two.0, pid_is a.pid b.pid two.1))

pub same_back : (a b : Component) → is_same_component a b ≡ true → is_same_component b a ≡ true
same_back a b e =
    let parts = same_parts a b e in
    and_from (b.bundle == a.bundle) ((b.index == a.index) && same_pid b.pid a.pid) (eq-eqb b.bundle a.bundle (sym parts.0)) (and_from (b.index == a.index) (same_pid b.pid a.pid) (eq-eqb b.index a.index (sym parts.1.0))
    (ap (λ p. same_pid p a.pid) (sym parts.1.1) ∙ pid_itself a.pid))

-- one that is as asked stays so in every entry
settled_once : (place : ℕ) (c a : Component) → c.configured ≡ a.configured → c.properties ≡ with_number c.number a.properties → as_configured place c a ≡ c
settled_once place c a configured properties =
    ap (λ (k : Bool). record c { configured = k; properties = with_number c.number a.properties; changed = cond (same_properties (with_number c.number a.properties) c.properties) c.changed (Some place) }) (sym configured)
    ∙ ap (λ (ps : List Property). record c { properties = ps; changed = cond (same_properties ps c.properties) c.changed (Some place) }) (sym properties)
    ∙ ap (λ b. record c { changed = cond b c.changed (Some place) }) (same_as_itself c.properties)

-- where each that is asked for lives, and off two are the same
module _ (these : List Component) (live : (a : Component) → Contains these a → a.exists ≡ true) (apart : (a b : Component) → Contains these a → Contains these b → is_same_component a b ≡ true → a ≡ b) where
  kept_stays : (place later : ℕ) (c : Component) → component_after later these (component_after place these c) ≡ component_after place these c
  kept_stays place later c = go c.exists refl
    where
      found : c.exists ≡ true → (o : Option Component) → find (is_same_component c) these ≡ o → component_after later these (option_map_or (as_configured place c) o (record c { exists = false })) ≡ option_map_or (as_configured place c) o (record c { exists = false })
      found on None is = refl
      found on (Some a) is = ap (λ b. cond b (option_map_or (as_configured later (as_configured place c a)) (find (is_same_component c) these) (record (as_configured place c a) { exists = false })) (as_configured place c a)) on
          ∙ ap (λ o. option_map_or (as_configured later (as_configured place c a)) o (record (as_configured place c a) { exists = false })) is
          ∙ settled_once later (as_configured place c a) a refl refl

      go : (b : Bool) → c.exists ≡ b → component_after later these (cond b (option_map_or (as_configured place c) (find (is_same_component c) these) (record c { exists = false })) c) ≡ cond b (option_map_or (as_configured place c) (find (is_same_component c) these) (record c { exists = false })) c
      go true on = found on (find (is_same_component c) these) refl
      go false off = ap (λ b. cond b (option_map_or (as_configured later c) (find (is_same_component c) these) (record c { exists = false })) c) off

  -- one that comes stays
  new_stays : (later number : ℕ) (a : Component) → Contains these a → component_after later these (record a { number = number; properties = with_number number a.properties }) ≡ record a { number = number; properties = with_number number a.properties }
  new_stays later number a here =
      ap (λ b. cond b (option_map_or (as_configured later (record a { number = number; properties = with_number number a.properties })) (find (is_same_component a) these) (record a { number = number; properties = with_number number a.properties; exists = false })) (record a { number = number; properties = with_number number a.properties })) (live a here)
      ∙ ap (λ o. option_map_or (as_configured later (record a { number = number; properties = with_number number a.properties })) o (record a { number = number; properties = with_number number a.properties; exists = false })) (found_is (is_same_component a) these a here (is_itself a) (λ b there same. sym (apart a b here there same)))
      ∙ settled_once later (record a { number = number; properties = with_number number a.properties }) a refl refl

  numbered_was : (number : ℕ) (cs : List Component) (c : Component) → Contains (with_numbers number cs) c → (a : Component) × (Contains cs a × ((n : ℕ) × (record a { number = n; properties = with_number n a.properties } ≡ c)))
  numbered_was number [] c h = absurd (in_none c h)
  numbered_was number (a ∷ cs) c h = elim (in_cases (record a { number = number; properties = with_number number a.properties }) (with_numbers (number + 1) cs) c h) [
    | inl same ↦ (a, (in_first a cs, (number, same)))
    | inr later ↦ (let back = numbered_was (number + 1) cs c later in (back.0, (in_rest a cs back.0 back.1.0, back.1.1)))
  ]

  numbered_in : (number : ℕ) (cs : List Component) (a : Component) → Contains cs a → (n : ℕ) × Contains (with_numbers number cs) (record a { number = n; properties = with_number n a.properties })
  numbered_in number [] a h = absurd (in_none a h)
  numbered_in number (c ∷ cs) a h = elim (in_cases c cs a h) [
    | inl same ↦ (number, subst (λ (d : Component). Contains (with_numbers number (c ∷ cs)) (record d { number = number; properties = with_number number d.properties })) same (in_first (record c { number = number; properties = with_number number c.properties }) (with_numbers (number + 1) cs)))
    | inr later ↦ (let back = numbered_in (number + 1) cs a later in (back.0, in_rest (record c { number = number; properties = with_number number c.properties }) (with_numbers (number + 1) cs) (record a { number = back.0; properties = with_number back.0 a.properties }) back.1))
  ]

  module _ (place came : ℕ) (before : List Component) where
    stand_after : (later : ℕ) (c : Component) → Contains (components_after place came these before) c → component_after later these c ≡ c
    stand_after later c h = elim (in_either (map (component_after place these) before) (with_numbers (came + 1) (new_components before these)) c h) [
      | inl old ↦ (let was = mapped_was (component_after place these) before c old in subst (λ (d : Component). component_after later these d ≡ d) was.1.1 (kept_stays place later was.0))
      | inr new ↦ (let was = numbered_was (came + 1) (new_components before these) c new in
          subst (λ (d : Component). component_after later these d ≡ d) was.1.1.1 (new_stays later was.1.1.0 was.0 (kept_was (λ (a : Component). not (list_any (λ (d : Component). d.exists && is_same_component a d) before)) these was.0 was.1.0).0))
    ]

    -- each that is asked for is there
    there_after : (a : Component) → Contains these a → list_any (λ (c : Component). c.exists && is_same_component a c) (components_after place came these before) ≡ true
    there_after a here = elim (cases_Bool (list_any (λ (c : Component). c.exists && is_same_component a c) before)) [
      | inl old ↦ was (any_was (λ (c : Component). c.exists && is_same_component a c) before old)
      | inr new ↦ (let at = numbered_in (came + 1) (new_components before these) a (kept_in (λ (b : Component). not (list_any (λ (d : Component). d.exists && is_same_component b d) before)) these a here (ap not new)) in
          any_from (λ (c : Component). c.exists && is_same_component a c) (components_after place came these before) (record a { number = at.0; properties = with_number at.0 a.properties })
          (in_right (map (component_after place these) before) (with_numbers (came + 1) (new_components before these)) (record a { number = at.0; properties = with_number at.0 a.properties }) at.1)
          (and_from a.exists (is_same_component a a) (live a here) (is_itself a)))
    ]
      where
        was : (c : Component) × (Contains before c × ((c.exists && is_same_component a c) ≡ true)) → list_any (λ (c : Component). c.exists && is_same_component a c) (components_after place came these before) ≡ true
        was (c, (in_before, is)) =
            let parts = and_parts c.exists (is_same_component a c) is in
            any_from (λ (d : Component). d.exists && is_same_component a d) (components_after place came these before) (component_after place these c)
            (in_left (map (component_after place these) before) (with_numbers (came + 1) (new_components before these)) (component_after place these c) (in_mapped (component_after place these) before c in_before))
            (ap (λ b. (let d = cond b (option_map_or (as_configured place c) (find (is_same_component c) these) (record c { exists = false })) c in d.exists && is_same_component a d)) parts.0 ∙ found (find (is_same_component c) these) refl)
          where
            found : (o : Option Component) → find (is_same_component c) these ≡ o → (let d = option_map_or (as_configured place c) o (record c { exists = false }) in d.exists && is_same_component a d) ≡ true
            found None none = absurd (both_ways (is_same_component c a) (none_found (is_same_component c) these a none here) (same_back a c (and_parts c.exists (is_same_component a c) is).1))
            found (Some b) some = is

    asked_after : AreAsked these (components_after place came these before)
    asked_after = record {
      stand = stand_after;
      complete = none_kept (λ (a : Component). not (list_any (λ (c : Component). c.exists && is_same_component a c) (components_after place came these before))) these (λ a here. ap not (there_after a here));
    }

pub asking_asks : (these : List Component) → ((a : Component) → Contains these a → a.exists ≡ true) → ((a b : Component) → Contains these a → Contains these b → is_same_component a b ≡ true → a ≡ b) → (place came : ℕ) (before : List Component) → AreAsked these (components_after place came these before)
asking_asks = asked_after

-- asking changes nothing where all are as they are asked for
pub asking_stays : (these cs : List Component) → AreAsked these cs → (place came : ℕ) → components_after place came these cs ≡ cs
asking_stays these cs are place came =
    ap (λ new. map (component_after place these) cs ++ with_numbers (came + 1) new) are.complete
    ∙ none_added (map (component_after place these) cs)
    ∙ map_same (component_after place these) cs (are.stand place)

-- nor does forgetting such as ceased
pub forgetting_stays : (these cs : List Component) → AreAsked these cs → (t : Component → Bool) → ((c : Component) → Contains cs c → c.exists ≡ true → t c ≡ true) → AreAsked these (filter t cs)
forgetting_stays these cs are t each = record {
  stand = λ place c h. are.stand place c (kept_was t cs c h).0;
  complete = none_kept (λ (a : Component). not (list_any (λ (c : Component). c.exists && is_same_component a c) (filter t cs))) these (λ a here. ap not (still a here));
}
  where
    not_false : (b : Bool) → not b ≡ false → b ≡ true
    not_false true e = refl
    not_false false e = sym e

    still : (a : Component) → Contains these a → list_any (λ (c : Component). c.exists && is_same_component a c) (filter t cs) ≡ true
    still a here =
        let was = any_was (λ (c : Component). c.exists && is_same_component a c) cs (not_false (list_any (λ (c : Component). c.exists && is_same_component a c) cs) (none_passes (λ (b : Component). not (list_any (λ (c : Component). c.exists && is_same_component b c) cs)) these are.complete a here)) in
        any_from (λ (c : Component). c.exists && is_same_component a c) (filter t cs) was.0 (kept_in t cs was.0 was.1.0 (each was.0 was.1.0 (and_parts was.0.exists (is_same_component a was.0) was.1.1).0)) was.1.1
