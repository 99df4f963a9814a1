-- What becomes of tokens and parts at turns. Our own; callbacks are OSGi Compendium 8, chapter 112, component life
-- cycle.
use Rattle.std.specs.Prelude.{◌≡◌, ℕ, ◌==◌, ◌&&◌, List, [], ◌∷◌, ◌++◌, Bool, not, filter, map, if◌then◌else◌}
use Rattle.std.specs.Prelude.{Option, Some, None, Result, Ok, Err}
use Rattle.std.specs.Arc.{arc_value}
use Rattle.std.specs.List.{list_any}
use Rattle.callback_orders.specs.Grammar.{is_destroy}
use Rattle.hall_locked.specs.declared.part.Part.{Part}
use Rattle.platform_hall.specs.Platforms.{running}
use Rattle.scr_core.specs.Cores.{CoreView}
use Rattle.scr_world.specs.declared.reply.CoreFault.{CoreFault}
use Rattle.turn_work.specs.declared.site.Site.{Site}
use Rattle.turn_work.specs.declared.work.TurnWork.{TurnWork}

-- ---- tokens

-- the turns under way, with the one that has begun, if one has
abbrev pub with_begun : ℕ → Result (Option ℕ) CoreFault → List (ℕ × ℕ) → List (ℕ × ℕ)
with_begun owner (Ok (Some turn)) turns = turns ++ (owner, turn) ∷ []
with_begun owner (Ok None) turns = turns
with_begun owner (Err fault) turns = turns

-- this owner began this turn
abbrev pub has_begun : ℕ → ℕ → List (ℕ × ℕ) → Bool
has_begun owner turn turns = list_any (λ (t : ℕ × ℕ). (t.0 == owner) && (t.1 == turn)) turns

module _ {O : Type 0} where
  -- ---- parts where a turn begins

  -- the parts once an instance was told this of itself
  abbrev pub parts_told : ℕ → Site → List (Part O) → List (Part O)
  parts_told instance site parts =
      map {A = Part O} {B = Part O} (λ p. if p.instance == instance then record p { site = site } else p) parts

  -- by the work of a turn
  abbrev pub parts_by : Option TurnWork → List (Part O) → List (Part O)
  parts_by None parts = parts
  parts_by (Some work) parts = parts_told work.instance work.site parts

  -- the parts once a turn began, if one did, in this core
  abbrev pub parts_begun : CoreView → Result (Option ℕ) CoreFault → List (Part O) → List (Part O)
  parts_begun after (Ok (Some turn)) parts = parts_by (running after turn) parts
  parts_begun after (Ok None) parts = parts
  parts_begun after (Err fault) parts = parts

  -- ---- parts where a turn ends

  -- the parts without those of an instance
  abbrev pub parts_but : ℕ → List (Part O) → List (Part O)
  parts_but instance parts = filter (λ p. not (p.instance == instance)) parts

  -- a part of the instance that a turn made, with what it was told of itself, and this object
  pub record IsMadePart {A : Type 0} (shared : A → O) (work : TurnWork) (made : A) (part : Part O) : Type 0 where
    pub instance : part.instance ≡ work.instance
    pub site : part.site ≡ work.site
    pub object : arc_value part.object ≡ shared made

  -- the parts with that of the instance that a turn made, if it made one
  abbrev pub ArePartsWith : {A : Type 0} → (A → O) → TurnWork → Option A → List (Part O) → List (Part O) → Type 0
  ArePartsWith shared work None before after = after ≡ before
  ArePartsWith shared work (Some made) before after = (part : Part O) × IsMadePart shared work made part × (after ≡ before ++ part ∷ [])

  -- the parts once a turn with this work has ended, which made this object or none: those of an instance that was
  -- destroyed are gone
  abbrev pub ArePartsLeft : {A : Type 0} → (A → O) → Option TurnWork → Option A → List (Part O) → List (Part O) → Type 0
  ArePartsLeft shared None made before after = ⊥
  ArePartsLeft shared (Some work) made before after =
      (all : List (Part O)) × ArePartsWith shared work made before all × (after ≡ (if is_destroy work.callback then parts_but work.instance all else all))
