-- What the laws of calm worlds rest on.
use Rattle.std.specs.Prelude.{ℕ, ◌≡◌, ◌<◌, Some, true}
use Rattle.std.specs.List.{Contains}
use Rattle.callback_orders.specs.declared.instance_view.Key.{Key}
use Rattle.callback_orders.specs.declared.due.DueRef.TheVariants.{Create as CreateDue}
use Rattle.component_state.specs.Periods.{is_open}
use Rattle.scr_world.specs.Dues.{due_in}
use Rattle.component_state.specs.declared.component.Component.{Component}
use Rattle.scr_world.specs.declared.world.World.{World}

-- each change of properties lies behind
abbrev pub AreBehind : World → Type 0
AreBehind w = (c : Component) → Contains w.components c → (place : ℕ) → c.changed ≡ Some place → place < w.entries

-- a Create is due for an open period alone
abbrev pub OpensFirst : World → Type 0
OpensFirst w = (key : Key) → due_in w ≡ Some (CreateDue key) → is_open w.open_periods key.configuration ≡ true
