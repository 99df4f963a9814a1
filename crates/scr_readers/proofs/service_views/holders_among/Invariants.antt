use Rattle.std.proofs.Common.{◌≡◌, take}
use Rattle.std.specs.Prelude.{flat_map}
use Rattle.scr_readers.specs.ServiceViews.{holders_in}
use Rattle.scr_readers.proofs.service_views.holders_among.Given as goal

abbrev pub invariant-loop-instance : goal.invariant-loop-instance
invariant-loop-instance l = l.holders.items ≡ flat_map (holders_in l.world l.service) (take l.instance-index l.instances)
