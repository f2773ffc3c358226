-- What an entry of the map of groups stands for.
use Rattle.std.specs.Prelude.{ℕ, Vec}
use Rattle.std.specs.Global.{Global}
use Rattle.sync_types.specs.FaultSets.{FaultIds}
use Rattle.receiver_groups.specs.Groups.{Group}

abbrev pub group_seen : Vec ℕ Global × FaultIds → Group
group_seen entry = record { name = entry.0.items; ids = entry.1.ids }
