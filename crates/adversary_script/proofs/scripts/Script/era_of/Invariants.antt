use Rattle.std.proofs.Common.{◌≡◌, ◌≤◌, map, take, nat_le}
use Rattle.std.specs.List.{count_by}
use Rattle.adversary_script.specs.Seen.{era_seen}
use Rattle.adversary_script.proofs.scripts.Script.era_of.Given as goal

abbrev pub invariant-loop-era : goal.invariant-loop-era
invariant-loop-era l = record {
  eras : map era_seen l.era-items ≡ l.self.eras;
  begun : l.begun ≡ count_by (λ era. nat_le era.first l.t) (take l.era-index l.era-items);
  few : l.begun ≤ l.era-index;
}
