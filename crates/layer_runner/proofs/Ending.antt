-- A slot that ends in a configuration counts, and began so long before.
use Rattle.std.proofs.Common.{◌≡◌, ℕ, ◌+◌, ◌-◌, ◌%◌, ◌≤◌, Bool, true, ◌&&◌, List, arith}
use Rattle.std.specs.Prelude.{nat_le, ◌==◌}
use Rattle.std.proofs.lemmas.Bool.{and_parts, leb-true}
use Rattle.sync_types.specs.States.{State}
use Rattle.counter_core.specs.Meanings.{Meaning}
use Rattle.adversary_script.specs.Scripts.{Script}
use Rattle.layer_runner.specs.SlotTexts.{counts_at, lead_output, may_end_at, ends_at}

module _ (counter : Meaning) (script : Script) (q c : ℕ) (config : List State)
    (is : ends_at counter script q c config ≡ true) where
  abbrev shown : Bool
  shown = nat_le (script.first + q) c && nat_le c (script.last + q)

  abbrev counts : Bool
  counts = counts_at counter.bound script q (c - q)

  may : may_end_at counter.bound script q c ≡ true
  may = (and_parts (may_end_at counter.bound script q c)
      (lead_output counter script c config % q == 0) is).0

  pub counting : counts_at counter.bound script q (c - q) ≡ true
  counting = (and_parts shown counts may).1

  pub long_before : q ≤ c
  long_before =
      let first = (and_parts (nat_le (script.first + q) c) (nat_le c (script.last + q))
      (and_parts shown counts may).0).0 in
      let low = leb-true (script.first + q) c first in
      omega (arith, low)
