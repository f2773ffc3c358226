-- What the candidates of a search are: the first ones are drawn by kind, and each further one is
-- the best so far with a small change.
use Rattle.std.specs.Prelude.{ℕ, ◌/◌, ◌%◌, ◌==◌, nat_lt, min, if◌then◌else◌, List, length, Option}
use Rattle.std.specs.Prelude.{Some, None, slice_index_or}
use Rattle.machines.specs.Machines.{Machine}
use Rattle.attack.specs.declared.kinds.Kind.{Kind}
use Rattle.attack.specs.declared.kinds.Kind.TheVariants as kind
use Rattle.attack.specs.Draws.{drawn}
use Rattle.attack.specs.Attacks.{Attack}
use Rattle.attack.specs.Kinds.{or_all, fresh}
use Rattle.attack.specs.Changes.{changed}
use Rattle.adversary_script.specs.Scripts.{most_rounds}

-- A maker that draws: for so many nodes, faults and rounds, from a seed. So many candidates are
-- drawn afresh, of these kinds in turn.
pub record Drawing : Type 0 where
  pub nodes : ℕ
  pub faults : ℕ
  pub rounds : ℕ
  pub seed : ℕ
  pub fresh : ℕ
  pub kinds : List Kind

-- that of a machine, for so many candidates, of which the first sixteenth, at most 1000, is drawn
-- afresh, of these kinds, or of all if there are none; each plays the rounds up to the bound, at
-- most 1000000
abbrev pub drawing_for : Machine → (seed runs : ℕ) → List Kind → Drawing
drawing_for machine seed runs kinds = record {
  nodes = machine.nodes;
  faults = machine.faults;
  rounds = min machine.bound most_rounds;
  seed = seed;
  fresh = min (runs / 16) 1000;
  kinds = or_all kinds;
}

-- which of so many has its turn
abbrev pub turn : (index count : ℕ) → ℕ
turn index count = if count == 0 then 0 else index % count

-- the kind whose turn it is
abbrev pub kind_at : List Kind → (index : ℕ) → Kind
kind_at kinds index = slice_index_or kinds (turn index (length kinds)) kind.Noise

-- candidate `index`, drawn afresh
abbrev pub afresh : Drawing → (index : ℕ) → Attack
afresh d index = fresh (kind_at d.kinds index) (drawn d.seed index) d.nodes d.faults d.rounds

-- candidate `index`, if that is the best one so far
abbrev pub made_by : Drawing → (index : ℕ) → Option Attack → Attack
made_by d index None = afresh d index
made_by d index (Some best) =
    if nat_lt index d.fresh then afresh d index
    else changed (drawn d.seed index) d.nodes d.rounds best
