-- What becomes of the best attack of a search before it is written: lies that it does not need are
-- taken out, and the configurations up to its lock are shown.
use Rattle.std.specs.Prelude.{ℕ, zero, suc, ◌+◌, ◌-◌, min, if◌then◌else◌, length, unwrap_or}
use Rattle.std.specs.List.{remove}
use Rattle.state_codec.specs.Shapes.{Shape}
use Rattle.machines.specs.Machines.{Machine}
use Rattle.attack.specs.Attacks.{Attack}
use Rattle.attack.specs.Searches.{is_later, outcome}
use Rattle.attack.specs.declared.trying.Tried.{Tried}
use Rattle.attack.specs.declared.trying.Tried.TheVariants as tried
use Rattle.attack.specs.declared.searching.Best.{Best}

-- an attack, or in its place another one that was tried, unless that locks sooner or was refused
abbrev pub kept : Best → Attack → Tried → Best
kept best attack tried.Refused = best
kept best attack (tried.Played lock) =
    if is_later best.lock lock then best else record { attack = attack; lock = lock }

-- an attack without the lie at a place
abbrev pub without_lie : (place : ℕ) → Attack → Attack
without_lie place attack = record attack { lies = remove attack.lies place }

-- an attack that shows the configurations to its lock and three more: the last 1000 before the
-- lock, if that comes so late, or before the end, if there is none
abbrev pub showing : Best → Attack
showing best =
    let attack = best.attack in
    let lock = unwrap_or best.lock attack.rounds in
    record attack { first = lock - 1000; last = min (lock + 3) attack.rounds }

module _ (machine : Machine) (shape : Shape) (first_line : ℕ) where
  -- after another attack was tried
  abbrev pub kept_by : Best → Attack → Best
  kept_by best attack = kept best attack (outcome machine shape first_line attack)

  -- after it was tried to take out so many lies, one after the other, the last of `count` first
  abbrev pub leaner : (count : ℕ) → Best → (tries : ℕ) → Best
  leaner count best zero = best
  leaner count best (suc tries) =
      let now = leaner count best tries in
      kept_by now (without_lie (count - 1 - tries) now.attack)

  -- after each of its lies was tried
  abbrev pub lean : Best → Best
  lean best =
      leaner (length best.attack.lies) best (length best.attack.lies)

  -- Each lie is tried twice, since one that was needed may be so no more without those before it.
  abbrev pub finished : Best → Best
  finished best = let last = lean (lean best) in kept_by last (showing last)
