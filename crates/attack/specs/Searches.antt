-- A search: attacks are tried one after the other, and the one that locks latest is kept.
use Rattle.std.specs.Prelude.{ℕ, zero, suc, Option, Some, None, Bool, true, false}
use Rattle.std.specs.Prelude.{nat_lt, if◌then◌else◌}
use Rattle.std.specs.Option.{option_map}
use Rattle.state_codec.specs.Shapes.{Shape}
use Rattle.machines.specs.Machines.{Machine}
use Rattle.attack.specs.Attacks.{Attack}
use Rattle.attack.specs.AttackTexts.{attack_text}
use Rattle.attack.specs.Tried.{tried_of}
use Rattle.attack.specs.declared.trying.Tried.{Tried}
use Rattle.attack.specs.declared.trying.Tried.TheVariants as tried
use Rattle.attack.specs.declared.searching.Best.{Best}

-- whether a first locked configuration is later than another; none is later than each
abbrev pub is_later : (lock than : Option ℕ) → Bool
is_later lock None = false
is_later None (Some than) = true
is_later (Some lock) (Some than) = nat_lt than lock

-- the later one, and of two that lock at the same time the one that was tried last
abbrev pub later_one : Option Best → Attack → (lock : Option ℕ) → Best
later_one None attack lock = record { attack = attack; lock = lock }
later_one (Some best) attack lock =
    if is_later best.lock lock then best else record { attack = attack; lock = lock }

-- the best one after another one was tried
abbrev pub better : Option Best → Attack → Tried → Option Best
better best attack tried.Refused = best
better best attack (tried.Played lock) = Some (later_one best attack lock)

module _ (machine : Machine) (shape : Shape) (first_line : ℕ) where
  -- what becomes of an attack
  abbrev pub outcome : Attack → Tried
  outcome attack = tried_of machine shape first_line (attack_text machine attack)

  module _ (made : (index : ℕ) → (best : Option Attack) → Attack) where
    -- the attack that is tried after the best one so far
    abbrev pub tried_next : (index : ℕ) → Option Best → Attack
    tried_next index best = made index (option_map (λ b. b.attack) best)

    -- the best one after the try of that index
    abbrev pub behind_try : (index : ℕ) → Option Best → Option Best
    behind_try index best =
        let attack = tried_next index best in better best attack (outcome attack)

    -- the best of so many
    abbrev pub searched : (runs : ℕ) → Option Best
    searched zero = None
    searched (suc runs) = behind_try runs (searched runs)

    -- the attack that is tried with that index
    abbrev pub attack_at : (index : ℕ) → Attack
    attack_at index = tried_next index (searched index)
