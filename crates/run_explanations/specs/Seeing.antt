-- What a single configuration shows: the leader to which all correct nodes of sound blocks point,
-- and the part of the beat at which the correct nodes of that leader's block are.
use Rattle.std.specs.Prelude.{◌≡◌, ℕ, zero, suc, ◌+◌, ◌*◌, ◌<◌, ◌≤◌, Bool, false, not, ◌==◌, nat_le}
use Rattle.std.specs.Prelude.{Option, Some, None, if◌then◌else◌}
use Rattle.construction.specs.Pointers.{pointer_of, part_of}
use Rattle.plan_laws.specs.Level.{faults_in}
use Rattle.run_explanations.specs.declared.seeing.Shared.{Shared}
use Rattle.run_explanations.specs.declared.seeing.Shared.TheVariants.{Nothing, One, Several}
use Rattle.run_explanations.specs.declared.seeing.Observation.{Observation}
use Rattle.run_explanations.specs.declared.tops.Top.{Top}

-- what numbers have in common, with one more number
abbrev pub joined : Shared → ℕ → Shared
joined Nothing number = One number
joined (One known) number = if known == number then One known else Several
joined Several number = Several

-- with the numbers of those places below n that count
abbrev pub shared_by : Shared → (counts : ℕ → Bool) (number : ℕ → ℕ) (n : ℕ) → Shared
shared_by begun counts number zero = begun
shared_by begun counts number (suc n) =
    if counts n then joined (shared_by begun counts number n) (number n)
    else shared_by begun counts number n

module _ (top : Top) (faulty : ℕ → Bool) where
  abbrev pub is_sound : (i : ℕ) → Bool
  is_sound i = nat_le (faults_in top.nodes faulty i) top.faults

  abbrev pub is_correct : (i j : ℕ) → Bool
  is_correct i j = not (faulty (i * top.nodes + j))

module _ (top : Top) (outputs : ℕ → ℕ) where
  abbrev pub pointer_at : (i j : ℕ) → ℕ
  pointer_at i j = pointer_of top.beat top.leaders i (outputs (i * top.nodes + j))

  abbrev pub part_at : (i j : ℕ) → ℕ
  part_at i j = part_of top.beat (outputs (i * top.nodes + j))

-- of the faulty nodes, and what each node of the blocks shows in them
module _ (top : Top) (faulty : ℕ → Bool) (outputs : ℕ → ℕ) where
  -- what the pointers of the correct nodes of the sound ones of so many blocks have in common
  abbrev pub pointed : (blocks : ℕ) → Shared
  pointed zero = Nothing
  pointed (suc i) =
      if is_sound top faulty i
      then shared_by (pointed i) (is_correct top faulty i) (pointer_at top outputs i) top.nodes
      else pointed i

  -- what the parts of the correct nodes of block b have in common
  abbrev pub parted : (b : ℕ) → Shared
  parted b = shared_by Nothing (is_correct top faulty b) (part_at top outputs b) top.nodes

  -- the leader and the part, if the parts are one
  abbrev pub seen_parts : (b : ℕ) → Shared → Option Observation
  seen_parts b (One part) = Some (record { leader = b; part = part })
  seen_parts b Nothing = None
  seen_parts b Several = None

  -- the same, if the pointers are one and the leader's block is sound
  abbrev pub seen_leader : Shared → Option Observation
  seen_leader (One b) = if is_sound top faulty b then seen_parts b (parted b) else None
  seen_leader Nothing = None
  seen_leader Several = None

  abbrev pub seen_in : Option Observation
  seen_in = seen_leader (pointed top.blocks)

  -- that this leader and this part are seen
  pub record Sees (b part : ℕ) : Type 0 where
    pub leader : b < top.leaders
    pub sound : faults_in top.nodes faulty b ≤ top.faults
    pub points : (i j : ℕ) → i < top.blocks → faults_in top.nodes faulty i ≤ top.faults
        → j < top.nodes → faulty (i * top.nodes + j) ≡ false → pointer_at top outputs i j ≡ b
    pub parts : (j : ℕ) → j < top.nodes → faulty (b * top.nodes + j) ≡ false
        → part_at top outputs b j ≡ part
