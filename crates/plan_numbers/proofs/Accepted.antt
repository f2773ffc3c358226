-- What the levels of an accepted plan meet, and how large their numbers are.
use Rattle.std.proofs.Common.{◌≡◌, ℕ, ◌+◌, ◌-◌, ◌*◌, ◌/◌, ◌%◌, ◌<◌, ◌≤◌, ◌^◌, List, [], ◌∷◌, None}
use Rattle.std.proofs.Common.{sym, ap, ◌∙◌, arith, inl, inr, length, All}
use Rattle.std.proofs.lemmas.Bool.{cases_lt}
use Rattle.std.proofs.lemmas.Nat.{mul-le, div-mul-add}
use Rattle.std.proofs.lemmas.List.Elements.{All-push}
use Rattle.std.proofs.Math.Nat.{mod-eq_of_lt, mul-le-mul_right, pow-succ'}
use Rattle.construction.specs.Plans.{Level, leaders_of, beat_of, span_of, nodes_of}
use Rattle.plan_numbers.specs.declared.numbers.Below.{Below}
use Rattle.plan_numbers.specs.Numbers.{below_of, numbers_over, numbers_of}
use Rattle.plan_numbers.specs.Premises.{first_premise, LevelsAccepted, MeetsPremises}
use Rattle.plan_numbers.specs.Sizes.{IsSized, IsSizedLevel}
use Rattle.plan_numbers.proofs.Spans.{turns_some, depth_most}
use Rattle.plan_numbers.proofs.WidthLaws.{width_most}

-- a level that fails no premise meets all of them
pub meets : (below : Below) (level : Level) → first_premise below level ≡ None
    → MeetsPremises below level
meets below level none = record {
  most_blocks = grind arith;
  most_faults = grind arith;
  most_modulus = grind arith;
  most_nodes = grind arith;
  blocks = grind arith;
  modulus = grind arith;
  quorum = grind arith;
  share = grind arith;
  multiple = grind arith;
}

-- and a level that meets all of them fails none
pub meets_none : (below : Below) (level : Level) → MeetsPremises below level
    → first_premise below level ≡ None
meets_none below level met = grind arith

-- a divisor of a number that is not zero is at most that number
pub divisor_most : (big s : ℕ) → 0 < big → big % s ≡ 0 → s ≤ big
divisor_most big s some whole = elim (cases_lt big s) [
  | inl lt ↦ let same = mod-eq_of_lt lt in absurd (omega (arith, same, whole))
  | inr le ↦ le
]

-- a span is not zero
span_some : (below : Below) (level : Level) → MeetsPremises below level → 1 ≤ span_of level
span_some below level met =
    mul-le 1 1 (beat_of level) ((2 * leaders_of level) ^ level.blocks) (omega arith)
    (turns_some level.blocks met.blocks)

-- the blocks and the spares of a group
pub block_is : (k n s : ℕ) → 0 < k → (k * n + s - s) / k ≡ n
block_is k n s some = let e : k * n + s - s ≡ n * k + 0 =
    omega arith in ap (λ x. x / k) e ∙ div-mul-add n k 0 some

-- the numbers of a level that meets its premises over numbers that keep the limits keep them too
pub level_sized : (below : Below) (level : Level) → IsSized below → MeetsPremises below level
    → IsSizedLevel (numbers_over below level)
level_sized below level sized met =
    let few = width_most (level.modulus + 1) 41 (omega arith) (omega (arith, met.most_modulus)) in
    let three : 3 * below.nodes ≤ level.blocks * below.nodes =
    mul-le-mul_right below.nodes met.blocks in
    let block = block_is level.blocks below.nodes level.spares (omega (arith, met.blocks)) in
    let span : span_of level ≤ 2 ^ 40 =
    omega (
      arith,
      divisor_most below.modulus (span_of level) (omega (arith, sized.least_modulus))
          met.multiple,
      sized.most_modulus,
    ) in
    record {
      below = record {
        some = omega (arith, sized.some);
        most = met.most_nodes;
        quorum = met.quorum;
        least_modulus = met.modulus;
        most_modulus = met.most_modulus;
        bound = omega (arith, sized.bound, sized.some, span, three);
        bits = omega (arith, sized.bits, sized.some, few, three);
      };
      whole = ap (λ n. level.blocks * n + level.spares) (sym block);
      block = omega (arith, block, sized.some);
      blocks = met.blocks;
      most_blocks = met.most_blocks;
      leaders = omega (arith, met.blocks);
      most_leaders = omega (arith, met.most_blocks);
      most_faults = met.most_faults;
      beat = omega arith;
      most_beat = omega (arith, met.most_faults);
      span = span_some below level met;
      most_span = span;
    }

-- what stands below a level over accepted ones keeps the limits
pub accepted_sized : (base : ℕ) (levels : List Level) → LevelsAccepted base levels
    → IsSized (below_of base levels)
accepted_sized base [] accepted =
    let least : 2 ≤ base = grind arith in
    let most : base ≤ 2 ^ 40 = grind arith in
    let few = width_most base 40 (omega arith) most in
    record {
      some = omega arith;
      most = omega arith;
      quorum = omega arith;
      least_modulus = least;
      most_modulus = most;
      bound = omega arith;
      bits = omega (arith, few);
    }
accepted_sized base (level ∷ below) (accepted, none) =
    (level_sized (below_of base below) level (accepted_sized base below accepted)
    (meets (below_of base below) level none)).below

-- so many accepted levels have at least that power of three nodes
accepted_nodes : (base : ℕ) (levels : List Level) → LevelsAccepted base levels
    → 3 ^ length levels ≤ nodes_of levels
accepted_nodes base [] accepted = omega arith
accepted_nodes base (level ∷ below) (accepted, none) =
    let met = meets (below_of base below) level none in
    let three : 3 * nodes_of below ≤ level.blocks * nodes_of below =
    mul-le-mul_right (nodes_of below) met.blocks in
    rw (pow-succ' 3 (length below)) (omega (arith, accepted_nodes base below accepted, three))

-- an accepted plan has at most five levels
pub accepted_depth : (base : ℕ) (levels : List Level) → LevelsAccepted base levels
    → length levels ≤ 5
accepted_depth base levels accepted =
    depth_most (length levels) (nodes_of levels) (accepted_nodes base levels accepted)
    (accepted_sized base levels accepted).most

-- the numbers of the levels of an accepted plan keep the limits
pub numbers_sized : (base : ℕ) (levels : List Level) → LevelsAccepted base levels
    → All IsSizedLevel (numbers_of base levels)
numbers_sized base [] accepted = λ k d lt. absurd (omega arith)
numbers_sized base (level ∷ below) (accepted, none) =
    All-push IsSizedLevel (numbers_of base below) (numbers_over (below_of base below) level)
    (numbers_sized base below accepted)
    (level_sized (below_of base below) level (accepted_sized base below accepted)
    (meets (below_of base below) level none))
