-- What a node's votes come to if all sound blocks point to one leader.
use Rattle.std.proofs.Common.{◌≡◌, ℕ, ◌+◌, ◌*◌, ◌<◌, ◌≤◌, Bool, true, false, not, List, length, map}
use Rattle.std.proofs.Common.{ap, ◌∙◌, arith}
use Rattle.std.specs.List.{range_with_len}
use Rattle.std.proofs.lemmas.List.{length-map, get_or-map}
use Rattle.std.proofs.lemmas.List.FromFn.{length-map-range_with_len, get_or-map-range_with_len}
use Rattle.std.proofs.lemmas.Bool.{leb-true, not-false}
use Rattle.counting.specs.Places.{places}
use Rattle.counting.specs.Values.{majority_or_zero}
use Rattle.counting.proofs.Majority.{majority_or_zero_of_most}
use Rattle.construction.specs.Plans.{Level, group_size, leaders_of, beat_of}
use Rattle.construction.specs.Pointers.{pointer_of, part_of}
use Rattle.construction.specs.Votes.{block, vote, lead, beat_heard}
use Rattle.construction.proofs.Blocks.{block_room, length-block, get_or-block}
use Rattle.plan_laws.specs.Hearing.{HearsOutputs}
use Rattle.plan_laws.specs.Level.{LevelPremises}
use Rattle.plan_laws.proofs.Blocks.{sound, few_unsound}

module _ (level : Level) (n f modulus : ℕ) (faulty : ℕ → Bool)
    (stands : LevelPremises level n f modulus) (inner : 3 * f < n)
    (few : places faulty (group_size level n) ≤ level.faults)
    (outputs : ℕ → ℕ) (heard : List ℕ)
    (hears : HearsOutputs (level.blocks * n) faulty outputs heard) where
  -- the majority of anything that the correct nodes of a sound block have in common
  pub block_majority : (g : ℕ → ℕ) (i z : ℕ) → i < level.blocks → sound n f faulty i ≡ true
      → ((j : ℕ) → j < n → faulty (i * n + j) ≡ false → g (outputs (i * n + j)) ≡ z)
      → majority_or_zero (map g (block n i heard)) ≡ z
  block_majority g i z lt ok same =
      let size : length (block n i heard) ≡ n =
      length-block level.blocks n i heard (omega (arith, hears.size)) lt in
      let size' : length (map g (block n i heard)) ≡ n = length-map (block n i heard) g ∙ size in
      let m = leb-true _ _ ok in
      majority_or_zero_of_most (map g (block n i heard)) (λ j. faulty (i * n + j)) z
      (rw size' (omega arith))
      (λ j jlt e. let jlt' : j < n = omega arith in
      get_or-map g (block n i heard) j 0 0 (omega arith)
      ∙ ap g
      (get_or-block n i j heard 0 jlt'
      ∙ hears.honest (i * n + j) (omega (arith, block_room level.blocks n i lt)) e)
      ∙ same j jlt' e)

  -- all correct nodes of sound blocks point to leader b
  unfoldable pub AllPointTo : ℕ → Type 0
  AllPointTo b =
      (i j : ℕ) → i < level.blocks → sound n f faulty i ≡ true → j < n → faulty (i * n + j) ≡ false
      → pointer_of (beat_of level) (leaders_of level) i (outputs (i * n + j)) ≡ b

  -- then the lead is b
  pub lead_is : (b : ℕ) → AllPointTo b → lead level n heard ≡ b
  unfolding AllPointTo
  lead_is b point =
      let votes = map (vote level n heard) (range_with_len 0 level.blocks) in
      let size : length votes
      ≡ level.blocks = length-map-range_with_len (vote level n heard) 0 level.blocks in
      let three = stands.blocks in
      majority_or_zero_of_most votes (λ i. not (sound n f faulty i)) b
      (rw size (omega (arith, few_unsound level n f modulus faulty stands few)))
      (λ i ilt e. let ilt' : i < level.blocks = omega arith in
      get_or-map-range_with_len (vote level n heard) 0 level.blocks i i 0 ilt' (omega arith)
      ∙ block_majority (pointer_of (beat_of level) (leaders_of level) i) i b ilt'
      (not-false (sound n f faulty i) e)
      (λ j jlt ok. point i j ilt' (not-false (sound n f faulty i) e) jlt ok))

  -- and the beat heard is the part of the beat that the correct nodes of block b have in common
  pub beat_is : (b z : ℕ) → b < level.blocks → sound n f faulty b ≡ true → AllPointTo b
      → ((j : ℕ) → j < n → faulty (b * n + j) ≡ false
      → part_of (beat_of level) (outputs (b * n + j)) ≡ z)
      → beat_heard level n heard ≡ z
  beat_is b z lt ok point part =
      ap (λ i. majority_or_zero (map (part_of (beat_of level)) (block n i heard))) (lead_is b point)
      ∙ block_majority (part_of (beat_of level)) b z lt ok part
