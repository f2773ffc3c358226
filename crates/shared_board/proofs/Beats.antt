-- The lead and the beat heard of a group are those of its blocks, as stretches of nodes.
use Rattle.std.proofs.Common.{◌≡◌, ℕ, zero, suc, ◌+◌, ◌-◌, ◌*◌, ◌/◌, ◌%◌, ◌<◌, ◌≤◌, List, ◌∷◌, map}
use Rattle.std.proofs.Common.{length, take, drop, get_or, refl, sym, ap, ◌∙◌, arith}
use Rattle.std.specs.List.{range_with_len}
use Rattle.std.proofs.Math.Nat.{mod-lt}
use Rattle.std.proofs.lemmas.Nat.{mul-le}
use Rattle.std.proofs.lemmas.List.FromFn.{take-map-range_with_len, get_or-map-range_with_len}
use Rattle.std.proofs.lemmas.List.FromFn.{length-map-range_with_len}
use Rattle.counting.specs.Values.{majority_or_zero}
use Rattle.sync_types.specs.States.{State}
use Rattle.construction.specs.Plans.{Level, beat_of, leaders_of, interval_of}
use Rattle.construction.specs.Pointers.{pointer_of, part_of}
use Rattle.construction.specs.Votes.{block, vote, lead, beat_heard}
use Rattle.shared_board.specs.Senders.{Sent, output_heard, outputs_heard}
use Rattle.shared_board.specs.Votes.{block_vote, block_part, blocks_lead}
use Rattle.shared_board.proofs.Known.{majority_map_below, lead_below}

module _ {X : Type 0} (f : ℕ → X) where
  drop_range : (k a n : ℕ) → k ≤ n
      → drop k (map f (range_with_len a n)) ≡ map f (range_with_len (a + k) (n - k))
  drop_range zero a n le = let e : a ≡ a + 0 = omega arith in let d : n ≡ n - 0 =
      omega arith in ap (λ b. map f (range_with_len b n)) e
      ∙ ap (λ c. map f (range_with_len (a + 0) c)) d
  drop_range (suc k) a zero le = absurd (omega arith)
  drop_range (suc k) a (suc n) le =
      let e : a + 1 + k ≡ a + suc k = omega arith in
      let d : n - k ≡ suc n - suc k = omega arith in
      drop_range k (a + 1) n (omega arith)
      ∙ (ap (λ b. map f (range_with_len b (n - k))) e
      ∙ ap (λ c. map f (range_with_len (a + suc k) c)) d)

  -- block i of n nodes is a stretch
  pub block_of_range : (first n i all : ℕ) → (i + 1) * n ≤ all
      → block n i (map f (range_with_len first all)) ≡ map f (range_with_len (first + i * n) n)
  block_of_range first n i all le =
      ap (take n) (drop_range (i * n) first all (omega (arith, le)))
      ∙ take-map-range_with_len f (first + i * n) (all - i * n) n (omega (arith, le))

-- what is the same at each node of a stretch
pub same_range : {X : Type 0} → (f g : ℕ → X) (n a : ℕ) → ((i : ℕ) → a ≤ i → i < a + n → f i ≡ g i)
    → map f (range_with_len a n) ≡ map g (range_with_len a n)
same_range f g zero a same = refl
same_range f g (suc n) a same =
    ap (λ y. y ∷ map f (range_with_len (a + 1) n)) (same a (omega arith) (omega arith))
    ∙ ap (λ ys. g a ∷ ys) (same_range f g n (a + 1) (λ i le lt. same i (omega arith) (omega arith)))

module _ (s : Sent) (lies : List State) (level : Level) (n beat leaders first : ℕ)
    (intervals : List ℕ) (beats : beat ≡ beat_of level) (leads : leaders ≡ leaders_of level)
    (are : intervals ≡ map (interval_of beat leaders) (range_with_len 0 level.blocks)) where
  outs : List ℕ
  outs = outputs_heard s lies first (level.blocks * n)

  long : length intervals ≡ level.blocks
  long = ap length are ∙ length-map-range_with_len (interval_of beat leaders) 0 level.blocks

  interval_at : (i : ℕ) → i < level.blocks → get_or intervals i 0 ≡ interval_of beat leaders i
  interval_at i lt = ap (λ xs. get_or xs i 0) are
      ∙ get_or-map-range_with_len (interval_of beat leaders) 0 level.blocks i i 0 lt (omega arith)

  block_is : (i : ℕ) → i < level.blocks → block n i outs ≡ outputs_heard s lies (first + i * n) n
  unfolding outs
  block_is i lt = block_of_range (output_heard s lies) first n i (level.blocks * n)
      (mul-le (i + 1) n level.blocks n (omega arith) (omega arith))

  -- the vote of a block
  vote_is : (i : ℕ) → i < level.blocks
      → vote level n outs i ≡ block_vote s lies (get_or intervals i 0) leaders (first + i * n) n
  vote_is i lt =
      let told = outputs_heard s lies (first + i * n) n in
      ap (λ xs. majority_or_zero (map (pointer_of (beat_of level) (leaders_of level) i) xs))
      (block_is i lt)
      ∙ (ap (λ b. majority_or_zero (map (pointer_of b (leaders_of level) i) told)) (sym beats)
      ∙ (ap (λ m. majority_or_zero (map (pointer_of beat m i) told)) (sym leads)
      ∙ ap (λ d. majority_or_zero (map (λ o. o / d % leaders) told)) (sym (interval_at i lt))))

  pub lead_is : lead level n (outputs_heard s lies first (level.blocks * n))
      ≡ blocks_lead s lies intervals leaders first n
  unfolding outs
  lead_is =
      ap majority_or_zero (same_range (vote level n outs)
      (λ i. block_vote s lies (get_or intervals i 0) leaders (first + i * n) n) level.blocks 0
      (λ i le lt. vote_is i (omega (arith, lt))))
      ∙ ap (λ k. majority_or_zero
      (map (λ i. block_vote s lies (get_or intervals i 0) leaders (first + i * n) n)
      (range_with_len 0 k))) (sym long)

  pub beat_is : 0 < leaders → leaders ≤ level.blocks
      → beat_heard level n (outputs_heard s lies first (level.blocks * n))
      ≡ block_part s lies beat (first + blocks_lead s lies intervals leaders first n * n) n
  unfolding outs
  beat_is some few =
      let b = blocks_lead s lies intervals leaders first n in
      let lt = lead_below s intervals leaders first n lies some in
      ap (λ l. majority_or_zero (map (part_of (beat_of level)) (block n l outs))) lead_is
      ∙ (ap (λ xs. majority_or_zero (map (part_of (beat_of level)) xs))
      (block_is b (omega (arith, lt, few)))
      ∙ ap (λ d. majority_or_zero (map (part_of d) (outputs_heard s lies (first + b * n) n)))
      (sym beats))

-- the part of the beat is one
pub part_below : (s : Sent) (lies : List State) (beat first n : ℕ) → 0 < beat
    → block_part s lies beat first n < beat
part_below s lies beat first n some =
    majority_map_below (part_of beat) beat (outputs_heard s lies first n) some (λ o. mod-lt o some)
