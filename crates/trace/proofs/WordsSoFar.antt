-- What is written of the numbers from one to another, one after the other.
use Rattle.std.proofs.Common.{◌≡◌, ℕ, ◌+◌, ◌-◌, ◌≤◌, List, true, subst, zero-add, arith}
use Rattle.std.specs.List.{flat_map, range_with_len}
use Rattle.texts.specs.Growth.{SinkState}
use Rattle.edge_io.specs.Writing.{Writes}
use Rattle.edge_io.specs.declared.writer.Writer.{Writer}
use Rattle.edge_io.proofs.Writing.{writes_is, writes_next, writes_none, writes_stopped}

module _ {K : Type 0} (told : K → SinkState) (word : ℕ → List ℕ) where
  -- ---- of the numbers from `first` to `last`, of which `word` has the place

  module _ (first last : ℕ) where
    -- those before t
    pub record SoFar (t : ℕ) (old now : Writer K) : Type 0 where
      pub from : first ≤ t
      pub wrote : Writes told (flat_map word (range_with_len 0 (t - first))) old now

    pub so_far_none : (x : Writer K) → SoFar first x x
    so_far_none x = record {
      from = omega arith;
      wrote = let none : 0 ≡ first - first = omega arith in
          subst (λ (k : ℕ). Writes told (flat_map word (range_with_len 0 k)) x x) none writes_none;
    }

    module _ (t : ℕ) (old mid : Writer K) (so_far : SoFar t old mid) where
      pub so_far_more : (one : List ℕ) (now : Writer K) → one ≡ word (t - first)
          → Writes told one mid now → SoFar (t + 1) old now
      so_far_more one now is wrote =
          let from = so_far.from in
          let next : t - first + 1 ≡ t + 1 - first = omega (arith, from) in
          record {
            from = omega (arith, from);
            wrote = subst (λ (k : ℕ). Writes told (flat_map word (range_with_len 0 k)) old now) next
                (writes_next word 0 (t - first) (t - first) so_far.wrote (writes_is is wrote)
                (zero-add (t - first)));
          }

      pub so_far_all : t ≡ last + 1
          → Writes told (flat_map word (range_with_len 0 (last + 1 - first))) old mid
      so_far_all end =
          subst (λ (k : ℕ). Writes told (flat_map word (range_with_len 0 (k - first))) old mid) end
          so_far.wrote

      pub so_far_stop : t ≤ last + 1 → mid.failed ≡ true
          → Writes told (flat_map word (range_with_len 0 (last + 1 - first))) old mid
      so_far_stop le failed =
          writes_stopped word 0 (t - first) (last + 1 - first) so_far.wrote failed
          (omega (arith, le))
