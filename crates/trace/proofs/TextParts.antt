-- A part of a text is one of each longer text.
use Rattle.std.proofs.Common.{◌≡◌, ℕ, zero, suc, ◌+◌, ◌-◌, ◌<◌, ◌≤◌, List, [], ◌∷◌, ◌++◌, length}
use Rattle.std.proofs.Common.{get_or, sym, ap, ◌∙◌, subst, append_assoc, zero-add, arith}
use Rattle.std.specs.List.{flat_map, range_with_len}
use Rattle.std.proofs.lemmas.List.FromFn.{get_or-range_with_len, length-range_with_len}
use Rattle.trace.specs.Laws.{HasPart}

module _ (part : List ℕ) where
  pub part_left : (one other : List ℕ) → HasPart part one → HasPart part (one ++ other)
  part_left one other h = record {
    before = h.before;
    after = h.after ++ other;
    is = ap (λ (x : List ℕ). x ++ other) h.is
        ∙ (append_assoc h.before (part ++ h.after) other
        ∙ ap (λ (x : List ℕ). h.before ++ x) (append_assoc part h.after other));
  }

  pub part_right : (one other : List ℕ) → HasPart part other → HasPart part (one ++ other)
  part_right one other h = record {
    before = one ++ h.before;
    after = h.after;
    is = ap (λ (x : List ℕ). one ++ x) h.is
        ∙ sym (append_assoc one h.before (part ++ h.after));
  }

  -- one of the text of an element is one of the text of all
  pub part_of : (text : ℕ → List ℕ) (xs : List ℕ) (x k d : ℕ) → k < length xs → get_or xs k d ≡ x
      → HasPart part (text x) → HasPart part (flat_map text xs)
  part_of text [] x k d lt at h = absurd (omega (arith, lt))
  part_of text (y ∷ xs) x zero d lt at h =
      part_left (text y) (flat_map text xs)
      (subst (λ (z : ℕ). HasPart part (text z)) (sym at) h)
  part_of text (y ∷ xs) x (suc k) d lt at h =
      part_right (text y) (flat_map text xs) (part_of text xs x k d (omega (arith, lt)) at h)

  -- and of the texts of the numbers from one to another
  pub part_between : (text : ℕ → List ℕ) (first last t : ℕ) → first ≤ t → t ≤ last
      → HasPart part (text t)
      → HasPart part (flat_map (λ i. text (first + i)) (range_with_len 0 (last + 1 - first)))
  part_between text first last t from to h =
      let many : ℕ = last + 1 - first in
      let k : ℕ = t - first in
      let inside : k < many = omega (arith, from, to) in
      let at : first + k ≡ t = omega (arith, from) in
      part_of (λ i. text (first + i)) (range_with_len 0 many) k k 0
      (omega (arith, inside, length-range_with_len 0 many))
      (get_or-range_with_len 0 many k 0 inside ∙ zero-add k)
      (subst (λ (n : ℕ). HasPart part (text n)) (sym at) h)
