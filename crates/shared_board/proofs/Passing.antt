-- The correct nodes of longer stretches, and the liars among them.
use Rattle.std.proofs.Common.{◌≡◌, ℕ, zero, suc, ◌+◌, ◌-◌, ◌*◌, ◌<◌, ◌≤◌, Bool, true, false, cond}
use Rattle.std.proofs.Common.{List, [], ◌∷◌, ◌++◌, map, length, sym, ap, ◌∙◌, arith}
use Rattle.std.specs.List.{filter, range_with_len}
use Rattle.std.proofs.lemmas.Nat.{mul-le}
use Rattle.std.proofs.lemmas.List.{length-append, length-map, map-append}
use Rattle.std.proofs.lemmas.List.Elements.{filter-append}
use Rattle.std.proofs.lemmas.List.FromFn.{length-range_with_len}

-- a range of two stretches
pub range_two : (first count more : ℕ)
    → range_with_len first (count + more)
    ≡ range_with_len first count ++ range_with_len (first + count) more
range_two first zero more = let e : first ≡ first + 0 = omega arith in let n : 0 + more ≡ more =
    omega arith in ap (range_with_len first) n ∙ ap (λ a. range_with_len a more) e
range_two first (suc count) more =
    let e : first + 1 + count ≡ first + suc count = omega arith in
    let n : suc count + more ≡ suc (count + more) = omega arith in
    ap (range_with_len first) n
    ∙ ap (λ ys. first ∷ ys)
    (range_two (first + 1) count more
    ∙ ap (λ a. range_with_len (first + 1) count ++ range_with_len a more) e)

module _ (q : ℕ → Bool) where
  -- the places that pass, of a stretch
  abbrev pub passing : (first count : ℕ) → List ℕ
  passing first count = filter q (range_with_len first count)

  -- two stretches, one after the other
  pub passing_two : (first count more : ℕ)
      → passing first (count + more) ≡ passing first count ++ passing (first + count) more
  passing_two first count more = ap (filter q) (range_two first count more)
      ∙ filter-append q (range_with_len first count) (range_with_len (first + count) more)

  few : (xs : List ℕ) → length (filter q xs) ≤ length xs
  few [] = omega arith
  few (x ∷ xs) = first (q x) (few xs)
    where
      first : (b : Bool) → length (filter q xs) ≤ length xs
          → length (cond b (x ∷ filter q xs) (filter q xs)) ≤ length (x ∷ xs)
      first true h = omega (arith, h)
      first false h = omega (arith, h)

  -- no more pass than there are
  pub passing_most : (first count : ℕ) → length (passing first count) ≤ count
  passing_most first count =
      omega (arith, few (range_with_len first count), length-range_with_len first count)

  -- those up to the next place
  pub passing_more : (first u : ℕ) → first ≤ u
      → passing first (u + 1 - first) ≡ passing first (u - first) ++ passing u 1
  passing_more first u le =
      let n : u + 1 - first ≡ u - first + 1 = omega arith in
      let at : first + (u - first) ≡ u = omega arith in
      ap (passing first) n ∙
      (passing_two first (u - first) 1 ∙ ap (λ a. passing first (u - first) ++ passing a 1) at)

  -- one place, if it passes, and if it does not
  pub passing_one : (u : ℕ) → q u ≡ true → passing u 1 ≡ u ∷ []
  passing_one u e = ap (λ b. cond b (u ∷ []) []) e

  pub passing_none : (u : ℕ) → q u ≡ false → passing u 1 ≡ []
  passing_none u e = ap (λ b. cond b (u ∷ []) []) e

  -- and what they have
  pub mapped_more : {X : Type 0} → (f : ℕ → X) (first u : ℕ) → first ≤ u
      → map f (passing first (u - first)) ++ map f (passing u 1)
      ≡ map f (passing first (u + 1 - first))
  mapped_more f first u le =
      sym (ap (map f) (passing_more first u le)
      ∙ map-append f (passing first (u - first)) (passing u 1))

  pub length_more : (first u : ℕ) → first ≤ u
      → length (passing first (u - first)) + length (passing u 1)
      ≡ length (passing first (u + 1 - first))
  length_more first u le =
      sym (ap length (passing_more first u le)
      ∙ length-append (passing first (u - first)) (passing u 1))

  -- one more place is read, if it passes
  pub read_more : {X : Type 0} (f : ℕ → X) (first u : ℕ) (values new : List X) → first ≤ u
      → values ≡ map f (passing first (u - first)) → new ≡ values ++ map f (passing u 1)
      → new ≡ map f (passing first (u + 1 - first))
  read_more f first u values new le so_far one =
      one ∙ ap (λ xs. xs ++ map f (passing u 1)) so_far ∙ mapped_more f first u le

  -- and there is room for what is read of all places
  pub read_fits : {X : Type 0} (f : ℕ → X) (first u count room : ℕ) (values : List X) → first ≤ u
      → u < first + count → count ≤ room → values ≡ map f (passing first (u - first))
      → length values < room
  read_fits f first u count room values le lt enough so_far =
      omega (
        arith,
        ap length so_far,
        length-map (passing first (u - first)) f,
        passing_most first (u - first),
      )

  -- the blocks so far and the next one
  pub blocks_more : (first i n : ℕ)
      → length (passing first (i * n)) + length (passing (first + i * n) n)
      ≡ length (passing first ((i + 1) * n))
  blocks_more first i n =
      let e : (i + 1) * n ≡ i * n + n = omega arith in
      sym (ap (λ k. length (passing first k)) e
      ∙ (ap length (passing_two first (i * n) n)
      ∙ length-append (passing first (i * n)) (passing (first + i * n) n)))

  -- a prefix of a stretch has no more
  pub passing_front : (first count more : ℕ) → count ≤ more
      → length (passing first count) ≤ length (passing first more)
  passing_front first count more le =
      let e : more ≡ count + (more - count) = omega arith in
      let two = ap (λ k. length (passing first k)) e
      ∙ (ap length (passing_two first count (more - count))
      ∙ length-append (passing first count) (passing (first + count) (more - count))) in
      omega (arith, two)

  -- a block of so many has no more than all of them
  pub block_front : (first i k n : ℕ) → i < k
      → length (passing (first + i * n) n) ≤ length (passing first (k * n))
  block_front first i k n lt =
      let fits : (i + 1) * n ≤ k * n = mul-le (i + 1) n k n (omega arith) (omega arith) in
      omega (arith, blocks_more first i n, passing_front first ((i + 1) * n) (k * n) fits)
