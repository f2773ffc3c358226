-- The nodes that words name, one after the other.
use Rattle.std.proofs.Common.{◌≡◌, ℕ, zero, suc, ◌+◌, ◌<◌, ◌≤◌, List, [], ◌∷◌, ◌++◌, true, false}
use Rattle.std.proofs.Common.{All, filter, refl, sym, ap, ◌∙◌, arith}
use Rattle.std.specs.List.{range_with_len}
use Rattle.std.proofs.lemmas.List.{append-nil}
use Rattle.std.proofs.lemmas.List.Elements.{All-cons, All-nil, All-filter, filter-append}
use Rattle.texts.proofs.Ranges.{range_more}
use Rattle.trace.specs.Names.{is_wanted, named_nodes}

ids_below : (a n most : ℕ) → a + n ≤ most → All (λ v. v < most) (range_with_len a n)
ids_below a zero most le = All-nil (λ v. v < most)
ids_below a (suc n) most le =
    All-cons (λ v. v < most) a (range_with_len (a + 1) n) (omega (arith, le))
    (ids_below (a + 1) n most (omega (arith, le)))

module _ (words : List (List ℕ)) (n : ℕ) where
  pub named_below : All (λ v. v < n) (named_nodes words n)
  named_below =
      All-filter (is_wanted words) (λ v. v < n) (range_with_len 0 n) (ids_below 0 n n (omega arith))

  one_more : named_nodes words (n + 1)
      ≡ named_nodes words n ++ filter (is_wanted words) (n ∷ [])
  one_more = ap (filter (is_wanted words)) (range_more 0 n n (omega arith))
      ∙ filter-append (is_wanted words) (range_with_len 0 n) (n ∷ [])

  pub wanted_more : is_wanted words n ≡ true
      → named_nodes words n ++ n ∷ [] ≡ named_nodes words (n + 1)
  wanted_more is = sym (one_more ∙ rw is refl)

  pub unwanted_more : is_wanted words n ≡ false → named_nodes words n ≡ named_nodes words (n + 1)
  unwanted_more is = sym (one_more ∙ rw is (append-nil (named_nodes words n)))
