-- A faulty id is that of a node.
use Rattle.std.proofs.Common.{◌≡◌, ℕ, zero, suc, ◌<◌, List, [], ◌∷◌, length, get_or, true, ◌==◌}
use Rattle.std.proofs.Common.{sym, inl, inr, arith}
use Rattle.std.proofs.lemmas.Bool.{or_cases, eqb-true, true≢false}
use Rattle.std.specs.Prelude.{All}
use Rattle.sync_types.specs.FaultSets.{is_in}

pub id_below : (n v : ℕ) (ids : List ℕ) → ((k d : ℕ) → k < length ids → get_or ids k d < n)
    → is_in ids v ≡ true → v < n
id_below n v [] all none = absurd (true≢false (sym none))
id_below n v (id ∷ ids) all some = elim (or_cases (v == id) (is_in ids v) some) [
  | inl same ↦ let here : v ≡ id =
      eqb-true v id same in let first : id < n = all zero 0 (omega arith) in omega arith
  | inr more ↦ id_below n v ids (λ k d lt. all (suc k) d (omega arith)) more
]

-- and one in a set of some list is that of a node, if all of those are
pub member_below : (n u : ℕ) (sets : List (List ℕ)) (j : ℕ) → All (All (λ id. id < n)) sets
    → is_in (get_or sets j []) u ≡ true → u < n
member_below n u [] j all some = absurd (true≢false (sym some))
member_below n u (ids ∷ sets) zero all some = id_below n u ids (all 0 ids (omega arith)) some
member_below n u (ids ∷ sets) (suc j) all some =
    member_below n u sets j (λ k d lt. all (suc k) d (omega arith)) some
