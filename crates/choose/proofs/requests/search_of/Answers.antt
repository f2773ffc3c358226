use Rattle.std.proofs.Common.{◌≡◌, ℕ, ◌<◌, ◌≤◌, List, [], ◌∷◌, length, map, refl, arith}
use Rattle.std.specs.Prelude.{None, string_bytes}
use Rattle.std.proofs.lemmas.List.{length-map}
use Rattle.choose.specs.declared.requests.Scope.{Scope}
use Rattle.choose.specs.Requests.{search_of}
use Rattle.choose.proofs.requests.search_of.Goals as goal

none_short : (scope : Scope) (words : List (List ℕ)) → length words < 2
    → None ≡ search_of scope words
none_short scope [] few = refl
none_short scope (word ∷ []) few = refl
none_short scope (word ∷ next ∷ words) few = absurd (omega (arith, few))

none_long : (scope : Scope) (words : List (List ℕ)) → 5 ≤ length words
    → None ≡ search_of scope words
none_long scope [] many = refl
none_long scope (f ∷ []) many = absurd (omega (arith, many))
none_long scope (f ∷ c ∷ []) many = absurd (omega (arith, many))
none_long scope (f ∷ c ∷ most ∷ []) many = absurd (omega (arith, many))
none_long scope (f ∷ c ∷ most ∷ last ∷ []) many = absurd (omega (arith, many))
none_long scope (f ∷ c ∷ most ∷ last ∷ more ∷ words) many = refl

pub returns-in_default-clause-value : goal.returns-in_default-clause-value
returns-in_default-clause-value c =
    none_short c.args.scope (map string_bytes c.args.words.now)
    (omega (arith, length-map c.args.words.now string_bytes, c.in_default.len_below))

pub returns-in_default-2-clause-value : goal.returns-in_default-2-clause-value
returns-in_default-2-clause-value c =
    none_long c.args.scope (map string_bytes c.args.words.now)
    (omega (arith, length-map c.args.words.now string_bytes, c.in_default.len_at_least))
