use Rattle.std.proofs.Common.{◌≡◌, ℕ, ◌<◌, ◌≤◌, List, [], ◌∷◌, length, map, refl, arith}
use Rattle.std.specs.Prelude.{None, string_bytes}
use Rattle.std.proofs.lemmas.Bool.{ltb-true, ltb-false}
use Rattle.std.proofs.lemmas.List.{length-map}
use Rattle.sweep.specs.Requests.{request_of}
use Rattle.sweep.proofs.requests.request_of.Goals as goal
use Rattle.sweep.proofs.requests.request_of.Goals.{
  in_default-via-then-words-lt2,
  in_default-via-else-words-lt2+else-words-lt3,
}

none_short : (words : List (List ℕ)) → length words < 2 → None ≡ request_of words
none_short [] few = refl
none_short (word ∷ []) few = refl
none_short (word ∷ next ∷ words) few = absurd (omega (arith, few))

none_long : (words : List (List ℕ)) → 3 ≤ length words → None ≡ request_of words
none_long [] many = absurd (omega (arith, many))
none_long (word ∷ []) many = absurd (omega (arith, many))
none_long (first ∷ count ∷ []) many = absurd (omega (arith, many))
none_long (first ∷ count ∷ more ∷ words) many = refl

pub returns-in_default : goal.returns-in_default
returns-in_default c =
    let words = map string_bytes c.args.words.now in
    let long = length-map c.args.words.now string_bytes in
    elim c.in_default.branch [
      | in_default-via-then-words-lt2 w ↦ none_short words (omega (arith, long, ltb-true))
      | in_default-via-else-words-lt2+else-words-lt3 w ↦
          none_long words (omega (arith, long, ltb-false))
    ]
