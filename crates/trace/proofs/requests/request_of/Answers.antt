use Rattle.std.proofs.Common.{◌≡◌, ℕ, ◌<◌, List, [], ◌∷◌, length, map, refl, arith}
use Rattle.std.specs.Prelude.{None, string_bytes}
use Rattle.std.proofs.lemmas.List.{length-map}
use Rattle.trace.specs.Requests.{request_of}
use Rattle.trace.proofs.requests.request_of.Goals as goal

none_short : (words : List (List ℕ)) → length words < 2 → None ≡ request_of words
none_short [] few = refl
none_short (word ∷ []) few = refl
none_short (word ∷ next ∷ words) few = absurd (omega (arith, few))

pub returns-in_default : goal.returns-in_default
returns-in_default c =
    none_short (map string_bytes c.args.words.now)
    (omega (arith, length-map c.args.words.now string_bytes, c.in_default.len_below))
