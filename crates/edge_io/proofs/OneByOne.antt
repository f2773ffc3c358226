-- Bytes that are read one by one.
use Rattle.std.proofs.Common.{◌≡◌, ℕ, ◌+◌, List, [], ◌∷◌, ◌++◌, length, Option, arith}
use Rattle.std.specs.Io.KnownBytes.{Consumes}
use Rattle.std.proofs.KnownBytes.{Consumes-trans}
use Rattle.std.proofs.lemmas.List.{length_push}

pub record SoMany (old now : Option (List ℕ)) (count : ℕ) : Type 0 where
  pub bytes : List ℕ
  pub read : Consumes old now bytes
  pub size : length bytes ≡ count

pub one_more : (s t u : Option (List ℕ)) (count b : ℕ) → SoMany s t count → Consumes t u (b ∷ [])
    → SoMany s u (count + 1)
one_more s t u count b h q =
    record {
      bytes = h.bytes ++ b ∷ [];
      read = Consumes-trans s t u h.bytes (b ∷ []) h.read q;
      size = omega (arith, length_push h.bytes b, h.size);
    }
