-- The text that the word `demo` makes of its seed: a plan of two levels, and a script in which
-- three nodes lie at random in each round.
use Rattle.std.specs.Prelude.{ℕ, ◌%◌, ◌==◌, List, [], ◌∷◌, ◌++◌, if◌then◌else◌, codes, decimal}
use Rattle.std.specs.Int.{w64, to_be_bytes}
use Rattle.std.specs.List.{concat}
use Rattle.hex.specs.Hex.{encode_lower}
use Rattle.outcomes.specs.declared.demo.Liars.{Liars}

-- the liars: one in each block of the top level, or all in block 0, or one there and two in block 1
abbrev pub liars_of : ℕ → Liars
liars_of seed =
    if seed % 3 == 0 then record { first = 0; second = 4; third = 8 }
    else if seed % 3 == 1 then record { first = 0; second = 1; third = 2 }
    else record { first = 3; second = 4; third = 5 }

-- the 64 hex digits of the noise key: 16 of the seed, the highest first, and zeros
abbrev pub key_digits : ℕ → List ℕ
key_digits seed =
    encode_lower (to_be_bytes w64 seed) ++ codes "000000000000000000000000000000000000000000000000"

-- the liars are faulty
abbrev pub faulty_line : Liars → List ℕ
faulty_line liars = concat (
    codes "faulty " ∷ decimal liars.first
    ∷ codes " " ∷ decimal liars.second
    ∷ codes " " ∷ decimal liars.third ∷ codes "\n" ∷ [])

-- a liar says noise to all other nodes in all rounds
abbrev pub lie_line : (liar : ℕ) → List ℕ
lie_line liar = concat (codes "lie 0 3363 " ∷ decimal liar ∷ codes " to all noise\n" ∷ [])

-- the text with these liars and these digits
abbrev pub text_with : Liars → (digits : List ℕ) → List ℕ
text_with liars digits = concat (
    codes "plan 1\nbase 2304\nlevel 4 1 960\nlevel 3 3 10\nend\n"
    ∷ codes "script 1\n" ∷ faulty_line liars
    ∷ codes "seed " ∷ digits ∷ codes "\n"
    ∷ codes "start noise\n"
    ∷ lie_line liars.first ∷ lie_line liars.second ∷ lie_line liars.third
    ∷ codes "rounds 3364\nshow 3360 3364\nend\n" ∷ [])

abbrev pub demo_text : (seed : ℕ) → List ℕ
demo_text seed = text_with (liars_of seed) (key_digits seed)
