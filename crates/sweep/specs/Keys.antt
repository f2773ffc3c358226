-- Keys that are made of numbers.
use Rattle.std.specs.Prelude.{◌≡◌, ℕ, ◌<◌, ◌^◌, List, ◌++◌, replicate}
use Rattle.std.specs.Int.{w64, to_be_bytes}
use Rattle.adversary_script.specs.Scripts.{Script}

-- the key of a number: its eight bytes, the high one first, and 24 zeros
abbrev pub key_of : (seed : ℕ) → List ℕ
key_of seed = to_be_bytes w64 seed ++ replicate 24 0

-- the script with the key of a number, and else the same
abbrev pub keyed : Script → (seed : ℕ) → Script
keyed script seed = record script { key = key_of seed }

-- no two numbers have one key
abbrev pub KeysDiffer : Type 0
KeysDiffer = (a b : ℕ) → a < 2 ^ 64 → b < 2 ^ 64 → key_of a ≡ key_of b → a ≡ b
