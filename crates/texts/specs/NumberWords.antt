-- A number below 10 ^ 15 and its word: each gives the other.
use Rattle.std.specs.Prelude.{◌≡◌, ℕ, ◌<◌, ◌^◌, List, Some, decimal}
use Rattle.texts.specs.Numbers.{number_of}

-- the word that is printed of a number is read as that number
abbrev pub PrintedIsRead : Type 0
PrintedIsRead = (n : ℕ) → n < 10 ^ 15 → number_of (decimal n) ≡ Some n

-- no other word is read as it
abbrev pub ReadIsPrinted : Type 0
ReadIsPrinted = (word : List ℕ) (n : ℕ) → number_of word ≡ Some n → word ≡ decimal n
