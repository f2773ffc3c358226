-- What reading a part at the beginning of an input answers, if something is made of what it says.
use Rattle.std.specs.Prelude.{◌≡◌, ℕ, List, Result, Ok, Err, drop}
use Rattle.texts.specs.Lines.{lines_of}
use Rattle.texts.specs.Parts.{Found, At}
use Rattle.edge_io.specs.declared.taking.PartError.{PartError}
use Rattle.edge_io.specs.Taking.{FailsAsDefined}

module _ {V X R : Type 0} (part_at : (number : ℕ) → List (List ℕ) → Result (Found V) (At R))
    (is_made : V → X → Type 0) where
  -- The part that is defined stands at the beginning of the input, in so many bytes and lines, and
  -- this is made of what it says.
  pub record IsRead (number : ℕ) (input : List ℕ) (made : X) (bytes lines : ℕ) : Type 0 where
    pub said : V
    pub part : part_at number (lines_of input)
        ≡ Ok (record { value = said; taken = lines; behind = lines_of (drop bytes input) })
    pub fresh : is_made said made

  -- it is read, or fails as defined
  abbrev pub IsAnswer : (number : ℕ) (input : List ℕ) → Result (X × ℕ × ℕ) (PartError R) → Type 0
  IsAnswer number input (Ok read) = IsRead number input read.0 read.1 read.2
  IsAnswer number input (Err error) = FailsAsDefined error (part_at number (lines_of input))
