-- How long a block keeps its pointer, what it points to next, when it begins again, and that a
-- modulus is not seen. A level's span is the interval that a block past its last one would have.
use Rattle.std.specs.Prelude.{◌≡◌, ℕ, ◌+◌, ◌*◌, ◌%◌, ◌<◌, ◌≤◌}
use Rattle.construction.specs.Plans.{interval_of}
use Rattle.construction.specs.Pointers.{pointer_of, part_of}

-- the outputs of an interval, which begins at a multiple of its length, have the pointer of its
-- first
abbrev pub IntervalKeepsPointer : Type 0
IntervalKeepsPointer =
    (beat leaders i o x : ℕ) → o % interval_of beat leaders i ≡ 0 → x < interval_of beat leaders i
    → pointer_of beat leaders i (o + x) ≡ pointer_of beat leaders i o

-- an interval later the pointer is one more, modulo the leaders
abbrev pub NextIntervalHasNextLeader : Type 0
NextIntervalHasNextLeader = (beat leaders i o : ℕ) → 1 ≤ beat → 1 ≤ leaders
    → pointer_of beat leaders i (o + interval_of beat leaders i)
    ≡ (pointer_of beat leaders i o + 1) % leaders

-- after an interval for each leader the pointer is what it was
abbrev pub PointerHasPeriod : Type 0
PointerHasPeriod = (beat leaders i o : ℕ)
    → pointer_of beat leaders i (o + leaders * interval_of beat leaders i)
    ≡ pointer_of beat leaders i o

-- what is seen of an output is seen of its remainder by a multiple of the span
pub record SeesRemainder (beat leaders blocks modulus o : ℕ) : Type 0 where
  pub pointer : (i : ℕ) → i < blocks → pointer_of beat leaders i (o % modulus)
      ≡ pointer_of beat leaders i o
  pub part : part_of beat (o % modulus) ≡ part_of beat o

abbrev pub ModulusIsUnseen : Type 0
ModulusIsUnseen =
    (beat leaders blocks modulus o : ℕ) → 1 ≤ beat → 1 ≤ leaders
    → modulus % interval_of beat leaders blocks ≡ 0
    → SeesRemainder beat leaders blocks modulus o
