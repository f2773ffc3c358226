-- What taking a line of a script, or a part of it, answers. Want of memory says nothing.
use Rattle.std.specs.Prelude.{◌≡◌, ℕ, List, Option, Some, None, Result, Ok, Err}
use Rattle.sync_types.specs.declared.answers.Rule.{Rule}
use Rattle.edge_io.specs.declared.taking.TakeError.{TakeError}
use Rattle.edge_io.specs.declared.taking.TakeError.TheVariants as take

-- the new state is the one defined, or the line is refused exactly as defined
abbrev pub Adds : {S U : Type 0} → Result S Rule → S → Result U (TakeError Rule) → Type 0
Adds defined new (Err take.NoMemory) = Unit {0}
Adds (Ok s) new (Ok u) = new ≡ s
Adds (Ok s) new (Err (take.Refused rule)) = ⊥
Adds (Err rule) new (Ok u) = ⊥
Adds (Err rule) new (Err (take.Refused given)) = given ≡ rule

-- what is given is the choice that is defined, and no rule refuses it
abbrev pub Gives : {X : Type 0} → Option X → Result (Option X) (TakeError Rule) → Type 0
Gives defined (Err take.NoMemory) = Unit {0}
Gives defined (Err (take.Refused rule)) = ⊥
Gives defined (Ok found) = found ≡ defined

-- what is read at the beginning of words is what is defined, and these words are left
abbrev pub ReadsFront : {X : Type 0} → Option X → Option (X × List (List ℕ))
    → (left : List (List ℕ)) → Type 0
ReadsFront None defined left = defined ≡ None
ReadsFront (Some x) defined left = defined ≡ Some (x, left)

-- what is made is so, and no rule refuses it
abbrev pub Makes : {X : Type 0} → (X → Type 0) → Result X (TakeError Rule) → Type 0
Makes P (Err take.NoMemory) = Unit {0}
Makes P (Err (take.Refused rule)) = ⊥
Makes P (Ok x) = P x
