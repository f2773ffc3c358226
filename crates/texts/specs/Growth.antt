-- What a call that writes a text did to a sink.
use Rattle.std.specs.Prelude.{◌≡◌, ℕ, ◌+◌, ◌-◌, ◌<◌, ◌≤◌, length, List, [], ◌∷◌, ◌++◌, Option, Some}
use Rattle.std.specs.Prelude.{None, Result, MatchResult}
use Rattle.std.specs.Io.KnownBytes.{Appends, append_known}
use Rattle.texts.specs.Causes.{Counted}

-- What a sink tells: the bytes that it took (None if it doesn't tell them), how many writes failed,
-- and below which length each text is certain to be taken whole. Of the sinks that it passes its
-- bytes on to, nearest first: the names of the references to them, and the bytes that each took.
pub record SinkState : Type 0 where
  pub taken : Option (List ℕ)
  pub faults : ℕ
  pub certain : ℕ
  pub names : List ℕ
  pub passed : List (Option (List ℕ))

-- a sink that passes nothing on, and of which nothing is certain
abbrev pub plainly : Option (List ℕ) → ℕ → SinkState
plainly taken faults = record {
  taken = taken;
  faults = faults;
  certain = 0;
  names = [];
  passed = [];
}

-- a sink that holds these bytes back, and took all others on to the sink behind that reference
abbrev pub gathering : ℕ → List ℕ → SinkState → SinkState
gathering name held behind = record {
  taken = append_known behind.taken held;
  faults = behind.faults;
  certain = behind.certain - length held;
  names = name ∷ behind.names;
  passed = behind.taken ∷ behind.passed;
}

-- known bytes grow by some bytes
pub record Grows (old new : Option (List ℕ)) : Type 0 where
  pub more : List ℕ
  pub bytes : Appends old new more

-- each of a list of known bytes grows by some bytes
abbrev pub EachGrows : List (Option (List ℕ)) → List (Option (List ℕ)) → Type 0
EachGrows [] [] = Unit {0}
EachGrows [] (y ∷ ys) = ⊥
EachGrows (x ∷ xs) [] = ⊥
EachGrows (x ∷ xs) (y ∷ ys) = Grows x y × EachGrows xs ys

-- the sinks that bytes are passed on to stay the same, and no byte is taken back
pub record Follows (old new : SinkState) : Type 0 where
  pub same : new.names ≡ old.names
  pub grows : EachGrows old.passed new.passed

-- known bytes grow by a prefix of the text
pub record AppendsFront (old new : Option (List ℕ)) (text : List ℕ) : Type 0 where
  pub front : List ℕ
  pub rest : List ℕ
  pub parts : text ≡ front ++ rest
  pub bytes : Appends old new front

-- the sink took the whole text, and no fault was counted; what was certain before is so still, less
-- that text
pub record Wrote (text : List ℕ) (old new : SinkState) : Type 0 where
  pub bytes : Appends old.taken new.taken text
  pub still : new.faults ≡ old.faults
  pub lasts : old.certain ≤ new.certain + length text
  pub follows : Follows old new

-- the bytes that came through to the last sink, from one that took these and passed those on
abbrev pub last_of : Option (List ℕ) → List (Option (List ℕ)) → Option (List ℕ)
last_of taken [] = taken
last_of taken (behind ∷ passed) = last_of behind passed

abbrev pub arrived : SinkState → Option (List ℕ)
arrived told = last_of told.taken told.passed

-- of these bytes and a text after them, not all came through, if both sinks tell their bytes
abbrev pub IsMissed : (taken arrived : Option (List ℕ)) → List ℕ → Type 0
IsMissed None end text = Unit {0}
IsMissed (Some xs) None text = Unit {0}
IsMissed (Some xs) (Some ys) text = length ys < length xs + length text

-- One fault was counted, and before it the sink took a prefix of the text, which was not certain to
-- be taken. Not all of the text came through: if the sink holds nothing back, it took less than all
-- of it.
pub record Cut (text : List ℕ) (old new : SinkState) : Type 0 where
  pub front : AppendsFront old.taken new.taken text
  pub missed : IsMissed old.taken (arrived new) text
  pub cause : Counted old.faults new.faults
  pub uncertain : old.certain ≤ length text
  pub follows : Follows old new

-- One write of some of these bytes: it uses up of what was certain no more than it took, and fails
-- only if not all of them were certain to be taken.
abbrev pub UsesUp : {E : Type 0} → SinkState → SinkState → Result ℕ E → List ℕ → Type 0
UsesUp old new result bytes =
    MatchResult result (λ n. old.certain ≤ new.certain + n) (λ _. old.certain ≤ length bytes)

-- a call that writes this text: at Ok it did, at Err it was cut
abbrev pub Puts : {T E : Type 0} → Result T E → List ℕ → SinkState → SinkState → Type 0
Puts result text old new = MatchResult result (λ _. Wrote text old new) (λ _. Cut text old new)
