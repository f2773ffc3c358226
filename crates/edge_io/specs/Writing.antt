-- What a writer was given, and what became of it.
use Rattle.std.specs.Prelude.{◌≡◌, ℕ, List, [], Bool, true, false, Result, OnOk, MatchResult}
use Rattle.texts.specs.Growth.{SinkState, gathering, Wrote, Cut}
use Rattle.edge_io.specs.Gathering.{gathered_told, held}
use Rattle.edge_io.specs.declared.writer.Writer.{Writer}

-- What a text did to a sink, by whether a write had failed before, and has failed now: after a
-- fault nothing more is done, and else the sink took all of the text, or was cut in it.
abbrev pub Proceeds : (before now : Bool) → List ℕ → SinkState → SinkState → Type 0
Proceeds true true text old new = new ≡ old
Proceeds true false text old new = ⊥
Proceeds false true text old new = Cut text old new
Proceeds false false text old new = Wrote text old new

-- A writer, over a sink that tells `told`, wrote this text: all of it, if no write has failed.
pub record Writes {K : Type 0} (told : K → SinkState) (text : List ℕ) (old new : Writer K)
    : Type 0 where
  pub so : Proceeds old.failed new.failed text (gathered_told told old) (gathered_told told new)

-- it was made of the sink under that name, which tells this, and no write has failed
pub record IsFresh {K : Type 0} (told : K → SinkState) (name : ℕ) (start : SinkState)
    (now : Writer K)
    : Type 0 where
  pub unfailed : now.failed ≡ false
  pub tells : gathered_told told now ≡ gathering name [] start

-- it ended its text, answered whether a write failed, and at Ok it holds nothing back
pub record Finishes {K T E : Type 0} (told : K → SinkState) (result : Result T E)
    (old new : Writer K)
    : Type 0 where
  pub rest : Writes told [] old new
  pub answer : MatchResult result (λ _. new.failed ≡ false) (λ _. new.failed ≡ true)
  pub none_held : OnOk result (held new ≡ [])
