-- What a command that reads nothing did.
use Rattle.std.proofs.Common.{◌≡◌, ℕ, List, Option, refl}
use Rattle.texts.specs.Growth.{SinkState, Wrote, Cut}
use Rattle.sync_types.specs.declared.status.Status.{Status}
use Rattle.node_words.proofs.Returns.{left_of, holds_left}
use Rattle.outcomes.specs.Outcomes.{Outcome}
use Rattle.outcomes.specs.Commands.{nothing}
use Rattle.outcomes.specs.Conduct.{Answered, AnswerCut}

module _ (outcome : List ℕ → Outcome) (o : Outcome) (same : (input : List ℕ) → outcome input ≡ o)
    (left : Option (List ℕ)) (count : ℕ) (old new : SinkState) where
  -- its text was written
  pub unread_answered : (s : Status) → s ≡ o.status → Wrote o.text old new
      → Answered nothing outcome s left left count count old new
  unread_answered s is wrote = record {
    input = left_of left;
    read = (refl, holds_left left);
    still = refl;
    status = rw (same (left_of left)) is;
    wrote = rw (same (left_of left)) wrote;
  }

  -- or a prefix of it
  pub unread_cut : Cut o.text old new → AnswerCut nothing outcome left left count count old new
  unread_cut cut = record {
    input = left_of left;
    read = (refl, holds_left left);
    still = refl;
    cut = rw (same (left_of left)) cut;
  }
