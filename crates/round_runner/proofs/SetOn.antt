-- What is set for a round stays so while its nodes step.
use Rattle.std.proofs.Common.{◌≡◌, ◌<◌, List, length, sym, ap, ◌∙◌, subst}
use Rattle.sync_types.specs.States.{State}
use Rattle.plan_laws.specs.PlanMeaning.{plan_meaning, IsInRange}
use Rattle.state_codec.specs.Packs.{Pack}
use Rattle.shared_board.specs.Sharing.{stands_for}
use Rattle.counter_core.specs.Overlays.{Layer, LayerFits}
use Rattle.adversary_script.specs.Eras.{faulty_at}
use Rattle.round_runner.specs.declared.stepping.RoundBuffers.{RoundBuffers}
use Rattle.round_runner.specs.declared.turns.Round.{Round}
use Rattle.round_runner.specs.Fits.{ShapeFits}
use Rattle.round_runner.specs.Laying.{IsLaid}
use Rattle.round_runner.specs.Rooms.{IsReady}
use Rattle.round_runner.specs.Turns.{IsSet, IsGathered}

module _ {Kept : Type 0} (round : Round) (layer now : Layer Kept) (same : now ≡ layer) where
  pub set_on : (states next : Pack) (room later : RoundBuffers) → next.shape ≡ states.shape
      → next.current ≡ states.current → IsReady round.tower.now round.script.now later
      → IsSet round layer states room → IsSet round now next later
  set_on states next room later shape current ready set = record {
    fits = subst (ShapeFits round.script.now.shape (plan_meaning round.tower.now)
        (IsInRange round.tower.now)) (sym same) set.fits;
    over = subst (λ (l : Layer Kept). LayerFits l (plan_meaning round.tower.now)) (sym same)
        set.over;
    shape = shape ∙ set.shape;
    size = ap (λ (xs : List State). length xs) current ∙ set.size;
    ready = ready;
  }

  pub gathered_on : (states next : Pack) (room : RoundBuffers) → next.shape ≡ states.shape
      → next.current ≡ states.current → IsGathered round layer states room
      → IsGathered round now next room
  gathered_on states next room shape current gathered = record {
    set = set_on states next room room shape current gathered.set.ready gathered.set;
    stands = subst (λ (xs : List State). room.step.shared
        ≡ stands_for round.tower.now xs (faulty_at round.script.now round.t)) (sym current)
        gathered.stands;
    laid = λ some. subst (λ (xs : List State). IsLaid round.script.now round.t xs room.heard.items)
        (sym current) (gathered.laid (subst (λ (l : Layer Kept). 0 < l.extra) same some));
  }
