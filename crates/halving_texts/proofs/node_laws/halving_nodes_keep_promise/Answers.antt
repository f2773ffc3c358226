use Rattle.node_stepper.proofs.Correct.{some_left}
use Rattle.node_words.proofs.Calls.{calls_write}
use Rattle.node_words.proofs.CallStates.{header_is, is_sound}
use Rattle.node_words.proofs.Connected.{connected_count}
use Rattle.node_words.proofs.Heard.{heard_stay_locked}
use Rattle.node_words.proofs.Restarts.{restarted_count}
use Rattle.node_words.proofs.Skips.{header_skips}
use Rattle.halving_plan.specs.Laws.{machine_in}
use Rattle.halving_texts.specs.HalvingWords.{halving_words}
use Rattle.halving_texts.proofs.Headers.{headers_are_served}
use Rattle.halving_texts.proofs.node_laws.halving_nodes_keep_promise.Goals as goal

pub returns : goal.returns
returns c = record {
  texts = calls_write halving_words;
  kept = λ plan. connected_count halving_words headers_are_served (machine_in plan);
  heard = λ plan. heard_stay_locked halving_words headers_are_served (machine_in plan);
  missed = c.others_are_missed.ensures;
  restarts = λ plan.
      restarted_count halving_words (machine_in plan)
      (connected_count halving_words headers_are_served (machine_in plan));
  accepted = λ plan v call is. (
    (header_is halving_words headers_are_served (machine_in plan) v call is).accepted,
    is_sound halving_words headers_are_served (machine_in plan) v call is,
  );
  some = λ plan accepted. some_left (machine_in plan)
      (c.accepted_are_sound.ensures plan accepted);
  skips = header_skips halving_words;
}
