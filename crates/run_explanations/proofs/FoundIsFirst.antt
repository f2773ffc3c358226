-- The explanation that is found is the first one.
use Rattle.std.proofs.Common.{Option, Some, None, refl}
use Rattle.construction.specs.Plans.{Plan}
use Rattle.adversary_script.specs.Scripts.{Script}
use Rattle.run_explanations.specs.declared.explanations.Explanation.{Explanation}
use Rattle.run_explanations.specs.Explanations.{IsFirstOrNone, era_begin, is_faulty, seen_at}
use Rattle.run_explanations.specs.Explanations.{explanation_of}
use Rattle.run_explanations.specs.Laws.{FoundIsFirst}
use Rattle.run_explanations.specs.Tops.{IsTop, top_of}
use Rattle.run_explanations.proofs.Bridge.{era_is_seen, seen_is_era}
use Rattle.run_explanations.proofs.Found.{IsFirstFound, first_found}
use Rattle.run_explanations.proofs.Taking.{part_small}
use Rattle.run_explanations.proofs.TopNumbers.{is_top}

module _ (plan : Plan) (script : Script) (is : IsTop (top_of plan)) where
  first_is : (found : Option Explanation)
      → IsFirstFound (top_of plan).beat is.beat (is_faulty script) script.rounds (era_begin script)
      (seen_at plan script) (part_small plan script (top_of plan) is refl) found
      → IsFirstOrNone plan script found
  first_is (Some e) h = record {
    explains = seen_is_era plan script is e.window e.leader e.phase e.king h.0;
    first = λ t b s k why. h.1 t b s k (era_is_seen plan script is t b s k why);
  }
  first_is None h = λ t b s k why. h t b s k (era_is_seen plan script is t b s k why)

pub found_is_first : FoundIsFirst
found_is_first plan script accepted some =
    let is = is_top plan accepted some in
    first_is plan script is (explanation_of plan script)
    (first_found (top_of plan).beat is.beat (is_faulty script) script.rounds (era_begin script)
    (seen_at plan script) (part_small plan script (top_of plan) is refl))
