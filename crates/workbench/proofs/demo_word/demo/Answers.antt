use Rattle.std.proofs.Common.{ℕ, List, Option, Some, refl, sym, ap, ◌∙◌, subst}
use Rattle.texts.specs.Growth.{SinkState}
use Rattle.sync_types.specs.declared.status.Status.{Status}
use Rattle.sync_types.specs.declared.status.Status.TheVariants as status
use Rattle.outcomes.specs.declared.commands.Command.TheVariants as command
use Rattle.outcomes.specs.declared.commands.Batch.TheVariants as batch
use Rattle.outcomes.specs.Outcomes.{outcome_of}
use Rattle.outcomes.specs.Answers.{answer_of}
use Rattle.outcomes.specs.Commands.{defined}
use Rattle.outcomes.specs.Conduct.{Does, LeavesUntouched}
use Rattle.outcomes.specs.DemoText.{demo_text}
use Rattle.answers.specs.Ends.{Ends}
use Rattle.answers.proofs.Ended.{ends_by}
use Rattle.promises.proofs.DemoTexts.{demo_ends_well}
use Rattle.workbench.proofs.Unread.{unread_answered, unread_cut}
use Rattle.workbench.proofs.Whole.{unmet}
use Rattle.workbench.proofs.demo_word.demo.Goals as goal

-- what `demo` did, by what became of its text
module _ {K : Type 0} (told : K → SinkState) (seed : ℕ) (left : Option (List ℕ)) (count : ℕ)
    (old new : K) where
  abbrev Did : Status → Type 0
  Did s = Does (Some (command.Demo seed)) s left left count count (told old) (told new)

  answered : (s : Status) → Ends told s (answer_of batch.Run (demo_text seed)) old new → Did s
  answered =
      let answer = answer_of batch.Run (demo_text seed) in
      let outcome = outcome_of answer in
      ends_by told Did answer old new
      (λ cut. unread_cut (defined (Some (command.Demo seed))) outcome (λ input. refl) left count
      (told old) (told new) cut)
      (λ none. record { still = refl; none = ap told none })
      (λ wrote. subst Did (sym (demo_ends_well seed))
      (unread_answered (defined (Some (command.Demo seed))) outcome (λ input. refl) left count
      (told old) (told new) status.Ok (sym (demo_ends_well seed)) wrote))

-- if memory was refused, the sink is as it was
untouched : {K : Type 0} (told : K → SinkState) (seed : ℕ) (old new : K) (s : Status)
    → Ends told s (answer_of batch.Run (demo_text seed)) old new
    → LeavesUntouched (Some (command.Demo seed)) s old new
untouched told seed old new =
    ends_by told (λ s. LeavesUntouched (Some (command.Demo seed)) s old new)
    (answer_of batch.Run (demo_text seed)) old new (λ cut. tt) (λ none. none)
    (λ wrote. subst (λ s. LeavesUntouched (Some (command.Demo seed)) s old new)
    (sym (demo_ends_well seed)) tt)

pub returns-clause-does : goal.returns-clause-does
returns-clause-does g c =
    let text = c.as_bytes.ensures.value ∙ c.in-Ok.ensures in
    answered g.K.Sink.told c.args.seed _ _ _ _ _ (rw text at c.answer.ensures)

pub returns-clause-untouched : goal.returns-clause-untouched
returns-clause-untouched g c =
    let text = c.as_bytes.ensures.value ∙ c.in-Ok.ensures in
    untouched g.K.Sink.told c.args.seed _ _ _ (rw text at c.answer.ensures)

pub returns-clause-unmet : goal.returns-clause-unmet
returns-clause-unmet g c =
    let text = c.as_bytes.ensures.value ∙ c.in-Ok.ensures in
    unmet g.K.Sink.told batch.Run (demo_text c.args.seed) _ _ _ _ _ (rw text at c.answer.ensures)
