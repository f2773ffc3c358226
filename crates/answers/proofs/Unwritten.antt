-- What a command did that wrote no text, or not all of it.
use Rattle.std.proofs.Common.{◌≡◌, ℕ, List, Result, Ok, Err, refl, ap, ◌∙◌}
use Rattle.std.specs.Result.{IsErrAnd}
use Rattle.std.proofs.lemmas.Result.{err_from_is_err_and}
use Rattle.texts.specs.Growth.{SinkState, Cut}
use Rattle.texts.specs.Parts.{At}
use Rattle.sync_types.specs.declared.answers.Premise.{Premise}
use Rattle.sync_types.specs.declared.answers.Rule.{Rule}
use Rattle.sync_types.specs.declared.answers.Cause.{Cause}
use Rattle.sync_types.specs.declared.answers.Part.{Part}
use Rattle.edge_io.specs.declared.taking.PartError.{PartError}
use Rattle.edge_io.specs.declared.taking.PartError.TheVariants as part
use Rattle.edge_io.specs.Taking.{FailsAsDefined}
use Rattle.plan_reader.specs.declared.refusals.PlanError.{PlanError}
use Rattle.plan_reader.specs.declared.refusals.PlanError.TheVariants as plan
use Rattle.plan_reader.specs.PlanRefusals as plans
use Rattle.plan_certificate.specs.declared.table_refusals.TableError.{TableError}
use Rattle.plan_certificate.specs.declared.table_refusals.TableError.TheVariants as table
use Rattle.plan_certificate.specs.TableRefusals as tables
use Rattle.outcomes.specs.declared.refusals.Refusal.{Refusal}
use Rattle.outcomes.specs.Inputs.{in_plan, in_part, in_table, or_refusal}
use Rattle.outcomes.specs.Answers.{text_by}
use Rattle.answers.specs.declared.errors.Unanswered.{Unanswered}
use Rattle.answers.specs.declared.errors.Unanswered.TheVariants as end
use Rattle.answers.specs.Readings.{Refuses, plan_error, table_error, part_error}
use Rattle.answers.specs.Ends.{Answers}

-- ---- an error of reading refuses what was to be read

pub refuses_plan : {V : Type 0} (e : PlanError) (r : Result V (At Premise))
    → plans.FailsAsDefined e r → Refuses (plan_error e) (or_refusal in_plan r)
refuses_plan plan.NoMemory r fails = tt
refuses_plan (plan.Refused refused) r fails = ap (or_refusal in_plan) fails

pub refuses_table : {V : Type 0} (e : TableError) (r : Result V (At Cause))
    → tables.FailsAsDefined e r → Refuses (table_error e) (or_refusal in_table r)
refuses_table table.NoMemory r fails = tt
refuses_table (table.Refused refused) r fails = ap (or_refusal in_table) fails

pub refuses_part : {V : Type 0} (name : Part) (e : PartError Rule) (r : Result V (At Rule))
    → FailsAsDefined e r → Refuses (part_error name e) (or_refusal (in_part name) r)
refuses_part name part.NoMemory r fails = tt
refuses_part name (part.Refused refused) r fails = ap (or_refusal (in_part name)) fails

-- and so its text
pub refuses_text : {X : Type 0} (text : X → List ℕ) (e : Unanswered) (r : Result X Refusal)
    → Refuses e r → Refuses e (text_by text r)
refuses_text text end.NoMemory r h = tt
refuses_text text (end.Refused refusal) r h = ap (text_by text) h
refuses_text text end.WriteFault r h = absurd h

-- ---- the exit of a `?`

module _ {K T : Type 0} (told : K → SinkState) where
  by_error : (result : Result T Unanswered) (answer : Result (List ℕ) Refusal) (e : Unanswered)
      (s : K) → Refuses e answer → result ≡ Err e → Answers told result answer s s
  by_error result answer end.NoMemory s h is = rw is refl
  by_error result answer (end.Refused refusal) s h is = rw is (h, refl)
  by_error result answer end.WriteFault s h is = absurd h

  -- after a reading that failed
  pub unread : (result : Result T Unanswered) (answer : Result (List ℕ) Refusal) (e : Unanswered)
      (s : K) → Refuses e answer → IsErrAnd result (λ given. given ≡ e)
      → Answers told result answer s s
  unread result answer e s h given =
      let p = err_from_is_err_and result given in
      by_error result answer e s h (p.1 ∙ ap (λ (x : Unanswered). Err x) p.2)

  -- after a write that failed
  pub unwritten : (result : Result T Unanswered) (answer : Result (List ℕ) Refusal)
      (text : List ℕ) (s t : K) → answer ≡ Ok text → IsErrAnd result (λ e. e ≡ end.WriteFault)
      → Cut text (told s) (told t) → Answers told result answer s t
  unwritten result answer text s t is given cut =
      let p = err_from_is_err_and result given in rw (p.1, p.2, is) cut

-- an error that is answered as it is
pub refused_as : (T : Type 0) {K : Type 0} (told : K → SinkState) (answer : Result (List ℕ) Refusal)
    (given e : Unanswered) (s : K) → Refuses e answer → given ≡ e
    → let result : Result T Unanswered = Err given in Answers told result answer s s
refused_as T told answer given e s h is =
    let same : (let r : Result T Unanswered = Err given in r) ≡ Err e =
    ap (λ (x : Unanswered). let r : Result T Unanswered = Err x in r) is in
    by_error told (Err given) answer e s h same

-- of the text of what is read
module _ {K T X : Type 0} (told : K → SinkState) (text : X → List ℕ) where
  pub unread_text : (result : Result T Unanswered) (read : Result X Refusal) (e : Unanswered)
      (s : K) → Refuses e read → IsErrAnd result (λ given. given ≡ e)
      → Answers told result (text_by text read) s s
  unread_text result read e s h given =
      unread told result (text_by text read) e s (refuses_text text e read h) given

  pub unwritten_text : (result : Result T Unanswered) (read : Result X Refusal) (x : X) (s t : K)
      → read ≡ Ok x → IsErrAnd result (λ e. e ≡ end.WriteFault)
      → Cut (text x) (told s) (told t) → Answers told result (text_by text read) s t
  unwritten_text result read x s t is given cut =
      unwritten told result (text_by text read) (text x) s t (ap (text_by text) is) given cut
