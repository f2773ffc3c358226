-- What a batch command did, which reads all of its input before it writes.
use Rattle.std.proofs.Common.{◌≡◌, ℕ, ◌<◌, ◌≤◌, Bool, cond, List, [], ◌++◌, length, Option}
use Rattle.std.proofs.Common.{Some, None, Result, Ok, Err, refl, sym, ap, ◌∙◌, length-append, arith}
use Rattle.std.proofs.lemmas.Bool.{lt-ltb, le-ltb}
use Rattle.texts.specs.Causes.{Counted}
use Rattle.texts.specs.Growth.{SinkState, Wrote, Cut}
use Rattle.texts.specs.Limits.{longest_input}
use Rattle.edge_io.specs.Reading.{LosesWithin, LosesMore}
use Rattle.sync_types.specs.declared.status.Status.{Status}
use Rattle.sync_types.specs.declared.status.Status.TheVariants as status
use Rattle.outcomes.specs.declared.commands.Batch.{Batch}
use Rattle.outcomes.specs.declared.commands.Command.TheVariants as command
use Rattle.outcomes.specs.declared.refusals.Refusal.{Refusal}
use Rattle.outcomes.specs.declared.refusals.Refusal.TheVariants as refusal
use Rattle.outcomes.specs.Outcomes.{Outcome, outcome_of, too_long}
use Rattle.outcomes.specs.Answers.{answer_of}
use Rattle.outcomes.specs.Commands.{all_first, defined}
use Rattle.outcomes.specs.Conduct.{ReadsFront, ReadsAll, Reads, Writes, Answered, Does, LeavesUnmet}
use Rattle.outcomes.specs.Conduct.{LeavesUntouched}
use Rattle.answers.specs.Ends.{Ends}
use Rattle.answers.proofs.Ended.{ends_by}

-- a prefix of an input that is too long was read
record ReadsBeyond (limit : ℕ) (left left' : Option (List ℕ)) : Type 0 where
  input : List ℕ
  read : ReadsFront left left' input
  long : limit < length input

beyond_limit : (limit : ℕ) (left left' : Option (List ℕ)) → LosesMore limit left left'
    → ReadsBeyond limit left left'
beyond_limit limit left (Some rest) h = record {
  input = h.front ++ rest;
  read = record { front = h.front; behind = rest; parts = refl; read = h.read; rest = refl };
  long = let past = h.past in omega (arith, length-append h.front rest, past);
}
beyond_limit limit left None h = record {
  input = h.front ++ [];
  read = record { front = h.front; behind = []; parts = refl; read = h.read; rest = tt };
  long = let past = h.past in omega (arith, length-append h.front [], past);
}

module _ (b : Batch) (left left' : Option (List ℕ)) (before now : ℕ) where
  abbrev Did : Status → SinkState → SinkState → Type 0
  Did s old new = Does (Some (command.Batch b)) s left left' before now old new

  -- the outcome of a long input, and of a short one
  of_long : (input : List ℕ) → longest_input < length input
      → defined (Some (command.Batch b)) input ≡ too_long
  of_long input long = ap (λ (b' : Bool). cond b' too_long (outcome_of (answer_of b input)))
      (lt-ltb longest_input (length input) long)

  of_short : (input : List ℕ) → length input ≤ longest_input
      → defined (Some (command.Batch b)) input ≡ outcome_of (answer_of b input)
  of_short input short = ap (λ (b' : Bool). cond b' too_long (outcome_of (answer_of b input)))
      (le-ltb longest_input (length input) short)

  -- ---- the input was not read

  pub lost : (sink : SinkState) → LosesWithin longest_input left left' → Counted before now
      → Did status.ReadFault sink sink
  lost sink h cause = record {
    seen = h.front;
    read = h.read;
    pending = h.within;
    cause = cause;
    wrote = record { none = refl; same = refl };
  }

  pub beyond : (sink : SinkState) → LosesMore longest_input left left' → now ≡ before
      → Did status.TooLong sink sink
  beyond sink more still =
      let h = beyond_limit longest_input left left' more in
      let is = of_long h.input h.long in
      record {
        input = h.input;
        read = h.read;
        still = still;
        status = ap (λ (o : Outcome). o.status) (sym is);
        wrote = record { none = ap (λ (o : Outcome). o.text) is; same = refl };
      }

  -- ---- the input was read

  module _ (input : List ℕ) (read : ReadsAll left left' input) (still : now ≡ before)
      (short : length input ≤ longest_input) (old new : SinkState) where
    given : (s : Status) (r : Result (List ℕ) Refusal) → answer_of b input ≡ r
        → s ≡ (outcome_of r).status → Reads all_first s left left' input
        → Writes all_first s (outcome_of r).text old new
        → Answered all_first (defined (Some (command.Batch b))) s left left' before now old new
    given s r here s_is reads writes =
        let o : defined (Some (command.Batch b)) input ≡ outcome_of r =
        of_short input short ∙ ap outcome_of here in
        record {
          input = input;
          read = reads;
          still = still;
          status = s_is ∙ ap (λ (o : Outcome). o.status) (sym o);
          wrote = rw o writes;
        }

    by_answer : (r : Result (List ℕ) Refusal) → answer_of b input ≡ r
        → Wrote (outcome_of r).text old new → Did (outcome_of r).status old new
    by_answer (Ok text) here wrote = given status.Ok (Ok text) here refl read wrote
    by_answer (Err refusal.Usage) here wrote =
        given status.Usage (Err refusal.Usage) here refl read wrote
    by_answer (Err (refusal.Plan line premise)) here wrote =
        given (status.PlanRefused line premise) (Err (refusal.Plan line premise)) here refl read
        wrote
    by_answer (Err (refusal.Part part line rule)) here wrote =
        given (status.PartRefused part line rule) (Err (refusal.Part part line rule)) here refl read
        wrote
    by_answer (Err (refusal.Certificate line)) here wrote =
        given (status.CertRefused line) (Err (refusal.Certificate line)) here refl read wrote
    by_answer (Err (refusal.Table line cause)) here wrote =
        given (status.TableRefused line cause) (Err (refusal.Table line cause)) here refl read wrote

    by_cut : Cut (outcome_of (answer_of b input)).text old new → Did status.WriteFault old new
    by_cut cut = record {
      input = input;
      read = read;
      still = still;
      cut = rw (of_short input short) cut;
    }

  -- by what became of a sink that tells what it took
  module _ {K : Type 0} (told : K → SinkState) (input : List ℕ) (read : ReadsAll left left' input)
      (still : now ≡ before) (short : length input ≤ longest_input) (old new : K) where
    pub answered : (s : Status) → Ends told s (answer_of b input) old new
        → Did s (told old) (told new)
    answered = ends_by told (λ s. Did s (told old) (told new)) (answer_of b input) old new
        (by_cut input read still short (told old) (told new))
        (λ none. record { still = still; none = ap told none })
        (by_answer input read still short (told old) (told new) (answer_of b input) refl)

-- ---- what was not touched

touches_any : {K : Type 0} (b : Batch) (old new : K) (r : Result (List ℕ) Refusal)
    → LeavesUntouched (Some (command.Batch b)) (outcome_of r).status old new
touches_any b old new (Ok text) = tt
touches_any b old new (Err refusal.Usage) = tt
touches_any b old new (Err (refusal.Plan line premise)) = tt
touches_any b old new (Err (refusal.Part part line rule)) = tt
touches_any b old new (Err (refusal.Certificate line)) = tt
touches_any b old new (Err (refusal.Table line cause)) = tt

-- if memory was refused, the sink is as it was
pub untouched : {K : Type 0} (told : K → SinkState) (b : Batch) (input : List ℕ) (old new : K)
    (s : Status) → Ends told s (answer_of b input) old new
    → LeavesUntouched (Some (command.Batch b)) s old new
untouched told b input old new =
    ends_by told (λ s. LeavesUntouched (Some (command.Batch b)) s old new) (answer_of b input) old
    new (λ cut. tt) (λ none. none) (λ wrote. touches_any b old new (answer_of b input))

-- ---- no read fails after the end

unmet_any : (before now : Bool) (r : Result (List ℕ) Refusal)
    → LeavesUnmet (outcome_of r).status before now
unmet_any before now (Ok text) = tt
unmet_any before now (Err refusal.Usage) = tt
unmet_any before now (Err (refusal.Plan line premise)) = tt
unmet_any before now (Err (refusal.Part part line rule)) = tt
unmet_any before now (Err (refusal.Certificate line)) = tt
unmet_any before now (Err (refusal.Table line cause)) = tt

-- an input that was read is not answered by a read fault
pub unmet : {K : Type 0} (told : K → SinkState) (b : Batch) (input : List ℕ) (old new : K)
    (before now : Bool) (s : Status) → Ends told s (answer_of b input) old new
    → LeavesUnmet s before now
unmet told b input old new before now =
    ends_by told (λ s. LeavesUnmet s before now) (answer_of b input) old new (λ cut. tt)
    (λ none. tt) (λ wrote. unmet_any before now (answer_of b input))
