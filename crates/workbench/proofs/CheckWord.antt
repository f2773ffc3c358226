-- What the word `check` did, by what the check of its input answered.
use Rattle.std.proofs.Common.{◌≡◌, ℕ, ◌≤◌, ◌^◌, Bool, true, false, List, [], ◌++◌, length, Option}
use Rattle.std.proofs.Common.{Some, Err, refl, sym, ap, ◌∙◌, subst, append-nil, length-append}
use Rattle.std.proofs.Common.{arith}
use Rattle.std.specs.Prelude.{nat_lt}
use Rattle.std.specs.Io.KnownBytes.{Consumes, IsAtEnd}
use Rattle.std.proofs.lemmas.Bool.{lt-ltb, le-ltb}
use Rattle.texts.specs.Causes.{Counted}
use Rattle.texts.specs.Growth.{SinkState, Wrote, Cut}
use Rattle.texts.proofs.Growth.{wrote_none}
use Rattle.edge_io.specs.FedParts.{MayFollow}
use Rattle.sync_types.specs.declared.status.Status.TheVariants as status
use Rattle.run_checker.specs.declared.Verdict.{Verdict}
use Rattle.run_checker.specs.declared.Verdict.TheVariants as verdict
use Rattle.run_checker.specs.Checks.{checked_by, unlimited, LimitsMatterBeyond, IsChecked}
use Rattle.run_checker.specs.Checks.{IsRefused, IsTooLong, IsLost}
use Rattle.node_words.proofs.Returns.{left_of, holds_left, all_front}
use Rattle.outcomes.specs.declared.commands.Command.TheVariants as command
use Rattle.outcomes.specs.declared.refusals.Refusal.TheVariants as refusal
use Rattle.outcomes.specs.Refusals.{refusal_line}
use Rattle.outcomes.specs.Outcomes.{Outcome, outcome_of, too_long}
use Rattle.outcomes.specs.CheckAnswers.{verdict_outcome, checked_outcome, check_outcome}
use Rattle.outcomes.specs.Conduct.{ReadsFront, ReadsAll, Does, LeavesUnmet, LeavesUntouched}

-- a prefix of an input was read, and what is left follows it
front_read : (s l : Option (List ℕ)) (bytes : List ℕ) → Consumes s l bytes
    → ReadsFront s l (bytes ++ left_of l)
front_read s l bytes read =
    record { front = bytes; behind = left_of l; parts = refl; read = read; rest = holds_left l }

-- an input of which these bytes decide a line
record Input (s l : Option (List ℕ)) (bytes : List ℕ) (ended : Bool) : Type 0 where
  rest : List ℕ
  read : ReadsFront s l (bytes ++ rest)
  follows : MayFollow ended (nat_lt (2 ^ 44) (length (bytes ++ rest))) rest

input_of : (ended : Bool) (s l : Option (List ℕ)) (bytes : List ℕ) → Consumes s l bytes
    → (ended ≡ true → IsAtEnd l) → (ended ≡ true → length bytes ≤ 2 ^ 44) → Input s l bytes ended
input_of true s l bytes read end within =
    let short = within refl in
    record {
      rest = [];
      read =
          subst (ReadsFront s l) (sym (append-nil bytes))
          (all_front s l bytes (record { read = read; end = end refl }));
      follows = (
        refl,
        le-ltb (2 ^ 44) (length (bytes ++ [])) (omega (arith, length-append bytes [], short)),
      );
    }
input_of false s l bytes read end within =
    record { rest = left_of l; read = front_read s l bytes read; follows = tt }

-- a verdict is written
pub verdict_touches : {K : Type 0} (v : Verdict) (old new : K)
    → LeavesUntouched (Some command.Check) (verdict_outcome v).status old new
verdict_touches (verdict.True rows locked) old new = tt
verdict_touches (verdict.False row) old new = tt

-- and is no read fault
pub verdict_unmet : (v : Verdict) (before now : Bool)
    → LeavesUnmet (verdict_outcome v).status before now
verdict_unmet (verdict.True rows locked) before now = tt
verdict_unmet (verdict.False row) before now = tt

module _ (s l : Option (List ℕ)) (before now : ℕ) where
  -- a read failed
  pub check_lost : (t : SinkState) → IsLost (2 ^ 44) s l → Counted before now
      → Does (Some command.Check) status.ReadFault s l before now t t
  check_lost t h cause =
      record
      { seen = h.bytes; read = h.read; pending = h.pending; cause = cause; wrote = wrote_none t }

  -- the text is too long
  pub check_long : (t : SinkState) → IsTooLong (2 ^ 44) s l → now ≡ before
      → Does (Some command.Check) status.TooLong s l before now t t
  check_long t h still =
      let input = h.bytes ++ left_of l in
      let above : nat_lt (2 ^ 44) (length input)
      ≡ true = lt-ltb (2 ^ 44) (length input)
      (omega (arith, length-append h.bytes (left_of l), h.past)) in
      let is : check_outcome input
      ≡ too_long = ap (λ (b : Bool). checked_outcome (checked_by (2 ^ 44) b input)) above
      ∙ ap checked_outcome (h.decides (left_of l)) in
      record {
        input = input;
        read = front_read s l h.bytes h.read;
        still = still;
        status = ap (λ (o : Outcome). o.status) (sym is);
        wrote = rw is (wrote_none t);
      }

  -- a line is refused
  module _ (line : ℕ) (h : IsRefused (2 ^ 44) s l line) (still : now ≡ before)
      (t u : SinkState) where
    input : Input s l h.bytes h.ended
    input = input_of h.ended s l h.bytes h.read h.at_end h.within

    refused_is : check_outcome (h.bytes ++ input.rest) ≡ outcome_of (Err (refusal.Certificate line))
    refused_is =
        ap checked_outcome
        (h.decides (nat_lt (2 ^ 44) (length (h.bytes ++ input.rest))) input.rest input.follows)

    pub check_refused : Wrote (refusal_line (refusal.Certificate line)) t u
        → Does (Some command.Check) (status.CertRefused line) s l before now t u
    check_refused wrote =
        record {
          input = h.bytes ++ input.rest;
          read = input.read;
          still = still;
          status = ap (λ (o : Outcome). o.status) (sym refused_is);
          wrote = rw refused_is wrote;
        }

    pub check_refused_cut : Cut (refusal_line (refusal.Certificate line)) t u
        → Does (Some command.Check) status.WriteFault s l before now t u
    check_refused_cut cut =
        record
        { input = h.bytes ++ input.rest; read = input.read; still = still; cut = rw refused_is cut }

  -- the text is a certificate's
  module _ (law : LimitsMatterBeyond) (v : Verdict) (h : IsChecked (2 ^ 44) s l v)
      (still : now ≡ before) (t u : SinkState) where
    all_read : ReadsAll s l h.text
    all_read = record { read = h.read; end = h.at_end }

    verdict_is : check_outcome h.text ≡ verdict_outcome v
    verdict_is = ap checked_outcome (law (2 ^ 44) h.text h.within ∙ ap unlimited h.is)

    pub check_cut : Cut (verdict_outcome v).text t u
        → Does (Some command.Check) status.WriteFault s l before now t u
    check_cut cut =
        record {
          input = h.text;
          read = all_front s l h.text all_read;
          still = still;
          cut = rw verdict_is cut;
        }

  pub check_done : LimitsMatterBeyond → (v : Verdict) → IsChecked (2 ^ 44) s l v → now ≡ before
      → (t u : SinkState) → Wrote (verdict_outcome v).text t u
      → Does (Some command.Check) (verdict_outcome v).status s l before now t u
  check_done law (verdict.True rows locked) h still t u wrote =
      let is = verdict_is law (verdict.True rows locked) h still t u in
      record {
        input = h.text;
        read = all_read law (verdict.True rows locked) h still t u;
        still = still;
        status = ap (λ (o : Outcome). o.status) (sym is);
        wrote = rw is wrote;
      }
  check_done law (verdict.False row) h still t u wrote =
      let is = verdict_is law (verdict.False row) h still t u in
      record {
        input = h.text;
        read = all_read law (verdict.False row) h still t u;
        still = still;
        status = ap (λ (o : Outcome). o.status) (sym is);
        wrote = rw is wrote;
      }
