-- How a command ends, by what it wrote.
use Rattle.std.proofs.Common.{◌≡◌, ℕ, List, Result, Ok, Err, refl, sym, subst}
use Rattle.std.specs.Prelude.{MatchResult}
use Rattle.texts.specs.Growth.{SinkState, Wrote, Cut}
use Rattle.sync_types.specs.declared.status.Status.{Status}
use Rattle.sync_types.specs.declared.status.Status.TheVariants as status
use Rattle.outcomes.specs.declared.refusals.Refusal.{Refusal}
use Rattle.outcomes.specs.declared.refusals.Refusal.TheVariants as refusal
use Rattle.outcomes.specs.Refusals.{refusal_line, refusal_status}
use Rattle.outcomes.specs.Outcomes.{outcome_of}
use Rattle.answers.specs.Ends.{Ends}

module _ {K : Type 0} (told : K → SinkState) where
  -- what follows of each way to end follows of the status
  pub ends_by : (P : Status → Type 0) (answer : Result (List ℕ) Refusal) (s t : K)
      → (Cut (outcome_of answer).text (told s) (told t) → P status.WriteFault)
      → (t ≡ s → P status.NoMemory)
      → (Wrote (outcome_of answer).text (told s) (told t) → P (outcome_of answer).status)
      → (e : Status) → Ends told e answer s t → P e
  ends_by P answer s t cut none whole status.WriteFault h = cut h
  ends_by P answer s t cut none whole status.NoMemory h = none h
  ends_by P answer s t cut none whole status.Ok h = subst P (sym (h.0)) (whole h.1)
  ends_by P answer s t cut none whole status.Usage h = subst P (sym (h.0)) (whole h.1)
  ends_by P answer s t cut none whole (status.PlanRefused line premise) h =
      subst P (sym (h.0)) (whole h.1)
  ends_by P answer s t cut none whole (status.PartRefused part line rule) h =
      subst P (sym (h.0)) (whole h.1)
  ends_by P answer s t cut none whole (status.CertRefused line) h = subst P (sym (h.0)) (whole h.1)
  ends_by P answer s t cut none whole (status.TableRefused line cause) h =
      subst P (sym (h.0)) (whole h.1)
  ends_by P answer s t cut none whole (status.CertFalse row) h = subst P (sym (h.0)) (whole h.1)
  ends_by P answer s t cut none whole status.ReadFault h = subst P (sym (h.0)) (whole h.1)
  ends_by P answer s t cut none whole status.TooLong h = subst P (sym (h.0)) (whole h.1)
  ends_by P answer s t cut none whole (status.Cut packet sender) h = subst P (sym (h.0)) (whole h.1)

  -- the text was written
  pub text_ends : (answer : Result (List ℕ) Refusal) (s t : K)
      → MatchResult answer (λ text. Wrote text (told s) (told t)) (λ refusal. ⊥)
      → Ends told status.Ok answer s t
  text_ends (Ok text) s t wrote = (refl, wrote)
  text_ends (Err refusal) s t none = absurd none

  -- or a prefix of it
  pub text_cut : (answer : Result (List ℕ) Refusal) (s t : K)
      → MatchResult answer (λ text. Cut text (told s) (told t)) (λ refusal. ⊥)
      → Ends told status.WriteFault answer s t
  text_cut (Ok text) s t cut = cut
  text_cut (Err refusal) s t none = absurd none

  -- the line of a refusal was written, after a reading that did not touch the sink
  pub refusal_ends : (r : Refusal) (answer : Result (List ℕ) Refusal) (s m t : K)
      → (answer ≡ Err r) × (m ≡ s) → Wrote (refusal_line r) (told m) (told t)
      → Ends told (refusal_status r) answer s t
  refusal_ends refusal.Usage answer s m t (is, same) wrote =
      rw is (refl, subst (λ x. Wrote (refusal_line refusal.Usage) (told x) (told t)) same wrote)
  refusal_ends (refusal.Plan line premise) answer s m t (is, same) wrote =
      rw is (
        refl,
        subst (λ x. Wrote (refusal_line (refusal.Plan line premise)) (told x) (told t)) same
            wrote,
      )
  refusal_ends (refusal.Part part line rule) answer s m t (is, same) wrote =
      rw is (
        refl,
        subst (λ x. Wrote (refusal_line (refusal.Part part line rule)) (told x) (told t)) same
            wrote,
      )
  refusal_ends (refusal.Certificate line) answer s m t (is, same) wrote =
      rw is (
        refl,
        subst (λ x. Wrote (refusal_line (refusal.Certificate line)) (told x) (told t)) same
            wrote,
      )
  refusal_ends (refusal.Table line cause) answer s m t (is, same) wrote =
      rw is (
        refl,
        subst (λ x. Wrote (refusal_line (refusal.Table line cause)) (told x) (told t)) same
            wrote,
      )

  -- or a prefix of it
  pub refusal_cut : (r : Refusal) (answer : Result (List ℕ) Refusal) (s m t : K)
      → (answer ≡ Err r) × (m ≡ s) → Cut (refusal_line r) (told m) (told t)
      → Ends told status.WriteFault answer s t
  refusal_cut r answer s m t (is, same) cut =
      rw is (subst (λ x. Cut (refusal_line r) (told x) (told t)) same cut)
