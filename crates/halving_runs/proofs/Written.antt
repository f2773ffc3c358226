-- What a runner at its start writes is the text of its machine and script.
use Rattle.std.proofs.Common.{◌≡◌, ℕ, List, refl, subst, sym}
use Rattle.std.specs.Prelude.{Result, Ok, Err, MatchResult}
use Rattle.std.specs.Result.{IsErrAnd}
use Rattle.machines.specs.Machines.{Machine}
use Rattle.halving_plan.specs.Laws.{machine_in}
use Rattle.halving_plan.specs.Plans.{HalvingNumbers}
use Rattle.machine_runner.specs.ShownTexts.{shown_text}
use Rattle.machine_runner.specs.Runners.{Running}
use Rattle.machine_runner.specs.FirstLocked.{LockTest}
use Rattle.machine_runner.specs.Locks.{is_locked}
use Rattle.adversary_script.specs.Scripts.{Script}
use Rattle.counter_core.specs.Meanings.{Meaning}
use Rattle.counter_core.specs.Overlays.{Layer}
use Rattle.layer_laws.specs.Positions.{Position, begun, IsBegun}
use Rattle.player.specs.Counters.{machine_counter}
use Rattle.layer_runner.specs.PlayedTexts.{Wording, played_text, text_of}
use Rattle.texts.specs.Growth.{SinkState, Wrote, Cut}
use Rattle.halving_runs.specs.declared.errors.PlayError.{PlayError}
use Rattle.halving_runs.specs.declared.errors.PlayError.TheVariants as error
use Rattle.halving_runs.specs.declared.errors.RunRefusal.{RunRefusal}
use Rattle.halving_runs.specs.RunTexts as told
use Rattle.halving_runs.specs.RunTexts.{IsWritten, IsPlayed, FailsToPlay}

module _ {M : Type 0} (label : List ℕ) (word : (output v : ℕ) → List ℕ) (machine : M → Machine)
    (r s : Running M) (is : r ≡ s) (old new : SinkState) where
  abbrev text_by : Running M → List ℕ
  text_by x = shown_text label word (machine x.machine) x.script

  pub wrote_of : Wrote (text_by r) old new → Wrote (text_by s) old new
  wrote_of wrote = subst (λ (x : Running M). Wrote (text_by x) old new) is wrote

  pub cut_of : Cut (text_by r) old new → Cut (text_by s) old new
  cut_of cut = subst (λ (x : Running M). Cut (text_by x) old new) is cut

-- a text that was cut, if the error says that a write failed
pub faulted : (result : Result (Unit {0}) PlayError) (text : List ℕ) (old new : SinkState)
    → IsErrAnd result (λ e. e ≡ error.WriteFault) → Cut text old new
    → IsWritten result text old new
faulted (Ok done) text old new is cut = absurd is
faulted (Err e) text old new is cut =
    subst (λ (x : PlayError). IsWritten (Err x) text old new) (sym is) cut

-- ---- of a play that has begun

-- on the machine of a plan that is another one's
pub begun_on : {Kept : Type 0} {made plan : HalvingNumbers} → made ≡ plan → (script : Script)
    (layer : Layer Kept) (kept : List Kept) (p : Position Kept)
    → p ≡ begun (machine_counter (machine_in made)) (is_locked (machine_in made)) script layer kept
    → p ≡ begun (machine_counter (machine_in plan)) (is_locked (machine_in plan)) script layer kept
begun_on same script layer kept p is =
    subst (λ (m : HalvingNumbers). p
    ≡ begun (machine_counter (machine_in m)) (is_locked (machine_in m)) script layer kept) same is

module _ {Kept : Type 0} (wording : Wording Kept) (counter : Meaning) (locked : LockTest)
    (script : Script) (layer : Layer Kept) (kept : List Kept) (p : Position Kept)
    (is : p ≡ begun counter locked script layer kept) where
  pub has_begun : IsBegun p
  has_begun = subst (λ (q : Position Kept). IsBegun q) (sym is) refl

  pub wrote_play : (old new : SinkState) → Wrote (text_of wording p) old new
      → Wrote (played_text counter locked script layer kept wording) old new
  wrote_play old new = subst (λ (q : Position Kept). Wrote (text_of wording q) old new) is

  pub cut_play : (old new : SinkState) → Cut (text_of wording p) old new
      → Cut (played_text counter locked script layer kept wording) old new
  cut_play old new = subst (λ (q : Position Kept). Cut (text_of wording q) old new) is

-- what was written of a text that is defined
pub played_as : (result : Result (Unit {0}) PlayError) (text : List ℕ)
    (defined : Result (List ℕ) RunRefusal) (old new : SinkState) → defined ≡ Ok text
    → IsWritten result text old new
    → MatchResult result (λ done. IsPlayed defined old new) (FailsToPlay defined old new)
played_as (Ok done) text defined old new is wrote =
    record { text = text; is = is; wrote = wrote }
played_as (Err (error.Refused refused)) text defined old new is wrote = absurd wrote
played_as (Err error.NoMemory) text defined old new is same = same
played_as (Err error.WriteFault) text defined old new is cut =
    subst (λ (d : Result (List ℕ) RunRefusal). Cut (told.text_of d) old new) (sym is) cut
