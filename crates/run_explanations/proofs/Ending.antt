-- A search that ends when nothing more can change.
use Rattle.std.proofs.Common.{◌≡◌, ◌↔◌, ℕ, zero, suc, ◌+◌, ◌<◌, ◌≤◌, inl, inr, Bool, true, false}
use Rattle.std.proofs.Common.{Option, None, refl, sym, ap, ap₂, ◌∙◌, arith}
use Rattle.std.specs.Prelude.{is_some}
use Rattle.std.proofs.lemmas.Bool.{true≢false, cases_eq}
use Rattle.construction.specs.Plans.{Plan}
use Rattle.counter_core.specs.declared.overlays.NoOverlay.{NoOverlay}
use Rattle.adversary_script.specs.Scripts.{Script}
use Rattle.round_runner.specs.Known.{KnowsLocks}
use Rattle.round_runner.specs.Runners.{Running}
use Rattle.run_explanations.specs.declared.explaining.Search.{Search}
use Rattle.run_explanations.specs.declared.explanations.Explanation.{Explanation}
use Rattle.run_explanations.specs.declared.searching.LeaderStreak.{LeaderStreak}
use Rattle.run_explanations.specs.declared.tops.Top.{Top}
use Rattle.run_explanations.specs.Explanations.{is_faulty, seen_at}
use Rattle.run_explanations.specs.Playing.{IsFound, IsEnough, HasPlayed}
use Rattle.run_explanations.specs.Searching.{first_or, no_stretch, stretch_before, explained_from}
use Rattle.run_explanations.specs.Searching.{found_before}
use Rattle.run_explanations.proofs.Stays.{found_in_all}
use Rattle.run_explanations.proofs.Windows.{none_before}

-- before the first configuration that is looked at there is no stretch
pub stretch_begin : (top : Top) (from : ℕ) (plan : Plan) (script : Script) (c : ℕ) → c ≤ from
    → (s : LeaderStreak) → s ≡ no_stretch → s ≡ stretch_before top.beat from (seen_at plan script) c
stretch_begin top from plan script c le s is =
    is ∙ sym (none_before top.beat (seen_at plan script) from c le)

-- and nothing was found
module _ (top : Top) (from : ℕ) (plan : Plan) (script : Script) where
  none_found : (c : ℕ) → c ≤ from → found_before top.beat (is_faulty script) script.rounds from
      (seen_at plan script) c ≡ None
  none_found zero le = refl
  none_found (suc c) le =
      ap₂ (λ (o : Option Explanation) (s : LeaderStreak). first_or o
      (explained_from top.beat (is_faulty script) script.rounds c s.count s.seen))
      (none_found c (omega (arith, le)))
      (none_before top.beat (seen_at plan script) from (suc c) le)

  pub found_begin : (c : ℕ) (search : Search) → c ≡ from
      → search ≡ record { stretch = no_stretch; found = None }
      → IsFound top from plan script c search
  found_begin c search at is = record {
    stretch = ap (λ (s : Search). s.stretch) is
        ∙ sym (none_before top.beat (seen_at plan script) from c (omega (arith, at)));
    found = ap (λ (s : Search). s.found) is ∙ sym (none_found c (omega (arith, at)));
  }

module _ (top : Top) (from : ℕ) (start r : Running NoOverlay) (search : Search)
    (found : IsFound top from start.plan start.script r.at search)
    (played : HasPlayed start r.at r) (within : r.at ≤ start.script.rounds) where
  -- if it is not enough, a round is left
  pub round_left : (enough : Bool) → ((enough ≡ true) ↔ IsEnough search r) → enough ≡ false
      → r.at < r.script.rounds
  round_left enough exact not =
      let last = ap (λ (s : Script). s.rounds) played.script in
      elim (cases_eq r.at r.script.rounds) [
        | inl end ↦ absurd (true≢false (sym (exact.1 (inl end)) ∙ not))
        | inr other ↦ omega (arith, within, last, other)
      ]

  abbrev all_found : ℕ → Option Explanation
  all_found c = found_before top.beat (is_faulty start.script) start.script.rounds from
      (seen_at start.plan start.script) c

  -- if it is, all is found with the runner's configuration
  pub found_all : (last : Search) → IsFound top from start.plan start.script (r.at + 1) last
      → IsEnough search r
      → last.found ≡ found_before top.beat (is_faulty start.script) start.script.rounds from
      (seen_at start.plan start.script) (start.script.rounds + 1)
  found_all last taken enough =
      let here = taken.found in
      elim enough [
        | inl end ↦ here ∙ ap (λ (i : ℕ). all_found (i + 1))
            (end ∙ ap (λ (s : Script). s.rounds) played.script)
        | inr later ↦ here ∙ found_in_all top.beat (is_faulty start.script) start.script.rounds
            from (seen_at start.plan start.script) r.at within
            (sym (ap is_some found.found) ∙ later.0)
      ]

  -- and the locks are known
  pub known_then : IsEnough search r → KnowsLocks r
  known_then enough = elim enough [
    | inl end ↦ inl end
    | inr later ↦ later.1
  ]
