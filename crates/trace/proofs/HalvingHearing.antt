-- The lines of a node in a configuration of a script's run. If nothing is heard, what stands in the
-- places of what is heard does not show.
use Rattle.std.proofs.Common.{◌≡◌, ℕ, Bool, true, false, List, refl, ap, ◌∙◌, ◌++◌}
use Rattle.std.specs.Prelude.{nat_lt}
use Rattle.sync_types.specs.FaultSets.{is_in}
use Rattle.sync_types.specs.States.{State}
use Rattle.construction.specs.Steps.{state_of}
use Rattle.adversary_script.specs.Scripts.{Script}
use Rattle.adversary_script.specs.Eras.{faulty_at}
use Rattle.machine_runner.specs.Played.{heard_at}
use Rattle.halving_plan.specs.Groups.{whole_of}
use Rattle.halving_plan.specs.Plans.{HalvingNumbers}
use Rattle.trace.specs.declared.headings.Heading.{Heading}
use Rattle.trace.specs.HalvingNodeTexts.{state_line, group_lines, view_text, node_text}
use Rattle.trace.specs.Groups.{SidedGroup, groups_of}
use Rattle.trace.specs.declared.sides.Side.TheVariants as which

by_hearing : (h : Heading) (faulty : List ℕ) (config : List State) (hears : Bool)
    (groups : List SidedGroup) (one other : List State) → (hears ≡ true → one ≡ other)
    → group_lines h faulty config hears one groups ≡ group_lines h faulty config hears other groups
by_hearing h faulty config true groups one other same =
    ap (λ (heard : List State). group_lines h faulty config true heard groups) (same refl)
by_hearing h faulty config false groups one other same = refl

abbrev heading_with : (at node : ℕ) → Bool → Heading
heading_with at node bad = record { at = at; node = node; faulty = bad }

module _ (plan : HalvingNumbers) (script : Script) (t v : ℕ) (states : List State) where
  abbrev heading : Heading
  heading = heading_with t v (is_in (faulty_at script t) v)

  pub view_is : (at : ℕ) (bad : Bool) (ids : List ℕ) (config : List State) (hears : Bool)
      (numbers : HalvingNumbers) (heard : List State) → at ≡ t → bad ≡ is_in (faulty_at script t) v
      → ids ≡ faulty_at script t → config ≡ states → hears ≡ nat_lt t script.rounds
      → numbers ≡ plan → (hears ≡ true → heard ≡ heard_at script t states v)
      → view_text (heading_with at v bad) ids config hears numbers heard
      ≡ node_text plan script t states v
  view_is at bad ids config hears numbers heard at_is bad_is ids_is config_is hears_is numbers_is
      heard_is =
      ap (λ (n : ℕ). view_text (heading_with n v bad) ids config hears numbers heard) at_is
      ∙ (ap (λ (b : Bool). view_text (heading_with t v b) ids config hears numbers heard) bad_is
      ∙ (ap (λ (xs : List ℕ). view_text heading xs config hears numbers heard) ids_is
      ∙ (ap (λ (xs : List State). view_text heading (faulty_at script t) xs hears numbers heard)
      config_is
      ∙ (ap (λ (p : HalvingNumbers). view_text heading (faulty_at script t) states hears p heard)
      numbers_is
      ∙ (ap (λ (x : List ℕ). state_line heading plan (state_of states v) ++ x)
      (by_hearing heading (faulty_at script t) states hears
      (groups_of which.Whole (whole_of plan) v) heard (heard_at script t states v) heard_is)
      ∙ ap (λ (b : Bool). view_text heading (faulty_at script t) states b plan
      (heard_at script t states v)) hears_is)))))
