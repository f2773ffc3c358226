-- On a halving plan the line of a correct node in the whole group says whether the configuration is
-- locked.
use Rattle.std.proofs.Common.{◌≡◌, ℕ, zero, suc, ◌+◌, ◌-◌, ◌*◌, ◌<◌, Bool, false, List, [], ◌∷◌}
use Rattle.std.proofs.Common.{◌++◌, Option, Some, refl, sym, ap, ap₂, ◌∙◌, subst, arith}
use Rattle.std.specs.Prelude.{nat_lt, codes, decimal}
use Rattle.std.specs.List.{concat, flat_map}
use Rattle.sync_types.specs.FaultSets.{is_in}
use Rattle.sync_types.specs.States.{State, register_at}
use Rattle.construction.specs.Steps.{state_of}
use Rattle.adversary_script.specs.Eras.{faulty_at}
use Rattle.machine_runner.specs.Locks.{are_locked, correct_registers, is_locked_by, is_locked}
use Rattle.machine_runner.specs.Played.{played_at, heard_at}
use Rattle.halving_plan.specs.Groups.{HalvingGroup, whole_of, half_in}
use Rattle.halving_plan.specs.Trees.{tree_for}
use Rattle.halving_plan.specs.Laws.{machine_in}
use Rattle.halving_plan.specs.LevelStates.{LevelState}
use Rattle.halving_plan.specs.Plans.{HalvingNumbers, IsAccepted}
use Rattle.halving_plan.specs.GroupHearing.{level_state_in}
use Rattle.halving_plan.specs.Runs.{lock_of}
use Rattle.halving_plan.proofs.Sound.{nodes_are}
use Rattle.trace.specs.declared.headings.Heading.{Heading}
use Rattle.trace.specs.GroupTexts.{group_front, group_line, held_part, heard_if}
use Rattle.trace.specs.Groups.{SidedGroup, groups_of, in_half}
use Rattle.trace.specs.declared.sides.Side.TheVariants as which
use Rattle.trace.specs.Laws.{HasPart, told_mark, told_front, HalvingLocksAreTold}
use Rattle.trace.specs.HalvingNodeTexts.{state_line, group_lines, view_text, node_text}
use Rattle.trace.specs.HalvingTraceTexts.{moment_text}
use Rattle.trace.specs.Words.{number_or_none}
use Rattle.trace.proofs.GroupDescent.{groups_are, groups_in}
use Rattle.trace.proofs.LockWords.{word_is}
use Rattle.trace.proofs.TextParts.{part_left, part_right, part_of, part_between}

-- a tree with halves locks by its first register
lock_is : (f spares : ℕ) → 0 < f → lock_of (tree_for f spares) ≡ Some 0
lock_is zero spares some = absurd (omega (arith, some))
lock_is (suc f) spares some = refl

abbrev heading_with : (t v : ℕ) → Bool → Heading
heading_with t v bad = record { at = t; node = v; faulty = bad }

module _ (plan : HalvingNumbers) (accepted : IsAccepted plan) (some : 0 < plan.faults)
    (faulty : List ℕ) (config : List State) (t v : ℕ) (node : v < plan.nodes)
    (correct : is_in faulty v ≡ false) where
  abbrev heading : Heading
  heading = heading_with t v false

  abbrev whole : HalvingGroup
  whole = whole_of plan

  abbrev all : SidedGroup
  all = record { side = which.Whole; group = whole }

  abbrev own : LevelState
  own = level_state_in whole (state_of config v)

  abbrev locked : Bool
  locked = is_locked (machine_in plan) faulty config

  -- what is told of the whole
  abbrev told : List ℕ
  told =
      told_front t v (codes " whole " ∷ decimal 0 ∷ codes " " ∷ decimal (plan.nodes - 1) ∷ [])
      (register_at 0 (state_of config v)) locked

  locked_is : are_locked (correct_registers 0 plan.nodes faulty config) ≡ locked
  locked_is =
      sym (ap₂ (λ (lock : Option ℕ) (n : ℕ). is_locked_by lock n faulty config)
      (lock_is plan.faults (plan.nodes - (3 * plan.faults + 1)) some) (nodes_are plan accepted))

  front_is : group_front heading faulty config all own.register ≡ told
  front_is =
      let last : 0 + plan.nodes - 1 ≡ plan.nodes - 1 = omega arith in
      ap₂ (λ (last : ℕ) (word : List ℕ). concat (codes "at " ∷ decimal t ∷ codes " node "
      ∷ decimal v ∷ codes " whole " ∷ decimal 0 ∷ codes " " ∷ decimal last
      ∷ codes " value " ∷ number_or_none own.register.a ∷ word ∷ [])) last
      (word_is 0 plan.nodes faulty config v node correct ∙ ap (told_mark own.register.d) locked_is)

  module _ (hears : Bool) (heard : List State) where
    abbrev line : SidedGroup → List ℕ
    line group = group_line heading faulty config hears heard group

    line_tells : HasPart told (line all)
    line_tells =
        let rest : List ℕ =
        held_part whole faulty own ++ (heard_if hears whole own heard ++ codes "\n") in
        record {
          before = [];
          after = rest;
          is = ap (λ (front : List ℕ). front ++ rest) front_is;
        }

    view_tells : HasPart told (view_text heading faulty config hears plan heard)
    view_tells =
        let others : List SidedGroup = in_half (half_in whole v) (groups_in whole v) in
        let lines : HasPart told (flat_map line (all ∷ others)) =
        part_left told (line all) (flat_map line others) line_tells in
        part_right told (state_line heading plan (state_of config v))
        (group_lines heading faulty config hears heard (groups_of which.Whole whole v))
        (subst (λ (groups : List SidedGroup). HasPart told (flat_map line groups))
        (sym (groups_are which.Whole whole v some)) lines)

pub halving_locks_are_told : HalvingLocksAreTold
halving_locks_are_told plan script nodes first last t v accepted some from to named node correct =
    let faulty : List ℕ = faulty_at script t in
    let config : List State = played_at (machine_in plan) script t in
    let hears : Bool = nat_lt t script.rounds in
    let heard : List State = heard_at script t config v in
    let part : List ℕ = told plan accepted some faulty config t v node correct in
    let own : HasPart part (node_text plan script t config v) =
    subst (λ (bad : Bool). HasPart part
    (view_text (heading_with t v bad) faulty config hears plan heard)) (sym correct)
    (view_tells plan accepted some faulty config t v node correct hears heard) in
    part_between part
    (λ u. moment_text plan script nodes u (played_at (machine_in plan) script u))
    first last t from to
    (part_of part (node_text plan script t config) nodes v named.0 v named.1 named.2 own)
