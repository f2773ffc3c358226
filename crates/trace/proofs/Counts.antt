-- What was made of what is heard is the part of the line that is defined.
use Rattle.std.proofs.Common.{◌≡◌, ℕ, Bool, List, Option, sym, ap, ap₂, ◌∙◌, map}
use Rattle.counting.specs.Values.{count_of, least_above}
use Rattle.sync_types.specs.States.{State}
use Rattle.halving_plan.specs.Halves.{right_period}
use Rattle.halving_plan.specs.LevelStates.{LevelState, shown, saw, backed, follows_left}
use Rattle.halving_plan.specs.LevelStates.{instruction_of, values_of}
use Rattle.halving_plan.specs.Groups.{HalvingGroup, sizes_of, right_of}
use Rattle.halving_plan.specs.GroupHearing.{level_states_in, outputs_in}
use Rattle.trace.specs.declared.counted.HeardOfGroup.{HeardOfGroup}
use Rattle.trace.specs.Counted.{counted_part}
use Rattle.trace.specs.GroupTexts.{heard_part}

module _ (group : HalvingGroup) (own : LevelState) (heard : List State) where
  abbrev states : List LevelState
  states = level_states_in group heard

  abbrev values : List (Option ℕ)
  values = values_of states

  -- what the right half shows
  abbrev pub right : ℕ
  right = shown (right_period (sizes_of group)) (outputs_in (right_of group) heard)

  abbrev instructed_by : (left : Bool) → ℕ
  instructed_by left = instruction_of (sizes_of group) left own.seen right

  abbrev part : (saw : ℕ) (back left : Bool) (instruction same : ℕ) (least : Option ℕ) → List ℕ
  part saw back left instruction same least =
      let made : HeardOfGroup = record {
        saw = saw;
        backed = back;
        left = left;
        instruction = instruction;
        same = same;
        least = least;
      } in
      counted_part group made

  pub counted_is : (made : HeardOfGroup) → made.saw ≡ saw own.seen states
      → made.backed ≡ backed (sizes_of group) own states
      → made.left ≡ follows_left (sizes_of group) own made.backed
      → made.instruction ≡ instructed_by made.left
      → made.same ≡ count_of values own.register.a → made.least ≡ least_above group.faults values
      → counted_part group made ≡ heard_part group own heard
  counted_is made saw_is backed_is left_is instruction_is same_is least_is =
      ap₂ (λ (i j : ℕ). part i made.backed made.left j made.same made.least) saw_is instruction_is
      ∙ (ap₂ (λ (i : ℕ) (least : Option ℕ). part (saw own.seen states) made.backed made.left
      (instructed_by made.left) i least) same_is least_is
      ∙ (ap (λ (left : Bool). part (saw own.seen states) made.backed left (instructed_by left)
      (count_of values own.register.a) (least_above group.faults values)) left_is
      ∙ ap (λ (back : Bool). let left = follows_left (sizes_of group) own back in
      part (saw own.seen states) back left (instructed_by left) (count_of values own.register.a)
      (least_above group.faults values)) backed_is))
