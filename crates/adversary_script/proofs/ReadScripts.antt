-- Every script that is read is well formed and for its counter.
use Rattle.std.proofs.Common.{◌≡◌, ℕ, map, get_or, ◌<◌, ◌≤◌, List, [], ◌∷◌, length, true}
use Rattle.std.proofs.Common.{Option, Some, Result, Ok, Err, refl, sym, arith}
use Rattle.std.specs.Prelude.{IfOk}
use Rattle.std.proofs.lemmas.Bool.{ltb-false, true≢false}
use Rattle.std.proofs.lemmas.List.{length-map}
use Rattle.std.proofs.lemmas.List.Elements.{All-cons, All-weaker}
use Rattle.texts.specs.Parts.{At}
use Rattle.sync_types.specs.declared.answers.Rule.{Rule}
use Rattle.construction.specs.Plans.{Plan, plan_nodes, plan_faults}
use Rattle.construction.specs.Runs.{IsToleratedBy}
use Rattle.state_codec.specs.Shapes.{Shape, IsShape}
use Rattle.adversary_script.specs.declared.kinds.Kind.{Kind}
use Rattle.adversary_script.specs.declared.kinds.Kind.TheVariants as kind
use Rattle.edge_io.specs.declared.taking.PartError.{PartError}
use Rattle.adversary_script.specs.Kinds.{may_follow}
use Rattle.texts.specs.Shapes.{all_numbers}
use Rattle.adversary_script.specs.Scripts.{Era, Script, firsts, AreWithin, IsFormed, IsScript}
use Rattle.adversary_script.specs.Scripts.{empty_script, faulty_sets}
use Rattle.adversary_script.specs.FaultySteps.{last_first}
use Rattle.adversary_script.specs.Steps.{done, rounds_tests, rounds_tested, show_tests, show_tested}
use Rattle.adversary_script.specs.Steps.{line_step}
use Rattle.adversary_script.specs.ScriptPart.{IsClosed, IsAnswerFor, IsTolerated}
use Rattle.adversary_script.specs.ScriptPart.{IsScriptFor, IsScriptForPlan, script_for, script_of}
use Rattle.adversary_script.proofs.EraLists.{last_is, most_last}
use Rattle.adversary_script.proofs.LineByLine.{script_has}
use Rattle.adversary_script.proofs.FormedEras.{empty_formed}
use Rattle.adversary_script.proofs.Tested.{tested_keeps, any_ok}
use Rattle.adversary_script.proofs.SaidLines.{empty_said}
use Rattle.adversary_script.proofs.KeptLines.{IsSoundAndSaid, IsBareAfter, line_bare, line_kept}

-- the eras of a script begin within so many rounds as reach its last one
all_within : (s : Script) (rounds : ℕ) → IsFormed s → last_first s ≤ rounds → (k d : ℕ)
    → k < length (firsts s) → get_or (firsts s) k d ≤ rounds
all_within s rounds formed most k d lt =
    let size = length-map s.eras (λ (era : Era). era.first) in
    let last : last_first s ≡ get_or (firsts s) (length (map (λ (era : Era). era.first) s.eras)) 0 =
    rw size (last_is 0 s.eras) in
    let here = most_last 0 (map (λ (era : Era). era.first) s.eras) formed.rising k d lt in
    omega (arith, last)

rounds_close : (s : Script) (numbers : Option (List ℕ)) → IsFormed s
    → IfOk (rounds_tested s numbers) AreWithin
rounds_close s (Some (r ∷ [])) formed =
    tested_keeps AreWithin (rounds_tests s r) _
    (λ passed. all_within s r formed (ltb-false r (last_first s) passed.1.0))
rounds_close s other formed = tt

show_closes : (s : Script) (numbers : Option (List ℕ)) → AreWithin s → IfOk (show_tested s numbers)
    AreWithin
show_closes s (Some (a ∷ b ∷ [])) within =
    tested_keeps AreWithin (show_tests s a b) _ (λ _. within)
show_closes s other within = tt

end_closes : (s : Script) (words : List (List ℕ)) → AreWithin s → IfOk (done s words) AreWithin
end_closes s [] within = within
end_closes s (word ∷ words) within = tt

-- what stands before what is shown, and before the end
shown_behind : (last : Option Kind) (s : Script) → may_follow last kind.Show ≡ true
    → IsClosed last s → AreWithin s
shown_behind (Some kind.Rounds) s may closed = closed
shown_behind last s may closed = absurd (true≢false (sym may))

ended_behind : (last : Option Kind) (s : Script) → may_follow last kind.End ≡ true → IsClosed last s
    → AreWithin s
ended_behind (Some kind.Show) s may closed = closed
ended_behind last s may closed = absurd (true≢false (sym may))

-- a line that may stand after those that were read keeps that all eras begin within the rounds
pub line_closes : (f : ℕ) (last : Option Kind) (k : Kind) (s : Script) (words : List (List ℕ))
    → may_follow last k ≡ true → IsFormed s → IsClosed last s → IfOk (line_step f k s words)
    (IsClosed (Some k))
line_closes f last kind.Rounds s words may formed closed = rounds_close s (all_numbers words) formed
line_closes f last kind.Show s words may formed closed =
    show_closes s (all_numbers words) (shown_behind last s may closed)
line_closes f last kind.End s words may formed closed =
    end_closes s words (ended_behind last s may closed)
line_closes f last k s words may formed closed = any_ok (line_step f k s words)

-- what holds of what was said, after a line of a kind
pub record IsSoFar (nodes faults : ℕ) (shape : Shape) (last : Option Kind) (s : Script)
    : Type 0 where
  pub kept : IsSoundAndSaid nodes faults shape s
  pub bare : IsBareAfter last s
  pub closed : IsClosed last s

all_ok : (nodes faults : ℕ) (shape : Shape) (last : Option Kind) (r : Result Script Rule)
    → IfOk r (IsSoundAndSaid nodes faults shape) → IfOk r (IsBareAfter last)
    → IfOk r (IsClosed last) → IfOk r (IsSoFar nodes faults shape last)
all_ok nodes faults shape last (Ok s) kept bare closed =
    record { kept = kept; bare = bare; closed = closed }
all_ok nodes faults shape last (Err e) kept bare closed = tt

empty_kept : (nodes faults : ℕ) (shape : Shape)
    → IsSoundAndSaid nodes faults shape (empty_script nodes shape)
empty_kept nodes faults shape = record {
  sound = record {
    formed = empty_formed nodes shape;
    right = record {
      nodes = refl;
      states = refl;
      borne = All-cons (IsTolerated nodes faults) [] [] none_faulty
          (λ k d lt. absurd (omega arith));
    };
  };
  said = empty_said nodes shape;
} where
  none_faulty : IsTolerated nodes faults []
  none_faulty = record {
    rising = λ k lt. absurd (omega arith);
    ids = λ k d lt. absurd (omega arith);
    few = omega arith;
  }

elim_ok : {P Q : Script → Type 0} (r : Result Script (At Rule)) → IfOk r P
    → ((s : Script) → P s → Q s) → IfOk r Q
elim_ok (Ok s) h f = f s h
elim_ok (Err e) h f = tt

module _ (nodes faults : ℕ) (shape : Shape) (sound : IsShape shape) (number : ℕ)
    (lines : List (List ℕ)) where
  pub script_is : IfOk (script_for nodes faults shape number lines)
      (IsSoFar nodes faults shape (Some kind.End))
  script_is =
      script_has nodes faults shape (IsSoFar nodes faults shape)
      (λ last k s words may h. all_ok nodes faults shape (Some k) (line_step faults k s words)
      (line_kept nodes faults shape sound s h.kept last k words may h.bare)
      (line_bare faults last k s words may h.bare)
      (line_closes faults last k s words may h.kept.sound.formed h.closed))
      (record { kept = empty_kept nodes faults shape; bare = (refl, refl); closed = tt })
      number lines

  pub script_is_script : IfOk (script_for nodes faults shape number lines) IsScript
  script_is_script =
      elim_ok (script_for nodes faults shape number lines) script_is
      (λ s h. record { formed = h.kept.sound.formed; within = h.closed })

  pub script_fits : IfOk (script_for nodes faults shape number lines)
      (IsScriptFor nodes faults shape)
  script_fits =
      elim_ok (script_for nodes faults shape number lines) script_is (λ s h. h.kept.sound.right)

  -- a script of version 1 has no further era
  pub script_has_eras : IfOk (script_for nodes faults shape number lines)
      (λ s. s.version ≡ 1 → s.eras ≡ [])
  script_has_eras =
      elim_ok (script_for nodes faults shape number lines) script_is (λ s h. h.kept.said.eras)

-- a reading that is exact gives a script for its counter
pub read_fits : (nodes faults : ℕ) (shape : Shape) → IsShape shape
    → (number : ℕ) (lines : List (List ℕ)) (r : Result Script (PartError Rule))
    → IsAnswerFor nodes faults shape number lines r → IfOk r (IsScriptFor nodes faults shape)
read_fits nodes faults shape sound number lines (Ok script) is =
    rw is at (script_fits nodes faults shape sound number lines)
read_fits nodes faults shape sound number lines (Err e) is = tt

-- and one of version 1 has no further era
pub read_has_eras : (nodes faults : ℕ) (shape : Shape) → IsShape shape
    → (number : ℕ) (lines : List (List ℕ)) (r : Result Script (PartError Rule))
    → IsAnswerFor nodes faults shape number lines r
    → IfOk r (λ script. script.version ≡ 1 → script.eras ≡ [])
read_has_eras nodes faults shape sound number lines (Ok script) is =
    rw is at (script_has_eras nodes faults shape sound number lines)
read_has_eras nodes faults shape sound number lines (Err e) is = tt

-- ---- for a plan

-- a script for a plan's nodes is one for the plan
pub for_plan : (plan : Plan) (shape : Shape) (s : Script)
    → IsScriptFor (plan_nodes plan) (plan_faults plan) shape s → IsScriptForPlan plan shape s
for_plan plan shape s is = record {
  nodes = is.nodes;
  states = is.states;
  borne = All-weaker (IsTolerated (plan_nodes plan) (plan_faults plan)) (IsToleratedBy plan)
      (λ ids set. record { rising = set.rising; ids = set.ids; few = set.few }) (faulty_sets s)
      is.borne;
}

pub script_is_for : (plan : Plan) (shape : Shape) → IsShape shape
    → (number : ℕ) (lines : List (List ℕ)) → IfOk (script_of plan shape number lines)
    (IsScriptForPlan plan shape)
script_is_for plan shape sound number lines =
    elim_ok (script_of plan shape number lines)
    (script_fits (plan_nodes plan) (plan_faults plan) shape sound number lines)
    (for_plan plan shape)

pub read_is_for : (plan : Plan) (shape : Shape) (r : Result Script (PartError Rule))
    → IfOk r (IsScriptFor (plan_nodes plan) (plan_faults plan) shape)
    → IfOk r (IsScriptForPlan plan shape)
read_is_for plan shape (Ok script) is = for_plan plan shape script is
read_is_for plan shape (Err e) is = tt
