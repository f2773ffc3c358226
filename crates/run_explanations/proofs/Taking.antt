-- A runner's configuration is taken by a search.
use Rattle.std.proofs.Common.{◌≡◌, ℕ, ◌+◌, ◌-◌, ◌<◌, ◌≤◌, Bool, true, false, suc, ◌*◌, Option, Some}
use Rattle.std.proofs.Common.{None, List, length, add-one, sym, ap, ap₂, ◌∙◌, if◌then◌else◌, subst}
use Rattle.std.proofs.Common.{arith}
use Rattle.sync_types.specs.FaultSets.{FaultIds}
use Rattle.sync_types.specs.States.{State}
use Rattle.construction.specs.Plans.{Plan, plan_depth, plan_nodes}
use Rattle.construction.specs.Runs.{is_in}
use Rattle.counter_core.specs.declared.overlays.NoOverlay.{NoOverlay}
use Rattle.adversary_script.specs.Scripts.{Script, IsScript}
use Rattle.adversary_script.specs.Eras.{faulty_of_era, first_of_era}
use Rattle.round_runner.specs.Played.{played_at}
use Rattle.round_runner.specs.Runners.{Running}
use Rattle.round_runner.specs.Skipping.{IsSkipped}
use Rattle.machine_runner.proofs.Firsts.{era_some, end_within}
use Rattle.run_explanations.specs.declared.explaining.Search.{Search}
use Rattle.run_explanations.specs.declared.explanations.Explanation.{Explanation}
use Rattle.run_explanations.specs.declared.searching.LeaderStreak.{LeaderStreak}
use Rattle.run_explanations.specs.declared.seeing.Observation.{Observation}
use Rattle.run_explanations.specs.declared.tops.Top.{Top}
use Rattle.run_explanations.specs.Explanations.{era_begin, is_faulty, outputs_in, seen_at}
use Rattle.run_explanations.specs.Explanations.{explanation_of}
use Rattle.run_explanations.specs.Playing.{Plays, IsToPlay, IsToRead, IsFound, IsRead, HasPlayed}
use Rattle.run_explanations.specs.Playing.{taken}
use Rattle.run_explanations.specs.Searching.{goes_on, stretched, stretch_before, first_or}
use Rattle.run_explanations.specs.Searching.{explained_from, found_before}
use Rattle.run_explanations.specs.Seeing.{seen_in}
use Rattle.run_explanations.specs.Tops.{IsTop, top_of}
use Rattle.run_explanations.proofs.SeenShown.{seen_shows}
use Rattle.run_explanations.proofs.TopNumbers.{top_nodes}
use Rattle.run_explanations.proofs.Windows.{begun, count_most}

-- the faulty nodes of the last era, as a script lends them
pub ids_are : (lent : FaultIds) (script : Script) (n : ℕ)
    → lent ≡ record { nodes = script.nodes; ids = faulty_of_era script (n - 1) }
    → n ≡ length script.eras + 1 → lent.ids ≡ faulty_of_era script (length script.eras)
ids_are lent script n is count =
    let last : n - 1 ≡ length script.eras = omega (arith, count) in
    ap (λ (s : FaultIds). s.ids) is ∙ ap (faulty_of_era script) last

-- and its first configuration
pub begin_is : (from : ℕ) (script : Script) (n : ℕ) → from ≡ first_of_era script (n - 1)
    → n ≡ length script.eras + 1 → from ≡ era_begin script
begin_is from script n is count =
    let last : n - 1 ≡ length script.eras = omega (arith, count) in
    is ∙ ap (first_of_era script) last

-- which is played
pub begin_within : (script : Script) → IsScript script → era_begin script ≤ script.rounds
begin_within script whole =
    end_within script whole (length script.eras) (era_begin script) (omega arith)
    (era_some script whole (length script.eras) (omega arith))

-- the part that is seen is one of the beat
pub part_small : (plan : Plan) (script : Script) (top : Top) → IsTop top → top ≡ top_of plan
    → (c : ℕ) (seen : Observation) → seen_at plan script c ≡ Some seen → seen.part < top.beat
part_small plan script top is same c seen e =
    (seen_shows top (is_faulty script) (outputs_in (plan_depth plan - 1) (played_at plan script c))
    is seen
    (ap
    (λ (t : Top). seen_in t (is_faulty script)
    (outputs_in (plan_depth plan - 1) (played_at plan script c)))
    same
    ∙ e)).below

-- ---- a runner that goes on

-- what was skipped was played
pub skipped_plays : (start r : Running NoOverlay) (c d : ℕ) → c ≡ d → IsSkipped start c r
    → Plays r → HasPlayed start d r
skipped_plays start r c d same skipped plays = record {
  plan = skipped.plan;
  script = skipped.script;
  at = skipped.at ∙ same;
  plays = plays;
}

-- a runner of a plan is read by the numbers of its top level
pub read_begin : (plan : Plan) (top : Top) (r : Running NoOverlay) → IsToPlay plan r
    → 1 ≤ plan_depth plan → IsTop top → top ≡ top_of plan → IsToRead top r
read_begin plan top r start level small same =
    let at = start.at in
    record {
      read = record {
        reads = record {
          top_is = small;
          depth = subst (λ (p : Plan). 1 ≤ plan_depth p) (sym start.plan_is) level;
          nodes = subst (λ (p : Plan). top.blocks * top.nodes ≤ plan_nodes p) (sym start.plan_is)
              (subst (λ (t : Top). t.blocks * t.nodes ≤ plan_nodes plan) (sym same)
              (top_nodes plan));
        };
        top_is = same ∙ ap top_of (sym start.plan_is);
        plays = start.plays;
        within = omega (arith, at);
      };
      at = start.at;
    }

-- a runner that goes on is read as before
pub read_on : (top : Top) (start r : Running NoOverlay) (c : ℕ) → IsRead top start
    → HasPlayed start c r → c ≤ start.script.rounds → IsRead top r
read_on top start r c read played le =
    let rounds = ap (λ (s : Script). s.rounds) played.script in
    let at = played.at in
    record {
      reads = record {
        top_is = read.reads.top_is;
        depth = subst (λ (p : Plan). 1 ≤ plan_depth p) (sym played.plan) read.reads.depth;
        nodes = subst (λ (p : Plan). top.blocks * top.nodes ≤ plan_nodes p) (sym played.plan)
            read.reads.nodes;
      };
      top_is = read.top_is ∙ ap top_of (sym played.plan);
      plays = played.plays;
      within = omega (arith, at, le, rounds);
    }

-- what is seen in the runner's configuration
pub seen_is : (top : Top) (r : Running NoOverlay) → IsRead top r
    → (ids : List ℕ) (seen : Option Observation)
    → seen ≡ seen_in top (is_in ids) (outputs_in (plan_depth r.plan - 1) r.states)
    → ids ≡ faulty_of_era r.script (length r.script.eras)
    → r.states ≡ played_at r.plan r.script r.at → seen ≡ seen_at r.plan r.script r.at
seen_is top r read ids seen is faulty states =
    is
    ∙ (ap
    (λ (ids : List ℕ). seen_in top (is_in ids) (outputs_in (plan_depth r.plan - 1) r.states))
    faulty
    ∙
    (ap
    (λ (config : List State). seen_in top (is_faulty r.script)
    (outputs_in (plan_depth r.plan - 1) config))
    states
    ∙ ap
    (λ (t : Top). seen_in t (is_faulty r.script)
    (outputs_in (plan_depth r.plan - 1) (played_at r.plan r.script r.at)))
    read.top_is))

-- one more configuration makes a stretch longer by one at most
longer_by : (s : LeaderStreak) (b : Bool) → (if b then s.count + 1 else 1) ≤ s.count + 1
longer_by s true = omega arith
longer_by s false = omega arith

pub stretched_most : (beat : ℕ) (s : LeaderStreak) (o : Option Observation)
    → (stretched beat s o).count ≤ s.count + 1
stretched_most beat s None = omega arith
stretched_most beat s (Some now) = longer_by s (goes_on beat s.seen now)

-- ---- what is taken

module _ (top : Top) (plan : Plan) (script : Script) (c : ℕ) (search : Search) (s : LeaderStreak)
    (is : s ≡ stretched top.beat search.stretch (seen_at plan script c)) where
  abbrev new_in : LeaderStreak → Option Explanation
  new_in s = explained_from top.beat (is_faulty script) script.rounds c s.count s.seen

  abbrev made : LeaderStreak → Option Explanation → Search
  made s o = record { stretch = s; found = o }

  pub taken_known : (e : Explanation) → search.found ≡ Some e
      → made s (Some e) ≡ taken top plan script c search
  taken_known e known =
      ap₂ made is (sym (ap (λ (o : Option Explanation).
      first_or o (new_in (stretched top.beat search.stretch (seen_at plan script c)))) known))

  pub taken_new : (o : Option Explanation) (ids : List ℕ) (rounds at : ℕ)
      → search.found ≡ None → ids ≡ faulty_of_era script (length script.eras)
      → rounds ≡ script.rounds → at ≡ c
      → o ≡ explained_from top.beat (is_in ids) rounds at s.count s.seen
      → made s o ≡ taken top plan script c search
  taken_new o ids rounds at none faulty last here new =
      ap₂ made is
      (new ∙ (ap (λ (at : ℕ). explained_from top.beat (is_in ids) rounds at s.count s.seen) here
      ∙
      (ap₂
      (λ (ids : List ℕ) (rounds : ℕ). explained_from top.beat (is_in ids) rounds c s.count
      s.seen)
      faulty last
      ∙ (ap new_in is
      ∙ sym (ap (λ (o : Option Explanation).
      first_or o (new_in (stretched top.beat search.stretch (seen_at plan script c)))) none)))))

-- ---- what was taken before

module _ (top : Top) (from : ℕ) (plan : Plan) (script : Script) where
  abbrev before : ℕ → LeaderStreak
  before c = stretch_before top.beat from (seen_at plan script) c

  abbrev found_to : ℕ → Option Explanation
  found_to c = found_before top.beat (is_faulty script) script.rounds from (seen_at plan script) c

  -- a stretch is no longer than the configurations before
  pub count_now : IsTop top → top ≡ top_of plan → (c : ℕ) (s : LeaderStreak) → s ≡ before c
      → s.count ≤ c
  count_now small same c s is =
      let most = count_most top.beat (seen_at plan script) from
      (part_small plan script top small same) c in
      let count = ap (λ (s : LeaderStreak). s.count) is in
      omega (arith, most, count)

  pub stretch_next : (c : ℕ) (s now : LeaderStreak) → from ≤ c → s ≡ before c
      → now ≡ stretched top.beat s (seen_at plan script c) → now ≡ before (c + 1)
  stretch_next c s now le is more =
      more ∙ (ap (λ (s : LeaderStreak). stretched top.beat s (seen_at plan script c)) is
      ∙ (sym (begun top.beat (seen_at plan script) from c le) ∙ ap before (sym (add-one c))))

  pub found_next : (c : ℕ) (search now : Search) → from ≤ c
      → IsFound top from plan script c search → now ≡ taken top plan script c search
      → IsFound top from plan script (c + 1) now
  found_next c search now le found is =
      let stretch : (taken top plan script c search).stretch ≡ before (suc c) =
      ap (λ (s : LeaderStreak). stretched top.beat s (seen_at plan script c)) found.stretch
      ∙ sym (begun top.beat (seen_at plan script) from c le) in
      record {
        stretch = ap (λ (s : Search). s.stretch) is ∙ (stretch ∙ ap before (sym (add-one c)));
        found = ap (λ (s : Search). s.found) is
            ∙ (ap₂ (λ (o : Option Explanation) (s : LeaderStreak). first_or o
            (explained_from top.beat (is_faulty script) script.rounds c s.count s.seen))
            found.found stretch
            ∙ ap found_to (sym (add-one c)));
      }

-- of a runner that goes on
module _ (top : Top) (from : ℕ) (start r : Running NoOverlay) where
  pub stretch_taken : (c : ℕ) → HasPlayed start c r → from ≤ c → (s now : LeaderStreak)
      → s ≡ stretch_before top.beat from (seen_at start.plan start.script) c
      → now ≡ stretched top.beat s (seen_at r.plan r.script r.at)
      → now ≡ stretch_before top.beat from (seen_at start.plan start.script) (c + 1)
  stretch_taken c played le s now is more =
      stretch_next top from start.plan start.script c s now le is
      (more ∙ ap (λ (o : Option Observation). stretched top.beat s o)
      (ap₂ (λ (p : Plan) (t : Script). seen_at p t r.at) played.plan played.script
      ∙ ap (λ (c : ℕ). seen_at start.plan start.script c) played.at))

  pub search_taken : (search now : Search) → HasPlayed start r.at r → from ≤ r.at
      → IsFound top from start.plan start.script r.at search
      → now ≡ taken top r.plan r.script r.at search
      → IsFound top from start.plan start.script (r.at + 1) now
  search_taken search now played le found is =
      found_next top from start.plan start.script r.at search now le found
      (is ∙ ap₂ (λ (p : Plan) (t : Script). taken top p t r.at search) played.plan played.script)

-- what is found to the end is the explanation
pub value_is : (plan : Plan) (top : Top) (from : ℕ) (r : Running NoOverlay)
    (found : Option Explanation) → r.plan ≡ plan → top ≡ top_of plan → from ≡ era_begin r.script
    → found ≡ found_before top.beat (is_faulty r.script) r.script.rounds from
    (seen_at r.plan r.script) (r.script.rounds + 1)
    → found ≡ explanation_of plan r.script
value_is plan top from r found plan_is top_is begin is =
    is
    ∙
    (ap
    (λ (p : Plan). found_before top.beat (is_faulty r.script) r.script.rounds from
    (seen_at p r.script) (r.script.rounds + 1))
    plan_is
    ∙
    (ap
    (λ (t : Top). found_before t.beat (is_faulty r.script) r.script.rounds from
    (seen_at plan r.script) (r.script.rounds + 1))
    top_is
    ∙ ap
    (λ (from : ℕ). found_before (top_of plan).beat (is_faulty r.script) r.script.rounds from
    (seen_at plan r.script) (r.script.rounds + 1))
    begin))

-- what went on to configuration c, and then skipped to another
pub played_on : (start mid r : Running NoOverlay) (c d : ℕ) → HasPlayed start c mid
    → IsSkipped mid d r → Plays r → HasPlayed start d r
played_on start mid r c d first skipped plays = record {
  plan = skipped.plan ∙ first.plan;
  script = skipped.script ∙ first.script;
  at = skipped.at;
  plays = plays;
}
