-- The plan and the pairs that are defined for wants are the least ones.
use Rattle.std.proofs.Common.{◌≡◌, ℕ, zero, suc, ◌+◌, ◌*◌, ◌/◌, ◌^◌, ◌<◌, ◌≤◌, List, ◌++◌, length}
use Rattle.std.proofs.Common.{Bool, true, refl, sym, ap, ◌∙◌, subst, append-nil, add-one, arith}
use Rattle.std.specs.Prelude.{Option, Some, None, Result, Ok, Err, IfOk}
use Rattle.std.specs.Option.{option_map}
use Rattle.std.specs.List.{flat_map, filter, range_with_len}
use Rattle.std.proofs.lemmas.List.{append_assoc}
use Rattle.texts.specs.Lines.{lines_of}
use Rattle.texts.specs.Parts.{Found, At, with_skips, part_from}
use Rattle.sync_types.specs.declared.answers.Rule.{Rule}
use Rattle.sync_types.specs.declared.answers.Rule.TheVariants.{Form}
use Rattle.plan_reader.specs.Skipped.{first_unskipped}
use Rattle.construction.specs.Plans.{Level, nodes_of}
use Rattle.plan_numbers.proofs.Spans.{depth_most}
use Rattle.plan_finder.specs.declared.want_lines.FindStage.TheVariants.{Unread}
use Rattle.plan_finder.specs.declared.wants.Want.{Want}
use Rattle.plan_finder.specs.declared.pots.Pot.{Pot}
use Rattle.plan_finder.specs.declared.best.Best.{Best}
use Rattle.plan_finder.specs.Steps.{IsPath}
use Rattle.plan_finder.specs.Orders.{IsLess, rank_of}
use Rattle.plan_finder.specs.Costs.{Reaches, AreLeastCosts}
use Rattle.plan_finder.specs.Best.{levels_in, IsBestOf, HasFaults, AreCostsBefore}
use Rattle.plan_finder.specs.Building.{plan_with, IsBuilt}
use Rattle.plan_finder.specs.FindPart.{find_step, unless_followed, alone, want_of, IsFit}
use Rattle.plan_finder.specs.FindLaws.{IsAnswerFor, FindsLeast}
use Rattle.plan_finder.specs.Least.{all_levels, least_levels, has_faults, reaches, find_plan}
use Rattle.plan_finder.specs.Least.{pots_at, pot_if, costs_of}
use Rattle.plan_finder.proofs.Sets.{path_deep, path_few}
use Rattle.plan_finder.proofs.Members.{IsIn, in_filter, from_filter}
use Rattle.plan_finder.proofs.AllLevels.{IsPlain, AreFew, in_all, few_path, from_all}
use Rattle.plan_finder.proofs.Enumerated.{IsLeastIn, least_is}
use Rattle.plan_finder.proofs.Enumerated.{in_set_of, faults_yes, faults_from, reaches_yes}
use Rattle.plan_finder.proofs.Enumerated.{reaches_from, row_push, rows_push, rows_before}
use Rattle.plan_finder.proofs.PlainLevels.{plain_of, is_plain, nodes_plain, faults_plain}
use Rattle.plan_finder.proofs.PlainLevels.{rank_plain, path_plain, best_from, levels_from}
use Rattle.plan_finder.proofs.PlainLevels.{kept_from, path_accepted}
use Rattle.plan_finder.proofs.Answered.{plan_for, costs_pass}
use Rattle.plan_finder.proofs.FitWants.{part_fits}
use Rattle.plan_finder.proofs.Gathered.{costs_none, costs_skip, costs_push, costs_row, costs_end}

-- ---- the least of all levels is the best of a set

module _ (most : ℕ) (some : 1 ≤ most) (limit : most ≤ 256) (set : List Level → Type 0)
    (test : List Level → Bool)
    (path : (levels : List Level) → set levels → IsPath most levels)
    (holds : (levels : List Level) → set levels → test levels ≡ true)
    (from : (levels : List Level) → IsPlain levels → AreFew levels → test levels ≡ true
    → set levels)
    (plainly : (levels : List Level) → set levels → set (plain_of levels)) where
  deep : (levels : List Level) → set levels → length levels ≤ 5
  deep levels in_set =
      let is : IsPath most levels = path levels in_set in
      depth_most (length levels) (nodes_of levels) (path_deep most levels is)
      (omega (arith, path_few most levels some is, limit))

  listed : (levels : List Level) → set levels → IsPlain levels
      → IsIn levels (filter test (all_levels 5))
  listed levels in_set plain =
      in_filter test levels (all_levels 5) (holds levels in_set)
      (in_all 5 levels plain (few_path most levels (path levels in_set)) (deep levels in_set))

  best_is : (o : Option (List Level)) → IsLeastIn (filter test (all_levels 5)) o
      → IsBestOf set (option_map best_from o)
  best_is None none =
      λ other in_set. none (plain_of other)
      (listed (plain_of other) (plainly other in_set) (is_plain other))
  best_is (Some levels) (is, least) =
      let in_set : set levels = in_set_of most some limit set test path holds from levels is in
      let parts = from_filter test levels (all_levels 5) is in
      let plain : IsPlain levels = (from_all 5 levels parts.1).0 in
      let same : levels_in (best_from levels) ≡ levels = levels_from levels plain in
      record {
        kept = kept_from levels plain (deep levels in_set);
        member = subst set (sym same) in_set;
        least = λ other other_in less.
            least (plain_of other)
            (listed (plain_of other) (plainly other other_in) (is_plain other))
            (subst (λ r. IsLess r (rank_of levels))
            (sym (rank_plain most other (path other other_in)))
            (subst (λ ls. IsLess (rank_of other) (rank_of ls)) same less));
      }

  pub best_of_all : IsBestOf set (option_map best_from (least_levels test))
  best_of_all = best_is (least_levels test) (least_is (filter test (all_levels 5)))

module _ (most : ℕ) (some : 1 ≤ most) (limit : most ≤ 256) where
  -- ---- the plan

  module _ (f : ℕ) where
    abbrev with_faults : List Level → Type 0
    with_faults = HasFaults most f (most + 1)

    faults_plainly : (levels : List Level) → with_faults levels → with_faults (plain_of levels)
    faults_plainly levels has = record {
      path = path_plain most levels has.path;
      faults = faults_plain levels ∙ has.faults;
      nodes = omega (arith, nodes_plain most levels has.path, has.nodes);
    }

    best_plan : IsBestOf with_faults (option_map best_from (least_levels (has_faults most f)))
    best_plan = best_of_all most some limit with_faults (has_faults most f) (λ levels has. has.path)
        (faults_yes most some limit f) (faults_from most some limit f) faults_plainly

    built_by : (c : ℕ) → 2 ≤ c → c ≤ 2 ^ 40 → (o : Option (List Level))
        → IsLeastIn (filter (has_faults most f) (all_levels 5)) o
        → IsBestOf with_faults (option_map best_from o)
        → IsBuilt c (option_map best_from o) (option_map (plan_with c) o)
    built_by c least_c most_c None none is = refl
    built_by c least_c most_c (Some levels) (there, least) is =
        let parts = from_filter (has_faults most f) levels (all_levels 5) there in
        let plain : IsPlain levels = (from_all 5 levels parts.1).0 in (
          ap (λ ls. Some (plan_with c ls)) (sym (levels_from levels plain)),
          path_accepted most limit c (levels_in (best_from levels)) least_c most_c is.member.path,
        )

    pub built : (c : ℕ) → 2 ≤ c → c ≤ 2 ^ 40
        → IsBuilt c (option_map best_from (least_levels (has_faults most f))) (find_plan f c most)
    built c least_c most_c =
        built_by c least_c most_c (least_levels (has_faults most f))
        (least_is (filter (has_faults most f) (all_levels 5))) best_plan

  -- ---- the costs

  module _ (n f : ℕ) where
    reaches_plainly : (levels : List Level) → Reaches most n f levels
        → Reaches most n f (plain_of levels)
    reaches_plainly levels has = record {
      path = path_plain most levels has.path;
      nodes = nodes_plain most levels has.path ∙ has.nodes;
      faults = faults_plain levels ∙ has.faults;
    }

    best_pair : IsBestOf (Reaches most n f) (option_map best_from (least_levels (reaches most n f)))
    best_pair = best_of_all most some limit (Reaches most n f) (reaches most n f)
        (λ levels has. has.path) (reaches_yes most some limit n f)
        (reaches_from most some limit n f)
        reaches_plainly

    pair_by : (pots : List Pot) (o : Option (List Level))
        → IsBestOf (Reaches most n f) (option_map best_from o)
        → AreCostsBefore most n f pots → AreCostsBefore most n (f + 1) (pots ++ pot_if n f o)
    pair_by pots None none are =
        subst (AreCostsBefore most n (f + 1)) (sym (append-nil pots))
        (costs_skip most n f pots are none)
    pair_by pots (Some levels) is are = costs_push most n f pots are (best_from levels) is

    pair_more : (pots : List Pot) → AreCostsBefore most n f pots
        → AreCostsBefore most n (f + 1) (pots ++ pots_at most n f)
    pair_more pots = pair_by pots (least_levels (reaches most n f)) best_pair

  module _ (width : ℕ) (wide : most < 3 * width) where
    -- the pairs of a row before number f
    row_is : (n : ℕ) → AreCostsBefore most n 0 (rows_before most width n) → (f : ℕ)
        → AreCostsBefore most n f
        (rows_before most width n ++ flat_map (pots_at most n) (range_with_len 0 f))
    row_is n are zero =
        subst (AreCostsBefore most n 0) (sym (append-nil (rows_before most width n))) are
    row_is n are (suc f) =
        let rows = rows_before most width n in
        let row = flat_map (pots_at most n) (range_with_len 0 f) in
        let more : (rows ++ row) ++ pots_at most n f
        ≡ rows ++ flat_map (pots_at most n) (range_with_len 0 (f + 1)) =
        append_assoc rows row (pots_at most n f)
        ∙ ap (λ xs. rows ++ xs) (sym (row_push most n f)) in
        subst
        (λ g. AreCostsBefore most n g (rows ++ flat_map (pots_at most n) (range_with_len 0 g)))
        (add-one f)
        (subst (AreCostsBefore most n (f + 1)) more
        (pair_more n f (rows ++ row) (row_is n are f)))

    -- the pairs of all rows before number n
    rows_are : (n : ℕ) → AreCostsBefore most n 0 (rows_before most width n)
    rows_are zero = costs_none most
    rows_are (suc n) =
        let rows = rows_before most width n in
        let row = flat_map (pots_at most n) (range_with_len 0 width) in
        subst (λ m. AreCostsBefore most m 0 (rows_before most width m)) (add-one n)
        (subst (AreCostsBefore most (n + 1) 0) (sym (rows_push most width n))
        (costs_row most n width (rows ++ row) some wide (row_is n (rows_are n) width)))

  pub costs_least : AreLeastCosts most (costs_of most)
  costs_least =
      let width : ℕ = most / 3 + 1 in
      costs_end most (costs_of most) some (rows_are width (omega arith) (most + 1))

-- ---- the answer to wants

answer_for : (want : Want) → IsFit want
    → IsAnswerFor want (find_plan want.faults want.modulus want.most) (costs_of want.most)
answer_for want fit =
    let f = want.faults in
    let c = want.modulus in
    let most = want.most in
    let best : Option Best = option_map best_from (least_levels (has_faults most f)) in
    let is = best_plan most fit.some fit.most f in
    let plan = built most fit.some fit.most f c fit.least_modulus fit.most_modulus in
    let costs = costs_least most fit.some fit.most in
    record {
      least = plan_for f c most best (find_plan f c most) is plan;
      costs = costs;
      passes = costs_pass most fit.some (costs_of most) costs f c best (find_plan f c most) is plan;
    }

-- the wants of a part fit, and so do those of a whole input
followed_fits : (number : Option ℕ) (want : Want) → IsFit want
    → IfOk (unless_followed number want) IsFit
followed_fits None want fit = fit
followed_fits (Some number) want fit = tt

alone_fits : (read : Result (Found Want) (At Rule)) → IfOk read (λ found. IsFit found.value)
    → IfOk (alone read) IsFit
alone_fits (Ok found) fit =
    followed_fits (first_unskipped (1 + found.taken) found.behind) found.value fit
alone_fits (Err refusal) fit = tt

found_fits : (read : Result (Found Want) (At Rule))
    → ((found : Found Want) → read ≡ Ok found → IsFit found.value)
    → IfOk read (λ found. IsFit found.value)
found_fits (Ok found) fit = fit found refl
found_fits (Err refusal) fit = tt

wants_fit : (input : List ℕ) → IfOk (want_of input) IsFit
wants_fit input =
    let read = part_from (with_skips find_step Form) Form Unread 0 1 (lines_of input) in
    alone_fits read (found_fits read (λ found. part_fits Unread 0 1 (lines_of input) found tt))

answered : (read : Result Want (At Rule)) → IfOk read IsFit
    → IfOk read (λ want. IsAnswerFor want (find_plan want.faults want.modulus want.most)
    (costs_of want.most))
answered (Ok want) fit = answer_for want fit
answered (Err refusal) fit = tt

pub finds_least : FindsLeast
finds_least input = answered (want_of input) (wants_fit input)
