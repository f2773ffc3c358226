-- In a certificate that is true, the rows of a stretch count.
use Rattle.std.proofs.Common.{◌≡◌, ℕ, zero, suc, ◌+◌, ◌<◌, ◌≤◌, Bool, true, false, cond, eqb, not}
use Rattle.std.proofs.Common.{List, [], ◌∷◌, ◌++◌, length, map, get_or, Option, Some, None, refl}
use Rattle.std.proofs.Common.{sym, ap, subst, ◌∙◌, arith}
use Rattle.std.specs.Prelude.{IfSome}
use Rattle.std.specs.Option.{option_eq}
use Rattle.std.specs.List.{range_with_len}
use Rattle.std.proofs.lemmas.Bool.{and_parts, eqb-true}
use Rattle.std.proofs.lemmas.List.{length-map, length-append, get_or-map, same_lists}
use Rattle.std.proofs.lemmas.List.FromFn.{length-map-range_with_len, get_or-map-range_with_len}
use Rattle.sync_types.specs.States.{State}
use Rattle.construction.specs.Plans.{Plan, plan_nodes, plan_bound, plan_depth}
use Rattle.construction.specs.Shown.{shown}
use Rattle.construction.specs.Steps.{state_of}
use Rattle.construction.specs.Runs.{is_in, IsToleratedBy, AllShow, Run, CountsFrom, configuration}
use Rattle.plan_laws.specs.Laws.{EveryPlanSettles}
use Rattle.run_checker.specs.declared.Verdict.TheVariants as verdict
use Rattle.run_checker.specs.Certificates.{Era, Turn, Certificate}
use Rattle.run_checker.specs.Grammar.{IsCertificate, AreTurns, IsEra, faulty_behind}
use Rattle.run_checker.specs.Stated.{Snapshot, stand_behind, first_stand, stands_behind, stated}
use Rattle.run_checker.specs.Stated.{shown_row, rows_of, same_rows, differences, first_from}
use Rattle.run_checker.specs.Stated.{first_difference, verdict_by, verdict_of}
use Rattle.run_checker.specs.Laws.{AreQuiet, stand_after, StretchCountsFrom, TrueRowsCount}
use Rattle.run_checker.proofs.StatedRuns.{stretches_are_runs}

-- ---- rows are what is shown

some_same : (x y : Option ℕ) → option_eq (λ a b. eqb a b) x y ≡ true → x ≡ y
some_same None None e = refl
some_same None (Some b) e = absurd cc
some_same (Some a) None e = absurd cc
some_same (Some a) (Some b) e = ap Some (eqb-true a b e)

rows_same : (xs ys : List (Option ℕ)) → same_rows xs ys ≡ true → xs ≡ ys
rows_same [] [] e = refl
rows_same [] (y ∷ ys) e = absurd cc
rows_same (x ∷ xs) [] e = absurd cc
rows_same (x ∷ xs) (y ∷ ys) e =
    let p = and_parts _ _ e in
    ap (λ z. z ∷ xs) (some_same x y p.0) ∙ ap (λ zs. y ∷ zs) (rows_same xs ys p.1)

head_none : (same : Bool) (n : ℕ) (more : Option ℕ) → cond (not same) (Some n) more ≡ None
    → (same ≡ true) × (more ≡ None)
head_none true n more e = (refl, e)
head_none false n more e = absurd cc

none_differs : (plan : Plan) (rows : List (List (Option ℕ))) (stands : List Snapshot) (n : ℕ)
    → length rows ≡ length stands
    → first_from (λ b. b) n (differences plan rows stands) ≡ None
    → rows ≡ map (shown_row plan) stands
none_differs plan [] [] n size e = refl
none_differs plan [] (s ∷ ss) n size e = absurd (omega (arith, size))
none_differs plan (r ∷ rs) [] n size e = absurd (omega (arith, size))
none_differs plan (r ∷ rs) (s ∷ ss) n size e =
    let p = head_none (same_rows r (shown_row plan s)) n
    (first_from (λ b. b) (n + 1) (differences plan rs ss)) e in
    ap (λ x. x ∷ rs) (rows_same r (shown_row plan s) p.0)
    ∙ ap (λ xs. shown_row plan s ∷ xs) (none_differs plan rs ss (n + 1) (omega (arith, size)) p.1)

true_none : (d : Option ℕ) (rows : ℕ) (l : Option ℕ) (n : ℕ) (m : Option ℕ)
    → verdict_by d rows l ≡ verdict.True n m → d ≡ None
true_none None rows l n m e = refl
true_none (Some t) rows l n m e = absurd cc

pub count_stands : (plan : Plan) (stand : Snapshot) (turns : List Turn)
    → length (stands_behind plan stand turns) ≡ length turns
count_stands plan stand [] = refl
count_stands plan stand (turn ∷ turns) =
    ap suc (count_stands plan (stand_behind plan stand turn) turns)

all_shown : (c : Certificate) (n : ℕ) (m : Option ℕ) → verdict_of c ≡ verdict.True n m
    → rows_of c ≡ map (shown_row c.plan) (stated c)
all_shown c n m e =
    none_differs c.plan (rows_of c) (stated c) 0
    (ap suc
    (length-map c.turns (λ (turn : Turn). turn.row)
    ∙ sym (count_stands c.plan (first_stand c) c.turns)))
    (true_none (first_difference c) _ _ n m e)

-- ---- the configurations of a stretch

after_at : (plan : Plan) (stand : Snapshot) (before rest : List Turn) (i : ℕ) (d : Snapshot)
    → get_or (stand ∷ stands_behind plan stand (before ++ rest)) (length before + i) d
    ≡ get_or
    (stand_after plan stand before ∷ stands_behind plan (stand_after plan stand before) rest) i
    d
after_at plan stand [] rest i d = let same : 0 + i ≡ i = omega arith in rw same refl
after_at plan stand (turn ∷ before) rest i d =
    let same : length (turn ∷ before) + i ≡ suc (length before + i) = omega arith in
    rw same (after_at plan (stand_behind plan stand turn) before rest i d)

within_at : (plan : Plan) (stand : Snapshot) (stretch after : List Turn) (i : ℕ) (d : Snapshot)
    → i ≤ length stretch
    → get_or (stand ∷ stands_behind plan stand (stretch ++ after)) i d
    ≡ get_or (stand ∷ stands_behind plan stand stretch) i d
within_at plan stand stretch after zero d le = refl
within_at plan stand [] after (suc i) d le = absurd (omega arith)
within_at plan stand (turn ∷ stretch) after (suc i) d le =
    within_at plan (stand_behind plan stand turn) stretch after i d (omega arith)

-- in a stretch the faulty nodes stay
pub quiet_faulty : (plan : Plan) (stand : Snapshot) (stretch : List Turn) (i : ℕ) (d : Snapshot)
    → AreQuiet stretch → i ≤ length stretch
    → (get_or (stand ∷ stands_behind plan stand stretch) i d).faulty ≡ stand.faulty
quiet_faulty plan stand stretch zero d quiet le = refl
quiet_faulty plan stand [] (suc i) d quiet le = absurd (omega arith)
quiet_faulty plan stand (turn ∷ stretch) (suc i) d quiet le =
    let none : turn.era ≡ None = quiet 0 turn (omega arith) in
    quiet_faulty plan (stand_behind plan stand turn) stretch i d
    (λ k e lt. let up = quiet (suc k) e (omega arith) in up) (omega arith)
    ∙ ap (faulty_behind stand.faulty) none

borne_behind : (plan : Plan) (faulty : List ℕ) (era : Option Era) → IsToleratedBy plan faulty
    → IfSome era (IsEra plan faulty)
    → IsToleratedBy plan (faulty_behind faulty era)
borne_behind plan faulty None borne is = borne
borne_behind plan faulty (Some era) borne is = is.borne

borne_after : (plan : Plan) (before rest : List Turn) (stand : Snapshot)
    → IsToleratedBy plan stand.faulty
    → AreTurns plan stand.faulty (before ++ rest)
    → IsToleratedBy plan (stand_after plan stand before).faulty
borne_after plan [] rest stand borne are = borne
borne_after plan (turn ∷ before) rest stand borne are =
    borne_after plan before rest (stand_behind plan stand turn)
    (borne_behind plan stand.faulty turn.era borne are.0.era) are.1

same_word : (liar : Bool) (o p : ℕ) → (liar ≡ false → o ≡ p)
    → cond liar None (Some o) ≡ cond liar None (Some p)
same_word true o p h = refl
same_word false o p h = ap Some (h refl)

row_of_one : (plan : Plan) (faulty : List ℕ) (stand : Snapshot) (o : ℕ) → stand.faulty ≡ faulty
    → AllShow plan faulty stand.config o
    → shown_row plan stand
    ≡ map (λ v. cond (is_in faulty v) None (Some o)) (range_with_len 0 (plan_nodes plan))
row_of_one plan faulty stand o same all =
    let word : ℕ
    → Option ℕ = λ v. cond (is_in stand.faulty v) None
    (Some (shown (plan_depth plan) (state_of stand.config v))) in
    let one : ℕ → Option ℕ = λ v. cond (is_in faulty v) None (Some o) in
    let n = plan_nodes plan in
    same_lists _ _ (length-map-range_with_len word 0 n ∙ sym (length-map-range_with_len one 0 n))
    (λ v d l.
    let lt : v < n = omega (arith, length-map-range_with_len word 0 n) in
    get_or-map-range_with_len word 0 n v v d lt (omega arith)
    ∙ ap (λ f. cond (is_in f v) None (Some (shown (plan_depth plan) (state_of stand.config v))))
    same
    ∙ same_word (is_in faulty v) _ o (λ free. all v lt free)
    ∙ sym (get_or-map-range_with_len one 0 n v v d lt (omega arith)))

-- ---- a stretch of a true certificate counts from where its run does

module _ (c : Certificate) (is : IsCertificate c) (rows : ℕ) (locked : Option ℕ)
    (true_is : verdict_of c ≡ verdict.True rows locked) (before stretch after : List Turn)
    (parts : c.turns ≡ before ++ (stretch ++ after)) (quiet : AreQuiet stretch) where
  abbrev pub stand : Snapshot
  stand = stand_after c.plan (first_stand c) before

  abbrev pub stands : List Snapshot
  stands = stand ∷ stands_behind c.plan stand stretch

  abbrev pub configs : List (List State)
  configs = map (λ (s : Snapshot). s.config) stands

  pub run : Run c.plan stand.faulty configs
  run = stretches_are_runs c is before stretch after parts quiet

  pub borne : IsToleratedBy c.plan stand.faulty
  borne = borne_after c.plan before (stretch ++ after) (first_stand c) is.borne
      (subst (AreTurns c.plan c.faulty) parts is.turns)

  pub size : length configs ≡ length stretch + 1
  size = length-map stands (λ (s : Snapshot). s.config)
      ∙ ap suc (count_stands c.plan stand stretch) ∙ omega arith

  length_parts : length before + length stretch ≤ length (before ++ (stretch ++ after))
  length_parts = omega (arith, length-append before (stretch ++ after), length-append stretch after)

  pub inside : (i : ℕ) → i ≤ length stretch → length before + i < length (stated c)
  inside i high = omega (
    arith,
    high,
    count_stands c.plan (first_stand c) c.turns,
    ap length parts,
    length_parts,
  )

  -- configuration i of the stretch, among all
  pub stand_is : (i : ℕ) → i ≤ length stretch
      → get_or (stated c) (length before + i) (first_stand c) ≡ get_or stands i (first_stand c)
  stand_is i high =
      let first = first_stand c in
      ap (λ ts. get_or (first ∷ stands_behind c.plan first ts) (length before + i) first) parts
      ∙ after_at c.plan first before (stretch ++ after) i first
      ∙ within_at c.plan stand stretch after i first high

  pub config_is : (i : ℕ) → i ≤ length stretch
      → configuration configs i ≡ (get_or stands i (first_stand c)).config
  config_is i high =
      get_or-map (λ (s : Snapshot). s.config) stands i (first_stand c) []
      (omega (arith, high, count_stands c.plan stand stretch))

  pub rows_count : (from : ℕ) → CountsFrom c.plan stand.faulty configs from
      → StretchCountsFrom c before stretch from
  rows_count from counts = record {
    output = counts.output;
    shows = λ i low high.
        let first = first_stand c in
        let all : AllShow c.plan stand.faulty (configuration configs i) (counts.output i) =
        counts.shows i low (omega (arith, size, high)) in
        ap (λ rs. get_or rs (length before + i) []) (all_shown c rows locked true_is)
        ∙ get_or-map (shown_row c.plan) (stated c) (length before + i) first [] (inside i high)
        ∙ ap (shown_row c.plan) (stand_is i high)
        ∙ row_of_one c.plan stand.faulty (get_or stands i first) (counts.output i)
        (quiet_faulty c.plan stand stretch i first quiet high)
        (subst (λ config. AllShow c.plan stand.faulty config (counts.output i))
        (config_is i high) all);
    grows = λ i low high. counts.grows i low (omega (arith, size, high));
  }

pub true_rows_count : EveryPlanSettles → TrueRowsCount
true_rows_count settle c is rows locked true_is before stretch after parts quiet =
    rows_count c is rows locked true_is before stretch after parts quiet (plan_bound c.plan)
    (settle c.plan is.accepted _ _
    (borne c is rows locked true_is before stretch after parts quiet)
    (run c is rows locked true_is before stretch after parts quiet))
