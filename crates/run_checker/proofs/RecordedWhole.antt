-- What is recorded of a script is a certificate.
use Rattle.std.proofs.Common.{◌≡◌, ℕ, zero, suc, ◌+◌, ◌^◌, ◌<◌, ◌≤◌, Bool, true, false, cond, not}
use Rattle.std.proofs.Common.{List, [], ◌∷◌, ◌++◌, length, map, reverse, All, Option, Some, None}
use Rattle.std.proofs.Common.{is_some, filter, refl, sym, ap, subst, ◌∙◌, arith}
use Rattle.std.specs.Prelude.{◌==◌}
use Rattle.std.specs.List.{range_with_len}
use Rattle.std.proofs.lemmas.Bool.{eqb-true, eqb-false}
use Rattle.std.proofs.lemmas.List.{length-map}
use Rattle.std.proofs.lemmas.List.Elements.{All-nil, All-cons, All-head, All-tail, All-append}
use Rattle.std.proofs.lemmas.List.Elements.{All-map, All-filter, All-push}
use mathlib.Core.List.{reverse-cons}
use Rattle.std.proofs.lemmas.List.FromFn.{length-range_with_len}
use Rattle.std.proofs.lemmas.List.Sums.{sum_by-cons}
use Rattle.construction.specs.Plans.{Level, Plan, plan_nodes}
use Rattle.construction.specs.Runs.{is_in, IsToleratedBy}
use Rattle.plan_numbers.specs.Premises.{IsAccepted, LevelsAccepted}
use Rattle.state_codec.proofs.Digits.{text_is_taken}
use Rattle.adversary_script.specs.Scripts as scripts
use Rattle.adversary_script.specs.Scripts.{Script, most_rounds}
use Rattle.adversary_script.specs.Eras.{era_of, faulty_at}
use Rattle.round_runner.specs.Laws.{IsReadFor}
use Rattle.round_runner.specs.Locks.{correct_nodes}
use Rattle.machine_runner.proofs.Firsts.{era_within}
use Rattle.run_checker.specs.NodeFields.{fields_of}
use Rattle.run_checker.specs.Items.{HasLine, run_item, base_item, faulty_item, era_item}
use Rattle.run_checker.specs.Items.{end_item, row_item}
use Rattle.run_checker.specs.Certificates.{Turn, level_of, start_of, lie_of, era_items}
use Rattle.run_checker.specs.Certificates.{turns_items, items_of}
use Rattle.run_checker.specs.Grammar.{pairs_of, plan_version, most_eras, era_count}
use Rattle.run_checker.specs.Grammar.{IsCertificate}
use Rattle.run_checker.specs.Recorded.{HasItsEras, RecordsAreTrue, stand_at, put_at, lie_at}
use Rattle.run_checker.specs.Recorded.{is_put, puts_at, era_with, era_at, turn_at}
use Rattle.run_checker.specs.Recorded.{certificate_of}
use Rattle.run_checker.proofs.EraBegins.{same_begun, begins_more, found_faulty}
use Rattle.round_runner.proofs.EraRuns.{played_is}
use Rattle.run_checker.proofs.PlayedStates.{borne_at}
use Rattle.run_checker.proofs.Live.{AreIds, pairs_are_ids, below_range}
use Rattle.run_checker.proofs.RecordedIs.{first_starts, row_is, turns_are}
use Rattle.run_checker.proofs.RecordedLines.{run_line, base_line, levels_lines, faulty_line}
use Rattle.run_checker.proofs.RecordedLines.{era_line, start_line, lie_line, shown_row_line}
use Rattle.run_checker.proofs.RecordedLock.{recorded_verdict}

turned_round : (P : Level → Type 0) (levels : List Level) → All P levels → All P (reverse levels)
turned_round P [] h = All-nil P
turned_round P (level ∷ below) h =
    subst (All P) (sym (reverse-cons level below))
    (All-push P (reverse below) level (turned_round P below (All-tail P level below h))
    (All-head P level below h))

module _ (plan : Plan) (s : Script) (is : IsReadFor plan s) where
  accepted : IsAccepted plan
  accepted = is.accepted

  -- ---- eras are few

  counted : (t : ℕ) (found : Option scripts.Era) → era_at plan s (t + 1) ≡ found
      → cond (is_some (era_with plan s t found)) 1 0 + era_of s t ≤ era_of s (t + 1)
  counted t None e = omega (arith, same_begun t s.eras e)
  counted t (Some era) e = omega (arith, begins_more t s.eras era e)

  count_most : (k t : ℕ)
      → era_count (map (turn_at plan s) (range_with_len t k)) + era_of s t ≤ era_of s (t + k)
  count_most zero t = let same : t + 0 ≡ t = omega arith in rw same (omega arith)
  count_most (suc k) t =
      let same : t + suc k ≡ t + 1 + k = omega arith in
      let rest = map (turn_at plan s) (range_with_len (t + 1) k) in
      rw same (omega (
        arith,
        sum_by-cons (λ (turn : Turn). cond (is_some turn.era) 1 0) (turn_at plan s t) rest,
        counted t (era_at plan s (t + 1)) refl,
        count_most k (t + 1),
      ))

  -- ---- lines

  starts_lines : (t : ℕ) (vs : List ℕ) → All (λ v. v < plan_nodes plan) vs
      → All HasLine (map start_of (map (put_at plan s t) vs))
  starts_lines t [] below = All-nil HasLine
  starts_lines t (v ∷ vs) below =
      All-cons HasLine (start_of (put_at plan s t v)) (map start_of (map (put_at plan s t) vs))
      (start_line plan accepted v _ (All-head (λ v. v < plan_nodes plan) v vs below)
      (text_is_taken (fields_of plan v) _))
      (starts_lines t vs (All-tail (λ v. v < plan_nodes plan) v vs below))

  lies_lines : (t : ℕ) (ps : List (ℕ × ℕ)) → All (AreIds plan) ps
      → All HasLine (map lie_of (map (lie_at plan s t) ps))
  lies_lines t [] ids = All-nil HasLine
  lies_lines t (p ∷ ps) ids =
      let here = All-head (AreIds plan) p ps ids in
      All-cons HasLine (lie_of (lie_at plan s t p)) (map lie_of (map (lie_at plan s t) ps))
      (lie_line plan accepted p.0 p.1 _ here.0 here.1 (text_is_taken (fields_of plan p.0) _))
      (lies_lines t ps (All-tail (AreIds plan) p ps ids))

  chosen : (p : ℕ → Bool)
      → All (λ v. v < plan_nodes plan) (filter p (range_with_len 0 (plan_nodes plan)))
  chosen p =
      All-filter p (λ v. v < plan_nodes plan) (range_with_len 0 (plan_nodes plan))
      (below_range (plan_nodes plan))

  era_lines : (t : ℕ) (found : Option scripts.Era) → t + 1 ≤ most_rounds → era_at plan s (t + 1)
      ≡ found
      → All HasLine (era_items (t + 1) (era_with plan s t found))
  era_lines t None le e = All-nil HasLine
  era_lines t (Some era) le e =
      let same : faulty_at s (t + 1)
      ≡ era.faulty = found_faulty 0 (t + 1) s.faulty s.eras era is.whole.formed.rising e in
      All-cons HasLine (era_item (t + 1) era.faulty) (map start_of (puts_at plan s t))
      (era_line plan accepted (t + 1) era.faulty le
      (subst (IsToleratedBy plan) same (borne_at plan s is (t + 1))))
      (starts_lines (t + 1) (filter (is_put plan s t) (range_with_len 0 (plan_nodes plan)))
      (chosen (is_put plan s t)))

  end_line : HasLine end_item
  end_line = record { words = tt; short = omega arith }

  turns_lines : (k t : ℕ) → t + k ≤ most_rounds
      → All HasLine (turns_items (t + 1) (map (turn_at plan s) (range_with_len t k)))
  turns_lines zero t le = All-cons HasLine end_item [] end_line (All-nil HasLine)
  turns_lines (suc k) t le =
      let turn = turn_at plan s t in
      let rest = turns_items (t + 1 + 1) (map (turn_at plan s) (range_with_len (t + 1) k)) in
      let row = row_item (t + 1) turn.row in
      All-append HasLine (map lie_of turn.lies) (era_items (t + 1) turn.era ++ (row ∷ rest))
      (lies_lines t (pairs_of (plan_nodes plan) (faulty_at s t))
      (pairs_are_ids plan (faulty_at s t) (borne_at plan s is t).ids))
      (All-append HasLine (era_items (t + 1) turn.era) (row ∷ rest)
      (era_lines t (era_at plan s (t + 1)) (omega arith) refl)
      (All-cons HasLine row rest
      (shown_row_line plan accepted (t + 1) (stand_at plan s (t + 1)) (omega arith)
      (played_is plan s is (t + 1)))
      (turns_lines k (t + 1) (omega arith))))

  version_most : (two one : Bool) → cond {A = ℕ} two 3 (cond one 1 2) ≤ 3
  version_most true one = omega arith
  version_most false true = omega arith
  version_most false false = omega arith

  version_least : (two one : Bool) → 1 ≤ cond {A = ℕ} two 3 (cond one 1 2)
  version_least true one = omega arith
  version_least false true = omega arith
  version_least false false = omega arith

  base_small : (base : ℕ) (levels : List Level) → LevelsAccepted base levels → base ≤ 2 ^ 40
  base_small base [] none = grind arith
  base_small base (level ∷ below) h = base_small base below h.0

  all_lines : All HasLine (items_of (certificate_of plan s))
  all_lines =
      let c = certificate_of plan s in
      let first = map start_of c.starts in
      let rows = row_item 0 c.row ∷ turns_items 1 c.turns in
      let states = first ++ rows in
      let levels = map (level_of c.version) (reverse plan.levels) in
      let behind = levels ++ (faulty_item c.faulty ∷ states) in
      let rounds = is.whole.formed.few in
      All-cons HasLine (run_item c.version) (base_item plan.base ∷ behind)
      (run_line c.version (version_most (plan.version == 2) (s.version == 1)))
      (All-cons HasLine (base_item plan.base) behind
      (base_line plan.base (base_small plan.base plan.levels accepted.levels))
      (All-append HasLine levels (faulty_item c.faulty ∷ states)
      (All-map HasLine (level_of c.version) (reverse plan.levels)
      (turned_round (λ level. HasLine (level_of c.version level)) plan.levels
      (levels_lines c.version plan.base plan.levels accepted.levels)))
      (All-cons HasLine (faulty_item c.faulty) states
      (faulty_line plan accepted c.faulty (borne_at plan s is 0))
      (All-append HasLine first rows
      (starts_lines 0 (correct_nodes (plan_nodes plan) (faulty_at s 0))
      (chosen (λ v. not (is_in (faulty_at s 0) v))))
      (All-cons HasLine (row_item 0 c.row) (turns_items 1 c.turns)
      (shown_row_line plan accepted 0 (stand_at plan s 0) (omega arith) (played_is plan s is 0))
      (turns_lines s.rounds 0 (omega (arith, rounds))))))))

  -- ---- the version

  only_one : (version : ℕ) → 1 ≤ version → version ≤ 2 → (version ≡ 2 → ⊥) → version ≡ 1
  only_one zero least most other = absurd (omega arith)
  only_one (suc zero) least most other = refl
  only_one (suc (suc zero)) least most other = absurd (other refl)
  only_one (suc (suc (suc version))) least most other = absurd (omega arith)

  plan_by : (two one : Bool) → (plan.version == 2) ≡ two
      → plan.version ≡ plan_version (cond {A = ℕ} two 3 (cond one 1 2))
  plan_by true one e = eqb-true _ _ e
  plan_by false true e =
      let not_two = eqb-false plan.version 2 e in
      only_one plan.version accepted.oldest accepted.newest not_two
  plan_by false false e =
      let not_two = eqb-false plan.version 2 e in
      only_one plan.version accepted.oldest accepted.newest not_two

  eras_by : (two one : Bool) → HasItsEras s → (s.version == 1) ≡ one
      → era_of s s.rounds ≤ most_eras (cond {A = ℕ} two 3 (cond one 1 2))
  eras_by true one has e =
      let most = is.whole.formed.many in omega (arith, era_within s s.rounds, most)
  eras_by false false has e =
      let most = is.whole.formed.many in omega (arith, era_within s s.rounds, most)
  eras_by false true has e =
      let none : length s.eras ≡ 0 = ap length (has (eqb-true _ _ e)) in
      omega (arith, era_within s s.rounds, none)

  pub is_certificate : HasItsEras s → IsCertificate (certificate_of plan s)
  is_certificate has =
      let c = certificate_of plan s in
      let rounds = is.whole.formed.few in
      let size : length c.turns ≡ s.rounds = length-map (range_with_len 0 s.rounds) (turn_at plan s)
      ∙ length-range_with_len 0 s.rounds in
      let zero_plus : 0 + s.rounds ≡ s.rounds = omega arith in
      let most : era_of s (0 + s.rounds)
      ≤ most_eras c.version = rw zero_plus
      (eras_by (plan.version == 2) (s.version == 1) has refl) in
      record {
        version = (
          version_least (plan.version == 2) (s.version == 1),
          version_most (plan.version == 2) (s.version == 1),
        );
        plan_is = plan_by (plan.version == 2) (s.version == 1) refl;
        accepted = accepted;
        borne = borne_at plan s is 0;
        starts = first_starts plan s is;
        row = row_is plan s is (stand_at plan s 0);
        turns = turns_are plan s is s.rounds 0;
        rounds = omega (arith, size, rounds);
        eras = omega (arith, count_most s.rounds 0, most);
        lines = all_lines;
      }

pub records_are_true : RecordsAreTrue
records_are_true plan s is has = record {
  is = is_certificate plan s is has;
  verdict = recorded_verdict plan s is;
}
