-- From wherever the reading has come, a certificate can be read to its end.
use Rattle.std.proofs.Common.{inl, inr, ⊎_elim, ◌≡◌, ℕ, zero, suc, ◌+◌, ◌-◌, ◌<◌, ◌≤◌, ◌⊎◌}
use Rattle.std.proofs.Common.{true, false, not, List, [], ◌∷◌, ◌++◌, length, map, drop}
use Rattle.std.proofs.Common.{Some, None, refl, sym, ap, subst, ◌∙◌}
use Rattle.std.proofs.Common.{arith}
use Rattle.std.specs.Prelude.{All}
use Rattle.std.specs.List.{range_with_len, flat_map}
use Rattle.std.proofs.lemmas.Bool.{and_parts, and_from, cases_Bool, cases_order, true≢false}
use Rattle.std.proofs.lemmas.Bool.{ltb-true, leb-true, le-leb, lt-ltb, eq-eqb, not-true}
use Rattle.std.proofs.lemmas.List.{length-map, length-drop}
use Rattle.std.proofs.lemmas.List.Elements.{All-nil, All-cons, All-head, All-tail, All-append}
use Rattle.std.proofs.lemmas.List.Elements.{All-map, All-drop, All-filter}
use Rattle.std.proofs.lemmas.List.FromFn.{length-range_with_len, get_or-range_with_len}
use Rattle.sync_types.specs.States.{State}
use Rattle.construction.specs.Plans.{Plan, plan_nodes}
use Rattle.construction.specs.Runs.{is_in}
use Rattle.plan_numbers.specs.Premises.{IsAccepted}
use Rattle.run_checker.specs.NodeFields.{fields_of}
use Rattle.state_codec.specs.Texts.{is_state_text}
use Rattle.round_runner.specs.Locks.{correct_nodes}
use Rattle.run_checker.specs.declared.Verdict.{Verdict}
use Rattle.run_checker.specs.Items.{Item, HasLine, start_item, row_item}
use Rattle.run_checker.specs.Items.{end_item}
use Rattle.run_checker.specs.Certificates.{Put, Lie, start_of, lie_of}
use Rattle.run_checker.specs.Grammar.{pairs_of}
use Rattle.run_checker.specs.Checking.{Known, Stage, putting, telling, accepts, needs_state}
use Rattle.run_checker.specs.Checking.{has_round, all_told, compared, verdict_now}
use Rattle.run_checker.proofs.Complete.{put_all, all_lies, behind, lies_read, behind_read}
use Rattle.run_checker.proofs.Complete.{puts_read}
use Rattle.run_checker.proofs.Starts.{AllFit, needs, none_needed, no_needs}
use Rattle.run_checker.proofs.Tests.{lies_fit, count_told, row_tested, puts_fit}
use Rattle.run_checker.proofs.LiveLines.{end_line, lie_line, start_line, zero_row, zero_row_is}
use Rattle.run_checker.proofs.LiveLines.{zero_row_line, zeros, zeros_fit}
use Rattle.adversary_script.specs.Scripts.{most_rounds}

-- ---- the rest of a round

abbrev lie_at : Plan → ℕ × ℕ → Lie
lie_at plan pair = record { sender = pair.0; receiver = pair.1; digits = zeros plan pair.0 }

abbrev pub AreIds : Plan → ℕ × ℕ → Type 0
AreIds plan pair = (pair.0 < plan_nodes plan) × (pair.1 < plan_nodes plan)

All-flat_map : {X Y : Type 0} (P : Y → Type 0) (f : X → List Y) (Q : X → Type 0)
    → ((x : X) → Q x → All P (f x)) → (xs : List X) → All Q xs → All P (flat_map f xs)
All-flat_map P f Q h [] q = All-nil P
All-flat_map P f Q h (x ∷ xs) q =
    All-append P (f x) (flat_map f xs) (h x (All-head Q x xs q))
    (All-flat_map P f Q h xs (All-tail Q x xs q))

pub below_range : (n : ℕ) → All (λ v. v < n) (range_with_len 0 n)
below_range n =
    λ i d l. let is = get_or-range_with_len 0 n i d
    (subst (λ m. i < m) (length-range_with_len 0 n) l) in
    omega (arith, is, l, length-range_with_len 0 n)

pub pairs_are_ids : (plan : Plan) (faulty : List ℕ) → All (λ id. id < plan_nodes plan) faulty
    → All (AreIds plan) (pairs_of (plan_nodes plan) faulty)
pairs_are_ids plan faulty below =
    All-flat_map (AreIds plan) (λ u. map (λ v. (u, v)) (correct_nodes (plan_nodes plan) faulty))
    (λ u. u < plan_nodes plan)
    (λ u small. All-map (AreIds plan) (λ v. (u, v)) (correct_nodes (plan_nodes plan) faulty)
    (λ i d l. (
      small,
      All-filter (λ v. not (is_in faulty v)) (λ v. v < plan_nodes plan)
          (range_with_len 0 (plan_nodes plan)) (below_range (plan_nodes plan)) i d l,
    )))
    faulty below

pairs_of_lies : (plan : Plan) (ps : List (ℕ × ℕ))
    → map (λ (l : Lie). (l.sender, l.receiver)) (map (lie_at plan) ps) ≡ ps
pairs_of_lies plan [] = refl
pairs_of_lies plan (p ∷ ps) = ap (λ l. p ∷ l) (pairs_of_lies plan ps)

texts_of_lies : (plan : Plan) (ps : List (ℕ × ℕ))
    → All (λ (l : Lie). is_state_text (fields_of plan l.sender) l.digits ≡ true)
    (map (lie_at plan) ps)
texts_of_lies plan ps =
    All-map (λ (l : Lie). is_state_text (fields_of plan l.sender) l.digits ≡ true) (lie_at plan) ps
    (λ i d l. zeros_fit plan _)

lines_of_lies : (plan : Plan) → IsAccepted plan → (ps : List (ℕ × ℕ)) → All (AreIds plan) ps
    → All HasLine (map lie_of (map (lie_at plan) ps))
lines_of_lies plan h [] ids = All-nil HasLine
lines_of_lies plan h (p ∷ ps) ids =
    let here = All-head (AreIds plan) p ps ids in
    All-cons HasLine (lie_of (lie_at plan p)) (map lie_of (map (lie_at plan) ps))
    (lie_line plan p.0 p.1 h here.0 here.1)
    (lines_of_lies plan h ps (All-tail (AreIds plan) p ps ids))

-- items that are read from a stage to a verdict, each of which has a line
pub record Ends (stage : Stage) : Type 0 where
  pub items : List Item
  pub verdict : Verdict
  pub read : accepts stage items ≡ Some verdict
  pub lines : All HasLine items

-- what holds wherever rows are read
pub record IsAlive (k : Known) : Type 0 where
  pub accepted : IsAccepted k.plan
  pub ids : All (λ id. id < plan_nodes k.plan) k.stand.faulty
  pub most : k.at ≤ most_rounds

pub end_after_row : (k : Known) → Ends (telling k [])
end_after_row k =
    record {
      items = end_item ∷ [];
      verdict = verdict_now k;
      read = refl;
      lines = All-cons HasLine end_item [] end_line (All-nil HasLine);
    }

-- if some states were told, there is a round, and no more than all were
pub end_in_round : (k : Known) (told : List State) → IsAlive k → has_round k ≡ true
    → length told ≤ length (pairs_of (plan_nodes k.plan) k.stand.faulty) → Ends (telling k told)
end_in_round k told alive round few =
    let ps : List (ℕ × ℕ) = drop (length told) (pairs_of (plan_nodes k.plan) k.stand.faulty) in
    let lies = map (lie_at k.plan) ps in
    let row = zero_row k.plan k.stand.faulty in
    let next : k.at + 1 ≤ most_rounds = let x : k.at < most_rounds = ltb-true _ _ round in omega
    arith in
    let size : length (all_lies k told lies)
    ≡ length (pairs_of (plan_nodes k.plan) k.stand.faulty) =
    omega (
      arith,
      count_told k told lies,
      length-map ps (lie_at k.plan),
      length-drop (length told) (pairs_of (plan_nodes k.plan) k.stand.faulty),
      few,
    ) in
    let all : all_told k (all_lies k told lies) ≡ true = and_from _ _ round (eq-eqb _ _ size) in
    record {
      items = map lie_of lies ++ (row_item (k.at + 1) row ∷ end_item ∷ []);
      verdict = verdict_now (behind k (all_lies k told lies) None row);
      read =
          lies_read k told lies (row_item (k.at + 1) row ∷ end_item ∷ [])
          (lies_fit k told lies round (pairs_of_lies k.plan ps) (texts_of_lies k.plan ps))
          ∙ behind_read k (all_lies k told lies) None row (end_item ∷ [])
          (and_from _ _ all
          (and_from _ _ (eq-eqb (k.at + 1) (k.at + 1) refl)
          (row_tested k.plan k.stand.faulty row (zero_row_is k.plan k.stand.faulty))));
      lines = All-append HasLine (map lie_of lies) (row_item (k.at + 1) row ∷ end_item ∷ [])
          (lines_of_lies k.plan alive.accepted ps
          (All-drop (AreIds k.plan) (length told) (pairs_of (plan_nodes k.plan) k.stand.faulty)
          (pairs_are_ids k.plan k.stand.faulty alive.ids)))
          (All-cons HasLine (row_item (k.at + 1) row) (end_item ∷ [])
          (zero_row_line k.plan k.stand.faulty (k.at + 1) alive.accepted next)
          (All-cons HasLine end_item [] end_line (All-nil HasLine)));
    }

-- ---- the rest of the states that are needed

pub record Fills (plan : Plan) (unknown faulty : List ℕ) (from : ℕ) : Type 0 where
  pub puts : List Put
  pub fit : AllFit plan unknown faulty from puts
  pub lines : All HasLine (map start_of puts)

module _ (plan : Plan) (accepted : IsAccepted plan) (unknown faulty : List ℕ) where
  gap : (from to : ℕ) → needs plan unknown faulty from ≡ false
      → needs_state unknown faulty (from + 1) to ≡ false
      → needs_state unknown faulty from to ≡ false
  gap from to here none = no_needs plan unknown faulty from to (λ v low high need.
      ⊎_elim (λ same. true≢false (sym need ∙ ap (needs plan unknown faulty) same ∙ here))
      (λ more. none_needed plan unknown faulty (from + 1) to v none (omega arith) high need)
      (order v low))
    where
      order : (v : ℕ) → from ≤ v → (v ≡ from) ⊎ (from < v)
      order v low =
          ⊎_elim (λ s. inl s)
          (λ other. inr (⊎_elim (λ (less : v < from). absurd (omega arith)) (λ more. more) other))
          (cases_order v from)

  fits_sooner : (from : ℕ) (puts : List Put) → needs plan unknown faulty from ≡ false
      → AllFit plan unknown faulty (from + 1) puts → AllFit plan unknown faulty from puts
  fits_sooner from [] here h = gap from (plan_nodes plan) here h
  fits_sooner from (put ∷ puts) here h =
      let a = and_parts _ _ h.0 in
      let b = and_parts _ _ a.0 in
      let c = and_parts _ _ b.0 in
      let d = and_parts _ _ c.0 in
      let low : from + 1 ≤ put.node = leb-true _ _ d.0 in (
        and_from _ _
            (and_from _ _ (and_from _ _ (and_from _ _ (le-leb _ _ (omega arith)) d.1) c.1)
            (ap not (gap from put.node here (not-true _ b.1))))
            a.1,
        h.1,
      )

  pub fill : (left from : ℕ) → from + left ≡ plan_nodes plan → Fills plan unknown faulty from
  fill zero from e =
      record {
        puts = [];
        fit = no_needs plan unknown faulty from (plan_nodes plan) (λ v low high need. omega arith);
        lines = All-nil HasLine;
      }
  fill (suc left) from e =
      let rest = fill left (from + 1) (omega arith) in
      elim (cases_Bool (needs plan unknown faulty from)) [
        | inl need ↦
            let p = and_parts _ _ need in
            record {
              puts = record { node = from; digits = zeros plan from } ∷ rest.puts;
              fit = (
                and_from _ _
                    (and_from _ _
                    (and_from _ _
                    (and_from _ _ (le-leb from from (omega arith)) (lt-ltb _ _ (omega arith)))
                    p.1)
                    (ap not
                    (no_needs plan unknown faulty from from (λ v low high need. omega arith))))
                    (zeros_fit plan from),
                rest.fit,
              );
              lines =
                  All-cons HasLine (start_item from (zeros plan from)) (map start_of rest.puts)
                  (start_line plan from accepted (omega arith)) rest.lines;
            }
        | inr none ↦ record
            { puts = rest.puts; fit = fits_sooner from rest.puts none rest.fit; lines = rest.lines }
      ]

pub end_in_starts : (k : Known) (unknown : List ℕ) (from : ℕ) → IsAlive k → from ≤ plan_nodes k.plan
    → Ends (putting k unknown from)
end_in_starts k unknown from alive low =
    let f = fill k.plan alive.accepted unknown k.stand.faulty (plan_nodes k.plan - from) from
    (omega arith) in
    let row = zero_row k.plan k.stand.faulty in
    record {
      items = map start_of f.puts ++ (row_item k.at row ∷ end_item ∷ []);
      verdict = verdict_now (compared (put_all k f.puts) row);
      read =
          puts_read k unknown from f.puts row (end_item ∷ [])
          (puts_fit k unknown from f.puts row f.fit
          (row_tested k.plan k.stand.faulty row (zero_row_is k.plan k.stand.faulty)));
      lines = All-append HasLine (map start_of f.puts) (row_item k.at row ∷ end_item ∷ []) f.lines
          (All-cons HasLine (row_item k.at row) (end_item ∷ [])
          (zero_row_line k.plan k.stand.faulty k.at alive.accepted alive.most)
          (All-cons HasLine end_item [] end_line (All-nil HasLine)));
    }
