-- A certificate, as it is declared and as it is tested item by item.
use Rattle.std.proofs.Common.{◌≡◌, ℕ, zero, suc, ◌+◌, ◌<◌, ◌≤◌, Bool, true, false, cond, not, List}
use Rattle.std.proofs.Common.{[], ◌∷◌, ◌++◌, length, map, drop, get_or, Option, Some, None, refl}
use Rattle.std.proofs.Common.{sym, ap, subst, ◌∙◌, arith}
use Rattle.std.specs.Prelude.{All, IfSome}
use Rattle.std.specs.Option.{is_some}
use Rattle.std.specs.List.{range_with_len}
use Rattle.std.specs.List.Sorted.{IsStrictlyIncreasing}
use Rattle.std.proofs.lemmas.Bool.{and_parts, and_from, leb-true, ltb-true, le-leb, lt-ltb}
use Rattle.std.proofs.lemmas.Bool.{eqb-true, eq-eqb, not-true}
use Rattle.std.proofs.lemmas.List.{length_push, drop-drop, drop_all, length-map}
use Rattle.std.proofs.lemmas.List.Elements.{All-nil, All-cons, All-head, All-tail}
use Rattle.std.proofs.lemmas.List.Sums.{sum_by-cons}
use Rattle.sync_types.specs.States.{State}
use Rattle.construction.specs.Plans.{Plan, plan_nodes}
use Rattle.construction.specs.Runs.{is_in, IsToleratedBy}
use Rattle.run_checker.specs.NodeFields.{fields_of}
use Rattle.state_codec.specs.Texts.{is_state_text}
use Rattle.adversary_script.specs.WordTests.{are_below, is_rising}
use Rattle.run_checker.specs.Certificates.{Put, Lie, Era, Turn}
use Rattle.run_checker.specs.Grammar.{pairs_of, faulty_behind, AreTurns, IsEra, IsRow}
use Rattle.run_checker.specs.Grammar.{most_eras, era_count}
use Rattle.run_checker.specs.Checking.{Known, put_state, same_marks, is_row, is_next}
use Rattle.run_checker.specs.Checking.{has_round, all_told, renewed, is_borne}
use Rattle.run_checker.proofs.Complete.{put_all, PutsPass, lie_state, LiesPass, all_lies}
use Rattle.run_checker.proofs.Complete.{BehindPass, behind, TurnsPass, at_behind}
use Rattle.run_checker.proofs.Starts.{AllFit, starts_fit, starts_declared}
use Rattle.adversary_script.specs.Scripts.{most_rounds}

-- ---- rows

same_marks_are : (xs ys : List Bool) → same_marks xs ys ≡ true → xs ≡ ys
same_marks_are [] [] e = refl
same_marks_are [] (y ∷ ys) e = absurd cc
same_marks_are (true ∷ xs) [] e = absurd cc
same_marks_are (false ∷ xs) [] e = absurd cc
same_marks_are (true ∷ xs) (true ∷ ys) e = ap (λ l. true ∷ l) (same_marks_are xs ys e)
same_marks_are (true ∷ xs) (false ∷ ys) e = absurd cc
same_marks_are (false ∷ xs) (true ∷ ys) e = absurd cc
same_marks_are (false ∷ xs) (false ∷ ys) e = ap (λ l. false ∷ l) (same_marks_are xs ys e)

same_marks_self : (xs : List Bool) → same_marks xs xs ≡ true
same_marks_self [] = refl
same_marks_self (true ∷ xs) = same_marks_self xs
same_marks_self (false ∷ xs) = same_marks_self xs

pub row_tested : (plan : Plan) (faulty : List ℕ) (row : List (Option ℕ)) → IsRow plan faulty row
    → is_row plan faulty row ≡ true
row_tested plan faulty row h =
    ap (λ l. same_marks l (map (λ v. not (is_in faulty v)) (range_with_len 0 (plan_nodes plan))))
    h.size
    ∙ same_marks_self (map (λ v. not (is_in faulty v)) (range_with_len 0 (plan_nodes plan)))

pub row_declared : (plan : Plan) (faulty : List ℕ) (row : List (Option ℕ))
    → is_row plan faulty row ≡ true → IsRow plan faulty row
row_declared plan faulty row e = record { size = same_marks_are _ _ e }

-- ---- faulty sets

below_tested : (n : ℕ) (ids : List ℕ) → All (λ id. id < n) ids → are_below n ids ≡ true
below_tested n [] h = refl
below_tested n (id ∷ ids) h =
    and_from _ _ (lt-ltb _ _ (All-head (λ i. i < n) id ids h))
    (below_tested n ids (All-tail (λ i. i < n) id ids h))

below_declared : (n : ℕ) (ids : List ℕ) → are_below n ids ≡ true → All (λ id. id < n) ids
below_declared n [] e = All-nil (λ i. i < n)
below_declared n (id ∷ ids) e =
    let p = and_parts _ _ e in
    All-cons (λ i. i < n) id ids (ltb-true _ _ p.0) (below_declared n ids p.1)

rising_tested : (ids : List ℕ) → IsStrictlyIncreasing ids → is_rising ids ≡ true
rising_tested [] h = refl
rising_tested (a ∷ []) h = refl
rising_tested (a ∷ b ∷ ids) h =
    and_from _ _ (lt-ltb _ _ (h 0 (omega arith)))
    (rising_tested (b ∷ ids)
    (λ k l. let e : suc k + 1 ≡ suc (k + 1) = omega arith in
    subst (λ m. get_or (a ∷ b ∷ ids) (suc k) 0 < get_or (a ∷ b ∷ ids) m 0) e
    (h (suc k) (omega arith))))

rising_declared : (ids : List ℕ) → is_rising ids ≡ true → (k : ℕ) → k + 1 < length ids
    → get_or ids k 0 < get_or ids (k + 1) 0
rising_declared [] e k l = absurd (omega arith)
rising_declared (a ∷ []) e k l = absurd (omega arith)
rising_declared (a ∷ b ∷ ids) e zero l = ltb-true _ _ (and_parts _ _ e).0
rising_declared (a ∷ b ∷ ids) e (suc j) l =
    let m : suc j + 1 ≡ suc (j + 1) = omega arith in
    subst (λ m. get_or (a ∷ b ∷ ids) (suc j) 0 < get_or (a ∷ b ∷ ids) m 0) (sym m)
    (rising_declared (b ∷ ids) (and_parts _ _ e).1 j (omega arith))

pub borne_tested : (plan : Plan) (ids : List ℕ) → IsToleratedBy plan ids → is_borne plan ids ≡ true
borne_tested plan ids h =
    and_from _ _
    (and_from _ _ (below_tested (plan_nodes plan) ids h.ids) (rising_tested ids h.rising))
    (le-leb _ _ h.few)

pub borne_declared : (plan : Plan) (ids : List ℕ) → is_borne plan ids ≡ true
    → IsToleratedBy plan ids
borne_declared plan ids e =
    let p = and_parts _ _ e in
    let q = and_parts _ _ p.0 in
    record {
      rising = rising_declared ids q.1;
      ids = below_declared (plan_nodes plan) ids q.0;
      few = leb-true _ _ p.1;
    }

-- ---- starts and the row after them

pub puts_fit : (k : Known) (unknown : List ℕ) (from : ℕ) (puts : List Put) (row : List (Option ℕ))
    → AllFit k.plan unknown k.stand.faulty from puts → is_row k.plan k.stand.faulty row ≡ true
    → PutsPass k unknown from puts row
puts_fit k unknown from [] row h is =
    and_from _ _ (ap not h) (and_from _ _ (eq-eqb k.at k.at refl) is)
puts_fit k unknown from (put ∷ puts) row h is =
    (h.0, puts_fit (put_state k put.node put.digits) unknown (put.node + 1) puts row h.1 is)

pub puts_back : (k : Known) (unknown : List ℕ) (from : ℕ) (puts : List Put) (row : List (Option ℕ))
    → PutsPass k unknown from puts row
    → AllFit k.plan unknown k.stand.faulty from puts × (is_row k.plan k.stand.faulty row ≡ true)
puts_back k unknown from [] row h =
    let p = and_parts _ _ h in (not-true _ p.0, (and_parts _ _ p.1).1)
puts_back k unknown from (put ∷ puts) row h =
    let r = puts_back (put_state k put.node put.digits) unknown (put.node + 1) puts row h.1 in
    ((h.0, r.0), r.1)

-- ---- lies

abbrev pub pair_of : Lie → ℕ × ℕ
pair_of lie = (lie.sender, lie.receiver)

abbrev pairs : Known → List (ℕ × ℕ)
pairs k = pairs_of (plan_nodes k.plan) k.stand.faulty

abbrev told_in : Known → Lie → Type 0
told_in k lie = is_state_text (fields_of k.plan lie.sender) lie.digits ≡ true

next_is : (u v : ℕ) (ps : List (ℕ × ℕ)) (rest : List (ℕ × ℕ)) → (u, v) ∷ rest ≡ ps
    → is_next u v ps ≡ true
next_is u v ps rest e =
    subst (λ l. is_next u v l ≡ true) e (and_from _ _ (eq-eqb u u refl) (eq-eqb v v refl))

next_pair : (u v : ℕ) (ps : List (ℕ × ℕ)) → is_next u v ps ≡ true
    → (rest : List (ℕ × ℕ)) × ((u, v) ∷ rest ≡ ps)
next_pair u v [] e = absurd cc
next_pair u v ((a, b) ∷ rest) e =
    let p = and_parts _ _ e in
    let x : a ≡ u = eqb-true a u p.0 in
    let y : b ≡ v = eqb-true b v p.1 in
    (rest, ap (λ m. (m, v) ∷ rest) (sym x) ∙ ap (λ m. (a, m) ∷ rest) (sym y))

drop_tail : {X : Type 0} (i : ℕ) (x : X) (rest xs : List X) → x ∷ rest ≡ drop i xs
    → rest ≡ drop (i + 1) xs
drop_tail i x rest xs e = ap (drop 1) e ∙ drop-drop 1 i xs

pub lies_fit : (k : Known) (told : List State) (lies : List Lie) → has_round k ≡ true
    → map pair_of lies ≡ drop (length told) (pairs k) → All (told_in k) lies → LiesPass k told lies
lies_fit k told [] round is states = tt
lies_fit k told (lie ∷ lies) round is states = (
  and_from _ _ (and_from _ _ round (next_is lie.sender lie.receiver _ (map pair_of lies) is))
      (All-head (told_in k) lie lies states),
  lies_fit k (told ++ lie_state k lie ∷ []) lies round
      (drop_tail (length told) (pair_of lie) (map pair_of lies) (pairs k) is
      ∙ ap (λ m. drop m (pairs k)) (sym (length_push told (lie_state k lie))))
      (All-tail (told_in k) lie lies states),
)

pub count_told : (k : Known) (told : List State) (lies : List Lie)
    → length (all_lies k told lies) ≡ length told + length lies
count_told k told [] = omega arith
count_told k told (lie ∷ lies) =
    omega
    (arith, count_told k (told ++ lie_state k lie ∷ []) lies, length_push told (lie_state k lie))

-- the lies that passed are those of the next pairs
lies_back : (k : Known) (told : List State) (lies : List Lie)
    → length told + length lies ≡ length (pairs k) → LiesPass k told lies
    → (map pair_of lies ≡ drop (length told) (pairs k)) × All (told_in k) lies
lies_back k told [] size h =
    (sym (drop_all (length told) (pairs k) (omega arith)), All-nil (told_in k))
lies_back k told (lie ∷ lies) size h =
    let p = and_parts _ _ h.0 in
    let (rest, is) = next_pair lie.sender lie.receiver _ (and_parts _ _ p.0).1 in
    let more = lies_back k (told ++ lie_state k lie ∷ []) lies
    (omega (arith, size, length_push told (lie_state k lie))) h.1 in
    let behind_is : rest
    ≡ drop (length told + 1) (pairs k) = drop_tail (length told) (pair_of lie) rest (pairs k)
    is in (
      ap (λ l. pair_of lie ∷ l)
          (more.0 ∙ ap (λ m. drop m (pairs k)) (length_push told (lie_state k lie)) ∙ sym behind_is)
          ∙ is,
      All-cons (told_in k) lie lies p.1 more.1,
    )

-- ---- what a round leaves as it was

pub plan_put_all : (k : Known) (puts : List Put) → (put_all k puts).plan ≡ k.plan
plan_put_all k [] = refl
plan_put_all k (put ∷ puts) = plan_put_all (put_state k put.node put.digits) puts

pub version_put_all : (k : Known) (puts : List Put) → (put_all k puts).version ≡ k.version
version_put_all k [] = refl
version_put_all k (put ∷ puts) = version_put_all (put_state k put.node put.digits) puts

pub eras_put_all : (k : Known) (puts : List Put) → (put_all k puts).eras ≡ k.eras
eras_put_all k [] = refl
eras_put_all k (put ∷ puts) = eras_put_all (put_state k put.node put.digits) puts

pub faulty_put_all : (k : Known) (puts : List Put) → (put_all k puts).stand.faulty ≡ k.stand.faulty
faulty_put_all k [] = refl
faulty_put_all k (put ∷ puts) = faulty_put_all (put_state k put.node put.digits) puts

abbrev one_era : Option Era → ℕ
one_era era = cond (is_some era) 1 0

pub plan_behind : (k : Known) (told : List State) (era : Option Era) (row : List (Option ℕ))
    → (behind k told era row).plan ≡ k.plan
plan_behind k told None row = refl
plan_behind k told (Some era) row = plan_put_all (renewed k era.faulty told) era.starts

pub version_behind : (k : Known) (told : List State) (era : Option Era) (row : List (Option ℕ))
    → (behind k told era row).version ≡ k.version
version_behind k told None row = refl
version_behind k told (Some era) row = version_put_all (renewed k era.faulty told) era.starts

pub eras_behind : (k : Known) (told : List State) (era : Option Era) (row : List (Option ℕ))
    → (behind k told era row).eras ≡ k.eras + one_era era
eras_behind k told None row = omega arith
eras_behind k told (Some era) row = eras_put_all (renewed k era.faulty told) era.starts

pub faulty_put_behind : (k : Known) (told : List State) (era : Option Era) (row : List (Option ℕ))
    → (behind k told era row).stand.faulty ≡ faulty_behind k.stand.faulty era
faulty_put_behind k told None row = refl
faulty_put_behind k told (Some era) row = faulty_put_all (renewed k era.faulty told) era.starts

-- ---- rounds

all_are_told : (k : Known) (lies : List Lie) → has_round k ≡ true → map pair_of lies ≡ pairs k
    → all_told k (all_lies k [] lies) ≡ true
all_are_told k lies round is =
    and_from _ _ round
    (eq-eqb _ _ (count_told k [] lies ∙ (omega (arith, length-map lies pair_of, ap length is))))

behind_pass : (k : Known) (told : List State) (era : Option Era) (row : List (Option ℕ))
    → all_told k told ≡ true → IfSome era (IsEra k.plan k.stand.faulty)
    → k.eras + one_era era ≤ most_eras k.version
    → IsRow k.plan (faulty_behind k.stand.faulty era) row → BehindPass k told era row
behind_pass k told None row all is few shape =
    and_from _ _ all
    (and_from _ _ (eq-eqb (k.at + 1) (k.at + 1) refl) (row_tested k.plan k.stand.faulty row shape))
behind_pass k told (Some era) row all is few shape = (
  and_from _ _
      (and_from _ _ (and_from _ _ all (eq-eqb (k.at + 1) (k.at + 1) refl))
      (lt-ltb _ _ (omega (arith, few))))
      (borne_tested k.plan era.faulty is.borne),
  puts_fit (renewed k era.faulty told) k.stand.faulty 0 era.starts row
      (starts_fit k.plan k.stand.faulty era.faulty era.starts is.starts)
      (row_tested k.plan era.faulty row shape),
)

count_more : (turn : Turn) (turns : List Turn)
    → era_count (turn ∷ turns) ≡ one_era turn.era + era_count turns
count_more turn turns = sum_by-cons (λ t. cond (is_some t.era) 1 0) turn turns

pub turns_tested : (k : Known) (turns : List Turn) → AreTurns k.plan k.stand.faulty turns
    → k.at + length turns ≤ most_rounds → k.eras + era_count turns ≤ most_eras k.version
    → TurnsPass k turns
turns_tested k [] h rounds eras = tt
turns_tested k (turn ∷ turns) h rounds eras =
    let told = all_lies k [] turn.lies in
    let more : era_count (turn ∷ turns)
    ≡ one_era turn.era + era_count turns = count_more turn turns in
    let round : has_round k ≡ true = lt-ltb _ _ (omega (arith, rounds)) in
    let next = behind k told turn.era turn.row in (
      lies_fit k [] turn.lies round h.0.told h.0.states,
      behind_pass k told turn.era turn.row (all_are_told k turn.lies round h.0.told) h.0.era
          (omega (arith, eras)) h.0.row,
      turns_tested next turns
          (subst (λ p. AreTurns p next.stand.faulty turns)
          (sym (plan_behind k told turn.era turn.row))
          (subst (λ f. AreTurns k.plan f turns)
          (sym (faulty_put_behind k told turn.era turn.row)) h.1))
          (omega (arith, at_behind k told turn.era turn.row, rounds))
          (subst (λ v. next.eras + era_count turns ≤ most_eras v)
          (sym (version_behind k told turn.era turn.row))
          (omega (arith, eras_behind k told turn.era turn.row, eras))),
    )

behind_told : (k : Known) (told : List State) (era : Option Era) (row : List (Option ℕ))
    → BehindPass k told era row → all_told k told ≡ true
behind_told k told None row h = (and_parts _ _ h).0
behind_told k told (Some era) row h = (and_parts _ _ (and_parts _ _ (and_parts _ _ h.0).0).0).0

behind_few : (k : Known) (told : List State) (era : Option Era) (row : List (Option ℕ))
    → k.eras ≤ most_eras k.version → BehindPass k told era row
    → k.eras + one_era era ≤ most_eras k.version
behind_few k told None row few h = omega arith
behind_few k told (Some era) row few h =
    let x : k.eras < most_eras k.version = ltb-true _ _ (and_parts _ _ (and_parts _ _ h.0).0).1 in
    omega arith

behind_era : (k : Known) (told : List State) (era : Option Era) (row : List (Option ℕ))
    → BehindPass k told era row → IfSome era (IsEra k.plan k.stand.faulty)
behind_era k told None row h = tt
behind_era k told (Some era) row h =
    record {
      borne = borne_declared k.plan era.faulty (and_parts _ _ h.0).1;
      starts = starts_declared k.plan k.stand.faulty era.faulty era.starts
          (puts_back (renewed k era.faulty told) k.stand.faulty 0 era.starts row h.1).0;
    }

behind_row : (k : Known) (told : List State) (era : Option Era) (row : List (Option ℕ))
    → BehindPass k told era row → IsRow k.plan (faulty_behind k.stand.faulty era) row
behind_row k told None row h =
    row_declared k.plan k.stand.faulty row (and_parts _ _ (and_parts _ _ h).1).1
behind_row k told (Some era) row h =
    row_declared k.plan era.faulty row
    (puts_back (renewed k era.faulty told) k.stand.faulty 0 era.starts row h.1).1

pub record Turns (k : Known) (turns : List Turn) : Type 0 where
  pub are : AreTurns k.plan k.stand.faulty turns
  pub rounds : k.at + length turns ≤ most_rounds
  pub eras : k.eras + era_count turns ≤ most_eras k.version

pub turns_declared : (k : Known) (turns : List Turn) → k.at ≤ most_rounds
    → k.eras ≤ most_eras k.version
    → TurnsPass k turns → Turns k turns
turns_declared k [] most few h = record { are = tt; rounds = omega arith; eras = omega arith }
turns_declared k (turn ∷ turns) most few h =
    let told = all_lies k [] turn.lies in
    let more : era_count (turn ∷ turns)
    ≡ one_era turn.era + era_count turns = count_more turn turns in
    let next = behind k told turn.era turn.row in
    let all = and_parts _ _ (behind_told k told turn.era turn.row h.1) in
    let below : k.at < most_rounds = ltb-true _ _ all.0 in
    let size : length told ≡ length (pairs k) = eqb-true _ _ all.1 in
    let count : length told ≡ 0 + length turn.lies = count_told k [] turn.lies in
    let lies = lies_back k [] turn.lies (omega (arith, size, count)) h.0 in
    let some = behind_few k told turn.era turn.row few h.1 in
    let rest = turns_declared next turns (omega (arith, at_behind k told turn.era turn.row))
    (subst (λ v. next.eras ≤ most_eras v) (sym (version_behind k told turn.era turn.row))
    (omega (arith, eras_behind k told turn.era turn.row, some)))
    h.2 in
    record {
      are = (
        record {
          told = lies.0;
          states = lies.1;
          era = behind_era k told turn.era turn.row h.1;
          row = behind_row k told turn.era turn.row h.1;
        },
        subst (λ p. AreTurns p (faulty_behind k.stand.faulty turn.era) turns)
            (plan_behind k told turn.era turn.row)
            (subst (λ f. AreTurns next.plan f turns) (faulty_put_behind k told turn.era turn.row)
            rest.are),
      );
      rounds = omega (arith, rest.rounds, at_behind k told turn.era turn.row);
      eras =
          let x : next.eras + era_count turns
          ≤ most_eras k.version = subst (λ v. next.eras + era_count turns ≤ most_eras v)
          (version_behind k told turn.era turn.row) rest.eras in
          omega (arith, eras_behind k told turn.era turn.row);
    }
