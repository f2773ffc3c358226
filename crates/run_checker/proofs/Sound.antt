-- What is read to a verdict is written of a value.
use Rattle.std.proofs.Common.{inl, inr, ◌≡◌, ℕ, ◌+◌, ◌⊎◌, Bool, true, false, cond, List, [], ◌∷◌}
use Rattle.std.proofs.Common.{◌++◌, map, Option, Some, None, refl, ap, subst, ◌∙◌}
use Rattle.std.specs.Prelude.{⊤}
use Rattle.std.proofs.lemmas.Bool.{and_parts, eqb-true}
use Rattle.texts.specs.Parts.{goes}
use Rattle.sync_types.specs.States.{State}
use Rattle.run_checker.specs.declared.Verdict.{Verdict}
use Rattle.run_checker.specs.Items.{Item, start_item, row_item, lie_item, era_item, end_item}
use Rattle.run_checker.specs.Certificates.{Put, Lie, Era, Turn, start_of, lie_of, era_items}
use Rattle.run_checker.specs.Certificates.{turns_items}
use Rattle.run_checker.specs.Checking.{Known, Stage, unread, begun, planned, putting, telling}
use Rattle.run_checker.specs.Checking.{refused, accepts, put_state, start_fits, row_fits}
use Rattle.run_checker.specs.Checking.{first_row_fits, compared, moved, lie_fits, era_fits}
use Rattle.run_checker.specs.Checking.{renewed, next_row_fits, verdict_now}
use Rattle.run_checker.proofs.Complete.{following, put_all, PutsPass, lie_state, LiesPass}
use Rattle.run_checker.proofs.Complete.{all_lies, BehindPass, behind, TurnsPass, followed}

-- a step that is followed to a verdict passed its test
pub passed : (b : Bool) (s : Stage) (items : List Item) (v : Verdict)
    → following (cond b (goes s) refused) items ≡ Some v → (b ≡ true) × (accepts s items ≡ Some v)
passed true s items v e = (refl, e)
passed false s items v e = absurd cc

-- rounds, and the last line
pub record ReadTurns (k : Known) (items : List Item) (v : Verdict) : Type 0 where
  pub turns : List Turn
  pub pass : TurnsPass k turns
  pub items_are : items ≡ turns_items (k.at + 1) turns
  pub verdict : followed k turns ≡ v

-- the lies that are left of a round, what stands after them, and further rounds
pub record ReadRound (k : Known) (told : List State) (items : List Item) (v : Verdict) : Type 0
  where
    pub lies : List Lie
    pub era : Option Era
    pub row : List (Option ℕ)
    pub turns : List Turn
    pub lies_pass : LiesPass k told lies
    pub behind_pass : BehindPass k (all_lies k told lies) era row
    pub turns_pass : TurnsPass (behind k (all_lies k told lies) era row) turns
    pub items_are : items
        ≡ map lie_of lies
        ++
        (era_items (k.at + 1) era
        ++ (row_item (k.at + 1) row ∷ turns_items (k.at + 1 + 1) turns))
    pub verdict : followed (behind k (all_lies k told lies) era row) turns ≡ v

-- states that are still to be put, a row, and rounds
pub record ReadPuts (k : Known) (unknown : List ℕ) (from : ℕ) (items : List Item) (v : Verdict) :
    Type 0 where
  pub puts : List Put
  pub row : List (Option ℕ)
  pub turns : List Turn
  pub puts_pass : PutsPass k unknown from puts row
  pub turns_pass : TurnsPass (compared (put_all k puts) row) turns
  pub items_are : items ≡ map start_of puts ++ (row_item k.at row ∷ turns_items (k.at + 1) turns)
  pub verdict : followed (compared (put_all k puts) row) turns ≡ v

-- when rounds are told: no lie was, and the last line stands, or a round goes on
abbrev pub ReadTelling : Known → List State → List Item → Verdict → Type 0
ReadTelling k told items v =
    ((told ≡ []) × (items ≡ end_item ∷ []) × (verdict_now k ≡ v)) ⊎ ReadRound k told items v

-- what follows a stage that is read to a verdict
abbrev pub ReadBehind : Stage → List Item → Verdict → Type 0
ReadBehind (putting k unknown from) items v = ReadPuts k unknown from items v
ReadBehind (telling k told) items v = ReadTelling k told items v
ReadBehind stage items v = ⊤

turns_told : (k : Known) (items : List Item) (v : Verdict) → ReadTelling k [] items v
    → ReadTurns k items v
turns_told k items v (inl (none, is, verdict)) =
    record { turns = []; pass = tt; items_are = is; verdict = verdict }
turns_told k items v (inr r) = record {
  turns = record { lies = r.lies; era = r.era; row = r.row } ∷ r.turns;
  pass = (r.lies_pass, r.behind_pass, r.turns_pass);
  items_are = r.items_are;
  verdict = r.verdict;
}

-- ---- one more item before the others

start_before : (k : Known) (unknown : List ℕ) (from v : ℕ) (digits : List ℕ) (items : List Item)
    (verdict : Verdict)
    → start_fits k unknown from v digits ≡ true
    → ReadPuts (put_state k v digits) unknown (v + 1) items verdict
    → ReadPuts k unknown from (start_item v digits ∷ items) verdict
start_before k unknown from v digits items verdict fits r = record {
  puts = record { node = v; digits = digits } ∷ r.puts;
  row = r.row;
  turns = r.turns;
  puts_pass = (fits, r.puts_pass);
  turns_pass = r.turns_pass;
  items_are = ap (λ rest. start_item v digits ∷ rest) r.items_are;
  verdict = r.verdict;
}

row_is : (k : Known) (t : ℕ) (row : List (Option ℕ)) → row_fits k t row ≡ true → t ≡ k.at
row_is k t row fits = eqb-true _ _ (and_parts _ _ fits).0

first_row_is : (k : Known) (unknown : List ℕ) (from t : ℕ) (row : List (Option ℕ))
    → first_row_fits k unknown from t row ≡ true → t ≡ k.at
first_row_is k unknown from t row fits = row_is k t row (and_parts _ _ fits).1

first_row_before : (k : Known) (unknown : List ℕ) (from t : ℕ) (row : List (Option ℕ))
    (items : List Item) (v : Verdict)
    → first_row_fits k unknown from t row ≡ true
    → ReadTurns (compared k row) items v → ReadPuts k unknown from (row_item t row ∷ items) v
first_row_before k unknown from t row items v fits r =
    let is : t ≡ k.at = first_row_is k unknown from t row fits in
    record {
      puts = [];
      row = row;
      turns = r.turns;
      puts_pass = subst (λ n. first_row_fits k unknown from n row ≡ true) is fits;
      turns_pass = r.pass;
      items_are =
          ap (λ n. row_item n row ∷ items) is ∙ ap (λ rest. row_item k.at row ∷ rest) r.items_are;
      verdict = r.verdict;
    }

lie_before : (k : Known) (told : List State) (u v : ℕ) (digits : List ℕ) (items : List Item)
    (verdict : Verdict)
    → lie_fits k told u v digits ≡ true
    → ReadRound k (told ++ lie_state k (record { sender = u; receiver = v; digits = digits }) ∷ [])
    items verdict
    → ReadRound k told (lie_item u v digits ∷ items) verdict
lie_before k told u v digits items verdict fits r = record {
  lies = record { sender = u; receiver = v; digits = digits } ∷ r.lies;
  era = r.era;
  row = r.row;
  turns = r.turns;
  lies_pass = (fits, r.lies_pass);
  behind_pass = r.behind_pass;
  turns_pass = r.turns_pass;
  items_are = ap (λ rest. lie_item u v digits ∷ rest) r.items_are;
  verdict = r.verdict;
}

not_empty : {X : Type 0} (xs : List X) (x : X) → xs ++ x ∷ [] ≡ [] → ⊥
not_empty [] x e = absurd cc
not_empty (y ∷ ys) x e = absurd cc

-- after a lie the round goes on
round_told : (k : Known) (told : List State) (state : State) (items : List Item) (v : Verdict)
    → ReadTelling k (told ++ state ∷ []) items v → ReadRound k (told ++ state ∷ []) items v
round_told k told state items v (inl (none, is, verdict)) = absurd (not_empty told state none)
round_told k told state items v (inr r) = r

next_row_is : (k : Known) (told : List State) (t : ℕ) (row : List (Option ℕ))
    → next_row_fits k told t row ≡ true → t ≡ k.at + 1
next_row_is k told t row fits = row_is (moved k k.stand.faulty told) t row (and_parts _ _ fits).1

next_row_before : (k : Known) (told : List State) (t : ℕ) (row : List (Option ℕ))
    (items : List Item) (v : Verdict)
    → next_row_fits k told t row ≡ true
    → ReadTurns (compared (moved k k.stand.faulty told) row) items v
    → ReadRound k told (row_item t row ∷ items) v
next_row_before k told t row items v fits r =
    let is : t ≡ k.at + 1 = next_row_is k told t row fits in
    record {
      lies = [];
      era = None;
      row = row;
      turns = r.turns;
      lies_pass = tt;
      behind_pass = subst (λ n. next_row_fits k told n row ≡ true) is fits;
      turns_pass = r.pass;
      items_are =
          ap (λ n. row_item n row ∷ items) is
          ∙ ap (λ rest. row_item (k.at + 1) row ∷ rest) r.items_are;
      verdict = r.verdict;
    }

era_is : (k : Known) (told : List State) (t : ℕ) (ids : List ℕ) → era_fits k told t ids ≡ true
    → t ≡ k.at + 1
era_is k told t ids fits = eqb-true _ _ (and_parts _ _ (and_parts _ _ (and_parts _ _ fits).0).0).1

era_before : (k : Known) (told : List State) (t : ℕ) (ids : List ℕ) (items : List Item)
    (v : Verdict)
    → era_fits k told t ids ≡ true
    → ReadPuts (renewed k ids told) k.stand.faulty 0 items v
    → ReadRound k told (era_item t ids ∷ items) v
era_before k told t ids items v fits r =
    let is : t ≡ k.at + 1 = era_is k told t ids fits in
    record {
      lies = [];
      era = Some (record { faulty = ids; starts = r.puts });
      row = r.row;
      turns = r.turns;
      lies_pass = tt;
      behind_pass = (subst (λ n. era_fits k told n ids ≡ true) is fits, r.puts_pass);
      turns_pass = r.turns_pass;
      items_are =
          ap (λ n. era_item n ids ∷ items) is
          ∙ ap (λ rest. era_item (k.at + 1) ids ∷ rest) r.items_are;
      verdict = r.verdict;
    }

some_is : (v w : Verdict) → Some v ≡ Some w → v ≡ w
some_is v w e = cc

-- the last line, if no lie was told
end_alone : (k : Known) (told : List State) (items : List Item) (v : Verdict)
    → accepts (telling k told) (end_item ∷ items) ≡ Some v → ReadTelling k told (end_item ∷ items) v
end_alone k [] [] v e = inl (refl, refl, some_is _ _ e)
end_alone k [] (item ∷ items) v e = absurd cc
end_alone k (state ∷ told) items v e = absurd cc

-- what is read to a verdict is rounds, states and rows of a value
pub read_behind : (items : List Item) (stage : Stage) (v : Verdict) → accepts stage items ≡ Some v
    → ReadBehind stage items v
read_behind [] stage v e = absurd cc
read_behind (start_item x digits ∷ items) (putting k unknown from) v e =
    let h = passed (start_fits k unknown from x digits)
    (putting (put_state k x digits) unknown (x + 1)) items v e in
    start_before k unknown from x digits items v h.0 (read_behind items _ v h.1)
read_behind (row_item t row ∷ items) (putting k unknown from) v e =
    let h = passed (first_row_fits k unknown from t row) (telling (compared k row) []) items v e in
    first_row_before k unknown from t row items v h.0 (turns_told _ _ _ (read_behind items _ v h.1))
read_behind (lie_item x y digits ∷ items) (telling k told) v e =
    let h = passed (lie_fits k told x y digits) _ items v e in
    inr
    (lie_before k told x y digits items v h.0
    (round_told k told _ items v (read_behind items _ v h.1)))
read_behind (era_item t ids ∷ items) (telling k told) v e =
    let h = passed (era_fits k told t ids) (putting (renewed k ids told) k.stand.faulty 0) items v
    e in
    inr (era_before k told t ids items v h.0 (read_behind items _ v h.1))
read_behind (row_item t row ∷ items) (telling k told) v e =
    let h = passed (next_row_fits k told t row)
    (telling (compared (moved k k.stand.faulty told) row) []) items v e in
    inr (next_row_before k told t row items v h.0 (turns_told _ _ _ (read_behind items _ v h.1)))
read_behind (end_item ∷ items) (telling k told) v e = end_alone k told items v e
read_behind (item ∷ items) unread v e = tt
read_behind (item ∷ items) (begun version) v e = tt
read_behind (item ∷ items) (planned version plan) v e = tt
read_behind (item ∷ items) stage v e = absurd cc
