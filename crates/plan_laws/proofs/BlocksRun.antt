-- A block of a run is a run of the levels below the top.
use Rattle.std.proofs.Common.{◌≡◌, ℕ, ◌+◌, ◌-◌, ◌*◌, ◌/◌, ◌%◌, ◌<◌, ◌≤◌, subst, Bool, true, false}
use Rattle.std.proofs.Common.{eqb, not, ◌||◌, cond, List, [], ◌∷◌, length, get_or, map, refl, sym}
use Rattle.std.proofs.Common.{ap, ap₂, ◌∙◌, subst₂, ⊎_elim, arith}
use Rattle.std.specs.List.{range_with_len, filter}
use Rattle.std.specs.Prelude.{nat_le}
use Rattle.std.proofs.Math.Nat.{div-add-mod}
use Rattle.std.proofs.lemmas.Nat.{div-mul-add, mod-mul-add}
use Rattle.std.proofs.lemmas.Bool.{lt-ltb, eq-eqb, ne_eqb, eqb-true, true≢false}
use Rattle.std.proofs.lemmas.Bool.Decides.{eqb_tells}
use Rattle.std.proofs.lemmas.List.{length-map, get_or-map, length-take-le}
use Rattle.std.proofs.lemmas.List.Elements.{All-map, All-weaker, All-get_or}
use Rattle.std.proofs.lemmas.List.FromFn.{fill_by_all, length-map-range_with_len}
use Rattle.std.proofs.lemmas.List.FromFn.{get_or-map-range_with_len}
use Rattle.sync_types.specs.declared.states.Reg.{Reg}
use Rattle.sync_types.specs.States.{State, zero_state}
use Rattle.construction.specs.Plans.{Level, Plan, group_size, low_of, plan_nodes, plan_depth}
use Rattle.construction.specs.Votes.{block}
use Rattle.construction.specs.Steps.{state_of, new_register, with_register, step_in, step_of}
use Rattle.construction.specs.Runs.{is_in, configuration, IsState, IsNumber, HasRegisters}
use Rattle.construction.specs.Runs.{IsConfiguration, IsTold, IsTable, heard_of, heard_by, Round}
use Rattle.construction.specs.Runs.{IsNext, Run}
use Rattle.construction.proofs.Ranges.{length-step_in}
use Rattle.construction.proofs.Blocks.{block_room, length-block, get_or-block, All-block}
use Rattle.plan_numbers.specs.Numbers.{with_level}
use Rattle.counter_core.specs.Meanings.{cut}
use Rattle.plan_laws.proofs.BoostLaws.{cut_with}
use Rattle.plan_laws.specs.BlocksOfRuns.{ids_in_block, block_of_configuration, block_of_run}
use Rattle.plan_laws.specs.Laws.{BlocksRun}
use Rattle.plan_laws.proofs.Ranges.{registers_of_cut, step_of-cut}

-- two ids of one block are the same if their places are
same_shifted : (a j u : ℕ) → eqb j u ≡ eqb (a + j) (a + u)
same_shifted a j u = ⊎_elim
    (λ same. same.0 ∙ sym (eq-eqb (a + j) (a + u) (omega (arith, same.1))))
    (λ other. other.0 ∙ sym (ne_eqb (a + j) (a + u) (λ e. other.1 (omega arith))))
    (eqb_tells j u)

-- one more id, in block i or not
id_step : (n i j id : ℕ) (ids : List ℕ) (b : Bool) → eqb (id / n) i ≡ b → j < n
    → is_in (ids_in_block n i ids) j ≡ is_in ids (i * n + j)
    → is_in (map (λ id. id - i * n)
    (cond b (id ∷ filter (λ id. eqb (id / n) i) ids) (filter (λ id. eqb (id / n) i) ids)))
    j ≡ is_in (id ∷ ids) (i * n + j)
id_step n i j id ids true e lt before =
    let here : id / n ≡ i = eqb-true (id / n) i e in
    let split : id ≡ id / n * n + id % n = omega (arith, div-add-mod id n) in
    let parts : id ≡ i * n + id % n = split ∙ ap (λ g. g * n + id % n) here in
    let whole : i * n + (id - i * n) ≡ id = omega arith in
    ap₂ (λ x y. x || y) (same_shifted (i * n) j (id - i * n) ∙ ap (eqb (i * n + j)) whole) before
id_step n i j id ids false e lt before =
    let apart : eqb (i * n + j) id ≡ false =
    ne_eqb (i * n + j) id
    (λ same. let there : id / n ≡ i =
    ap (λ v. v / n) (sym same) ∙ div-mul-add i n j lt in
    absurd (true≢false (sym (eq-eqb (id / n) i there) ∙ e))) in
    before ∙ sym (ap (λ b. b || is_in ids (i * n + j)) apart)

-- the ids of block i
is_in_block : (n i j : ℕ) (ids : List ℕ) → j < n
    → is_in (ids_in_block n i ids) j ≡ is_in ids (i * n + j)
is_in_block n i j [] lt = refl
is_in_block n i j (id ∷ ids) lt =
    id_step n i j id ids (eqb (id / n) i) refl lt (is_in_block n i j ids lt)

-- the state at a place of block i
state_in_block : (d n k i j : ℕ) (config : List State) → k * n ≤ length config → i < k → j < n
    → state_of (block_of_configuration d n i config) j ≡ cut d (state_of config (i * n + j))
state_in_block d n k i j config size ilt jlt =
    get_or-map (cut d) (block n i config) j (zero_state 0) (zero_state 0)
    (omega (arith, length-block k n i config size ilt))
    ∙ ap (cut d) (get_or-block n i j config (zero_state 0) jlt)

-- a choice of two states, cut
cut_choice : (d : ℕ) (b : Bool) (s t : State) → cond b (cut d s) (cut d t) ≡ cut d (cond b s t)
cut_choice d true s t = refl
cut_choice d false s t = refl

module _ (plan : Plan) (level : Level) (some : 0 < plan_nodes plan) (faulty : List ℕ) (i : ℕ)
    (ilt : i < level.blocks) where
  -- the level from which on a node of the block takes part
  low_in_block : (v : ℕ) → v < plan_nodes plan
      → low_of (level ∷ plan.levels) (i * plan_nodes plan + v) ≡ low_of plan.levels v
  low_in_block v vlt =
      let n : ℕ = plan_nodes plan in
      let room = block_room level.blocks n i ilt in
      ap (λ b. cond b (low_of plan.levels ((i * n + v) % n)) (plan_depth plan + 1))
      (lt-ltb (i * n + v) (level.blocks * n) (omega arith))
      ∙ ap (low_of plan.levels) (mod-mul-add i n v vlt)

  -- a state of the plan with the level, cut
  cut_is : (v : ℕ) → v < plan_nodes plan → (s : State)
      → IsState (with_level plan level) (i * plan_nodes plan + v) s
      → IsState plan v (cut (plan_depth plan) s)
  cut_is v vlt s is =
      let low = low_in_block v vlt in
      record {
        depth = length-take-le (plan_depth plan) s.registers (let d = is.depth in omega arith);
        x = subst (λ l. IsNumber (nat_le l 0) plan.base s.x) low is.x;
        registers =
            registers_of_cut (low_of plan.levels v) plan.levels (plan_depth plan) (omega arith) s
            (subst (λ l. HasRegisters l plan.levels s) low is.registers.0);
      }

  block_is : (config : List State) → IsConfiguration (with_level plan level) config
      → IsConfiguration plan (block_of_configuration (plan_depth plan) (plan_nodes plan) i config)
  block_is config is =
      let n : ℕ = plan_nodes plan in
      let d : ℕ = plan_depth plan in
      let room = block_room level.blocks n i ilt in
      let size = is.size in
      record {
        size = length-map (block n i config) (cut d)
            ∙ length-block level.blocks n i config (omega arith) ilt;
        states = λ v vlt.
            subst (IsState plan v)
            (sym (state_in_block d n level.blocks i v config (omega arith) ilt vlt))
            (cut_is v vlt (state_of config (i * n + v)) (is.states (i * n + v) (omega arith)));
      }

  -- the lies that nodes of the block tell nodes of the block
  lies_in_block : List (List State) → List (List State)
  lies_in_block lies =
      block_of_run (plan_depth plan) (plan_nodes plan) i (block (plan_nodes plan) i lies)

  -- a row of them
  row_in_block : (lies : List (List State)) (u : ℕ) → level.blocks * plan_nodes plan ≤ length lies
      → u < plan_nodes plan
      → get_or (lies_in_block lies) u [] ≡ block_of_configuration (plan_depth plan)
      (plan_nodes plan) i (get_or lies (i * plan_nodes plan + u) [])
  unfolding lies_in_block
  row_in_block lies u long ult =
      let n : ℕ = plan_nodes plan in
      let d : ℕ = plan_depth plan in
      let rows = length-block level.blocks n i lies long ilt in
      get_or-map (block_of_configuration d n i) (block n i lies) u [] [] (omega arith)
      ∙ ap (block_of_configuration d n i) (get_or-block n i u lies [] ult)

  told_is : (u : ℕ) → u < plan_nodes plan → (told : List State)
      → IsTold (with_level plan level) (i * plan_nodes plan + u) told
      → IsTold plan u (block_of_configuration (plan_depth plan) (plan_nodes plan) i told)
  told_is u ult told is =
      let n : ℕ = plan_nodes plan in
      let d : ℕ = plan_depth plan in
      let size = is.size in
      record {
        size = length-map (block n i told) (cut d)
            ∙ length-block level.blocks n i told (omega arith) ilt;
        states = All-map (IsState plan u) (cut d) (block n i told)
            (All-weaker (IsState (with_level plan level) (i * n + u))
            (λ s. IsState plan u (cut d s)) (cut_is u ult) (block n i told)
            (All-block (IsState (with_level plan level) (i * n + u)) n i told is.states));
      }

  table_is : (lies : List (List State)) → IsTable (with_level plan level) lies
      → IsTable plan (lies_in_block lies)
  unfolding lies_in_block
  table_is lies is =
      let n : ℕ = plan_nodes plan in
      let d : ℕ = plan_depth plan in
      let size = is.size in
      let room = block_room level.blocks n i ilt in
      record {
        size = length-map (block n i lies) (block_of_configuration d n i)
            ∙ length-block level.blocks n i lies (omega arith) ilt;
        rows = λ u ult.
            subst (IsTold plan u) (sym (row_in_block lies u (omega arith) ult))
            (told_is u ult (get_or lies (i * n + u) []) (is.rows (i * n + u) (omega arith)));
      }

  module _ (old : List State) (lies : List (List State))
      (is : IsConfiguration (with_level plan level) old)
      (table : IsTable (with_level plan level) lies) where
    -- what a node of the block hears of another
    heard_of_block : (v u : ℕ) → v < plan_nodes plan → u < plan_nodes plan
        → heard_of (ids_in_block (plan_nodes plan) i faulty)
        (block_of_configuration (plan_depth plan) (plan_nodes plan) i old) (lies_in_block lies)
        v u
        ≡ cut (plan_depth plan)
        (heard_of faulty old lies (i * plan_nodes plan + v) (i * plan_nodes plan + u))
    heard_of_block v u vlt ult =
        let n : ℕ = plan_nodes plan in
        let d : ℕ = plan_depth plan in
        let room = block_room level.blocks n i ilt in
        let row : List State = get_or lies (i * n + u) [] in
        let size = is.size in
        let rows = table.size in
        let told = (table.rows (i * n + u) (omega arith)).size in
        ap₂ (λ x y.
        cond (x || not y) (state_of (block_of_configuration d n i old) u)
        (state_of (get_or (lies_in_block lies) u []) v)) (same_shifted (i * n) u v)
        (is_in_block n i u faulty ult)
        ∙ (ap₂ (λ s t. cond (eqb (i * n + u) (i * n + v) || not (is_in faulty (i * n + u))) s t)
        (state_in_block d n level.blocks i u old (omega arith) ilt ult)
        (ap (λ r. state_of r v) (row_in_block lies u (omega arith) ult)
        ∙ state_in_block d n level.blocks i v row (omega arith) ilt vlt)
        ∙ cut_choice d (eqb (i * n + u) (i * n + v) || not (is_in faulty (i * n + u)))
        (state_of old (i * n + u)) (state_of row (i * n + v)))

    -- what a node of the block hears
    heard_in_block : (v : ℕ) → v < plan_nodes plan
        → heard_by (plan_nodes plan) (ids_in_block (plan_nodes plan) i faulty)
        (block_of_configuration (plan_depth plan) (plan_nodes plan) i old) (lies_in_block lies)
        v
        ≡ block_of_configuration (plan_depth plan) (plan_nodes plan) i
        (heard_by (group_size level (plan_nodes plan)) faulty old lies
        (i * plan_nodes plan + v))
    heard_in_block v vlt =
        let n : ℕ = plan_nodes plan in
        let d : ℕ = plan_depth plan in
        let room = block_room level.blocks n i ilt in
        let f : ℕ → State =
        heard_of (ids_in_block n i faulty) (block_of_configuration d n i old)
        (lies_in_block lies) v in
        let g : ℕ → State = heard_of faulty old lies (i * n + v) in
        let whole : ℕ = group_size level n in
        let all : List State = map g (range_with_len 0 whole) in
        let size = length-map-range_with_len g 0 whole in
        sym (fill_by_all f (block_of_configuration d n i all) n (zero_state 0)
        (length-map (block n i all) (cut d)
        ∙ length-block level.blocks n i all (omega arith) ilt)
        (λ u ult. state_in_block d n level.blocks i u all (omega arith) ilt ult
        ∙ (ap (cut d)
        (get_or-map-range_with_len g 0 whole (i * n + u) (i * n + u) (zero_state 0)
        (omega arith) (omega arith))
        ∙ sym (heard_of_block v u vlt ult))))

  -- the step of a node of the block, cut
  step_in_block : (v : ℕ) (heard : List State) → v < plan_nodes plan
      → cut (plan_depth plan)
      (step_of (with_level plan level) (i * plan_nodes plan + v) heard) ≡ step_of plan v
      (block_of_configuration (plan_depth plan) (plan_nodes plan) i heard)
  step_in_block v heard vlt =
      let n : ℕ = plan_nodes plan in
      let d : ℕ = plan_depth plan in
      let at : ℕ = i * n + v in
      let room = block_room level.blocks n i ilt in
      let r : Reg = new_register d n level at heard in
      let inner : State = step_in plan.base plan.levels (at % n) (block n (at / n) heard) in
      ap (λ b. cut d (with_register (cond b inner (zero_state d)) r))
      (lt-ltb at (level.blocks * n) (omega arith))
      ∙ (cut_with d inner r (length-step_in plan.base plan.levels (at % n) (block n (at / n) heard))
      ∙ (ap₂ (λ p g. step_of plan p (block n g heard)) (mod-mul-add i n v vlt)
      (div-mul-add i n v vlt)
      ∙ sym (step_of-cut plan v (block n i heard))))

  round_in_block : (old new : List State) (lies : List (List State))
      → IsConfiguration (with_level plan level) old → IsConfiguration (with_level plan level) new
      → Round (with_level plan level) faulty old lies new
      → Round plan (ids_in_block (plan_nodes plan) i faulty)
      (block_of_configuration (plan_depth plan) (plan_nodes plan) i old) (lies_in_block lies)
      (block_of_configuration (plan_depth plan) (plan_nodes plan) i new)
  round_in_block old new lies is next round =
      let n : ℕ = plan_nodes plan in
      let d : ℕ = plan_depth plan in
      let room = block_room level.blocks n i ilt in
      let size = next.size in
      record {
        table = table_is lies round.table;
        steps = λ v vlt correct.
            let all : List State = heard_by (group_size level n) faulty old lies (i * n + v) in
            state_in_block d n level.blocks i v new (omega arith) ilt vlt
            ∙ (ap (cut d)
            (round.steps (i * n + v) (omega arith)
            (sym (is_in_block n i v faulty vlt) ∙ correct))
            ∙ (step_in_block v all vlt
            ∙ ap (step_of plan v) (sym (heard_in_block old lies is round.table v vlt))));
      }

  run_in_block : (run : List (List State)) → Run (with_level plan level) faulty run
      → Run plan (ids_in_block (plan_nodes plan) i faulty)
      (block_of_run (plan_depth plan) (plan_nodes plan) i run)
  run_in_block run is =
      let n : ℕ = plan_nodes plan in
      let d : ℕ = plan_depth plan in
      let cutting : List State → List State = block_of_configuration d n i in
      let P : List State → Type 0 = IsConfiguration (with_level plan level) in
      let size = length-map run cutting in
      record {
        some = let s = is.some in omega arith;
        configurations =
            All-map (IsConfiguration plan) cutting run
            (All-weaker P (λ config. IsConfiguration plan (cutting config)) block_is run
            is.configurations);
        rounds = λ t lt.
            let tlt : t + 1 < length run = omega arith in
            let next = is.rounds t tlt in
            let old : List State = configuration run t in
            let new : List State = configuration run (t + 1) in
            subst₂ (λ a b. IsNext plan (ids_in_block n i faulty) a b)
            (sym (get_or-map cutting run t [] [] (omega arith)))
            (sym (get_or-map cutting run (t + 1) [] [] tlt))
            (record {
              lies = lies_in_block next.lies;
              round = round_in_block old new next.lies
                  (All-get_or P run t [] (omega arith) is.configurations)
                  (All-get_or P run (t + 1) [] tlt is.configurations) next.round;
            });
      }

pub blocks_run : BlocksRun
blocks_run plan level some faulty run is i ilt = run_in_block plan level some faulty i ilt run is
