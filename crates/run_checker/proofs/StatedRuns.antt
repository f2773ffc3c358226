-- Stretches of the stated run are runs of the plan.
use Rattle.std.proofs.Common.{inl, inr, ◌≡◌, ℕ, zero, suc, ◌+◌, ◌<◌, Bool, true, false, cond, eqb}
use Rattle.std.proofs.Common.{◌&&◌, List, [], ◌∷◌, length, map, set, All, Option, Some, None, find}
use Rattle.std.proofs.Common.{unwrap_or, refl, sym, ap, subst, ◌∙◌, arith}
use Rattle.std.specs.Prelude.{IfSome}
use Rattle.std.proofs.lemmas.Bool.{and_parts, eqb-true, cases_eq}
use Rattle.std.specs.Option.{option_map}
use Rattle.std.specs.List.{range_with_len}
use Rattle.std.proofs.lemmas.List.{length-set, get_or-set_same, get_or-set_other}
use Rattle.std.proofs.lemmas.List.Elements.{All-nil, All-cons, All-head, All-tail, All-map}
use Rattle.std.proofs.lemmas.List.FromFn.{length-map-range_with_len, get_or-map-range_with_len}
use Rattle.sync_types.specs.States.{State, zero_state}
use Rattle.construction.specs.Plans.{Plan, plan_nodes, plan_depth}
use Rattle.construction.specs.Steps.{state_of, step_of}
use Rattle.construction.specs.Runs.{is_in, IsState, IsConfiguration, IsTold, IsTable, Round, IsNext}
use Rattle.construction.specs.Runs.{Run, configuration, heard_by}
use Rattle.construction.proofs.Ranges.{step_is_state}
use Rattle.plan_numbers.specs.Premises.{IsAccepted}
use Rattle.plan_laws.proofs.PlanCounter.{positive}
use Rattle.state_codec.specs.Shapes.{IsFields, IsShape, shape_of}
use Rattle.run_checker.specs.NodeFields.{fields_of}
use Rattle.state_codec.specs.Texts.{read_text, decoded}
use Rattle.state_codec.proofs.Plans.{shape_of_accepted, depth_of_shape}
use Rattle.state_codec.proofs.PlanStates.{state_of_node}
use Rattle.state_codec.proofs.Lows.{fields_limited, depth_at}
use Rattle.state_codec.proofs.Ranged.{zero_in_range, read_is_in_range}
use Rattle.counter_core.proofs.StateLists.{each_below}
use Rattle.machine_runner.proofs.Places.{placed}
use Rattle.run_checker.specs.Certificates.{Put, Lie, Era, Turn}
use Rattle.run_checker.specs.Grammar.{faulty_behind}
use Rattle.run_checker.specs.Stated.{Snapshot, Message, told_by, told_of, lies_table, unless_faulty}
use Rattle.run_checker.specs.Stated.{with_starts, starts_of, stepped, stand_behind}
use Rattle.run_checker.specs.Stated.{first_stand, stands_behind}
use Rattle.run_checker.specs.Laws.{AreQuiet, stand_after, StretchesAreRuns}

found_by : {X : Type 0} (P : X → Type 0) (p : X → Bool) (b : Bool) (x : X) (more : Option X)
    → p x ≡ b → P x
    → IfSome more (λ y. P y × (p y ≡ true))
    → IfSome (cond b (Some x) more) (λ y. P y × (p y ≡ true))
found_by P p true x more e h rest = (h, e)
found_by P p false x more e h rest = rest

-- what is found has what all have, and passes the test
found_has : {X : Type 0} (P : X → Type 0) (p : X → Bool) (xs : List X) → All P xs
    → IfSome (find p xs) (λ x. P x × (p x ≡ true))
found_has P p [] h = tt
found_has P p (x ∷ xs) h =
    found_by P p (p x) x (find p xs) refl (All-head P x xs h) (found_has P p xs (All-tail P x xs h))

or_has : (P : State → Type 0) (Q : Message → Type 0) (o : Option Message) (s : State)
    → ((t : Message) → Q t → P t.state)
    → IfSome o Q → P s → P (unwrap_or (option_map (λ (t : Message). t.state) o) s)
or_has P Q None s given h p = p
or_has P Q (Some x) s given h p = given x h

either : (P : State → Type 0) (b : Bool) (x y : State) → P x → P y → P (cond b x y)
either P true x y p q = p
either P false x y p q = q

module _ (plan : Plan) (accepted : IsAccepted plan) where
  sound : IsShape (shape_of plan)
  sound = shape_of_accepted plan accepted

  fields_sound : (v : ℕ) → IsFields (fields_of plan v)
  fields_sound v = fields_limited (shape_of plan) v sound

  zero_is : (v : ℕ) → v < plan_nodes plan → IsState plan v (zero_state (plan_depth plan))
  zero_is v lt =
      let depth : length (fields_of plan v).moduli ≡ plan_depth plan =
      depth_at (shape_of plan) v ∙ depth_of_shape plan in
      subst (λ d. IsState plan v (zero_state d)) depth
      (state_of_node plan accepted v lt _ (zero_in_range (fields_of plan v) (fields_sound v)))

  read_is : (v : ℕ) → v < plan_nodes plan → (digits : List ℕ)
      → IsState plan v (read_text (fields_of plan v) digits)
  read_is v lt digits =
      state_of_node plan accepted v lt _
      (read_is_in_range (fields_of plan v) (decoded digits) (fields_sound v))

  step_is : (v : ℕ) (heard : List State) → IsState plan v (step_of plan v heard)
  step_is v heard =
      let moduli = positive plan.base plan.levels accepted.levels in
      step_is_state plan moduli.0 moduli.1 v heard

  made_is : (f : ℕ → State) → ((v : ℕ) → v < plan_nodes plan → IsState plan v (f v))
      → IsConfiguration plan (map f (range_with_len 0 (plan_nodes plan)))
  made_is f h = record {
    size = length-map-range_with_len f 0 (plan_nodes plan);
    states = placed (IsState plan) f (plan_nodes plan) h;
  }

  unless_is : (faulty : List ℕ) (f : ℕ → State)
      → ((v : ℕ) → v < plan_nodes plan → IsState plan v (f v))
      → IsConfiguration plan (unless_faulty plan faulty f)
  unless_is faulty f h = made_is (λ v. cond (is_in faulty v) (zero_state (plan_depth plan)) (f v))
      (λ v lt. either (IsState plan v) (is_in faulty v) (zero_state (plan_depth plan)) (f v)
      (zero_is v lt) (h v lt))

  set_is : (config : List State) (v : ℕ) (state : State)
      → (v < plan_nodes plan → IsState plan v state)
      → IsConfiguration plan config → IsConfiguration plan (set config v state)
  set_is config v state is h =
      let size = h.size in
      record {
        size = length-set config v state ∙ h.size;
        states = λ u lt. elim (cases_eq u v) [
          | inl same ↦
              let inside : v < plan_nodes plan = omega (arith, same, lt) in
              subst (λ w. IsState plan w (state_of (set config v state) w)) (sym same)
              (subst (IsState plan v)
              (sym
              (get_or-set_same config v state (zero_state 0) (omega (arith, inside, size))))
              (is inside))
          | inr other ↦
              subst (IsState plan u) (sym (get_or-set_other config v u state (zero_state 0) other))
              (h.states u lt)
        ];
      }

  put_is : (puts : List Put) (config : List State) → IsConfiguration plan config
      → IsConfiguration plan (with_starts plan config puts)
  put_is [] config h = h
  put_is (put ∷ puts) config h =
      put_is puts (set config put.node (read_text (fields_of plan put.node) put.digits))
      (set_is config put.node _ (λ lt. read_is put.node lt put.digits) h)

  abbrev IsOwn : Message → Type 0
  IsOwn t = t.sender < plan_nodes plan → IsState plan t.sender t.state

  table_is : (lies : List Lie) → IsTable plan (lies_table plan (map (told_by plan) lies))
  table_is lies =
      let told : List Message = map (told_by plan) lies in
      let states : All IsOwn told = All-map IsOwn (told_by plan) lies
      (λ i d l lt. read_is _ lt _) in
      let row : ℕ
      → List State = λ u. map (λ v. told_of plan told u v)
      (range_with_len 0 (plan_nodes plan)) in
      record {
        size = length-map-range_with_len row 0 (plan_nodes plan);
        rows =
            λ u lt. subst (IsTold plan u)
            (sym (get_or-map-range_with_len row 0 (plan_nodes plan) u u [] lt (omega arith)))
            (record {
              size = length-map-range_with_len (λ v. told_of plan told u v) 0 (plan_nodes plan);
              states = each_below (IsState plan u) (λ v. told_of plan told u v) (plan_nodes plan)
                  (λ v l.
                  let test : Message → Bool = λ t. eqb t.sender u && eqb t.receiver v in
                  or_has (IsState plan u) (λ t. IsOwn t × (test t ≡ true)) (find test told)
                  (zero_state (plan_depth plan))
                  (λ t h.
                  let same : t.sender ≡ u = eqb-true _ _ (and_parts _ _ h.1).0 in
                  subst (λ w. IsState plan w t.state) same (h.0 (omega (arith, same, lt))))
                  (found_has IsOwn test told states) (zero_is u lt));
            });
      }

  stand_is : (stand : Snapshot) (turn : Turn)
      → IsConfiguration plan (stand_behind plan stand turn).config
  stand_is stand turn =
      put_is (starts_of turn.era) _
      (unless_is (faulty_behind stand.faulty turn.era)
      (λ v. step_of plan v
      (heard_by (plan_nodes plan) stand.faulty stand.config
      (lies_table plan (map (told_by plan) turn.lies)) v))
      (λ v lt. step_is v _))

  correct_state : (b : Bool) (x y : State) → b ≡ false → cond b x y ≡ y
  correct_state false x y e = refl
  correct_state true x y e = absurd cc

  -- after a quiet round
  quiet_stand : (stand : Snapshot) (turn : Turn) → turn.era ≡ None
      → stand_behind plan stand turn
      ≡ record {
        faulty = stand.faulty;
        config = stepped plan stand.faulty stand (map (told_by plan) turn.lies);
      }
  quiet_stand stand turn quiet = ap (λ (era : Option Era). with_era era) quiet where
    with_era : Option Era → Snapshot
    with_era era =
        record {
          faulty = faulty_behind stand.faulty era;
          config = with_starts plan
              (stepped plan (faulty_behind stand.faulty era) stand (map (told_by plan) turn.lies))
              (starts_of era);
        }

  round_is : (stand : Snapshot) (turn : Turn) → turn.era ≡ None
      → Round plan stand.faulty stand.config (lies_table plan (map (told_by plan) turn.lies))
      (stand_behind plan stand turn).config
  round_is stand turn quiet =
      let told : List Message = map (told_by plan) turn.lies in
      record {
        table = table_is turn.lies;
        steps = λ v lt correct.
            ap (λ (s : Snapshot). state_of s.config v) (quiet_stand stand turn quiet)
            ∙ get_or-map-range_with_len
            (λ u. cond (is_in stand.faulty u) (zero_state (plan_depth plan))
            (step_of plan u
            (heard_by (plan_nodes plan) stand.faulty stand.config (lies_table plan told)
            u)))
            0 (plan_nodes plan) v v (zero_state 0) lt (omega arith)
            ∙ correct_state (is_in stand.faulty v) (zero_state (plan_depth plan))
            (step_of plan v
            (heard_by (plan_nodes plan) stand.faulty stand.config (lies_table plan told) v))
            correct;
      }

  -- one configuration before a run
  run_before : (faulty : List ℕ) (old new : List State) (configs : List (List State))
      → IsConfiguration plan old → IsNext plan faulty old new → Run plan faulty (new ∷ configs)
      → Run plan faulty (old ∷ new ∷ configs)
  run_before faulty old new configs is next run = record {
    some = omega arith;
    configurations = All-cons (IsConfiguration plan) old (new ∷ configs) is run.configurations;
    rounds = rounds;
  } where
    rounds : (t : ℕ) → t + 1 < length (old ∷ new ∷ configs)
        → IsNext plan faulty (configuration (old ∷ new ∷ configs) t)
        (configuration (old ∷ new ∷ configs) (t + 1))
    rounds zero lt = next
    rounds (suc t) lt =
        let e : suc t + 1 ≡ suc (t + 1) = omega arith in
        subst
        (λ n. IsNext plan faulty (configuration (new ∷ configs) t)
        (configuration (old ∷ new ∷ configs) n))
        (sym e) (run.rounds t (omega arith))

  one_run : (faulty : List ℕ) (config : List State) → IsConfiguration plan config
      → Run plan faulty (config ∷ [])
  one_run faulty config is =
      record {
        some = omega arith;
        configurations = All-cons (IsConfiguration plan) config [] is
            (All-nil (IsConfiguration plan));
        rounds = λ t lt. absurd (omega arith);
      }

  stretch_is : (turns : List Turn) (stand : Snapshot) → IsConfiguration plan stand.config
      → AreQuiet turns
      → Run plan stand.faulty
      (map (λ (s : Snapshot). s.config) (stand ∷ stands_behind plan stand turns))
  stretch_is [] stand is quiet = one_run stand.faulty stand.config is
  stretch_is (turn ∷ turns) stand is quiet =
      let now : turn.era ≡ None = All-head (λ (t : Turn). t.era ≡ None) turn turns quiet in
      let next : Snapshot = stand_behind plan stand turn in
      let same : next.faulty
      ≡ stand.faulty = ap (λ (s : Snapshot). s.faulty) (quiet_stand stand turn now) in
      run_before stand.faulty stand.config next.config
      (map (λ (s : Snapshot). s.config) (stands_behind plan next turns)) is
      (record {
        lies = lies_table plan (map (told_by plan) turn.lies);
        round = round_is stand turn now;
      })
      (subst
      (λ f. Run plan f (map (λ (s : Snapshot). s.config) (next ∷ stands_behind plan next turns)))
      same
      (stretch_is turns next (stand_is stand turn)
      (All-tail (λ (t : Turn). t.era ≡ None) turn turns quiet)))

  after_is : (before : List Turn) (stand : Snapshot) → IsConfiguration plan stand.config
      → IsConfiguration plan (stand_after plan stand before).config
  after_is [] stand is = is
  after_is (turn ∷ turns) stand is =
      after_is turns (stand_behind plan stand turn) (stand_is stand turn)

  first_is : (faulty : List ℕ) (puts : List Put)
      → IsConfiguration plan
      (with_starts plan (unless_faulty plan faulty (λ v. zero_state (plan_depth plan))) puts)
  first_is faulty puts =
      put_is puts _ (unless_is faulty (λ v. zero_state (plan_depth plan)) (λ v lt. zero_is v lt))

pub stretches_are_runs : StretchesAreRuns
stretches_are_runs c is before stretch after parts quiet =
    stretch_is c.plan is.accepted stretch (stand_after c.plan (first_stand c) before)
    (after_is c.plan is.accepted before (first_stand c)
    (first_is c.plan is.accepted c.faulty c.starts))
    quiet
