-- What is explained of a script's last era is locked, and if it goes on to the bound, it is
-- explained.
use Rattle.std.proofs.Common.{◌≡◌, ℕ, ◌+◌, ◌-◌, ◌*◌, ◌<◌, ◌≤◌, Bool, List, [], ◌∷◌, length}
use Rattle.std.proofs.Common.{if◌then◌else◌, sym, ap, ◌∙◌, subst, arith}
use Rattle.std.proofs.lemmas.Bool.{le-ltb}
use Rattle.std.proofs.lemmas.List.{length-map}
use Rattle.std.proofs.lemmas.List.Elements.{All-get_or}
use Rattle.std.proofs.lemmas.List.FromFn.{length-map-range_with_len, get_or-map-range_with_len}
use Rattle.sync_types.specs.States.{State}
use Rattle.construction.specs.Plans.{Level, Plan, plan_bound, beat_of, nodes_of, faults_of}
use Rattle.construction.specs.Pointers.{pointer_of, part_of}
use Rattle.construction.specs.Plans.{leaders_of}
use Rattle.construction.specs.Runs.{configuration, IsToleratedBy, IsLocked}
use Rattle.plan_laws.specs.Explained.{Explains}
use Rattle.plan_laws.specs.ExplainedRuns.{inner_in, ExplainedRunsLock, BoundIsExplained}
use Rattle.adversary_script.specs.Scripts.{Era, Script, faulty_sets}
use Rattle.adversary_script.specs.Eras.{first_of_era, end_of_era, faulty_of_era}
use Rattle.round_runner.specs.Laws.{IsReadFor}
use Rattle.round_runner.specs.Played.{played_at, era_run}
use Rattle.round_runner.proofs.EraRuns.{run_of_era}
use Rattle.run_explanations.specs.Explanations.{ExplainsEra, era_begin, is_faulty, outputs_in}
use Rattle.run_explanations.specs.Laws.{ExplainedErasLock, LongErasAreExplained, IsExplainedByBound}

-- ---- numbers of configurations from an earlier one on

module _ (level : Level) (n f : ℕ) (faulty : ℕ → Bool) (last a : ℕ) (outs moved : ℕ → ℕ → ℕ)
    (same : (r : ℕ) → a + r ≤ last → moved r ≡ outs (a + r)) where
  later : (t b s k : ℕ) → a ≤ t → Explains level n f faulty last outs t b s k
      → Explains level n f faulty (last - a) moved (t - a) b (s - a) k
  later t b s k le why =
      let window = why.window in
      let begins = why.begins in
      let ends = why.ends in
      let within = why.within in
      let back : a + (s - a) ≡ s = omega (arith, le, begins) in
      record {
        leader = why.leader;
        sound = why.sound;
        window = omega (arith, le, window);
        points = λ r i j lo hi ilt sound jlt ok.
            ap (λ (o : ℕ → ℕ). pointer_of (beat_of level) (leaders_of level) i (o (i * n + j)))
            (same r (omega (arith, le, hi, window)))
            ∙ why.points (a + r) i j (omega (arith, le, lo)) (omega (arith, le, hi)) ilt sound jlt
            ok;
        part = λ r. why.part (a + r);
        parts = λ r j lo hi jlt ok.
            ap (λ (o : ℕ → ℕ). part_of (beat_of level) (o (b * n + j)))
            (same r (omega (arith, le, hi, window)))
            ∙ why.parts (a + r) j (omega (arith, le, lo)) (omega (arith, le, hi)) jlt ok;
        grows = λ r lo hi.
            let next : a + (r + 1) ≡ a + r + 1 = omega arith in
            ap why.part next ∙ why.grows (a + r) (omega (arith, le, lo)) (omega (arith, le, hi));
        begins = omega (arith, le, begins);
        ends = omega (arith, le, begins, ends);
        within = omega (arith, le, begins, within);
        phase = ap why.part back ∙ why.phase;
        king = why.king;
      }

  earlier : (t b s k : ℕ) → a ≤ last → Explains level n f faulty (last - a) moved t b s k
      → Explains level n f faulty last outs (a + t) b (a + s) k
  earlier t b s k le why =
      let window = why.window in
      let begins = why.begins in
      let ends = why.ends in
      let within = why.within in
      let here : a + s - a ≡ s = omega arith in
      let at : (r : ℕ) → a + t ≤ r → r < a + t + beat_of level → moved (r - a) ≡ outs r = λ r lo hi.
      let back : a + (r - a) ≡ r = omega (arith, lo) in
      same (r - a) (omega (arith, lo, hi, window, le)) ∙ ap outs back in
      record {
        leader = why.leader;
        sound = why.sound;
        window = omega (arith, le, window);
        points = λ r i j lo hi ilt sound jlt ok.
            ap (λ (o : ℕ → ℕ). pointer_of (beat_of level) (leaders_of level) i (o (i * n + j)))
            (sym (at r lo hi))
            ∙ why.points (r - a) i j (omega (arith, lo)) (omega (arith, lo, hi)) ilt sound jlt ok;
        part = λ r. why.part (r - a);
        parts = λ r j lo hi jlt ok.
            ap (λ (o : ℕ → ℕ). part_of (beat_of level) (o (b * n + j))) (sym (at r lo hi))
            ∙ why.parts (r - a) j (omega (arith, lo)) (omega (arith, lo, hi)) jlt ok;
        grows = λ r lo hi.
            let next : r + 1 - a ≡ r - a + 1 = omega (arith, lo) in
            ap why.part next ∙ why.grows (r - a) (omega (arith, lo)) (omega (arith, lo, hi));
        begins = omega (arith, begins);
        ends = omega (arith, ends);
        within = omega (arith, within, le);
        phase = ap why.part here ∙ why.phase;
        king = why.king;
      }

-- ---- the last era as a run

module _ (plan : Plan) (script : Script) (is : IsReadFor plan script) where
  abbrev era : ℕ
  era = length script.eras

  abbrev run : List (List State)
  run = era_run plan script era

  end_is : end_of_era script era ≡ script.rounds + 1
  end_is = ap (λ (b : Bool). if b then first_of_era script (era + 1) else script.rounds + 1)
      (le-ltb era era (omega arith))

  length_is : length run ≡ script.rounds + 1 - era_begin script
  length_is =
      length-map-range_with_len (λ i. played_at plan script (era_begin script + i)) 0
      (end_of_era script era - era_begin script)
      ∙ ap (λ (e : ℕ). e - era_begin script) end_is

  configuration_is : (i : ℕ) → era_begin script + i ≤ script.rounds
      → configuration run i ≡ played_at plan script (era_begin script + i)
  configuration_is i le =
      get_or-map-range_with_len (λ i. played_at plan script (era_begin script + i)) 0
      (end_of_era script era - era_begin script) i i [] (omega (arith, le, end_is)) (omega arith)

  borne_is : IsToleratedBy plan (faulty_of_era script era)
  borne_is = All-get_or (IsToleratedBy plan) (faulty_sets script) era []
      (omega (arith, length-map script.eras (λ (era : Era). era.faulty))) is.right.borne

  outputs_are : (depth r : ℕ) → era_begin script + r ≤ script.rounds
      → outputs_in depth (configuration run r)
      ≡ outputs_in depth (played_at plan script (era_begin script + r))
  outputs_are depth r le = ap (outputs_in depth) (configuration_is r le)

lock_in : (law : ExplainedRunsLock) (version base : ℕ) (levels : List Level) (script : Script)
    → IsReadFor (record { version = version; base = base; levels = levels }) script
    → (t b s k : ℕ)
    → ExplainsEra (record { version = version; base = base; levels = levels }) script t b s k
    → IsLocked (record { version = version; base = base; levels = levels })
    (faulty_of_era script (length script.eras))
    (played_at (record { version = version; base = base; levels = levels }) script (s + 3))
lock_in law version base [] script is t b s k why = tt
lock_in law version base (level ∷ rest) script is t b s k why =
    let below : Plan = record { version = version; base = base; levels = rest } in
    let plan : Plan = record { version = version; base = base; levels = level ∷ rest } in
    let a : ℕ = era_begin script in
    let from = why.from in
    let e = why.explains in
    let within = e.within in
    let begins = e.begins in
    let last : script.rounds - a ≡ length (run plan script is) - 1 =
    (let l = length_is plan script is in omega (arith, l)) in
    let moved = later level (nodes_of rest) (faults_of rest) (is_faulty script) script.rounds a
    (λ r. outputs_in (length rest) (played_at plan script r)) (inner_in below (run plan script is))
    (outputs_are plan script is (length rest)) t b s k from e in
    let locked = law below level is.accepted (faulty_of_era script (length script.eras))
    (run plan script is) (borne_is plan script is)
    (run_of_era plan script is (length script.eras) (omega arith))
    (t - a) b (s - a) k
    (subst (λ (last : ℕ). Explains level (nodes_of rest) (faults_of rest) (is_faulty script) last
    (inner_in below (run plan script is)) (t - a) b (s - a) k) last moved) in
    let at : a + (s - a + 3) ≡ s + 3 = omega (arith, from, begins) in
    subst
    (λ (config : List State). IsLocked plan (faulty_of_era script (length script.eras)) config)
    (configuration_is plan script is (s - a + 3) (omega (arith, from, begins, within))
    ∙ ap (played_at plan script) at) locked

pub explained_eras_lock : ExplainedRunsLock → ExplainedErasLock
explained_eras_lock law plan script is t b s k why =
    lock_in law plan.version plan.base plan.levels script is t b s k why

explained_in_levels : (law : BoundIsExplained) (version base : ℕ) (levels : List Level)
    (script : Script)
    → IsReadFor (record { version = version; base = base; levels = levels }) script
    → 1 ≤ length levels
    → era_begin script + plan_bound (record { version = version; base = base; levels = levels })
    ≤ script.rounds
    → IsExplainedByBound (record { version = version; base = base; levels = levels }) script
explained_in_levels law version base [] script is some long = absurd (omega (arith, some))
explained_in_levels law version base (level ∷ rest) script is some long =
    let below : Plan = record { version = version; base = base; levels = rest } in
    let plan : Plan = record { version = version; base = base; levels = level ∷ rest } in
    let a : ℕ = era_begin script in
    let l = length_is plan script is in
    let last : length (run plan script is) - 1 ≡ script.rounds - a = omega (arith, l) in
    let e = law below level is.accepted (faulty_of_era script (length script.eras))
    (run plan script is) (borne_is plan script is)
    (run_of_era plan script is (length script.eras) (omega arith))
    (omega (arith, l, long)) in
    let ends = e.ends in
    record {
      t = a + e.t;
      b = e.b;
      s = a + e.s;
      k = e.k;
      explains = record {
        from = omega arith;
        explains = earlier level (nodes_of rest) (faults_of rest) (is_faulty script) script.rounds a
            (λ r. outputs_in (length rest) (played_at plan script r))
            (inner_in below (run plan script is))
            (outputs_are plan script is (length rest)) e.t e.b e.s e.k (omega (arith, long))
            (subst
            (λ (last : ℕ). Explains level (nodes_of rest) (faults_of rest) (is_faulty script)
            last
            (inner_in below (run plan script is)) e.t e.b e.s e.k) last e.explains);
      };
      by_bound = omega (arith, ends);
    }

pub long_eras_are_explained : BoundIsExplained → LongErasAreExplained
long_eras_are_explained law plan script is some long =
    explained_in_levels law plan.version plan.base plan.levels script is some long
