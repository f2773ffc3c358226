-- What explains is what is seen to explain.
use Rattle.std.proofs.Common.{◌≡◌, ℕ, zero, suc, ◌+◌, ◌-◌, ◌%◌, ◌<◌, ◌≤◌, Bool, Option, Some, List}
use Rattle.std.proofs.Common.{[], ◌∷◌, length, sym, ap, ◌∙◌, subst, add-zero, arith}
use Rattle.std.proofs.Math.Nat.{mod-add-mod, mod-eq_of_lt}
use Rattle.sync_types.specs.States.{State}
use Rattle.construction.specs.Plans.{Level, Plan, beat_of, nodes_of, faults_of}
use Rattle.plan_laws.specs.Explained.{Explains}
use Rattle.adversary_script.specs.Scripts.{Script}
use Rattle.round_runner.specs.Played.{played_at}
use Rattle.run_explanations.specs.declared.seeing.Observation.{Observation}
use Rattle.run_explanations.specs.Explanations.{ExplainsIn, ExplainsEra, era_begin, is_faulty}
use Rattle.run_explanations.specs.Explanations.{outputs_in, seen_at}
use Rattle.run_explanations.specs.Seeing.{Sees, seen_in}
use Rattle.run_explanations.specs.Tops.{IsTop, top_over, top_in, top_of}
use Rattle.run_explanations.proofs.Found.{Explained}
use Rattle.run_explanations.proofs.SeenShown.{shown_is_seen, seen_shows}

-- what configurations show
abbrev seen_over : Level → List Level → (faulty : ℕ → Bool) → (outs : ℕ → ℕ → ℕ) → ℕ
    → Option Observation
seen_over level below faulty outs c = seen_in (top_over level below) faulty (outs c)

module _ (level : Level) (below : List Level) (faulty : ℕ → Bool) (last from : ℕ) (outs : ℕ → ℕ → ℕ)
    (is : IsTop (top_over level below)) where
  module _ (t b s k : ℕ) (since : from ≤ t)
      (why : Explains level (nodes_of below) (faults_of below) faulty last outs t b s k) where
    sees_in : (r : ℕ) → t ≤ r → r < t + beat_of level
        → Sees (top_over level below) faulty (outs r) b (why.part r)
    sees_in r lo hi = record {
      leader = why.leader;
      sound = why.sound;
      points = λ i j lt sound jlt ok. why.points r i j lo hi lt sound jlt ok;
      parts = λ j jlt ok. why.parts r j lo hi jlt ok;
    }

    seen_in_window : (r : ℕ) → t ≤ r → r < t + beat_of level
        → seen_over level below faulty outs r ≡ Some (record { leader = b; part = why.part r })
    seen_in_window r lo hi =
        shown_is_seen (top_over level below) faulty (outs r) is b (why.part r) (sees_in r lo hi)

    small_part : why.part t < beat_of level
    small_part =
        (seen_shows (top_over level below) faulty (outs t) is
        (record { leader = b; part = why.part t })
        (seen_in_window t (omega arith) (omega arith))).below

    part_on : (x : ℕ) → x < beat_of level → why.part (t + x) ≡ (why.part t + x) % beat_of level
    part_on zero lt =
        ap why.part (add-zero t)
        ∙ sym (ap (λ (q : ℕ). q % beat_of level) (add-zero (why.part t)) ∙ mod-eq_of_lt small_part)
    part_on (suc x) lt =
        let next : t + suc x ≡ t + x + 1 = omega arith in
        let more : why.part t + x + 1 ≡ why.part t + suc x = omega arith in
        ap why.part next
        ∙ (why.grows (t + x) (omega arith) (omega (arith, lt))
        ∙ (ap (λ (q : ℕ). (q + 1) % beat_of level) (part_on x (omega (arith, lt)))
        ∙ (mod-add-mod (why.part t + x) (beat_of level) 1
        ∙ ap (λ (q : ℕ). q % beat_of level) more)))

    to_seen : Explained (beat_of level) faulty last from (seen_over level below faulty outs) t b s k
    to_seen =
        let begins = why.begins in
        let ends = why.ends in
        let back : t + (s - t) ≡ s = omega (arith, begins) in
        record {
          since = since;
          p = why.part t;
          small_p = small_part;
          window = record {
            each = λ x lt. seen_in_window (t + x) (omega arith) (omega (arith, lt))
                ∙ ap (λ (q : ℕ). Some (record { leader = b; part = q })) (part_on x lt);
          };
          within = why.window;
          begins = why.begins;
          ends = why.ends;
          by_last = why.within;
          phase = sym (part_on (s - t) (omega (arith, begins, ends)))
              ∙ (ap why.part back ∙ why.phase);
          king = why.king;
        }

  module _ (t b s k : ℕ)
      (why : Explained (beat_of level) faulty last from (seen_over level below faulty outs) t b s k)
    where
      window_shows : (r : ℕ) → t ≤ r → r < t + beat_of level
          → Sees (top_over level below) faulty (outs r) b ((why.p + (r - t)) % beat_of level)
      window_shows r lo hi =
          let back : t + (r - t) ≡ r = omega (arith, lo) in
          (seen_shows (top_over level below) faulty (outs r) is
          (record { leader = b; part = (why.p + (r - t)) % beat_of level })
          (ap (seen_over level below faulty outs) (sym back)
          ∙ why.window.each (r - t) (omega (arith, lo, hi)))).sees

      from_seen : Explains level (nodes_of below) (faults_of below) faulty last outs t b s k
      from_seen =
          let first = window_shows t (omega arith) (omega arith) in
          record {
            leader = first.leader;
            sound = first.sound;
            window = why.within;
            points =
                λ r i j lo hi lt sound jlt ok. (window_shows r lo hi).points i j lt sound
                jlt ok;
            part = λ r. (why.p + (r - t)) % beat_of level;
            parts = λ r j lo hi jlt ok. (window_shows r lo hi).parts j jlt ok;
            grows = λ r lo hi.
                let next : why.p + (r + 1 - t) ≡ why.p + (r - t) + 1 = omega (arith, lo) in
                ap (λ (q : ℕ). q % beat_of level) next
                ∙ sym (mod-add-mod (why.p + (r - t)) (beat_of level) 1);
            begins = why.begins;
            ends = why.ends;
            within = why.by_last;
            phase = why.phase;
            king = why.king;
          }

-- ---- of the last era of a script

module _ (script : Script) (config_at : ℕ → List State) (t b s k : ℕ) where
  abbrev seen_by : (levels : List Level) → ℕ → Option Observation
  seen_by levels c = seen_in (top_in levels) (is_faulty script)
      (outputs_in (length levels - 1) (config_at c))

  abbrev seen_deep : (level : Level) (below : List Level) (depth : ℕ) → ℕ → Option Observation
  seen_deep level below depth c = seen_in (top_over level below) (is_faulty script)
      (outputs_in depth (config_at c))

  same_seen : (level : Level) (below : List Level)
      → seen_over level below (is_faulty script) (λ r. outputs_in (length below) (config_at r))
      ≡ seen_by (level ∷ below)
  same_seen level below =
      let depth : length below ≡ length (level ∷ below) - 1 = omega arith in
      ap (seen_deep level below) depth

  to_in : (levels : List Level) (from : ℕ) → IsTop (top_in levels) → from ≤ t
      → ExplainsIn levels script config_at t b s k
      → Explained (top_in levels).beat (is_faulty script) script.rounds from (seen_by levels) t b s
      k
  to_in [] from is since why = absurd why
  to_in (level ∷ below) from is since why =
      subst
      (λ (seen : ℕ → Option Observation). Explained (beat_of level) (is_faulty script) script.rounds
      from seen t b s k)
      (same_seen level below)
      (to_seen level below (is_faulty script) script.rounds from
      (λ r. outputs_in (length below) (config_at r)) is t b s k since why)

  from_in : (levels : List Level) (from : ℕ) → IsTop (top_in levels)
      → Explained (top_in levels).beat (is_faulty script) script.rounds from (seen_by levels) t b s
      k
      → ExplainsIn levels script config_at t b s k
  from_in [] from is why = (let beat = is.beat in absurd (omega (arith, beat)))
  from_in (level ∷ below) from is why =
      from_seen level below (is_faulty script) script.rounds from
      (λ r. outputs_in (length below) (config_at r)) is t b s k
      (subst
      (λ (seen : ℕ → Option Observation). Explained (beat_of level) (is_faulty script) script.rounds
      from seen t b s k)
      (sym (same_seen level below)) why)

module _ (plan : Plan) (script : Script) (is : IsTop (top_of plan)) (t b s k : ℕ) where
  pub era_is_seen : ExplainsEra plan script t b s k
      → Explained (top_of plan).beat (is_faulty script) script.rounds (era_begin script)
      (seen_at plan script) t b s k
  era_is_seen why =
      to_in script (played_at plan script) t b s k plan.levels (era_begin script) is why.from
      why.explains

  pub seen_is_era : Explained (top_of plan).beat (is_faulty script) script.rounds (era_begin script)
      (seen_at plan script) t b s k
      → ExplainsEra plan script t b s k
  seen_is_era why = record {
    from = why.since;
    explains = from_in script (played_at plan script) t b s k plan.levels (era_begin script) is why;
  }
