-- Why a span locks the registers: there is an explanation in it, and what is explained is locked.
use Rattle.std.proofs.Common.{◌≡◌, ℕ, zero, suc, ◌+◌, ◌-◌, ◌*◌, ◌/◌, ◌%◌, ◌<◌, ◌≤◌, Bool, true}
use Rattle.std.proofs.Common.{false, ◌&&◌, List, ltb, refl, sym, ap, ◌∙◌, subst, arith}
use Rattle.std.proofs.Math.Nat.{mod-lt, mod-add-mod, mod-eq_of_lt, add-zero}
use Rattle.std.proofs.lemmas.Nat.{mul-le}
use Rattle.std.proofs.lemmas.Bool.{false≢true, ltb-true, lt-ltb, leb-true, le-leb, and_parts}
use Rattle.std.proofs.lemmas.Bool.{and_from}
use Rattle.sync_types.specs.declared.states.Reg.{Reg}
use Rattle.counting.specs.Places.{places}
use Rattle.counting.proofs.Places.{one_fails}
use Rattle.construction.specs.Plans.{Level, group_size, leaders_of, beat_of, span_of}
use Rattle.construction.specs.Pointers.{pointer_of, part_of}
use Rattle.construction.specs.Votes.{beat_heard}
use Rattle.leader_pointers.specs.Windows.{CountsFor}
use Rattle.leader_pointers.proofs.Windows.{meet, part_counted}
use Rattle.phase_king.specs.Hearing.{Obeys, AllObey, AllLocked}
use Rattle.phase_king.proofs.Rounds.{convergence}
use Rattle.plan_laws.specs.Hearing.{HearsOutputs, RegistersStep}
use Rattle.plan_laws.specs.Level.{LevelPremises, faults_in, BlockCounts}
use Rattle.plan_laws.specs.Explained.{Explains, ExplainedLocks, IsExplained, SpanIsExplained}
use Rattle.plan_laws.proofs.Blocks.{sound, sound_leader}
use Rattle.plan_laws.proofs.Phase.{good_king, phase_time, kind_of, king_of}
use Rattle.plan_laws.proofs.Beats.{beat_is, AllPointTo}

-- ---- what is explained is locked

module _ (level : Level) (n f modulus : ℕ) (next : ℕ → ℕ) (faulty : ℕ → Bool)
    (stands : LevelPremises level n f modulus) (inner : 3 * f < n)
    (few : places faulty (group_size level n) ≤ level.faults)
    (from last : ℕ) (outputs : ℕ → ℕ → ℕ) (registers : ℕ → ℕ → Reg)
    (steps : RegistersStep level n next faulty from last outputs registers)
    (t b s k : ℕ) (begins : from ≤ t) (why : Explains level n f faulty last outputs t b s k) where
  -- each correct node makes the beat of block b
  beat_in : (r : ℕ) → t ≤ r → r < t + beat_of level → (heard : List ℕ)
      → HearsOutputs (level.blocks * n) faulty (outputs r) heard
      → beat_heard level n heard ≡ why.part r
  unfolding AllPointTo
  beat_in r lo hi heard hears =
      let three = stands.blocks in
      let leader = why.leader in
      beat_is level n f modulus faulty stands inner few (outputs r) heard hears b (why.part r)
      (omega arith) (le-leb _ _ why.sound)
      (λ i j ilt iok jlt ok. why.points r i j lo hi ilt (leb-true _ _ iok) jlt ok)
      (λ j jlt ok. why.parts r j lo hi jlt ok)

  -- the phase is one of the beat's, as a correct node of block b shows
  part_below : why.part s < beat_of level
  part_below =
      let sound_b = why.sound in
      let v = one_fails (λ j. faulty (b * n + j)) n (omega (arith, sound_b, inner)) in
      let lo = why.begins in
      let hi = why.ends in
      subst (λ y. y < beat_of level) (why.parts s v.0 lo (omega arith) v.1 v.2)
      (mod-lt (outputs s (b * n + v.0)) (omega arith))

  -- the three parts of the phase
  part_zero : why.part (s + 0) ≡ 3 * k + 0
  part_zero = ap why.part (add-zero s) ∙ (why.phase ∙ sym (add-zero (3 * k)))

  one_on : (j : ℕ) → j < 2 → why.part (s + j) ≡ 3 * k + j → why.part (s + suc j) ≡ 3 * k + suc j
  one_on j jlt here =
      let e : s + suc j ≡ s + j + 1 = omega arith in
      let e' : 3 * k + j + 1 ≡ 3 * k + suc j = omega arith in
      let lo = why.begins in
      let hi = why.ends in
      let phase = why.phase in
      let below = part_below in
      ap why.part e
      ∙ (why.grows (s + j) (omega arith) (omega arith)
      ∙ (ap (λ y. (y + 1) % beat_of level) here
      ∙ (mod-eq_of_lt (omega (arith, phase, below, jlt)) ∙ e')))

  part_in : (j : ℕ) → j < 3 → why.part (s + j) ≡ 3 * k + j
  part_in zero jlt = part_zero
  part_in (suc zero) jlt = one_on 0 (omega arith) part_zero
  part_in (suc (suc zero)) jlt = one_on 1 (omega arith) (one_on 0 (omega arith) part_zero)
  part_in (suc (suc (suc j))) jlt = absurd (omega arith)

  obeys : (r j : ℕ) → r ≡ s + j → j < 3
      → AllObey (group_size level n) level.faults next faulty j k (registers r) (registers (r + 1))
  obeys r j e jlt = λ v vlt ok.
      let lo = why.begins in
      let hi = why.ends in
      let within = why.within in
      let step = steps r v (omega arith) (omega arith) vlt ok in
      let beat : beat_heard level n step.heard
      ≡ 3 * k + j = beat_in r (omega arith) (omega arith) step.heard step.hears
      ∙ (ap why.part e ∙ part_in j jlt) in
      subst
      (λ y. Obeys (group_size level n) level.faults next faulty (registers r) y k
      (registers r v) (registers (r + 1) v))
      (ap (λ y. y % 3) beat ∙ kind_of k j jlt)
      (subst
      (λ y. Obeys (group_size level n) level.faults next faulty (registers r)
      (beat_heard level n step.heard % 3) y (registers r v) (registers (r + 1) v))
      (ap (λ y. y / 3) beat ∙ king_of k j jlt) step.obeys)

  locked : (value : ℕ) × AllLocked (group_size level n) faulty (registers (s + 3)) value
  locked =
      let three = stands.blocks in
      let many : 3 * 1 ≤ level.blocks * n = mul-le 3 1 level.blocks n three (omega arith) in
      let quorum = stands.quorum in
      let phase = why.phase in
      let below = part_below in
      let e : s + 1 + 1 + 1 ≡ s + 3 = omega arith in
      subst (λ y. (value : ℕ) × AllLocked (group_size level n) faulty (registers y) value) e
      (convergence (group_size level n) level.faults next faulty stands.quorum few k (registers s)
      (registers (s + 1)) (registers (s + 1 + 1)) (registers (s + 1 + 1 + 1))
      (omega (arith, phase, below, quorum, many)) why.king
      (obeys s 0 (omega arith) (omega arith)) (obeys (s + 1) 1 (omega arith) (omega arith))
      (obeys (s + 1 + 1) 2 (omega arith) (omega arith)))

pub explained_locks : ExplainedLocks
explained_locks level n f modulus next faulty stands inner few from last outputs registers steps t b
    s k begins why =
    locked level n f modulus next faulty stands inner few from last outputs registers steps t b s k
    begins why

-- ---- a span is explained

module _ (level : Level) (n f modulus : ℕ) (faulty : ℕ → Bool)
    (stands : LevelPremises level n f modulus)
    (few : places faulty (group_size level n) ≤ level.faults) (some : 0 < n)
    (t last : ℕ) (outputs : ℕ → ℕ → ℕ) (long : t + span_of level ≤ last)
    (counts : (i : ℕ) → i < level.blocks → faults_in n faulty i ≤ f
    → BlockCounts level n modulus t faulty outputs i)
  where
    -- the output of block i, if it is sound
    output_by : (i : ℕ) (b : Bool) → (ltb i level.blocks && sound n f faulty i) ≡ b → ℕ → ℕ
    output_by i true e =
        let p = and_parts (ltb i level.blocks) (sound n f faulty i) e in
        (counts i (ltb-true _ _ p.0) (leb-true _ _ p.1)).output
    output_by i false e = λ r. 0

    output_counts : (i : ℕ) (b : Bool) (e : (ltb i level.blocks && sound n f faulty i) ≡ b)
        → b ≡ true
        → CountsFor modulus t (span_of level) (output_by i b e)
    unfolding output_by
    output_counts i true e h =
        let p = and_parts (ltb i level.blocks) (sound n f faulty i) e in
        (counts i (ltb-true _ _ p.0) (leb-true _ _ p.1)).counts
    output_counts i false e h = absurd (false≢true h)

    output_common : (i : ℕ) (b : Bool) (e : (ltb i level.blocks && sound n f faulty i) ≡ b)
        → b ≡ true
        → (r j : ℕ) → t ≤ r → r < t + span_of level → j < n → faulty (i * n + j) ≡ false
        → outputs r (i * n + j) ≡ output_by i b e r
    unfolding output_by
    output_common i true e h =
        let p = and_parts (ltb i level.blocks) (sound n f faulty i) e in
        (counts i (ltb-true _ _ p.0) (leb-true _ _ p.1)).common
    output_common i false e h = absurd (false≢true h)

    output : ℕ → ℕ → ℕ
    output i = output_by i (ltb i level.blocks && sound n f faulty i) refl

    Counting : (i : ℕ) → Type 0
    Counting i =
        CountsFor modulus t (span_of level) (output i)
        × ((r j : ℕ) → t ≤ r → r < t + span_of level → j < n → faulty (i * n + j) ≡ false
        → outputs r (i * n + j) ≡ output i r)

    counting : (i : ℕ) → i < level.blocks → sound n f faulty i ≡ true → Counting i
    unfolding Counting output
    counting i lt ok =
        let e = and_from (ltb i level.blocks) (sound n f faulty i) (lt-ltb _ _ lt) ok in (
          output_counts i (ltb i level.blocks && sound n f faulty i) refl e,
          output_common i (ltb i level.blocks && sound n f faulty i) refl e,
        )

    -- the part of block b from a configuration on
    part_goes : (b : ℕ) → b < level.blocks → sound n f faulty b ≡ true → (r x : ℕ) → t ≤ r
        → r + x < t + span_of level
        → output b (r + x) % beat_of level ≡ (output b r % beat_of level + x) % beat_of level
    unfolding Counting
    part_goes b blt bok r x lo hi =
        let c = (counting b blt bok).0 in
        let y : ℕ = r - t in
        let e : r ≡ t + y = omega arith in
        let e' : r + x ≡ t + (y + x) = omega arith in
        let g : output b t + (y + x) ≡ output b t + y + x = omega arith in
        let goes : (z : ℕ) → z < span_of level
        → output b (t + z) % beat_of level ≡ (output b t + z) % beat_of level =
        part_counted (beat_of level) (leaders_of level) level.blocks modulus t (output b)
        stands.multiple c in
        ap (λ r. output b r % beat_of level) e'
        ∙ (goes (y + x) (omega arith)
        ∙ (ap (λ r. r % beat_of level) g
        ∙ (sym (mod-add-mod (output b t + y) (beat_of level) x)
        ∙ ap (λ r. (r + x) % beat_of level)
        (sym (goes y (omega arith)) ∙ ap (λ r. output b r % beat_of level) (sym e)))))

    explained : IsExplained level n f faulty last outputs t (t + span_of level)
    unfolding Counting
    explained =
        let three = stands.blocks in
        let b = sound_leader level n f modulus faulty stands few in
        let blt : b.0 < level.blocks = (let l = b.1 in omega (arith, l, three)) in
        let w = meet (beat_of level) (leaders_of level) level.blocks modulus t b.0
        (sound n f faulty)
        output (omega arith) b.1 stands.multiple (λ i ilt iok. (counting i ilt iok).0) in
        let many : 3 * 1 ≤ level.blocks * n = mul-le 3 1 level.blocks n three (omega arith) in
        let start : ℕ = output b.0 w.start % beat_of level in
        let q = good_king (group_size level n) level.faults (start / 3) faulty stands.quorum
        (omega arith) few in
        let x = phase_time (beat_of level) start q.0 (mod-lt (output b.0 w.start) (omega arith))
        (omega arith) q.3 in
        let begins = w.begins in
        let ends = w.ends in
        let room = x.1 in
        record {
          t = w.start;
          b = b.0;
          s = w.start + x.0;
          k = q.0;
          begins = w.begins;
          ends = w.ends;
          explains = record {
            leader = b.1;
            sound = leb-true _ _ b.2;
            window = omega arith;
            points =
                λ r i j lo hi ilt iok jlt ok. ap (pointer_of (beat_of level) (leaders_of level) i)
                ((counting i ilt (le-leb _ _ iok)).1 r j (omega arith) (omega arith) jlt ok)
                ∙ w.points i r ilt (le-leb _ _ iok) lo hi;
            part = λ r. output b.0 r % beat_of level;
            parts =
                λ r j lo hi jlt ok. ap (part_of (beat_of level))
                ((counting b.0 blt b.2).1 r j (omega arith) (omega arith) jlt ok);
            grows = λ r lo hi. part_goes b.0 blt b.2 r 1 (omega arith) (omega arith);
            begins = omega arith;
            ends = omega arith;
            within = omega arith;
            phase =
                part_goes b.0 blt b.2 w.start x.0 (omega arith) (omega arith)
                ∙ (ap (λ y. y % beat_of level) (sym (add-zero (start + x.0)))
                ∙ (x.2 0 (omega arith) ∙ add-zero (3 * q.0)));
            king = q.2;
          };
        }

pub span_is_explained : SpanIsExplained
span_is_explained level n f modulus faulty stands few some t last outputs long counts =
    explained level n f modulus faulty stands few some t last outputs long counts
