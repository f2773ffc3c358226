-- If one half counts, all obey one of its kings for three rounds, and the registers are locked.
use Rattle.std.proofs.Common.{◌≡◌, ◌⊎◌, ℕ, zero, suc, ◌+◌, ◌-◌, ◌*◌, ◌/◌, ◌%◌, ◌<◌, ◌≤◌, Bool}
use Rattle.std.proofs.Common.{true, false, eqb, ap, sym, refl, ◌∙◌, subst, inl, inr, ⊎_elim, arith}
use Rattle.std.proofs.Math.Nat.{mul-le-mul_right}
use Rattle.std.proofs.lemmas.Bool.{cases_lt, and_from, or_left, or_right, eq-eqb}
use Rattle.sync_types.specs.declared.states.Reg.{Reg}
use Rattle.counting.specs.Places.{places}
use Rattle.counting.proofs.Places.{stretches, shorter, one_fails}
use Rattle.phase_king.specs.Hearing.{AllLocked}
use Rattle.halving_plan.specs.Halves.{Halves, Halved, faults_of, left_period, right_period}
use Rattle.halving_plan.specs.Halves.{right_share, left_share, left_wait, right_wait}
use Rattle.halving_plan.specs.LevelStates.{LevelState, instruction_of, king_of}
use Rattle.halving_plan.specs.Hearing.{LevelStatesStep}
use Rattle.halving_plan.specs.Level.{faults_in, LeftCounts, RightCounts, StaysLocked}
use Rattle.halving_plan.specs.Level.{OneHalfIsSound, HalvesSettle, LockedStaysLocked}
use Rattle.halving_plan.proofs.Correct.{IsCorrect}
use Rattle.halving_plan.proofs.Trust as trusts
use Rattle.halving_plan.proofs.Trust.{Trust, Follows}
use Rattle.halving_plan.proofs.Windows.{NoneFollows, OneFollows, window}
use Rattle.halving_plan.proofs.Outputs as outputs_of
use Rattle.halving_plan.proofs.Outputs.{Comes}
use Rattle.halving_plan.proofs.Locked.{stays_from}
use Rattle.halving_plan.proofs.KingPhases as kings
use Rattle.halving_plan.proofs.KingPhases.{Obeyed}
use Rattle.halving_plan.proofs.Rounds as rounds

-- ---- one half is sound

sound_by : (halves : Halves) (faulty : ℕ → Bool) → Halved halves
    → places faulty halves.nodes ≤ faults_of halves
    → (halves.left_faults < faults_in 0 halves.left_nodes faulty)
    ⊎ (faults_in 0 halves.left_nodes faulty ≤ halves.left_faults)
    → (faults_in 0 halves.left_nodes faulty ≤ halves.left_faults)
    ⊎ (faults_in halves.left_nodes halves.right_nodes faulty ≤ halves.right_faults)
sound_by halves faulty is few (inr le) = inl le
sound_by halves faulty is few (inl lt) = inr (
    let room = is.room in
    let e : 0 + halves.left_nodes ≡ halves.left_nodes = omega arith in
    omega (
      arith,
      ap (places faulty) e,
      stretches faulty 0 halves.left_nodes,
      stretches faulty halves.left_nodes halves.right_nodes,
      shorter faulty (halves.left_nodes + halves.right_nodes) halves.nodes room,
    ))

pub one_half_is_sound : OneHalfIsSound
one_half_is_sound halves faulty is few =
    sound_by halves faulty is few
    (cases_lt halves.left_faults (faults_in 0 halves.left_nodes faulty))

-- ---- one of its first kings is correct

correct_king : (first nodes faults : ℕ) (faulty : ℕ → Bool) → 3 * faults < nodes
    → faults_in first nodes faulty ≤ faults
    → (q : ℕ) × (q < faults + 1) × (faulty (first + q) ≡ false)
correct_king first nodes faults faulty quorum few =
    one_fails (λ i. faulty (first + i)) (faults + 1)
    (omega (arith, shorter (λ i. faulty (first + i)) (faults + 1) nodes (omega arith)))

module _ (halves : Halves) (next : ℕ → ℕ) (faulty : ℕ → Bool) (is : Halved halves)
    (few : places faulty halves.nodes ≤ faults_of halves) (s last : ℕ) (outputs : ℕ → ℕ → ℕ)
    (states : ℕ → ℕ
    → LevelState) (steps : LevelStatesStep halves next faulty s last outputs states) where
  abbrev n : ℕ
  n = halves.nodes

  abbrev f : ℕ
  f = faults_of halves

  abbrev registers : ℕ → ℕ → Reg
  registers r v = (states r v).register

  abbrev seen : ℕ → ℕ → ℕ
  seen r v = (states r v).seen

  abbrev trusted : ℕ → ℕ → Bool
  trusted r v = (states r v).trusted

  abbrev back : ℕ → ℕ → Bool
  back = rounds.back halves next faulty s last outputs states steps

  abbrev follows : ℕ → ℕ → Bool
  follows = rounds.follows halves next faulty s last outputs states steps

  abbrev right : ℕ → ℕ → ℕ
  right = rounds.right halves next faulty s last outputs states steps

  abbrev instruction : ℕ → ℕ → ℕ
  instruction = rounds.instruction halves next faulty s last outputs states steps

  abbrev kinds : ℕ → ℕ → ℕ
  kinds r v = instruction r v % 3

  abbrev kings_at : ℕ → ℕ → ℕ
  kings_at r v = king_of halves (follows r v) (instruction r v)

  trust : Trust n faulty s last (left_period halves) seen trusted back
  trust = rounds.trust halves next faulty s last outputs states steps is few

  abbrev FollowsAt : ℕ → ℕ → Type 0
  FollowsAt r v = Follows (right_share halves) (seen r v) (trusted r v) (back r v)

  follow_parts : (r v : ℕ) → follows r v ≡ true → FollowsAt r v
  follow_parts r v e =
      trusts.follows_parts (right_share halves) (seen r v) (trusted r v) (back r v)
      (sym (rounds.follows_is halves next faulty s last outputs states steps r v) ∙ e)

  follow_from : (r v : ℕ) → FollowsAt r v → follows r v ≡ true
  follow_from r v f = rounds.follows_is halves next faulty s last outputs states steps r v
      ∙ trusts.follows_from (right_share halves) (seen r v) (trusted r v) (back r v) f

  -- which instruction and king a node obeys
  obeys_by : (r v : ℕ) (left : Bool) (instruction_is kind king : ℕ) → follows r v ≡ left
      → instruction_of halves left (seen r v) (right r v) ≡ instruction_is
      → instruction_is % 3 ≡ kind → king_of halves left instruction_is ≡ king
      → (kinds r v ≡ kind) × (kings_at r v ≡ king)
  obeys_by r v left i kind king e g kind_is king_is =
      let now : instruction r v ≡ i =
      rounds.instruction_is halves next faulty s last outputs states steps r v
      ∙ (ap (λ b. instruction_of halves b (seen r v) (right r v)) e ∙ g) in (
        ap (λ k. k % 3) now ∙ kind_is,
        ap (λ b. king_of halves b (instruction r v)) e ∙ (ap (king_of halves left) now ∙ king_is),
      )

  -- ---- locked registers

  pub stays_locked : (c z : ℕ) → s ≤ c → AllLocked n faulty (registers c) z
      → StaysLocked n next faulty c last registers
  stays_locked c z lo all =
      stays_from n f next faulty is.quorum few s last registers kinds kings_at
      (rounds.obey halves next faulty s last outputs states steps) c z lo all

  -- after three rounds in which all obey one correct king
  king_locks : (x king from : ℕ) → s ≤ x → x + 3 ≤ from → from ≤ last → king < n
      → faulty king ≡ false
      → ((i : ℕ) → i < 3 → Obeyed n faulty (kinds (x + i)) (kings_at (x + i)) i king)
      → StaysLocked n next faulty from last registers
  king_locks =
      kings.king_locks n f next faulty is.quorum few s last registers kinds kings_at
      (rounds.obey halves next faulty s last outputs states steps)

  late : (from : ℕ) → last < from → StaysLocked n next faulty from last registers
  late from short = record {
    value = λ r. 0;
    locked = λ r lo hi. absurd (omega arith);
    grows = λ r lo hi. absurd (omega arith);
  }

  -- ---- the left half counts

  module _ (t : ℕ) (since : s ≤ t) (counts : LeftCounts halves faulty t last outputs) where
    abbrev period : ℕ
    period = left_period halves

    left_comes : Comes period t last counts.output 0
    left_comes =
        outputs_of.comes period t last counts.output counts.starts counts.grows 0 (omega arith)

    -- a round after it shows 0 for the first time
    abbrev start : ℕ
    start = t + left_comes.wait + 1

    -- what all saw from then on
    saw_on : (d v : ℕ) → d < period → start + d ≤ last → IsCorrect n faulty v
        → seen (start + d) v ≡ d
    saw_on d v lt hi c =
        let r : ℕ = t + left_comes.wait + 0 * period + d in
        let e : r + 1 ≡ start + d = omega arith in
        let shows : counts.output r ≡ 0 + d = left_comes.shows 0 d (omega arith) (omega arith) in
        let same : 0 + d ≡ d = omega arith in
        subst (λ q. seen q v ≡ d) e
        (rounds.left_seen halves next faulty s last outputs states steps is t since counts r v
        (omega arith) (omega arith) c (omega arith)
        ∙ (shows ∙ same))

    back_on : (d v : ℕ) → d < period → start + d < last → IsCorrect n faulty v
        → back (start + d) v ≡ true
    back_on d v lt hi c =
        trust.all (start + d) v (omega arith) hi c
        (λ w wc. saw_on d w lt (omega arith) wc ∙ sym (saw_on d v lt (omega arith) c))

    trusts_by : (d v : ℕ) → d + 1 < period → start + d + 1 ≤ last → IsCorrect n faulty v
        → (trusted (start + d) v ≡ true) ⊎ (d ≡ 0) → trusted (start + d + 1) v ≡ true
    trusts_by d v lt hi c before =
        let e : start + (d + 1) ≡ start + d + 1 = omega arith in
        let now = saw_on d v (omega arith) (omega arith) c in
        let then : seen (start + d + 1) v ≡ d + 1 =
        subst (λ q. seen q v ≡ d + 1) e (saw_on (d + 1) v lt (omega arith) c) in
        trust.goes (start + d) v (omega arith) (omega arith) c
        ∙ and_from _ _ (back_on d v (omega arith) (omega arith) c)
        (and_from _ _ (eq-eqb (seen (start + d + 1) v) (seen (start + d) v + 1) (omega arith))
        (⊎_elim (or_left (trusted (start + d) v) (eqb (seen (start + d) v) 0))
        (λ z. or_right (trusted (start + d) v) (eqb (seen (start + d) v) 0)
        (eq-eqb (seen (start + d) v) 0 (now ∙ z))) before))

    trusts_on : (d v : ℕ) → d + 1 < period → start + d + 1 ≤ last → IsCorrect n faulty v
        → trusted (start + d + 1) v ≡ true
    trusts_on zero v lt hi c = trusts_by 0 v lt hi c (inr refl)
    trusts_on (suc d) v lt hi c =
        let e : start + d + 1 ≡ start + suc d = omega arith in
        trusts_by (suc d) v lt hi c
        (inl (subst (λ q. trusted q v ≡ true) e (trusts_on d v (omega arith) (omega arith) c)))

    -- all follow it in its share
    follows_on : (i v : ℕ) → i < left_share halves → start + right_share halves + i < last
        → IsCorrect n faulty v
        → (follows (start + right_share halves + i) v ≡ true)
        × (seen (start + right_share halves + i) v ≡ right_share halves + i)
    follows_on i v lt hi c =
        let d : ℕ = right_share halves + i in
        let before : ℕ = right_share halves + i - 1 in
        let e : start + d ≡ start + right_share halves + i = omega arith in
        let g : start + before + 1 ≡ start + right_share halves + i = omega arith in
        let saw : seen (start + right_share halves + i) v ≡ d =
        subst (λ q. seen q v ≡ d) e (saw_on d v (omega arith) (omega arith) c) in (
          follow_from (start + right_share halves + i) v (record {
            is_backed = subst (λ q. back q v ≡ true) e (back_on d v (omega arith) (omega arith) c);
            is_trusted = subst (λ q. trusted q v ≡ true) g
                (trusts_on before v (omega arith) (omega arith) c);
            high = omega arith;
          }),
          saw,
        )

    -- and so they obey each of its kings
    left_obeyed : (q i : ℕ) → q < halves.left_faults + 1 → i < 3
        → start + right_share halves + (3 * q + i) < last
        → Obeyed n faulty (kinds (start + right_share halves + (3 * q + i)))
        (kings_at (start + right_share halves + (3 * q + i))) i q
    left_obeyed q i below few hi =
        let x : ℕ = start + right_share halves + (3 * q + i) in
        let obeys : (v : ℕ) → IsCorrect n faulty v → (kinds x v ≡ i) × (kings_at x v ≡ q) = λ v c.
        let f = follows_on (3 * q + i) v (omega arith) hi c in
        let saw = f.1 in
        obeys_by x v true (3 * q + i) i q f.0 (omega arith) (omega arith) (omega arith) in
        record { kinds_are = λ v c. (obeys v c).0; kings_are = λ v c. (obeys v c).1 }

    left_settles_by : (from : ℕ) → from ≡ t + left_wait halves → from ≤ last
        → StaysLocked n next faulty from last registers
    left_settles_by from from_is hi =
        let quorum = is.left in
        let room = is.room in
        let soon = left_comes.soon in
        let king =
        correct_king 0 halves.left_nodes halves.left_faults faulty is.left counts.few in
        let q : ℕ = king.0 in
        let lt = king.1 in
        let same : 0 + q ≡ q = omega arith in
        let x : ℕ = start + right_share halves + 3 * q in
        king_locks x q from (omega arith) (omega arith) hi (omega arith)
        (subst (λ u. faulty u ≡ false) same king.2)
        (λ i few.
        let e : start + right_share halves + (3 * q + i) ≡ x + i = omega arith in
        subst (λ r. Obeyed n faulty (kinds r) (kings_at r) i q) e
        (left_obeyed q i lt few (omega arith)))

    pub left_settles : StaysLocked n next faulty (t + left_wait halves) last registers
    left_settles =
        ⊎_elim (late (t + left_wait halves)) (left_settles_by (t + left_wait halves) refl)
        (cases_lt last (t + left_wait halves))

  -- ---- the right half counts

  -- in so many phases of a king, one of the first to this one is free of the left half's share, or
  -- the share goes on since the first one
  pub data Chain (o k : ℕ) : Type 0 where
    free : (j : ℕ) → j ≤ k → NoneFollows n faulty follows (o + j * right_period halves) 3 → Chain o k
    kept : (r v : ℕ) → IsCorrect n faulty v → FollowsAt r v → o + k * right_period halves ≤ r
        → r < o + k * right_period halves + 3 → right_share halves + r ≤ seen r v + o + 2
        → Chain o k

  chain_on : (o k r v : ℕ) → s ≤ o → o + suc k * right_period halves + 3 ≤ last
      → IsCorrect n faulty v → FollowsAt r v → o + k * right_period halves ≤ r
      → r < o + k * right_period halves + 3 → right_share halves + r ≤ seen r v + o + 2
      → OneFollows n faulty follows (o + suc k * right_period halves) 3 → Chain o (suc k)
  chain_on o k r v lo hi c f from to share w =
      let within = w.within in
      let y : ℕ = o + suc k * right_period halves + w.k in
      let d : ℕ = y - r in
      let e : r + d ≡ y = omega arith in
      let again : follows (r + d) w.v ≡ true =
      subst (λ q. follows q w.v ≡ true) (sym e) w.follows_is in
      let g = follow_parts (r + d) w.v again in
      let same = trusts.one_share n faulty s last (left_period halves) seen trusted back trust
      (right_share halves) v w.v r d c w.correct (omega arith) (omega arith) (omega arith)
      (omega arith) f g in
      kept (r + d) w.v w.correct g (omega arith) (omega arith) (omega arith)

  chain_by : (o k : ℕ) → s ≤ o → o + suc k * right_period halves + 3 ≤ last → Chain o k
      → (OneFollows n faulty follows (o + suc k * right_period halves) 3)
      ⊎ (NoneFollows n faulty follows (o + suc k * right_period halves) 3)
      → Chain o (suc k)
  chain_by o k lo hi (free j le none) w = free j (omega arith) none
  chain_by o k lo hi (kept r v c f from to share) (inl w) =
      chain_on o k r v lo hi c f from to share w
  chain_by o k lo hi (kept r v c f from to share) (inr none) = free (suc k) (omega arith) none

  chain : (o k : ℕ) → s ≤ o → o + k * right_period halves + 3 ≤ last → Chain o k
  chain o zero lo hi = ⊎_elim
      (λ w. let g = follow_parts (o + 0 * right_period halves + w.k) w.v w.follows_is in
      let within = w.within in
      let high = g.high in
      kept (o + 0 * right_period halves + w.k) w.v w.correct g (omega arith) (omega arith)
      (omega arith))
      (free 0 (omega arith))
      (window n faulty follows (o + 0 * right_period halves) 3)
  chain o (suc k) lo hi =
      chain_by o k lo hi (chain o k lo (omega arith))
      (window n faulty follows (o + suc k * right_period halves) 3)

  -- the left half's share is too short for all of so many phases
  one_free_by : (o k : ℕ) → s ≤ o → o + suc k * right_period halves + 3 ≤ last
      → left_share halves + 3 ≤ suc k * right_period halves → Chain o (suc k)
      → (j : ℕ) × (j ≤ suc k) × NoneFollows n faulty follows (o + j * right_period halves) 3
  one_free_by o k lo hi long (free j le none) = (j, le, none)
  one_free_by o k lo hi long (kept r v c f from to share) =
      let e : r - 1 + 1 ≡ r = omega arith in
      let below : seen r v < left_period halves = subst (λ q. seen q v < left_period halves) e
      (trust.below (r - 1) v (omega arith) (omega arith) c) in
      absurd (omega arith)

  -- of a king's phases two are too many, and so many more
  abbrev more_phases : ℕ
  more_phases = (halves.left_faults + 1) / (halves.right_faults + 1)

  long_enough : left_share halves + 3 ≤ suc more_phases * right_period halves
  long_enough = omega arith

  module _ (t : ℕ) (since : s ≤ t) (counts : RightCounts halves faulty t last outputs) where
    -- in a round in which nobody follows the left half all obey what the right half shows
    right_obeyed : (q i r : ℕ) → i < 3 → q < halves.right_faults + 1 → t ≤ r → r < last
        → counts.output r ≡ 3 * q + i
        → ((v : ℕ) → IsCorrect n faulty v → follows r v ≡ false)
        → Obeyed n faulty (kinds r) (kings_at r) i (halves.left_nodes + q)
    right_obeyed q i r few below lo hi shows none =
        let obeys : (v : ℕ) → IsCorrect n faulty v
        → (kinds r v ≡ i) × (kings_at r v ≡ halves.left_nodes + q) = λ v c.
        obeys_by r v false (3 * q + i) i (halves.left_nodes + q) (none v c)
        (rounds.right_heard halves next faulty s last outputs states steps is t since counts r v lo
        hi c (omega arith) ∙ shows) (omega arith) (omega arith) in
        record { kinds_are = λ v c. (obeys v c).0; kings_are = λ v c. (obeys v c).1 }

    abbrev short : ℕ
    short = right_period halves

    -- one of the right half's kings has such a phase
    right_locks : (q j from : ℕ) → q < halves.right_faults + 1
        → faulty (halves.left_nodes + q) ≡ false → (comes : Comes short t last counts.output (3 * q))
        → j ≤ suc more_phases → NoneFollows n faulty follows (t + comes.wait + j * short) 3
        → t + right_wait halves ≤ from → from ≤ last → StaysLocked n next faulty from last registers
    right_locks q j from lt ok comes le none within hi =
        let quorum = is.right in
        let room = is.room in
        let soon = comes.soon in
        let early : j * short ≤ suc more_phases * short = mul-le-mul_right short le in
        let x : ℕ = t + comes.wait + j * short in
        king_locks x (halves.left_nodes + q) from (omega arith) (omega arith) hi (omega arith) ok
        (λ i few. right_obeyed q i (x + i) few lt (omega arith) (omega arith)
        (comes.shows j i (omega arith) (omega arith)) (λ v c. none.none i v few c))

    right_by : (q from : ℕ) → q < halves.right_faults + 1 → faulty (halves.left_nodes + q) ≡ false
        → (comes : Comes short t last counts.output (3 * q)) → t + right_wait halves ≤ from
        → from ≤ last → StaysLocked n next faulty from last registers
    right_by q from lt ok comes within hi =
        let soon = comes.soon in
        let free = one_free_by (t + comes.wait) more_phases (omega arith) (omega arith) long_enough
        (chain (t + comes.wait) (suc more_phases) (omega arith) (omega arith)) in
        right_locks q free.0 from lt ok comes free.1 free.2 within hi

    right_settles_by : (from : ℕ) → t + right_wait halves ≤ from → from ≤ last
        → StaysLocked n next faulty from last registers
    right_settles_by from within hi =
        let king =
        correct_king halves.left_nodes halves.right_nodes halves.right_faults faulty is.right
        counts.few in
        right_by king.0 from king.1 king.2
        (outputs_of.comes short t last counts.output counts.starts counts.grows (3 * king.0)
        (let lt = king.1 in omega arith))
        within hi

    pub right_settles : StaysLocked n next faulty (t + right_wait halves) last registers
    right_settles =
        ⊎_elim (late (t + right_wait halves)) (right_settles_by (t + right_wait halves) (omega arith))
        (cases_lt last (t + right_wait halves))

pub halves_settle : HalvesSettle
halves_settle halves next faulty is few s last outputs states steps t since = (
  left_settles halves next faulty is few s last outputs states steps t since,
  right_settles halves next faulty is few s last outputs states steps t since,
)

pub locked_stays_locked : LockedStaysLocked
locked_stays_locked halves next faulty is few t last outputs states steps value all =
    stays_locked halves next faulty is few t last outputs states steps t value (omega arith) all
