-- In a certificate that is true, the locked configuration of its verdict is the first locked one of
-- the last era.
use Rattle.std.proofs.Common.{◌≡◌, ℕ, zero, suc, ◌+◌, ◌-◌, ◌<◌, ◌≤◌, Bool, true, false, cond, leb}
use Rattle.std.proofs.Common.{List, [], ◌∷◌, ◌++◌, length, drop, get_or, Option, Some, None, refl}
use Rattle.std.proofs.Common.{sym, ap}
use Rattle.std.proofs.Common.{subst, ◌∙◌, arith}
use Rattle.std.specs.Prelude.{IsSome}
use Rattle.std.proofs.lemmas.Bool.{true≢false, leb-true, leb-false}
use Rattle.std.proofs.lemmas.List.{append-nil, length-append, length-drop, get_or-drop}
use Rattle.std.proofs.lemmas.List.Elements.{All-nil, All-cons}
use Rattle.sync_types.specs.States.{State}
use Rattle.construction.specs.Plans.{plan_bound}
use Rattle.construction.specs.Runs.{IsLocked, configuration}
use Rattle.plan_laws.specs.Laws.{LocksAtBound, LockedRunsCount}
use Rattle.round_runner.specs.Laws.{IsUpTo, LockTestIsExact}
use Rattle.round_runner.specs.Locks.{is_locked}
use Rattle.run_checker.specs.declared.Verdict.TheVariants as verdict
use Rattle.run_checker.specs.Certificates.{Era, Turn, Certificate}
use Rattle.run_checker.specs.Grammar.{IsCertificate}
use Rattle.run_checker.specs.Stated.{Snapshot, first_stand, stated, first_from, begins_at}
use Rattle.run_checker.specs.Stated.{last_start_from, last_start, locks_at, verdict_by}
use Rattle.run_checker.specs.Stated.{verdict_of, first_difference}
use Rattle.run_checker.specs.Laws.{AreQuiet, EndWithEra, LockedAt, NoneLocked, IsFirstLocked}
use Rattle.run_checker.specs.Laws.{StretchCountsFrom, LastEraLocks, TrueLocksAreFirst}
use Rattle.run_checker.proofs.TrueRows.{count_stands, quiet_faulty, stand, stands, configs}
use Rattle.run_checker.proofs.TrueRows.{run}
use Rattle.run_checker.proofs.TrueRows.{borne, size, stand_is, config_is, rows_count}

-- ---- where the last era begins

-- the number of the last round of these, the first of which has number t; if there is none, the
-- last begin so far
abbrev begun : (t last : ℕ) → List Turn → ℕ
begun t last [] = last
begun t last (turn ∷ turns) = t + length turns

-- rounds up to the last begin of an era, and those after it
record Split (t last : ℕ) (turns : List Turn) : Type 0 where
  before : List Turn
  stretch : List Turn
  parts : turns ≡ before ++ stretch
  begins : EndWithEra before
  quiet : AreQuiet stretch
  is : last_start_from t last turns ≡ begun t last before

-- no era begins after later rounds
split_here : (t last : ℕ) (turn : Turn) (turns : List Turn) (era : Option Era) → turn.era ≡ era
    → AreQuiet turns → last_start_from (t + 1) (begins_at t last era) turns ≡ begins_at t last era
    → Split t last (turn ∷ turns)
split_here t last turn turns None none quiet is = record {
  before = [];
  stretch = turn ∷ turns;
  parts = refl;
  begins = tt;
  quiet = All-cons (λ (x : Turn). x.era ≡ None) turn turns none quiet;
  is = ap (λ e. last_start_from (t + 1) (begins_at t last e) turns) none ∙ is;
}
split_here t last turn turns (Some era) some quiet is = record {
  before = turn ∷ [];
  stretch = turns;
  parts = refl;
  begins = subst IsSome (sym some) refl;
  quiet = quiet;
  is = ap (λ e. last_start_from (t + 1) (begins_at t last e) turns) some ∙ is ∙ omega arith;
}

split_by : (t last : ℕ) (turn : Turn) (turns before stretch : List Turn)
    → turns ≡ before ++ stretch → EndWithEra before → AreQuiet stretch
    → last_start_from (t + 1) (begins_at t last turn.era) turns
    ≡ begun (t + 1) (begins_at t last turn.era) before
    → Split t last (turn ∷ turns)
split_by t last turn turns [] stretch parts begins quiet is =
    split_here t last turn turns turn.era refl (subst AreQuiet (sym parts) quiet) is
split_by t last turn turns (next ∷ before) stretch parts begins quiet is = record {
  before = turn ∷ next ∷ before;
  stretch = stretch;
  parts = ap (λ l. turn ∷ l) parts;
  begins = begins;
  quiet = quiet;
  is = is ∙ omega arith;
}

split : (t last : ℕ) (turns : List Turn) → Split t last turns
split t last [] = record {
  before = [];
  stretch = [];
  parts = refl;
  begins = tt;
  quiet = All-nil (λ (x : Turn). x.era ≡ None);
  is = refl;
}
split t last (turn ∷ turns) =
    let rest = split (t + 1) (begins_at t last turn.era) turns in
    split_by t last turn turns rest.before rest.stretch rest.parts rest.begins rest.quiet rest.is

-- ---- the first that passes

module _ {X : Type 0} (p : X → Bool) (d : X) where
  -- none from number n on, which is that of the first of the list
  abbrev NonePasses : (n : ℕ) → List X → (end : ℕ) → Type 0
  NonePasses n xs end = (t : ℕ) → n ≤ t → t < end → p (get_or xs (t - n) d) ≡ false

  record PassesFirst (n : ℕ) (xs : List X) (t : ℕ) : Type 0 where
    late : n ≤ t
    inside : t < n + length xs
    passes : p (get_or xs (t - n) d) ≡ true
    first : NonePasses n xs t

  abbrev IsFirst : (n : ℕ) → List X → Option ℕ → Type 0
  IsFirst n xs (Some t) = PassesFirst n xs t
  IsFirst n xs None = NonePasses n xs (n + length xs)

  none_more : (n : ℕ) (x : X) (xs : List X) (end : ℕ) → p x ≡ false → NonePasses (n + 1) xs end
      → NonePasses n (x ∷ xs) end
  none_more n x xs end fails later t low high = by (t - n) refl where
    by : (k : ℕ) → t - n ≡ k → p (get_or (x ∷ xs) k d) ≡ false
    by zero is = fails
    by (suc k) is =
        let same : t - (n + 1) ≡ k = omega (arith, is) in
        ap (λ i. p (get_or xs i d)) (sym same) ∙ later t (omega (arith, is)) high

  first_more : (n : ℕ) (x : X) (xs : List X) → p x ≡ false → (found : Option ℕ)
      → IsFirst (n + 1) xs found → IsFirst n (x ∷ xs) found
  first_more n x xs fails None later =
      let same : n + 1 + length xs ≡ n + length (x ∷ xs) = omega arith in
      none_more n x xs (n + length (x ∷ xs)) fails (subst (NonePasses (n + 1) xs) same later)
  first_more n x xs fails (Some t) later =
      let late = later.late in
      let inside = later.inside in
      let same : t - n ≡ suc (t - (n + 1)) = omega (arith, late) in
      record {
        late = omega (arith, late);
        inside = omega (arith, inside);
        passes = ap (λ i. p (get_or (x ∷ xs) i d)) same ∙ later.passes;
        first = none_more n x xs t fails later.first;
      }

  first_by : (n : ℕ) (x : X) (xs : List X) (b : Bool) → p x ≡ b
      → IsFirst (n + 1) xs (first_from p (n + 1) xs)
      → IsFirst n (x ∷ xs) (cond b (Some n) (first_from p (n + 1) xs))
  first_by n x xs true passes later =
      let zero_is : n - n ≡ 0 = omega arith in
      record {
        late = omega arith;
        inside = omega arith;
        passes = ap (λ i. p (get_or (x ∷ xs) i d)) zero_is ∙ passes;
        first = λ t low high. absurd (omega (arith, low, high));
      }
  first_by n x xs false fails later = first_more n x xs fails (first_from p (n + 1) xs) later

  first_is : (n : ℕ) (xs : List X) → IsFirst n xs (first_from p n xs)
  first_is n [] = λ t low high. absurd (omega (arith, low, high))
  first_is n (x ∷ xs) = first_by n x xs (p x) refl (first_is (n + 1) xs)

-- ---- the verdict's lock

true_locked : (differs : Option ℕ) (rows : ℕ) (l : Option ℕ) (n : ℕ) (m : Option ℕ)
    → verdict_by differs rows l ≡ verdict.True n m → l ≡ m
true_locked None rows l n m e = cc
true_locked (Some t) rows l n m e = absurd cc

module _ (test : LockTestIsExact) (locks : LocksAtBound) (locked_count : LockedRunsCount)
    (c : Certificate) (is : IsCertificate c) where
  abbrev begin : Split 1 0 c.turns
  begin = split 1 0 c.turns

  abbrev from : ℕ
  from = length begin.before

  abbrev passes : Snapshot → Bool
  passes s = is_locked c.plan s.faulty s.config

  from_is : last_start c ≡ from
  from_is = begin.is ∙ same begin.before where
    same : (before : List Turn) → begun 1 0 before ≡ length before
    same [] = refl
    same (turn ∷ before) = omega arith

  long : length (drop from (stated c)) ≡ length (stated c) - from
  long = length-drop from (stated c)

  many : length (stated c) ≡ length c.turns + 1
  many = ap suc (count_stands c.plan (first_stand c) c.turns) ∙ omega arith

  at_place : (t : ℕ) → from ≤ t
      → get_or (drop from (stated c)) (t - from) (first_stand c)
      ≡ get_or (stated c) t (first_stand c)
  at_place t low =
      let same : from + (t - from) ≡ t = omega (arith, low) in
      get_or-drop from (stated c) (t - from) (first_stand c)
      ∙ ap (λ i. get_or (stated c) i (first_stand c)) same

  none_locked : (end : ℕ) → NonePasses passes (first_stand c) from (drop from (stated c)) end
      → NoneLocked c from end
  none_locked end none t low high locked =
      let stand = get_or (stated c) t (first_stand c) in
      let yes : passes stand ≡ true = (test c.plan stand.faulty stand.config).1 locked in
      true≢false (sym yes ∙ (ap passes (sym (at_place t low)) ∙ none t low high))

  first_locked_is : (found : Option ℕ)
      → IsFirst passes (first_stand c) from (drop from (stated c)) found
      → IsFirstLocked c from found
  first_locked_is None none =
      let l = long in
      let m = many in
      let parts = ap length begin.parts in
      let both = length-append begin.before begin.stretch in
      let end : from + length (drop from (stated c)) ≡ length c.turns + 1 =
      omega (arith, l, m, parts, both) in
      none_locked (length c.turns + 1)
      (subst (NonePasses passes (first_stand c) from (drop from (stated c))) end none)
  first_locked_is (Some t) first =
      let l = long in
      let m = many in
      let late = first.late in
      let inside = first.inside in
      let stand = get_or (stated c) t (first_stand c) in
      record {
        late = late;
        inside = omega (arith, l, m, late, inside);
        locked = (test c.plan stand.faulty stand.config).0
            (ap passes (sym (at_place t late)) ∙ first.passes);
        first = none_locked t first.first;
      }

  locks_first : IsFirstLocked c from (locks_at c)
  locks_first = subst (λ k. IsFirstLocked c from (first_from passes k (drop k (stated c))))
      (sym from_is) (first_locked_is (first_from passes from (drop from (stated c)))
      (first_is passes (first_stand c) from (drop from (stated c))))

  module _ (rows : ℕ) (locked : Option ℕ) (true_is : verdict_of c ≡ verdict.True rows locked) where
    first_of_last : IsFirstLocked c from locked
    first_of_last = subst (IsFirstLocked c from)
        (true_locked (first_difference c) (length c.turns + 1) (locks_at c) rows locked true_is)
        locks_first

    whole : c.turns ≡ begin.before ++ (begin.stretch ++ [])
    whole = begin.parts ∙ ap (λ l. begin.before ++ l) (sym (append-nil begin.stretch))

    turns_long : length c.turns ≡ from + length begin.stretch
    turns_long = ap length begin.parts ∙ length-append begin.before begin.stretch

    abbrev last_stand : Snapshot
    last_stand = stand c is rows locked true_is begin.before begin.stretch [] whole begin.quiet

    abbrev last_stands : List Snapshot
    last_stands = stands c is rows locked true_is begin.before begin.stretch [] whole begin.quiet

    abbrev last_configs : List (List State)
    last_configs = configs c is rows locked true_is begin.before begin.stretch [] whole begin.quiet

    abbrev first : Snapshot
    first = first_stand c

    -- what is locked at a place of the stretch
    module _ (i : ℕ) (high : i ≤ length begin.stretch) where
      config_at : configuration last_configs i ≡ (get_or last_stands i first).config
      config_at =
          config_is c is rows locked true_is begin.before begin.stretch [] whole begin.quiet i high

      faulty_at : (get_or last_stands i first).faulty ≡ last_stand.faulty
      faulty_at = quiet_faulty c.plan last_stand begin.stretch i first begin.quiet high

      stand_at : get_or (stated c) (from + i) first ≡ get_or last_stands i first
      stand_at =
          stand_is c is rows locked true_is begin.before begin.stretch [] whole begin.quiet i high

      to_run : LockedAt c (from + i)
          → IsLocked c.plan last_stand.faulty (configuration last_configs i)
      to_run h =
          subst (λ config. IsLocked c.plan last_stand.faulty config) (sym config_at)
          (subst (λ f. IsLocked c.plan f (get_or last_stands i first).config) faulty_at
          (subst (λ (s : Snapshot). IsLocked c.plan s.faulty s.config) stand_at h))

      from_run : IsLocked c.plan last_stand.faulty (configuration last_configs i)
          → LockedAt c (from + i)
      from_run h =
          subst (λ (s : Snapshot). IsLocked c.plan s.faulty s.config) (sym stand_at)
          (subst (λ f. IsLocked c.plan f (get_or last_stands i first).config) (sym faulty_at)
          (subst (λ config. IsLocked c.plan last_stand.faulty config) config_at h))

    counts_from : (t : ℕ) → locked ≡ Some t
        → StretchCountsFrom c begin.before begin.stretch (t - from)
    counts_from t some =
        let found = subst (IsFirstLocked c from) some first_of_last in
        let late = found.late in
        let inside = found.inside in
        let i : ℕ = t - from in
        let high : i ≤ length begin.stretch = omega (arith, late, inside, turns_long) in
        let same : t ≡ from + i = omega (arith, late) in
        let here = to_run i high (subst (LockedAt c) same found.locked) in
        let long = size c is rows locked true_is begin.before begin.stretch [] whole begin.quiet in
        let stays = locked_count c.plan is.accepted last_stand.faulty last_configs
        (borne c is rows locked true_is begin.before begin.stretch [] whole begin.quiet)
        (run c is rows locked true_is begin.before begin.stretch [] whole begin.quiet)
        i (omega (arith, long, high)) here in
        rows_count c is rows locked true_is begin.before begin.stretch [] whole begin.quiet i
        stays.counts

    -- the configuration at the bound is locked, so the first locked one is there or before
    up_to : (end : ℕ) → end ≤ length c.turns → from ≤ end → LockedAt c end → (found : Option ℕ)
        → IsFirstLocked c from found → IsUpTo end found
    up_to end high low at None none = absurd (none end low (omega (arith, high)) at)
    up_to end high low at (Some t) found = by (leb t end) refl where
      by : (b : Bool) → leb t end ≡ b → IsUpTo end (Some t)
      by true le = record { number = t; is = refl; most = leb-true t end le }
      by false more = absurd (found.first end low (leb-false t end more) at)

    by_bound : plan_bound c.plan ≤ length begin.stretch → IsUpTo (from + plan_bound c.plan) locked
    by_bound reaches =
        let long = size c is rows locked true_is begin.before begin.stretch [] whole begin.quiet in
        let there = locks c.plan is.accepted last_stand.faulty last_configs
        (borne c is rows locked true_is begin.before begin.stretch [] whole begin.quiet)
        (run c is rows locked true_is begin.before begin.stretch [] whole begin.quiet)
        (omega (arith, long, reaches)) in
        up_to (from + plan_bound c.plan) (omega (arith, turns_long, reaches)) (omega arith)
        (from_run (plan_bound c.plan) reaches there) locked first_of_last

    pub last_era_locks : LastEraLocks c locked
    last_era_locks = record {
      before = begin.before;
      stretch = begin.stretch;
      parts = begin.parts;
      begins = begin.begins;
      quiet = begin.quiet;
      first = first_of_last;
      counts = counts_from;
      by_bound = by_bound;
    }

pub true_locks_are_first : LockTestIsExact → LocksAtBound → LockedRunsCount → TrueLocksAreFirst
true_locks_are_first test locks locked_count c is rows locked true_is =
    last_era_locks test locks locked_count c is rows locked true_is
