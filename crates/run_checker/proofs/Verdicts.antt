-- The verdict that is kept on the way is that of the stated run.
use Rattle.std.proofs.Common.{◌≡◌, ℕ, zero, suc, ◌+◌, ◌-◌, ◌≤◌, Bool, true, false, cond, not, ◌||◌}
use Rattle.std.proofs.Common.{List, [], ◌∷◌, length, map, drop, Option, Some, None, refl, sym}
use Rattle.std.proofs.Common.{ap, ◌∙◌, arith}
use Rattle.std.specs.List.{list_any}
use Rattle.std.specs.Option.{is_some}
use Rattle.construction.specs.Plans.{Plan, plan_nodes}
use Rattle.round_runner.specs.Locks.{is_locked, first_of}
use Rattle.run_checker.specs.declared.Verdict.{Verdict}
use Rattle.run_checker.specs.Certificates.{Put, Lie, Era, Turn, Certificate}
use Rattle.run_checker.specs.Grammar.{pairs_of, IsCertificate, AreTurns}
use Rattle.run_checker.specs.Stated.{Snapshot, stand_behind}
use Rattle.run_checker.specs.Stated.{first_stand, stands_behind, stated, shown_row, same_rows}
use Rattle.run_checker.specs.Stated.{differences, first_from, first_difference, begins_at}
use Rattle.run_checker.specs.Stated.{last_start_from, last_start, locks_at, verdict_by}
use Rattle.run_checker.specs.Stated.{verdict_of}
use Rattle.run_checker.specs.Checking.{Known, put_state, compared, moved, renewed}
use Rattle.run_checker.specs.Checking.{nothing_known}
use Rattle.run_checker.proofs.Complete.{put_all, all_lies, turned, followed}
use Rattle.run_checker.proofs.Complete.{at_put_all, at_behind}
use Rattle.run_checker.proofs.Tests.{pair_of, plan_put_all, plan_behind}
use Rattle.run_checker.proofs.Head.{opened}
use Rattle.run_checker.proofs.VerdictStands.{put_all_stand, stand_moved, stand_turned}

-- ---- what is kept on the way

abbrev first_or : Option ℕ → Option ℕ → Option ℕ
first_or None b = b
first_or (Some a) b = Some a

of_or : (known : Option ℕ) (b : Bool) (now : ℕ) (more : Option ℕ)
    → first_or (first_of known b now) more ≡ first_or known (cond b (Some now) more)
of_or None true now more = refl
of_or None false now more = refl
of_or (Some t) b now more = refl

-- the first locked one, if known is the first so far of the era that goes on
abbrev pub lock_over : Plan → (known : Option ℕ) → (t : ℕ) → List Turn → List Snapshot → Option ℕ
lock_over plan known t [] stands = known
lock_over plan known t (turn ∷ turns) [] = known
lock_over plan known t (turn ∷ turns) (stand ∷ stands) =
    lock_over plan
    (first_of (cond (is_some turn.era) None known) (is_locked plan stand.faulty stand.config) t)
    (t + 1) turns stands

abbrev rows : List Turn → List (List (Option ℕ))
rows turns = map (λ turn. turn.row) turns

-- the verdict from a stand on
abbrev verdict_over : Plan → Snapshot → (differs : Option ℕ) → (locked : Option ℕ) → (at : ℕ)
    → List Turn → Verdict
verdict_over plan stand differs locked at turns =
    verdict_by
    (first_or differs
    (first_from (λ b. b) (at + 1)
    (differences plan (rows turns) (stands_behind plan stand turns))))
    (at + 1 + length turns) (lock_over plan locked (at + 1) turns (stands_behind plan stand turns))

or_none : (a : Option ℕ) → first_or a None ≡ a
or_none None = refl
or_none (Some a) = refl

differs_put_all : (k : Known) (puts : List Put) → (put_all k puts).differs ≡ k.differs
differs_put_all k [] = refl
differs_put_all k (put ∷ puts) = differs_put_all (put_state k put.node put.digits) puts

locked_put_all : (k : Known) (puts : List Put) → (put_all k puts).locked ≡ k.locked
locked_put_all k [] = refl
locked_put_all k (put ∷ puts) = locked_put_all (put_state k put.node put.digits) puts

-- what a row comes to, if it is known what is compared
differs_compared : (m : Known) (row : List (Option ℕ)) (plan : Plan) (stand : Snapshot) (at : ℕ)
    (differs : Option ℕ)
    → m.plan ≡ plan → m.stand ≡ stand → m.at ≡ at → m.differs ≡ differs
    → (compared m row).differs ≡ first_of differs (not (same_rows row (shown_row plan stand))) at
differs_compared m row plan stand at differs p s a d =
    ap (λ q. first_of m.differs (not (same_rows row (shown_row q m.stand))) m.at) p
    ∙ ap (λ q. first_of m.differs (not (same_rows row (shown_row plan q))) m.at) s
    ∙ ap (λ q. first_of m.differs (not (same_rows row (shown_row plan stand))) q) a
    ∙ ap (λ q. first_of q (not (same_rows row (shown_row plan stand))) at) d

locked_compared : (m : Known) (row : List (Option ℕ)) (plan : Plan) (stand : Snapshot) (at : ℕ)
    (locked : Option ℕ)
    → m.plan ≡ plan → m.stand ≡ stand → m.at ≡ at → m.locked ≡ locked
    → (compared m row).locked ≡ first_of locked (is_locked plan stand.faulty stand.config) at
locked_compared m row plan stand at locked p s a d =
    ap (λ q. first_of m.locked (is_locked q m.stand.faulty m.stand.config) m.at) p
    ∙ ap (λ (q : Snapshot). first_of m.locked (is_locked plan q.faulty q.config) m.at) s
    ∙ ap (λ q. first_of m.locked (is_locked plan stand.faulty stand.config) q) a
    ∙ ap (λ q. first_of q (is_locked plan stand.faulty stand.config) at) d

-- what is known after a round, in the words of the stated run
record Behind (k : Known) (turn : Turn) : Type 0 where
  stand : (turned k turn).stand ≡ stand_behind k.plan k.stand turn
  differs : (turned k turn).differs
      ≡ first_of k.differs
      (not (same_rows turn.row (shown_row k.plan (stand_behind k.plan k.stand turn)))) (k.at + 1)
  locked : (turned k turn).locked
      ≡ first_of (cond (is_some turn.era) None k.locked)
      (is_locked k.plan (stand_behind k.plan k.stand turn).faulty
      (stand_behind k.plan k.stand turn).config)
      (k.at + 1)

behind_is : (k : Known) (lies : List Lie) (era : Option Era) (row : List (Option ℕ))
    → map pair_of lies ≡ pairs_of (plan_nodes k.plan) k.stand.faulty
    → Behind k (record { lies = lies; era = era; row = row })
behind_is k lies None row is =
    let m = moved k k.stand.faulty (all_lies k [] lies) in
    let s : Snapshot = stand_behind k.plan k.stand (record {
      lies = lies;
      era = None;
      row = row;
    }) in
    record {
      stand = stand_turned k lies None row is;
      differs =
          differs_compared m row k.plan s (k.at + 1) k.differs refl
          (stand_moved k k.stand.faulty lies is) refl refl;
      locked =
          locked_compared m row k.plan s (k.at + 1) k.locked refl
          (stand_moved k k.stand.faulty lies is) refl refl;
    }
behind_is k lies (Some era) row is =
    let r = renewed k era.faulty (all_lies k [] lies) in
    let m = put_all r era.starts in
    let s : Snapshot = stand_behind k.plan k.stand
    (record { lies = lies; era = Some era; row = row }) in
    let same : m.stand ≡ s = stand_turned k lies (Some era) row is in
    record {
      stand = same;
      differs =
          differs_compared m row k.plan s (k.at + 1) k.differs (plan_put_all r era.starts) same
          (at_put_all r era.starts) (differs_put_all r era.starts);
      locked =
          locked_compared m row k.plan s (k.at + 1) None (plan_put_all r era.starts) same
          (at_put_all r era.starts) (locked_put_all r era.starts);
    }

-- the verdict that is kept is that over the stands
followed_is : (turns : List Turn) (k : Known) (plan : Plan) (stand : Snapshot)
    (differs locked : Option ℕ) (at : ℕ)
    → k.plan ≡ plan → k.stand ≡ stand → k.differs ≡ differs → k.locked ≡ locked → k.at ≡ at
    → AreTurns plan stand.faulty turns
    → followed k turns ≡ verdict_over plan stand differs locked at turns
followed_is [] k plan stand differs locked at p s d l a h =
    ap (λ q. verdict_by q (k.at + 1) k.locked) (d ∙ sym (or_none differs))
    ∙ ap (λ q. verdict_by (first_or differs None) q k.locked) (omega (arith, a))
    ∙ ap (λ q. verdict_by (first_or differs None) (at + 1 + 0) q) l
followed_is (turn ∷ turns) k plan stand differs locked at p s d l a h =
    let next : Snapshot = stand_behind plan stand turn in
    let told : map pair_of turn.lies ≡ pairs_of (plan_nodes k.plan) k.stand.faulty = h.0.told
    ∙ ap (λ (x : Snapshot). pairs_of (plan_nodes plan) x.faulty) (sym s)
    ∙ ap (λ x. pairs_of (plan_nodes x) k.stand.faulty) (sym p) in
    let b = behind_is k turn.lies turn.era turn.row told in
    let same : stand_behind k.plan k.stand turn ≡ next = ap (λ x. stand_behind x k.stand turn) p
    ∙ ap (λ x. stand_behind plan x turn) s in
    let differs2 : Option ℕ = first_of differs (not (same_rows turn.row (shown_row plan next)))
    (at + 1) in
    let locked2 : Option ℕ = first_of (cond (is_some turn.era) None locked)
    (is_locked plan next.faulty next.config) (at + 1) in
    let d2 : (turned k turn).differs ≡ differs2 =
    b.differs
    ∙ ap (λ x. first_of k.differs (not (same_rows turn.row (shown_row k.plan x))) (k.at + 1))
    same
    ∙ ap (λ x. first_of k.differs (not (same_rows turn.row (shown_row x next))) (k.at + 1)) p
    ∙ ap (λ x. first_of x (not (same_rows turn.row (shown_row plan next))) (k.at + 1)) d
    ∙ ap (λ x. first_of differs (not (same_rows turn.row (shown_row plan next))) (x + 1)) a in
    let l2 : (turned k turn).locked ≡ locked2 =
    b.locked
    ∙ ap
    (λ (x : Snapshot). first_of (cond (is_some turn.era) None k.locked)
    (is_locked k.plan x.faulty x.config) (k.at + 1))
    same
    ∙ ap
    (λ x. first_of (cond (is_some turn.era) None k.locked)
    (is_locked x next.faulty next.config) (k.at + 1))
    p
    ∙ ap
    (λ x. first_of (cond (is_some turn.era) None x) (is_locked plan next.faulty next.config)
    (k.at + 1))
    l
    ∙ ap
    (λ x. first_of (cond (is_some turn.era) None locked)
    (is_locked plan next.faulty next.config) (x + 1))
    a in
    followed_is turns (turned k turn) plan next differs2 locked2 (at + 1)
    (plan_behind k (all_lies k [] turn.lies) turn.era turn.row ∙ p) (b.stand ∙ same) d2 l2
    (at_behind k (all_lies k [] turn.lies) turn.era turn.row ∙ ap (λ x. x + 1) a) h.1
    ∙ ap
    (λ x. verdict_by x (at + 1 + 1 + length turns)
    (lock_over plan locked2 (at + 1 + 1) turns (stands_behind plan next turns)))
    (of_or differs (not (same_rows turn.row (shown_row plan next))) (at + 1)
    (first_from (λ b. b) (at + 1 + 1)
    (differences plan (rows turns) (stands_behind plan next turns))))
    ∙ ap
    (λ x. verdict_by
    (first_or differs
    (first_from (λ b. b) (at + 1)
    (differences plan (rows (turn ∷ turns)) (stands_behind plan stand (turn ∷ turns)))))
    x (lock_over plan locked2 (at + 1 + 1) turns (stands_behind plan next turns)))
    (omega arith)

-- ---- the first locked one of the last era

abbrev any_era : List Turn → Bool
any_era turns = list_any (λ turn. is_some turn.era) turns

start_by : (era : Option Era) (t last : ℕ) (turns : List Turn)
    → (is_some era || any_era turns) ≡ false
    → (any_era turns ≡ false) × (begins_at t last era ≡ last)
start_by None t last turns e = (e, refl)
start_by (Some era) t last turns e = absurd cc

no_start : (turns : List Turn) (t last : ℕ) → any_era turns ≡ false
    → last_start_from t last turns ≡ last
no_start [] t last e = refl
no_start (turn ∷ turns) t last e =
    let p = start_by turn.era t last turns e in
    no_start turns (t + 1) (begins_at t last turn.era) p.0 ∙ p.1

-- if an era begins, the last does so from here on
some_start : (turns : List Turn) (t last : ℕ) → any_era turns ≡ true
    → t ≤ last_start_from t last turns
some_start [] t last e = absurd cc
some_start (turn ∷ turns) t last e =
    by turn.era (any_era turns) refl e (some_start turns (t + 1) (begins_at t last turn.era)) where
      by : (era : Option Era) (more : Bool) → any_era turns ≡ more → (is_some era || more) ≡ true
          → (any_era turns ≡ true → t + 1 ≤ last_start_from (t + 1) (begins_at t last era) turns)
          → t ≤ last_start_from (t + 1) (begins_at t last era) turns
      by era true m e rest = omega (arith, rest m)
      by None false m e rest = absurd cc
      by (Some era) false m e rest = omega (arith, no_start turns (t + 1) t m)

module _ (plan : Plan) where
  abbrev holds : Snapshot → Bool
  holds stand = is_locked plan stand.faulty stand.config

  lock_is : (turns : List Turn) (stands : List Snapshot) (known : Option ℕ) (t last : ℕ)
      → length stands ≡ length turns
      → lock_over plan known t turns stands
      ≡ cond (any_era turns)
      (first_from holds (last_start_from t last turns)
      (drop (last_start_from t last turns - t) stands))
      (first_or known (first_from holds t stands))
  lock_is [] [] known t last e = sym (or_none known)
  lock_is [] (s ∷ ss) known t last e = absurd (omega arith)
  lock_is (turn ∷ turns) [] known t last e = absurd (omega arith)
  lock_is (turn ∷ turns) (stand ∷ stands) known t last e =
      by turn.era (any_era turns) refl
      (lock_is turns stands (first_of (cond (is_some turn.era) None known) (holds stand) t)
      (t + 1) (begins_at t last turn.era) (omega arith))
    where
      later : (n : ℕ) → t + 1 ≤ n → drop (n - t) (stand ∷ stands) ≡ drop (n - (t + 1)) stands
      later n h =
          let k : n - t ≡ suc (n - (t + 1)) = omega arith in ap (λ m. drop m (stand ∷ stands)) k

      here : drop (t - t) (stand ∷ stands) ≡ stand ∷ stands
      here = let k : t - t ≡ zero = omega arith in ap (λ m. drop m (stand ∷ stands)) k

      by : (era : Option Era) (more : Bool) → any_era turns ≡ more
          → lock_over plan (first_of (cond (is_some era) None known) (holds stand) t) (t + 1)
          turns stands
          ≡ cond (any_era turns)
          (first_from holds (last_start_from (t + 1) (begins_at t last era) turns)
          (drop (last_start_from (t + 1) (begins_at t last era) turns - (t + 1)) stands))
          (first_or (first_of (cond (is_some era) None known) (holds stand) t)
          (first_from holds (t + 1) stands))
          → lock_over plan (first_of (cond (is_some era) None known) (holds stand) t) (t + 1)
          turns stands
          ≡ cond (is_some era || any_era turns)
          (first_from holds (last_start_from (t + 1) (begins_at t last era) turns)
          (drop (last_start_from (t + 1) (begins_at t last era) turns - t)
          (stand ∷ stands)))
          (first_or known (first_from holds t (stand ∷ stands)))
      by None true m h =
          h
          ∙ rw m
          (ap (first_from holds (last_start_from (t + 1) last turns))
          (sym
          (later (last_start_from (t + 1) last turns) (some_start turns (t + 1) last m))))
      by (Some era) true m h =
          h
          ∙ rw m
          (ap (first_from holds (last_start_from (t + 1) t turns))
          (sym (later (last_start_from (t + 1) t turns) (some_start turns (t + 1) t m))))
      by None false m h = h ∙ rw m (of_or known (holds stand) t (first_from holds (t + 1) stands))
      by (Some era) false m h =
          let s : last_start_from (t + 1) t turns ≡ t = no_start turns (t + 1) t m in
          h
          ∙ rw m
          (of_or None (holds stand) t (first_from holds (t + 1) stands)
          ∙ ap (first_from holds t) (sym here)
          ∙ ap (λ n. first_from holds n (drop (n - t) (stand ∷ stands))) (sym s))

count_stands : (plan : Plan) (stand : Snapshot) (turns : List Turn)
    → length (stands_behind plan stand turns) ≡ length turns
count_stands plan stand [] = refl
count_stands plan stand (turn ∷ turns) =
    ap suc (count_stands plan (stand_behind plan stand turn) turns)

-- the first locked configuration of the last era, in either way
pub locks_are : (c : Certificate) (l : Bool)
    → is_locked c.plan (first_stand c).faulty (first_stand c).config ≡ l → (stands : List Snapshot)
    → stands_behind c.plan (first_stand c) c.turns ≡ stands
    → lock_over c.plan (first_of None l 0) 1 c.turns stands ≡ locks_at c
locks_are c l is stands all =
    lock_is c.plan c.turns stands (first_of None l 0) 1 0
    (ap length (sym all) ∙ count_stands c.plan (first_stand c) c.turns)
    ∙ by (any_era c.turns) refl where
      whole : drop 0 (first_stand c ∷ stands) ≡ stated c
      whole = ap (λ s. first_stand c ∷ s) (sym all)

      by : (any : Bool) → any_era c.turns ≡ any
          → cond any (first_from (holds c.plan) (last_start c) (drop (last_start c - 1) stands))
          (first_or (first_of None l 0) (first_from (holds c.plan) 1 stands))
          ≡ first_from (holds c.plan) (last_start c) (drop (last_start c) (stated c))
      by true e =
          ap (first_from (holds c.plan) (last_start c))
          (behind_first (last_start c) (some_start c.turns 1 0 e) ∙ ap (drop (last_start c)) whole)
        where
          behind_first : (n : ℕ) → 1 ≤ n → drop (n - 1) stands ≡ drop n (first_stand c ∷ stands)
          behind_first zero h = absurd (omega arith)
          behind_first (suc n) h = let k : suc n - 1 ≡ n = omega arith in ap (λ m. drop m stands) k
      by false e =
          let none : last_start c ≡ 0 = no_start c.turns 1 0 e in
          of_or None l 0 (first_from (holds c.plan) 1 stands)
          ∙ ap (λ x. cond x (Some 0) (first_from (holds c.plan) 1 stands)) (sym is)
          ∙ ap (first_from (holds c.plan) 0) whole
          ∙ ap (λ n. first_from (holds c.plan) n (drop n (stated c))) (sym none)

-- the verdict of a certificate
pub verdict_seen : (c : Certificate) → IsCertificate c → followed (opened c) c.turns ≡ verdict_of c
verdict_seen c is =
    let known = nothing_known c.version c.plan c.faulty in
    let placed = put_all known c.starts in
    let first : Snapshot = first_stand c in
    let stands : List Snapshot = stands_behind c.plan first c.turns in
    let same : placed.stand ≡ first = put_all_stand known c.starts in
    let b : Bool = not (same_rows c.row (shown_row c.plan first)) in
    let l : Bool = is_locked c.plan first.faulty first.config in
    followed_is c.turns (opened c) c.plan first (first_of None b 0) (first_of None l 0) 0
    (plan_put_all known c.starts) same
    (differs_compared placed c.row c.plan first 0 None (plan_put_all known c.starts) same
    (at_put_all known c.starts) (differs_put_all known c.starts))
    (locked_compared placed c.row c.plan first 0 None (plan_put_all known c.starts) same
    (at_put_all known c.starts) (locked_put_all known c.starts))
    (at_put_all known c.starts) is.turns
    ∙ ap
    (λ x. verdict_by x (0 + 1 + length c.turns)
    (lock_over c.plan (first_of None l 0) 1 c.turns stands))
    (of_or None b 0 (first_from (λ x. x) 1 (differences c.plan (rows c.turns) stands)))
    ∙ ap
    (λ x. verdict_by (first_difference c) x
    (lock_over c.plan (first_of None l 0) 1 c.turns stands))
    (omega arith)
    ∙ ap (λ x. verdict_by (first_difference c) (length c.turns + 1) x)
    (locks_are c l refl stands refl)
