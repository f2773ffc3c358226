-- The laws of one node that counts by itself. They stand here, without tactics, since the laws of
-- an impl cannot cite the proofs of its own crate.
use Rattle.std.proofs.Common.{◌≡◌, ℕ, ◌+◌, ◌*◌, ◌^◌, ◌<◌, ◌≤◌, List, [], ◌∷◌, length, false, refl}
use Rattle.std.proofs.Common.{ap, ◌∙◌, subst, sym}
use Rattle.std.proofs.Math.Nat.{mod-lt, le_of_lt, not-suc-le-zero}
use Rattle.std.proofs.Math.Arith.{lt-one}
use Rattle.std.proofs.lemmas.Bool.{leb-true, ltb-true}
use Rattle.std.proofs.lemmas.List.{get_or-map}
use Rattle.sync_types.specs.States.{State, zero_state}
use Rattle.construction.specs.PhaseKing.{up}
use Rattle.construction.specs.Steps.{state_of}
use Rattle.construction.specs.Runs.{is_in, configuration}
use Rattle.counter_core.specs.Meanings.{cut}
use Rattle.counter_core.specs.Runs.{Settles}
use Rattle.counter_core.specs.Laws.{Sizes, LowsAreWithin, StaysInRange, IgnoresFurther}
use Rattle.counter_core.specs.Trivial.{one_node, IsBelow}

pub one_node_sizes : (c : ℕ) → 2 ≤ c → c ≤ 2 ^ 40 → Sizes (one_node c) (IsBelow c)
one_node_sizes c two most = record {
  some = leb-true 1 1 refl;
  most = leb-true 1 256 refl;
  few = ltb-true 0 1 refl;
  two = two;
  modulus = most;
  bound = ltb-true 0 (1 * 2 ^ 40) refl;
  shallow = ltb-true 0 1 refl;
  shown = λ v s lt range. range;
  deep = λ v heard lt size. refl;
}

pub one_node_lows : (c : ℕ) → LowsAreWithin (one_node c) (λ v. 0)
one_node_lows c v lt = leb-true 0 0 refl

pub one_node_stays : (c : ℕ) → 2 ≤ c → StaysInRange (one_node c) (IsBelow c)
one_node_stays c two v heard lt size range = mod-lt ((state_of heard v).x + 1) (le_of_lt two)

pub one_node_ignores : (c : ℕ) → IgnoresFurther (one_node c) (IsBelow c)
one_node_ignores c = record {
  next = λ v heard lt size. ap (λ (s : State). record { x = up c s.x; registers = [] })
      (get_or-map (cut 0) heard v (zero_state 0) (zero_state 0) (subst (λ n. v < n) (sym size) lt));
  shows = λ v s lt. refl;
  into_cut = λ s range. range;
  from_cut = λ s range. range;
}

pub one_node_zero : (c : ℕ) → 2 ≤ c → IsBelow c (zero_state 0)
one_node_zero c two = le_of_lt two

-- if no node may be faulty, none is
none_faulty : (faulty : List ℕ) (v : ℕ) → length faulty ≤ 0 → is_in faulty v ≡ false
none_faulty [] v none = refl
none_faulty (id ∷ ids) v none = absurd (not-suc-le-zero none)

pub one_node_settles : (c : ℕ) → Settles (one_node c) (IsBelow c)
one_node_settles c faulty run bears is =
    let correct = none_faulty faulty 0 bears.few in
    let first = ltb-true 0 1 refl in
    record {
      output = λ t. (state_of (configuration run t) 0).x;
      shows = λ t v lo hi lt e. ap (λ u. (state_of (configuration run t) u).x) (lt-one lt);
      grows = λ t lo hi. let s = is.steps t 0 hi first correct in
          ap (λ (s : State). s.x) s.step
          ∙ ap (λ (s : State). up c s.x) (s.hears.honest 0 first correct);
    }
