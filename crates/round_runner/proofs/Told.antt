-- What all receivers of a round share, and what the liars tell one of them, are what it hears.
use Rattle.std.proofs.Common.{◌≡◌, ℕ, ◌<◌, ◌≤◌, Bool, true, cond, if◌then◌else◌, List, ◌++◌, length}
use Rattle.std.proofs.Common.{map}
use Rattle.std.proofs.Common.{take, drop, refl, sym, ap, ◌∙◌, subst, arith}
use Rattle.std.specs.Prelude.{◌==◌, slice_index}
use Rattle.std.specs.List.{range_with_len}
use Rattle.std.specs.List.Sorted.{IsStrictlyIncreasing}
use Rattle.std.proofs.lemmas.Bool.{eq-eqb}
use Rattle.std.proofs.lemmas.List.{length-map, get_or-map, length-take-le, get_or-take}
use Rattle.std.proofs.lemmas.List.{length-append, length-drop}
use Rattle.std.proofs.lemmas.List.FromFn.{length-map-range_with_len}
use Rattle.sync_types.specs.FaultSets.{is_in}
use Rattle.sync_types.specs.States.{State, zero_state}
use Rattle.sync_types.specs.declared.states.Reg.{Reg}
use Rattle.construction.specs.Plans.{Plan, plan_depth, plan_nodes}
use Rattle.construction.specs.Runs.{heard_by}
use Rattle.construction.specs.Steps.{state_of, step_of}
use Rattle.plan_numbers.specs.Premises.{IsAccepted}
use Rattle.plan_laws.proofs.PlanCounter.{plan_sizes}
use Rattle.plan_laws.proofs.Ranges.{state_of-cut}
use Rattle.counter_core.specs.Meanings.{cut, written}
use Rattle.counter_core.proofs.Heeded.{place_of}
use Rattle.shared_board.specs.Sharing.{Shares, place_among, heard_at, heard_with, stands_for, Tells}
use Rattle.shared_board.proofs.Ids.{place_of_id}
use Rattle.tower.proofs.Further.{with_at, step_cut}
use Rattle.machine_runner.proofs.Heard.{heard_is}

-- where a liar stands in the order of the ids
pub record StandsAt (ids : List ℕ) (u : ℕ) : Type 0 where
  pub lt : place_among ids u < length ids
  pub is : slice_index ids (place_among ids u) ≡ u

pub stands_at : (ids : List ℕ) (u : ℕ) → IsStrictlyIncreasing ids → is_in ids u ≡ true
    → StandsAt ids u
stands_at ids u rising is =
    let p = place_of ids u is in
    let same : place_among ids u ≡ p.0 =
    ap (place_among ids) (sym p.2) ∙ place_of_id ids rising p.0 p.1 in
    record {
      lt = omega (arith, same, p.1);
      is = ap (slice_index ids) same ∙ p.2;
    }

-- the step depends on the lies in the places of a stretch alone
abbrev pub DependsOn : Plan → (v : ℕ) → Shares → (from to : ℕ) → Type 0
DependsOn plan v shares from to = (lies told : List State) → Tells shares v lies
    → Tells shares v told → ((j : ℕ) → from ≤ j → j < to → state_of lies j ≡ state_of told j)
    → step_of plan v (heard_with shares.faulty lies shares.states)
    ≡ step_of plan v (heard_with shares.faulty told shares.states)

-- Of n nodes these are faulty; `lie u w` is what u tells w.
module _ (plan : Plan) (n : ℕ) (ids : List ℕ) (lie : ℕ → ℕ → State) (config : List State) (v : ℕ)
    (size : length config ≡ n) (node : v < n) (rising : IsStrictlyIncreasing ids) where
  -- what v hears of node u, if that is faulty
  abbrev hears : ℕ → State
  hears u = if u == v then state_of config u else lie u v

  -- what it hears of the faulty nodes, in the order of their ids
  abbrev true_lies : List State
  true_lies = map hears ids

  true_at : (j : ℕ) → j < length ids → state_of true_lies j ≡ hears (slice_index ids j)
  true_at j lt = get_or-map hears ids j 0 (zero_state 0) lt

  true_of : (u : ℕ) → is_in ids u ≡ true → state_of true_lies (place_among ids u) ≡ hears u
  true_of u is =
      let at = stands_at ids u rising is in
      true_at (place_among ids u) at.lt ∙ ap hears at.is

  -- all that it hears
  abbrev heard : List State
  heard = heard_by n ids config
      (map (λ u. map (λ w. lie u w) (range_with_len 0 n)) (range_with_len 0 n)) v

  truly_heard : heard_with ids true_lies config ≡ heard
  truly_heard =
      let long = length-map-range_with_len (heard_at ids true_lies config) 0 (length config) in
      heard_is n ids config lie v (heard_with ids true_lies config) node (long ∙ size)
      (λ u lt is. with_at ids true_lies config u (omega (arith, lt, size))
      ∙ ap (λ (b : Bool). cond b (state_of true_lies (place_among ids u)) (state_of config u)) is)
      (λ u lt is. with_at ids true_lies config u (omega (arith, lt, size))
      ∙ ap (λ (b : Bool). cond b (state_of true_lies (place_among ids u)) (state_of config u)) is
      ∙ true_of u is)

  own_heard : hears v ≡ state_of config v
  own_heard = ap (λ (b : Bool). cond b (state_of config v) (lie v v)) (eq-eqb v v refl)

  -- a list of lies in which v tells itself its own state, if it is faulty
  tells : (lies : List State) → length lies ≡ length ids
      → (is_in ids v ≡ true → state_of lies (place_among ids v) ≡ state_of config v)
      → Tells (stands_for plan config ids) v lies
  tells lies long own = record {
    size = long;
    own = λ is. ap (cut (plan_depth plan)) (own is)
        ∙ sym (state_of-cut (plan_depth plan) config v);
  }

  -- the first ones of a list are such
  module _ (q : ℕ) (lies : List State) (many : q ≡ length ids) (le : q ≤ length lies)
      (own_lies : is_in ids v ≡ true → state_of lies (place_among ids v) ≡ state_of config v)
      (shares : Shares) (is : shares ≡ stands_for plan config ids) where
    long : length (take q lies) ≡ length ids
    long = length-take-le q lies le ∙ many

    at : (j : ℕ) → j < length ids → state_of (take q lies) j ≡ state_of lies j
    at j lt = get_or-take q lies j (zero_state 0) (omega (arith, lt, many))

    own : is_in ids v ≡ true → state_of (take q lies) (place_among ids v) ≡ state_of config v
    own bad = let stands = stands_at ids v rising bad in
        at (place_among ids v) stands.lt ∙ own_lies bad

    pub tells_taken : Tells shares v (take q lies)
    tells_taken = subst (λ (s : Shares). Tells s v (take q lies)) (sym is)
        (tells (take q lies) long own)

    -- If the step depends on a stretch of them alone, and these are the true ones, it is that of
    -- what v hears.
    pub step_taken : (from to : ℕ) → to ≤ length ids → DependsOn plan v shares from to
        → ((j : ℕ) → from ≤ j → j < to → state_of lies j ≡ hears (slice_index ids j))
        → step_of plan v (heard_with ids (take q lies) config) ≡ step_of plan v heard
    step_taken from to within enough told =
        sym (step_cut plan v ids (take q lies) config)
        ∙ subst (λ (s : Shares). DependsOn plan v s from to) is enough (take q lies) true_lies
        (tells (take q lies) long own)
        (tells true_lies (length-map ids hears) (λ bad. true_of v bad ∙ own_heard))
        (λ j low high. at j (omega (arith, high, within)) ∙ told j low high
        ∙ sym (true_at j (omega (arith, high, within))))
        ∙ step_cut plan v ids true_lies config
        ∙ ap (step_of plan v) truly_heard

-- what is written before the further registers of a state keeps its depth
pub written_long : (plan : Plan) → IsAccepted plan → (v : ℕ) → v < plan_nodes plan
    → (heard : List State) → length heard ≡ plan_nodes plan → (out : State) (depth : ℕ)
    → length out.registers ≡ depth → plan_depth plan ≤ depth
    → length (written (plan_depth plan) (step_of plan v heard) out).registers ≡ depth
written_long plan accepted v node heard size out depth long room =
    let next : List Reg = (step_of plan v heard).registers in
    let deep = (plan_sizes plan accepted).deep v heard node size in
    let both = length-append next (drop (plan_depth plan) out.registers) in
    let rest = length-drop (plan_depth plan) out.registers in
    let size : length (next ++ drop (plan_depth plan) out.registers) ≡ depth =
    omega (arith, both, rest, deep, long, room) in
    size
