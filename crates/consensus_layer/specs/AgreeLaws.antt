-- The step of agreement keeps values in range.
use Rattle.std.proofs.Common.{◌≡◌, ℕ, zero, suc, ◌+◌, ◌-◌, ◌*◌, ◌/◌, ◌%◌, ◌<◌, Bool, true, false}
use Rattle.std.proofs.Common.{List, [], length, map, get_or, All, Option, Some, None, IfSome}
use Rattle.std.proofs.Common.{unwrap_or, nat_le, refl, subst, arith}
use Rattle.std.specs.Prelude.{if◌then◌else◌, ◌==◌, slice_index}
use Rattle.std.proofs.Math.Nat.{add-zero, mod-lt}
use Rattle.std.specs.Option.{option_map}
use Rattle.std.proofs.lemmas.List.{length-map}
use Rattle.std.proofs.lemmas.List.Elements.{All-map, All-get_or, All-weaker, All-cons, All-nil}
use Rattle.sync_types.specs.declared.states.Reg.{Reg}
use Rattle.sync_types.specs.States.{State, zero_state, register_at}
use Rattle.counting.specs.Values.{count_of, least_above}
use Rattle.counting.proofs.Least.{least_above_in}
use Rattle.construction.specs.PhaseKing.{own_or_kings, without_increment}
use Rattle.construction.specs.Steps.{state_of}
use Rattle.counter_core.specs.Overlays.{HasValues, KeepsRange}
use Rattle.layer_laws.specs.CounterSlots.{slot_length, agreed, agreed_in_turn}
use Rattle.consensus_layer.specs.Agreeing.{turned, agree_step}
use Rattle.consensus_layer.specs.Agreements.{agree_layer_of}

abbrev Below : ℕ → Option ℕ → Type 0
Below values a = IfSome a (λ x. x < values)

same_value : (values : ℕ) (a : Option ℕ) → Below values a → Below values (option_map (λ x. x) a)
same_value values None below = tt
same_value values (Some a) below = below

kept_or_none : (values : ℕ) (b : Bool) (a : Option ℕ) → Below values a
    → Below values (if b then a else None)
kept_or_none values true a below = below
kept_or_none values false a below = tt

kings : (values : ℕ) → 0 < values → (king : Option ℕ) → Below values king
    → unwrap_or king 0 < values
kings values some None below = some
kings values some (Some a) below = below

own_or_kings_below : (values : ℕ) → 0 < values → (a : Option ℕ) (d : Bool) (king : Option ℕ)
    → Below values a → Below values king → own_or_kings a d king < values
own_or_kings_below values some (Some a) true king own of_king = own
own_or_kings_below values some (Some a) false king own of_king = kings values some king of_king
own_or_kings_below values some None d king own of_king = kings values some king of_king

without_below : (n f kind values : ℕ) → 0 < values → (own : Reg) (same : ℕ) (least king : Option ℕ)
    → Below values own.a → Below values least → Below values king
    → Below values (option_map (λ x. x) (without_increment n f kind own same least king).a)
without_below n f zero values some own same least king of_own of_least of_king =
    same_value values (if nat_le (n - f) same then own.a else None)
    (kept_or_none values (nat_le (n - f) same) own.a of_own)
without_below n f (suc zero) values some own same least king of_own of_least of_king =
    same_value values least of_least
without_below n f (suc (suc k)) values some own same least king of_own of_least of_king =
    own_or_kings_below values some own.a own.d king of_own of_king

pub agreed_below : (n f i v kind king values : ℕ) (heard : List State) → 0 < values
    → v < length heard → king < length heard → All (λ s. Below values (register_at i s).a) heard
    → Below values (agreed n f i v kind king heard).a
agreed_below n f i v kind king values heard some vlt klt all =
    let value : State → Option ℕ = λ s. (register_at i s).a in
    let list : List (Option ℕ) = map value heard in
    let below : All (Below values) list = All-map (Below values) value heard all in
    without_below n f kind values some (register_at i (state_of heard v))
    (count_of list (register_at i (state_of heard v)).a) (least_above f list)
    (get_or list king None)
    (All-get_or (λ s. Below values (register_at i s).a) heard v (zero_state 0) vlt all)
    (least_above_in values f list below)
    (All-get_or (Below values) list king None
    (let long = length-map heard value in omega (arith, klt, long)) below)

turned_below : (values : ℕ) (last : Bool) (input : ℕ) (result : Reg) → input < values
    → Below values result.a → Below values (turned last input result).register.a
turned_below values true input result of_input of_result = of_input
turned_below values false input result of_input of_result = of_result

-- a step on a register of agreement, whose values are in range in what is heard
pub agree_step_below : (n f i v input output values : ℕ) (heard : List State) → 3 * f < n → v < n
    → length heard ≡ n → input < values → All (λ s. Below values (register_at i s).a) heard
    → Below values (agree_step n f i v input output heard).register.a
agree_step_below n f i v input output values heard quorum vlt size of_input all =
    let turn : ℕ = output % slot_length f in
    let short : turn < slot_length f = mod-lt output (omega arith) in
    turned_below values (turn + 1 == slot_length f) input
    (agreed_in_turn n f i v turn heard) of_input
    (agreed_below n f i v (turn % 3) (turn / 3) values heard (omega (arith, of_input))
    (omega (arith, vlt, size)) (omega (arith, short, quorum, size)) all)

pub agree_keeps : (nodes faults modulus depth values : ℕ) (inputs : List ℕ) → 3 * faults < nodes
    → length inputs ≡ nodes → All (λ a. a < values) inputs
    → KeepsRange (agree_layer_of nodes faults modulus depth values inputs)
agree_keeps nodes faults modulus depth values inputs quorum long below v o kept heard may =
    let layer = agree_layer_of nodes faults modulus depth values inputs in
    let m = may (omega arith) in
    let node = m.node in
    record {
      size = refl;
      range = All-cons (λ (r : Reg). IfSome r.a (λ a. a < values))
          (agree_step nodes faults depth v (slice_index inputs v) o heard).register []
          (agree_step_below nodes faults depth v
          (slice_index inputs v) o values heard quorum m.node m.size
          (All-get_or (λ a. a < values) inputs v 0 (omega (arith, node, long)) below)
          (All-weaker (HasValues layer) (λ s. IfSome (register_at depth s).a (λ x. x < values))
          (λ s has. subst (λ d. IfSome (register_at d s).a (λ x. x < values)) (add-zero depth)
          (has 0 (omega arith))) heard m.range))
          (All-nil (λ (r : Reg). IfSome r.a (λ a. a < values)));
    }
