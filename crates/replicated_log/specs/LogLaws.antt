-- The step of the log keeps values in range.
use Rattle.std.proofs.Common.{◌≡◌, ℕ, ◌+◌, ◌-◌, ◌*◌, ◌/◌, ◌%◌, ◌<◌, Bool, true, false, List}
use Rattle.std.proofs.Common.{[], ◌∷◌, length, get_or, All, Option, Some, None, IfSome, unwrap_or}
use Rattle.std.proofs.Common.{refl, subst, arith}
use Rattle.std.specs.Prelude.{if◌then◌else◌, ◌==◌}
use Rattle.std.proofs.Math.Nat.{add-zero, mod-lt}
use Rattle.std.proofs.lemmas.List.Elements.{All-weaker, All-cons, All-nil, All-get_or}
use Rattle.sync_types.specs.declared.states.Reg.{Reg}
use Rattle.sync_types.specs.States.{zero_state, register_at}
use Rattle.construction.specs.Steps.{state_of}
use Rattle.counter_core.specs.Overlays.{HasValues, KeepsRange}
use Rattle.layer_laws.specs.Slots.{agreed_in_turn}
use Rattle.consensus_layer.specs.Agreeing.{loaded}
use Rattle.consensus_layer.specs.AgreeLaws.{agreed_below}
use Rattle.replicated_log.specs.EntryLength.{entry_length, owner_at, command_at}
use Rattle.replicated_log.specs.LogPart.{AreInRange}
use Rattle.replicated_log.specs.Logs.{agreement_after, log_layer_of}

abbrev Below : ℕ → Option ℕ → Type 0
Below values a = IfSome a (λ x. x < values)

heard_below : (values : ℕ) → 0 < values → (a : Option ℕ) → Below values a
    → unwrap_or a 0 < values
heard_below values some None below = some
heard_below values some (Some a) below = below

choice_below : (values : ℕ) (b : Bool) (r s : Reg) → Below values r.a
    → (b ≡ false → Below values s.a) → Below values (if b then r else s).a
choice_below values true r s here there = here
choice_below values false r s here there = there refl

-- a command of a node is below the values
command_below : (n f values : ℕ) (commands : List (List ℕ)) (v output : ℕ) → v < length commands
    → AreInRange values commands → command_at n f commands v output < values
command_below n f values commands v output vlt all =
    let own = get_or commands v [] in
    let is = All-get_or (λ own. (0 < length own) × All (λ a. a < values) own) commands v [] vlt all
    in
    All-get_or (λ a. a < values) own (output / (n * entry_length f) % length own) 0
    (mod-lt (output / (n * entry_length f)) is.0) is.1

pub log_keeps : (nodes faults modulus depth values keep : ℕ) (commands : List (List ℕ))
    → 3 * faults < nodes → length commands ≡ nodes → AreInRange values commands
    → KeepsRange (log_layer_of nodes faults modulus depth values keep commands)
log_keeps nodes faults modulus depth values keep commands quorum long all v o log heard may =
    let layer = log_layer_of nodes faults modulus depth values keep commands in
    let m = may (omega arith) in
    let node = m.node in
    let size = m.size in
    let p : ℕ = o % entry_length faults in
    let short : p < entry_length faults = mod-lt o (omega arith) in
    let owner : ℕ = owner_at nodes faults o in
    let inside : owner < nodes = mod-lt (o / entry_length faults) (omega (arith, node)) in
    let next : ℕ = command_at nodes faults commands v ((o + 1) % modulus) in
    let command = command_below nodes faults values commands v ((o + 1) % modulus)
    (omega (arith, node, long)) all in
    let own : All (λ s. Below values (register_at depth s).a) heard =
    All-weaker (HasValues layer) (λ s. Below values (register_at depth s).a)
    (λ s has. subst (λ d. Below values (register_at d s).a) (add-zero depth)
    (has 0 (omega arith))) heard m.range in
    let told : Below values (register_at (depth + 1) (state_of heard owner)).a =
    (All-get_or (HasValues layer) heard owner (zero_state 0) (omega (arith, inside, size))
    m.range) 1 (omega arith) in
    let said : ℕ = unwrap_or (register_at (depth + 1) (state_of heard owner)).a 0 in
    record {
      size = refl;
      range = All-cons (λ (r : Reg). Below values r.a)
          (agreement_after nodes faults depth v o heard) (loaded next ∷ [])
          (choice_below values (p == 0) (loaded said)
          (agreed_in_turn nodes faults depth v (p - 1) heard)
          (heard_below values (omega (arith, command))
          (register_at (depth + 1) (state_of heard owner)).a told)
          (λ no. agreed_below nodes faults depth v ((p - 1) % 3) ((p - 1) / 3) values heard
          (omega (arith, command)) (omega (arith, node, size))
          (omega (arith, short, quorum, size)) own))
          (All-cons (λ (r : Reg). Below values r.a) (loaded next) [] command
          (All-nil (λ (r : Reg). Below values r.a)));
    }
