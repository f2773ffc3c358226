-- A log's layer has one length of entries: where an entry of one length begins, the register of
-- agreement is loaded and not marked, and within a longer one it keeps its mark.
use Rattle.std.proofs.Common.{◌≡◌, ℕ, ◌+◌, ◌-◌, ◌/◌, ◌%◌, ◌<◌, Bool, true, false, List, []}
use Rattle.std.proofs.Common.{◌∷◌, None, sym, ap, ◌∙◌, ⊎_elim, arith}
use Rattle.std.specs.Prelude.{replicate, slice_index_or, if◌then◌else◌, unwrap_or}
use Rattle.std.proofs.Math.Nat.{mod-eq_of_lt, mod_self}
use Rattle.std.proofs.lemmas.Bool.{eq-eqb, ne_eqb, false≢true, cases_lt}
use Rattle.std.proofs.lemmas.List.{get_or-replicate}
use Rattle.sync_types.specs.declared.states.Reg.{Reg}
use Rattle.sync_types.specs.States.{State, zero_register, register_at}
use Rattle.construction.specs.Steps.{state_of}
use Rattle.counter_core.specs.Overlays.{Layer}
use Rattle.layer_laws.specs.Slots.{agreed, agreed_in_turn}
use Rattle.consensus_layer.specs.Agreeing.{loaded}
use Rattle.replicated_log.specs.declared.entries.Entry.{Entry}
use Rattle.replicated_log.specs.EntryLength.{entry_length, owner_at}
use Rattle.replicated_log.specs.Logs.{log_layer_of}

mark : Reg
mark = record { a = None; d = true }

-- a state whose registers are marked, up to that at a place
abbrev marked_to : ℕ → State
marked_to place = record { x = 0; registers = replicate (place + 1) mark }

-- whether the first register is marked after a step of node 0 that hears this state
abbrev marked : Layer (List Entry) → (output : ℕ) → State → Bool
marked layer output s =
    let r = slice_index_or (layer.next 0 [] output (s ∷ [])).registers 0 zero_register in r.d

begins : (n f m d v k : ℕ) (commands : List (List ℕ)) (s : State)
    → marked (log_layer_of n f m d v k commands) (entry_length f) s ≡ false
begins n f m d v k commands s =
    let o : ℕ = entry_length f in
    let turn : o % entry_length f ≡ 0 = mod_self o in
    ap (λ (b : Bool). let r : Reg = if b
    then loaded (unwrap_or (register_at (d + 1) (state_of (s ∷ []) (owner_at n f o))).a 0)
    else agreed_in_turn n f d 0 (o % entry_length f - 1) (s ∷ []) in r.d)
    (eq-eqb (o % entry_length f) 0 turn)

-- the mark at the place is there
there : (d : ℕ) → (let r = register_at d (marked_to d) in r.d) ≡ true
unfolding mark
there d = ap (λ (r : Reg). r.d) (get_or-replicate (d + 1) d mark zero_register (omega arith))

within : (n g m d v k f : ℕ) (commands : List (List ℕ)) → f < g
    → marked (log_layer_of n g m d v k commands) (entry_length f) (marked_to d) ≡ true
within n g m d v k f commands lt =
    let o : ℕ = entry_length f in
    let s = marked_to d in
    let turn : o % entry_length g ≡ o = mod-eq_of_lt (omega (arith, lt)) in
    let zero : (o % entry_length g - 1) % 3 ≡ 0 = omega (arith, turn) in
    ap (λ (b : Bool). let r : Reg = if b
    then loaded (unwrap_or (register_at (d + 1) (state_of (s ∷ []) (owner_at n g o))).a 0)
    else agreed_in_turn n g d 0 (o % entry_length g - 1) (s ∷ []) in r.d)
    (ne_eqb (o % entry_length g) 0 (λ e. absurd (omega (arith, turn, e))))
    ∙ (ap (λ (kind : ℕ). let r = agreed n g d 0 kind ((o % entry_length g - 1) / 3) (s ∷ []) in r.d)
    zero ∙ there d)

apart : (n f m d v k : ℕ) (commands : List (List ℕ)) (n' g m' d' v' k' : ℕ)
    (others : List (List ℕ)) → f < g
    → log_layer_of n f m d v k commands ≡ log_layer_of n' g m' d' v' k' others → ⊥
apart n f m d v k commands n' g m' d' v' k' others lt same =
    false≢true (sym (begins n f m d v k commands (marked_to d'))
    ∙ (ap (λ (l : Layer (List Entry)). marked l (entry_length f) (marked_to d')) same
    ∙ within n' g m' d' v' k' f others lt))

one_faults : (n f m d v k : ℕ) (commands : List (List ℕ)) (n' g m' d' v' k' : ℕ)
    (others : List (List ℕ))
    → log_layer_of n f m d v k commands ≡ log_layer_of n' g m' d' v' k' others → f ≡ g
one_faults n f m d v k commands n' g m' d' v' k' others same = ⊎_elim
    (λ lt. absurd (apart n f m d v k commands n' g m' d' v' k' others lt same))
    (λ le. ⊎_elim
    (λ lt. absurd (apart n' g m' d' v' k' others n f m d v k commands lt (sym same)))
    (λ ge. omega (arith, le, ge))
    (cases_lt g f))
    (cases_lt f g)

-- so at each output it has one owner
pub one_owner : (n f m d v k : ℕ) (commands : List (List ℕ)) (n' g m' d' v' k' : ℕ)
    (others : List (List ℕ)) (output : ℕ)
    → log_layer_of n f m d v k commands ≡ log_layer_of n' g m' d' v' k' others
    → owner_at n f output ≡ owner_at n' g output
one_owner n f m d v k commands n' g m' d' v' k' others output same =
    ap (λ (nodes : ℕ). owner_at nodes f output) (ap (λ (l : Layer (List Entry)). l.nodes) same)
    ∙ ap (λ (faults : ℕ). owner_at n' faults output)
    (one_faults n f m d v k commands n' g m' d' v' k' others same)
