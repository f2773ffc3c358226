-- A faulty node's own state stands in its place among what the faulty nodes tell.
use Rattle.std.proofs.Common.{◌≡◌, ℕ, ◌<◌, ◌≤◌, true, false, List, length, set, sym, ap, ◌∙◌, subst}
use Rattle.std.proofs.Common.{arith}
use Rattle.std.specs.Prelude.{slice_index}
use Rattle.std.specs.List.Sorted.{IsStrictlyIncreasing}
use Rattle.std.proofs.lemmas.Bool.{true≢false}
use Rattle.std.proofs.lemmas.List.{get_or-set_same}
use Rattle.sync_types.specs.FaultSets.{is_in}
use Rattle.sync_types.specs.States.{State, zero_state}
use Rattle.construction.specs.Steps.{state_of}
use Rattle.shared_board.specs.Sharing.{place_among}
use Rattle.shared_board.proofs.Ids.{place_of_id}
use Rattle.round_runner.specs.Hearing.{TellsItself}
use Rattle.machine_runner.proofs.Heard.{is_among}

-- rising ids have each id in one place
pub same_place : (ids : List ℕ) → IsStrictlyIncreasing ids → (k j : ℕ) → k < length ids
    → j < length ids → slice_index ids k ≡ slice_index ids j → k ≡ j
same_place ids rising k j klt jlt same =
    sym (place_of_id ids rising k klt) ∙ ap (place_among ids) same ∙ place_of_id ids rising j jlt

-- once it was put there it stands there
pub own_stands : (ids : List ℕ) (v : ℕ) (config lies : List State) (own : ℕ) (out : State)
    → IsStrictlyIncreasing ids → own < length ids → length ids ≤ length lies
    → slice_index ids own ≡ v → out ≡ state_of config v
    → TellsItself ids v config (set lies own out)
own_stands ids v config lies own out rising among room id is = λ j lt mine.
    let at : j ≡ own = same_place ids rising j own lt among (mine ∙ sym id) in
    ap (state_of (set lies own out)) at
    ∙ (get_or-set_same lies own out (zero_state 0) (omega (arith, among, room)) ∙ is)

-- a correct node has no place there
pub none_stands : (ids : List ℕ) (v : ℕ) (config lies : List State) → is_in ids v ≡ false
    → TellsItself ids v config lies
none_stands ids v config lies correct = λ j lt mine.
    absurd (true≢false (sym (subst (λ (u : ℕ). is_in ids u ≡ true) mine (is_among ids j lt))
    ∙ correct))
