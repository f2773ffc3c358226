-- What the lines of a slot table, of requests and of a log say to each node, output by output or
-- round by round.
use Rattle.std.specs.Prelude.{◌≡◌, ℕ, ◌+◌, ◌*◌, ◌%◌, ◌<◌, ◌≤◌, ◌↔◌, List, [], ◌∷◌, ◌++◌, length}
use Rattle.std.specs.Prelude.{true, slice_index_or}
use Rattle.slot_table.specs.declared.lines.SlotLine.{SlotLine}
use Rattle.slot_table.specs.Tables.{covers}
use Rattle.firing.specs.declared.requests.Request.{Request}
use Rattle.firing.specs.Firings.{requests_in}
use Rattle.replicated_log.specs.EntryLength.{entry_length, owner_at, command_at}

-- A line of a slot table gives its node the outputs from its first to its last.
abbrev pub GivesOutputs : Type 0
GivesOutputs = (line : SlotLine) (output : ℕ)
    → (covers output line ≡ true) ↔ (line.first ≤ output) × (output ≤ line.last)

-- a line says that node v requests in round t
pub record Requests (requests : List Request) (v t : ℕ) : Type 0 where
  pub before : List Request
  pub after : List Request
  pub request : Request
  pub is : requests ≡ before ++ request ∷ after
  pub node : request.node ≡ v
  pub from : request.first ≤ t
  pub to : t ≤ request.last

-- A node requests in the rounds of which a line says so, and in no other.
abbrev pub RequestsAreSaid : List Request → Type 0
RequestsAreSaid requests =
    (v t : ℕ) → (requests_in requests v t ≡ true) ↔ Requests requests v t

-- Slot k is that of node k modulo N, and in its slot i a node commands its command i, modulo how
-- many it has.
pub record TakesTurns (n f : ℕ) (commands : List (List ℕ)) : Type 0 where
  pub owners : (k x : ℕ) → x < entry_length f → owner_at n f (k * entry_length f + x) ≡ k % n
  pub commanded : (v i x c : ℕ) (before after : List ℕ)
      → slice_index_or commands v [] ≡ before ++ c ∷ after → x < n * entry_length f
      → i % length (before ++ c ∷ after) ≡ length before
      → command_at n f commands v (i * (n * entry_length f) + x) ≡ c
