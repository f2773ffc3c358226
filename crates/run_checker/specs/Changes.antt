-- What the lines after the head of a certificate change.
use Rattle.std.specs.Prelude.{◌≡◌, ℕ, ◌+◌, ◌&&◌, ◌==◌, nat_le, nat_lt, nat_eq, List, [], ◌∷◌, ◌++◌}
use Rattle.std.specs.Prelude.{length, drop, Bool, true, false, not, Option, Some, None}
use Rattle.std.specs.Prelude.{slice_index_or, if◌then◌else◌}
use Rattle.std.specs.List.{range_with_len}
use Rattle.construction.specs.Plans.{Plan, plan_nodes}
use Rattle.construction.specs.Runs.{is_in}
use Rattle.state_codec.specs.Texts.{is_state_text, read_text}
use Rattle.round_runner.specs.Locks.{is_locked, first_of}
use Rattle.run_checker.specs.NodeFields.{fields_of}
use Rattle.run_checker.specs.Grammar.{pairs_of, most_eras}
use Rattle.run_checker.specs.Checking.{nothing_known, needs_state, put_state, has_round}
use Rattle.run_checker.specs.Checking.{is_next, all_told, moved, is_row, compared}
use Rattle.run_checker.specs.Bodies.{BodySeen}

-- after the head
abbrev pub first_body : (version : ℕ) → Plan → (faulty : List ℕ) → BodySeen
first_body version plan faulty = record {
  known = nothing_known version plan faulty;
  is_putting = true;
  unknown = range_with_len 0 (plan_nodes plan);
  from = 0;
  told = [];
}

-- whether the next state that is put may be that of v, whatever its digits
abbrev pub may_put : BodySeen → (v : ℕ) → Bool
may_put b v =
    nat_le b.from v && nat_lt v (plan_nodes b.known.plan) && not (is_in b.known.stand.faulty v)
    && not (needs_state b.unknown b.known.stand.faulty b.from v)

-- a node is put into the state of digits, or they are those of no state
abbrev pub Puts : (v : ℕ) → (digits : List ℕ) → (old new : BodySeen) → Bool → Type 0
Puts v digits old new true = (is_state_text (fields_of old.known.plan v) digits ≡ true)
    × (new ≡ record old { known = put_state old.known v digits; from = v + 1 })
Puts v digits old new false = is_state_text (fields_of old.known.plan v) digits ≡ false

-- the pairs of its round
abbrev pub pairs_in : BodySeen → List (ℕ × ℕ)
pairs_in b = pairs_of (plan_nodes b.known.plan) b.known.stand.faulty

-- whether the next state that is told may be of these two, whatever its digits
abbrev pub may_tell : BodySeen → (u v : ℕ) → Bool
may_tell b u v =
    has_round b.known
    && is_next u v (drop (length b.told) (pairs_in b))

-- the sender of the next pair
abbrev pub next_sender : BodySeen → ℕ
next_sender b =
    (slice_index_or (pairs_in b) (length b.told) (0, 0)).0

-- another state was told, or the digits are those of no state, and nothing changed
abbrev pub Tells : (u : ℕ) → (digits : List ℕ) → (old new : BodySeen) → Bool → Type 0
Tells u digits old new true = (is_state_text (fields_of old.known.plan u) digits ≡ true)
    × (new ≡ record old { told = old.told ++ read_text (fields_of old.known.plan u) digits ∷ [] })
Tells u digits old new false =
    (is_state_text (fields_of old.known.plan u) digits ≡ false) × (new ≡ old)

-- the round that was told was played
abbrev pub played_on : BodySeen → BodySeen
played_on b = record b { known = moved b.known b.known.stand.faulty b.told; told = [] }

-- whether an era may begin at configuration t, whatever its faulty nodes
abbrev pub may_begin : BodySeen → (t : ℕ) → Bool
may_begin b t =
    all_told b.known b.told && nat_eq t (b.known.at + 1)
    && nat_lt b.known.eras (most_eras b.known.version)

-- another era was counted
abbrev pub era_more : BodySeen → BodySeen
era_more b = record b { known = record b.known { eras = b.known.eras + 1 } }

-- the round that was told was played, and an era begins after it that was counted
abbrev pub played_into : BodySeen → (faulty : List ℕ) → BodySeen
played_into b faulty = record {
  known = record (moved b.known faulty b.told) { locked = None };
  is_putting = true;
  unknown = b.known.stand.faulty;
  from = 0;
  told = [];
}

-- no correct node is left that needs a state
abbrev pub has_states : BodySeen → Bool
has_states b = not (needs_state b.unknown b.known.stand.faulty b.from (plan_nodes b.known.plan))

-- a row of the configuration was taken, which is what the configuration shows or not
abbrev pub marked_by : BodySeen → (same : Bool) → BodySeen
marked_by b same = record b {
  known = record b.known {
    differs = first_of b.known.differs (not same) b.known.at;
    locked = first_of b.known.locked
        (is_locked b.known.plan b.known.stand.faulty b.known.stand.config) b.known.at;
  };
  is_putting = false;
  told = [];
}

-- a row of the configuration was taken, or the words are none
abbrev pub row_marked : BodySeen → List (Option ℕ) → BodySeen
row_marked b row = record b { known = compared b.known row; is_putting = false; told = [] }

pub record IsMarked (row : List (Option ℕ)) (old new : BodySeen) : Type 0 where
  pub is_row : is_row old.known.plan old.known.stand.faulty row ≡ true
  pub marked : new ≡ row_marked old row

abbrev pub Marks : Option (List (Option ℕ)) → (old new : BodySeen) → Bool → Type 0
Marks None old new true = ⊥
Marks None old new false = Unit {0}
Marks (Some row) old new true = IsMarked row old new
Marks (Some row) old new false = is_row old.known.plan old.known.stand.faulty row ≡ false

-- Whether a row may be next, with the configuration that it is of: if states are put, the one that
-- is known, and else the one after the round that was told.
abbrev pub may_row : BodySeen → Bool
may_row b = if b.is_putting then has_states b else all_told b.known b.told

abbrev pub at_row : BodySeen → BodySeen
at_row b = if b.is_putting then b else played_on b

abbrev pub ComesToRow : (old new : BodySeen) → Bool → Type 0
ComesToRow old new true = (may_row old ≡ true) × (new ≡ at_row old)
ComesToRow old new false = may_row old ≡ false

-- whether nothing was told after the last row
abbrev pub is_at_row : BodySeen → Bool
is_at_row b = not b.is_putting && length b.told == 0
