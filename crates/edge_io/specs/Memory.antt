-- Sources and sinks in memory: which calls fail, and how many bytes a call moves.
use Rattle.std.specs.Prelude.{ℕ, suc, ◌+◌, ◌-◌, ◌^◌, ◌%◌, min, List, [], ◌++◌, length, drop}
use Rattle.std.specs.Prelude.{slice_index, Some, Bool, ◌||◌, ◌==◌, if◌then◌else◌}
use Rattle.texts.specs.Growth.{SinkState}

-- one more call or fault; a count stands still at 2 ^ 64 - 1
abbrev pub counted : ℕ → ℕ
counted n = min (n + 1) (2 ^ 64 - 1)

-- How many bytes a call moves of so many that it could, after so many calls that moved bytes: no
-- more than the next cut. The cuts go round and round; if there are none, nothing is cut.
abbrev pub moved : List ℕ → ℕ → ℕ → ℕ
moved cuts turn most = if length cuts == 0 then most else min
    (slice_index cuts (turn % length cuts)) most

-- A source in memory: the bytes that are left, the numbers of the calls that fail and the cuts; how
-- many calls there were, how many of them moved bytes, and how many failed; and whether its end was
-- met.
pub record MemSourceState : Type 0 where
  pub left : List ℕ
  pub fails : List ℕ
  pub cuts : List ℕ
  pub calls : ℕ
  pub turn : ℕ
  pub faults : ℕ
  pub met : Bool

-- after a read of so many bytes
abbrev pub after_read : MemSourceState → ℕ → MemSourceState
after_read s n = record s {
  left = drop n s.left;
  calls = counted s.calls;
  turn = if n == 0 then s.turn else s.turn + 1;
  met = (n == 0) || s.met;
}

-- after a read that failed
abbrev pub after_failed_read : MemSourceState → MemSourceState
after_failed_read s = record s { calls = counted s.calls; faults = counted s.faults }

-- A sink in memory: the bytes that it took, how many it can take in all, the numbers of the calls
-- that fail and the cuts; and how many calls there were, how many of them moved bytes, and how many
-- failed.
pub record MemSinkState : Type 0 where
  pub taken : List ℕ
  pub room : ℕ
  pub fails : List ℕ
  pub cuts : List ℕ
  pub calls : ℕ
  pub turn : ℕ
  pub faults : ℕ

-- after a write that took these bytes
abbrev pub after_write : MemSinkState → List ℕ → MemSinkState
after_write s bytes = record s {
  taken = s.taken ++ bytes;
  calls = counted s.calls;
  turn = s.turn + 1;
}

-- after a write that failed
abbrev pub after_failed_write : MemSinkState → MemSinkState
after_failed_write s = record s { calls = counted s.calls; faults = counted s.faults }

-- What a sink in memory tells: if no call is to fail, each text that there is room for is certain
-- to be taken.
abbrev pub memory_told : MemSinkState → SinkState
memory_told s = record {
  taken = Some s.taken;
  faults = s.faults;
  certain = if length s.fails == 0 then suc (s.room - length s.taken) else 0;
  names = [];
  passed = [];
}
