-- What a feed has left, and what reading a byte and a line of it does.
use Rattle.std.specs.Prelude.{◌≡◌, ◌≢◌, ℕ, ◌-◌, ◌+◌, ◌^◌, ◌<◌, ◌≤◌, min, length, List, [], ◌∷◌}
use Rattle.std.specs.Prelude.{◌++◌, take, drop, Bool, true, false, Option, Some, None, Result, Ok}
use Rattle.std.specs.Prelude.{Err}
use Rattle.std.specs.Io.KnownBytes.{prepend_known, Consumes, Keeps, IsAtEnd}
use Rattle.texts.specs.Causes.{Counted}
use Rattle.edge_io.specs.declared.feed.Feed.{Feed}
use Rattle.edge_io.specs.declared.feed.Line.{Line}
use Rattle.edge_io.specs.declared.feed.Line.TheVariants as line
use Rattle.edge_io.specs.declared.feed.LineFault.{LineFault}
use Rattle.edge_io.specs.declared.feed.LineFault.TheVariants as fault

-- the bytes that the source gave and nobody has read
abbrev pub buffered : {S : Type 0} → Feed S → List ℕ
buffered f = take (f.end - f.at) (drop f.at f.buffer)

-- the bytes that are left: those in the buffer, and those of the source
abbrev pub feed_left : {S : Type 0} → (S → Option (List ℕ)) → Feed S → Option (List ℕ)
feed_left left f = prepend_known (buffered f) (left f.source.now)

-- A read failed in a call: all bytes that the source gave were read, and the end was not met.
abbrev pub IsDry : {S : Type 0} → (met : S → Bool) → (old new : Feed S) → Type 0
IsDry met old new = (new.at ≡ new.end) × (met new.source.now ≡ met old.source.now)

-- whether the end was met with a line
abbrev pub meets_end : Line → Bool
meets_end line.Whole = false
meets_end line.Open = true
meets_end line.Long = false
meets_end line.End = true

-- what reading a byte did: there is none only at the end, and after a fault the bytes are as before
abbrev pub TakesByte : {E : Type 0} → Option (List ℕ) → Option (List ℕ) → Result (Option ℕ) E
    → Type 0
TakesByte old new (Ok None) = IsAtEnd new × Keeps old new
TakesByte old new (Ok (Some b)) = Consumes old new (b ∷ [])
TakesByte old new (Err e) = Keeps old new

-- What reading a byte of a line did, if the lines had so many bytes before and after. A count of
-- bytes stands still at 2 ^ 64 - 1.
abbrev pub TakesLineByte : (limit before after : ℕ) → (old new : Option (List ℕ))
    → Result (Option ℕ) LineFault → Type 0
TakesLineByte limit before after old new (Ok None) = IsAtEnd new × Keeps old new × (after ≡ before)
TakesLineByte limit before after old new (Ok (Some b)) =
    Consumes old new (b ∷ []) × (after ≡ before + 1) × (before < limit)
TakesLineByte limit before after old new (Err fault.ReadFault) = Keeps old new × (after ≡ before)
TakesLineByte limit before after old new (Err fault.TooLong) =
    (b : ℕ) × Consumes old new (b ∷ []) × (after ≡ min (before + 1) (2 ^ 64 - 1)) × (limit ≤ before)

-- only a read fault is counted; `Dry` holds after it
abbrev pub HasLineCause : {T : Type 0} → (before now : ℕ) → (Dry : Type 0) → Result T LineFault
    → Type 0
HasLineCause before now Dry (Ok x) = now ≡ before
HasLineCause before now Dry (Err fault.ReadFault) = Counted before now × Dry
HasLineCause before now Dry (Err fault.TooLong) = now ≡ before

-- What reading a line did: these bytes of it, without the newline, were read, if the lines had so
-- many bytes before and after, newlines included. Only at `TooLong` is a byte after the limit read,
-- and then just one.
abbrev pub LineIs : (limit before after : ℕ) → (old new : Option (List ℕ)) → List ℕ
    → Result Line LineFault → Type 0
LineIs limit before after old new bytes (Ok line.Whole) =
    Consumes old new (bytes ++ 10 ∷ []) × (after ≡ before + length bytes + 1) × (after ≤ limit)
LineIs limit before after old new bytes (Ok line.Open) =
    Consumes old new bytes × IsAtEnd new × (0 < length bytes)
    × (after ≡ before + length bytes) × (after ≤ limit)
LineIs limit before after old new bytes (Ok line.Long) =
    (b : ℕ) × (b ≢ 10) × Consumes old new (bytes ++ b ∷ []) × (length bytes ≡ 4096)
    × (after ≡ before + length bytes + 1) × (after ≤ limit)
LineIs limit before after old new bytes (Ok line.End) =
    Keeps old new × IsAtEnd new × (bytes ≡ []) × (after ≡ before)
LineIs limit before after old new bytes (Err fault.TooLong) =
    (b : ℕ) × Consumes old new (bytes ++ b ∷ []) × (length bytes ≡ limit - before)
    × (after ≡ min (before + length bytes + 1) (2 ^ 64 - 1))
LineIs limit before after old new bytes (Err fault.ReadFault) =
    Consumes old new bytes × (after ≡ before + length bytes) × (length bytes ≤ limit - before)

-- so many bytes were read (true), or the input ended before (false), or a read failed before
abbrev pub ReadsSoMany : {E : Type 0} → ℕ → (old new : Option (List ℕ)) → List ℕ → Result Bool E
    → Type 0
ReadsSoMany n old new bytes (Ok true) = Consumes old new bytes × (length bytes ≡ n)
ReadsSoMany n old new bytes (Ok false) = Consumes old new bytes × (length bytes < n) × IsAtEnd new
ReadsSoMany n old new bytes (Err e) = Consumes old new bytes × (length bytes < n)

-- a buffer was filled with the bytes that were read (true), or fewer bytes were there
abbrev pub Fills : {E : Type 0} → (old new : Option (List ℕ)) → (before after : List ℕ)
    → Result Bool E → Type 0
Fills old new before after (Ok true) = Consumes old new after × (length after ≡ length before)
Fills old new before after (Ok false) =
    ((bytes : List ℕ) × Consumes old new bytes × (length bytes < length before))
    × IsAtEnd new × (length after ≡ length before)
Fills old new before after (Err e) =
    ((bytes : List ℕ) × Consumes old new bytes × (length bytes < length before))
    × (length after ≡ length before)
