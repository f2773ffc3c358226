-- Configurations that are held as bytes.
use Rattle.std.proofs.Common.{◌≡◌, ℕ, zero, suc, ◌+◌, ◌-◌, ◌<◌, ◌≤◌, List, ◌++◌, length, take, drop}
use Rattle.std.proofs.Common.{get_or, set, replicate, length-append, inl, inr, ◌⊎◌, refl, sym, ap, subst, ◌∙◌, arith}
use Rattle.std.proofs.Common.{add-one}
use Rattle.std.proofs.lemmas.Bool.{cases_lt}
use Rattle.std.proofs.Math.Seq.{drop-append-add}
use Rattle.std.proofs.lemmas.List.{length-replicate, take-replicate, drop-replicate, length-take-le}
use Rattle.std.proofs.lemmas.List.{take-append-le, drop-append-le, take-append-drop, length-drop}
use Rattle.std.proofs.lemmas.List.{take_all, drop-drop, take_at, drop_at, get_or-replicate, ext_get_or}
use Rattle.std.proofs.lemmas.List.{length-set, get_or-set_same, get_or-set_other, append_assoc}
use Rattle.std.proofs.lemmas.List.FromFn.{length-map-range_with_len, get_or-map-range_with_len}
use Rattle.sync_types.specs.States.{State, zero_state}
use Rattle.construction.specs.Steps.{state_of}
use Rattle.state_codec.specs.Shapes.{Fields, Shape, IsShape, fields_at, bytes_in}
use Rattle.state_codec.specs.Ranges.{InRange}
use Rattle.state_codec.specs.Writing.{written, bits_of_state, padding}
use Rattle.state_codec.specs.Reading.{read}
use Rattle.state_codec.specs.Packs.{zeros, start_of, starts_of, bytes_at, state_at, states_in}
use Rattle.state_codec.specs.Packs.{AreHeld, AreOfShape}
use Rattle.state_codec.proofs.Ranged.{zero_in_range, read_is_in_range}
use Rattle.state_codec.proofs.Lows.{fields_limited, depth_at}
use Rattle.state_codec.proofs.Bytes.{length-bytes_of_bits}
use Rattle.state_codec.proofs.Back.{written_reads_back}
use Rattle.state_codec.proofs.Zeros.{written_zero}

-- ---- where bytes begin

pub start_first : (shape : Shape) → start_of shape 0 ≡ 0
unfolding start_of
start_first shape = refl

pub start_more : (shape : Shape) (v : ℕ)
    → start_of shape (v + 1) ≡ start_of shape v + bytes_in (fields_at shape v)
unfolding start_of
start_more shape v = ap (start_of shape) (add-one v)

start_rises : (shape : Shape) (v w : ℕ) → v ≤ w → start_of shape v ≤ start_of shape w
start_rises shape v zero le =
    let e : v ≡ 0 = omega arith in
    omega (arith, ap (start_of shape) e)
start_rises shape v (suc w) le = elim (cases_lt v (suc w)) [
  | inl below ↦
      let more : start_of shape (suc w)
      ≡ start_of shape w + bytes_in (fields_at shape w) =
      ap (start_of shape) (sym (add-one w)) ∙ start_more shape w in
      omega (arith, start_rises shape v w (omega arith), more)
  | inr over ↦
      let e : v ≡ suc w = omega arith in
      omega (arith, ap (start_of shape) e)
]

-- the bytes of a node end before those of a later one begin
pub end_within : (shape : Shape) (v w : ℕ) → v < w
    → start_of shape v + bytes_in (fields_at shape v) ≤ start_of shape w
end_within shape v w lt =
    omega (arith, start_more shape v, start_rises shape (v + 1) w (omega arith))

pub start_at : (shape : Shape) (nodes v : ℕ) (starts : List ℕ) (d start : ℕ)
    → starts ≡ starts_of shape nodes → v ≤ nodes → start ≡ get_or starts v d
    → start ≡ start_of shape v
start_at shape nodes v starts d start held le is =
    is ∙ (ap (λ xs. get_or xs v d) held
    ∙ get_or-map-range_with_len (start_of shape) 0 (nodes + 1) v v d (omega arith) (omega arith))

pub length-starts : (shape : Shape) (nodes : ℕ) (starts : List ℕ) → starts ≡ starts_of shape nodes
    → length starts ≡ nodes + 1
length-starts shape nodes starts held =
    ap length held ∙ length-map-range_with_len (start_of shape) 0 (nodes + 1)

-- ---- the states of bytes

pub length-states : (shape : Shape) (nodes : ℕ) (bytes : List ℕ)
    → length (states_in shape nodes bytes) ≡ nodes
length-states shape nodes bytes = length-map-range_with_len (state_at shape bytes) 0 nodes

pub state_among : (shape : Shape) (nodes : ℕ) (bytes : List ℕ) (v : ℕ) → v < nodes
    → state_of (states_in shape nodes bytes) v ≡ state_at shape bytes v
state_among shape nodes bytes v lt =
    get_or-map-range_with_len (state_at shape bytes) 0 nodes v v (zero_state 0) lt (omega arith)

-- the bytes from a node's start on: enough of them, first those of its state
pub rest_held : (shape : Shape) (nodes : ℕ) (bytes : List ℕ) (v start : ℕ) (all : List ℕ)
    → AreHeld shape nodes bytes
    → v < nodes → start ≡ start_of shape v → all ≡ bytes
    → (bytes_in (fields_at shape v) + 8 ≤ length (take (length all - start) (drop start all)))
    × ((take (bytes_in (fields_at shape v)) (take (length all - start) (drop start all))
    ≡ written (fields_at shape v) (state_of (states_in shape nodes bytes) v))
    × (read (fields_at shape v)
    (take (bytes_in (fields_at shape v)) (take (length all - start) (drop start all)))
    ≡ state_of (states_in shape nodes bytes) v))
rest_held shape nodes bytes v start all held lt begins same =
    let fields : Fields = fields_at shape v in
    let k : ℕ = bytes_in fields in
    let behind : take (length all - start) (drop start all) ≡ drop start all =
    take_all (length all - start) (drop start all) (omega (arith, length-drop start all)) in
    let own : take k (take (length all - start) (drop start all)) ≡ bytes_at shape bytes v =
    ap (take k) (behind ∙ (ap (drop start) same ∙ ap (λ j. drop j bytes) begins)) in
    let seen = state_among shape nodes bytes v lt in (
      omega (
        arith,
        ap length behind,
        length-drop start all,
        ap length same,
        held.room,
        begins,
        end_within shape v nodes lt,
      ),
      (
        own ∙ (held.whole v lt ∙ ap (written fields) (sym seen)),
        ap (read fields) own ∙ sym seen,
      ),
    )

-- ---- zero states

zero_bytes_at : (shape : Shape) (n v : ℕ)
    → start_of shape v + bytes_in (fields_at shape v) ≤ n
    → bytes_at shape (replicate n 0) v ≡ replicate (bytes_in (fields_at shape v)) 0
zero_bytes_at shape n v le =
    let k : ℕ = bytes_in (fields_at shape v) in
    ap (take k) (drop-replicate (start_of shape v) n 0)
    ∙ take-replicate k (n - start_of shape v) 0 (omega arith)

zero_state_at : (shape : Shape) (n v : ℕ) → IsShape shape
    → start_of shape v + bytes_in (fields_at shape v) ≤ n
    → state_at shape (replicate n 0) v ≡ zero_state (length (fields_at shape v).moduli)
zero_state_at shape n v sound le =
    let fields : Fields = fields_at shape v in
    let limits = fields_limited shape v sound in
    ap (read fields) (zero_bytes_at shape n v le ∙ sym (written_zero fields))
    ∙ written_reads_back fields (zero_state (length fields.moduli)) limits
    (zero_in_range fields limits)

pub zeros_held : (shape : Shape) (nodes n : ℕ) → IsShape shape → n ≡ start_of shape nodes + 8
    → AreHeld shape nodes (replicate n 0)
zeros_held shape nodes n sound is = record {
  room = length-replicate n 0 ∙ is;
  whole = λ v lt.
      let within : start_of shape v + bytes_in (fields_at shape v) ≤ n =
      omega (arith, is, end_within shape v nodes lt) in
      zero_bytes_at shape n v within
      ∙ sym (ap (written (fields_at shape v)) (zero_state_at shape n v sound within)
      ∙ written_zero (fields_at shape v));
}

pub zeros_seen : (shape : Shape) (nodes n : ℕ) → IsShape shape → n ≡ start_of shape nodes + 8
    → states_in shape nodes (replicate n 0) ≡ zeros shape nodes
zeros_seen shape nodes n sound is =
    let none : State = zero_state 0 in
    let seen : List State = states_in shape nodes (replicate n 0) in
    let many : length seen ≡ nodes = length-states shape nodes (replicate n 0) in
    ext_get_or none seen (zeros shape nodes)
    (many ∙ sym (length-replicate nodes (zero_state shape.depth)))
    (λ v lt.
    let inside : v < nodes = omega (arith, lt, many) in
    state_among shape nodes (replicate n 0) v inside
    ∙ (zero_state_at shape n v sound (omega (arith, is, end_within shape v nodes inside))
    ∙ (ap zero_state (depth_at shape v)
    ∙ sym (get_or-replicate nodes v (zero_state shape.depth) none inside))))

-- ---- a state is put

-- a state is written as the bytes of its fields
pub length-written : (fields : Fields) (state : State)
    → length (written fields state) ≡ bytes_in fields
length-written fields state = length-bytes_of_bits (bytes_in fields)
    (bits_of_state fields state ++ padding fields)

-- a stretch within the first bytes does not hang on those after them
before_kept : (first rest other : List ℕ) (from k : ℕ) → from + k ≤ length first
    → take k (drop from (first ++ rest)) ≡ take k (drop from (first ++ other))
before_kept first rest other from k within =
    let own : List ℕ = drop from first in
    let enough : k ≤ length own = omega (arith, within, length-drop from first) in
    ap (take k) (drop-append-le from first rest (omega arith))
    ∙ (take-append-le k own rest enough
    ∙ sym (ap (take k) (drop-append-le from first other (omega arith))
    ∙ take-append-le k own other enough))

module _ (shape : Shape) (nodes v : ℕ) (bytes text after : List ℕ) (held : AreHeld shape nodes bytes)
    (lt : v < nodes) (long : length text ≡ bytes_in (fields_at shape v))
    (whole : after ≡ take (start_of shape v) bytes
    ++ (text ++ drop (start_of shape v + bytes_in (fields_at shape v)) bytes)) where
  abbrev start : ℕ
  start = start_of shape v

  abbrev size : ℕ
  size = bytes_in (fields_at shape v)

  abbrev rest : List ℕ
  rest = drop (start + size) bytes

  room : start + size ≤ length bytes
  room = omega (arith, held.room, end_within shape v nodes lt)

  front : length (take start bytes) ≡ start
  front = length-take-le start bytes (omega (arith, room))

  length-after : length after ≡ length bytes
  length-after =
      omega (
        arith,
        ap length whole,
        length-append (take start bytes) (text ++ rest),
        length-append text rest,
        front,
        long,
        room,
        length-drop (start + size) bytes,
      )

  own_kept : bytes_at shape after v ≡ text
  own_kept =
      ap (λ (xs : List ℕ). take size (drop start xs)) whole
      ∙ (ap (take size) (drop_at (take start bytes) (text ++ rest) start front)
      ∙ take_at text rest size long)

  before : (u : ℕ) → u < v → bytes_at shape after u ≡ bytes_at shape bytes u
  before u less =
      let n : ℕ = bytes_in (fields_at shape u) in
      ap (λ (xs : List ℕ). take n (drop (start_of shape u) xs)) whole
      ∙ (before_kept (take start bytes) (text ++ rest) (drop start bytes) (start_of shape u) n
      (omega (arith, front, end_within shape u v less))
      ∙ ap (λ (xs : List ℕ). take n (drop (start_of shape u) xs)) (take-append-drop start bytes))

  behind : (u : ℕ) → v < u → bytes_at shape after u ≡ bytes_at shape bytes u
  behind u less =
      let n : ℕ = bytes_in (fields_at shape u) in
      let first : List ℕ = take start bytes ++ text in
      let far : length first ≡ start + size =
      omega (arith, length-append (take start bytes) text, front, long) in
      let d : ℕ = start_of shape u - (start + size) in
      let place : start_of shape u ≡ start + size + d =
      omega (arith, end_within shape v u less) in
      ap (λ (xs : List ℕ). take n (drop (start_of shape u) xs))
      (whole ∙ sym (append_assoc (take start bytes) text rest))
      ∙ ap (take n)
      (ap (λ j. drop j (first ++ rest)) (place ∙ ap (λ j. j + d) (sym far))
      ∙ (drop-append-add first rest d
      ∙ (drop-drop d (start + size) bytes ∙ ap (λ j. drop j bytes) (omega (arith, place)))))

  text_of : (state : State) → text ≡ written (fields_at shape v) state → IsShape shape
      → InRange (fields_at shape v) state → state_at shape after v ≡ state
  text_of state is sound range =
      ap (read (fields_at shape v)) (own_kept ∙ is)
      ∙ written_reads_back (fields_at shape v) state (fields_limited shape v sound) range

  held_by : (state : State) → text ≡ written (fields_at shape v) state → IsShape shape
      → InRange (fields_at shape v) state → (u : ℕ) → u < nodes → (u < v) ⊎ (v ≤ u)
      → bytes_at shape after u ≡ written (fields_at shape u) (state_at shape after u)
  held_by state is sound range u inside (inl less) =
      before u less
      ∙ (held.whole u inside
      ∙ ap (λ xs. written (fields_at shape u) (read (fields_at shape u) xs)) (sym (before u less)))
  held_by state is sound range u inside (inr over) = elim (cases_lt v u) [
    | inl less ↦ behind u less
        ∙ (held.whole u inside
        ∙ ap (λ xs. written (fields_at shape u) (read (fields_at shape u) xs))
        (sym (behind u less)))
    | inr under ↦
        let e : v ≡ u = omega arith in
        subst (λ w. bytes_at shape after w ≡ written (fields_at shape w) (state_at shape after w)) e
        (own_kept ∙ (is ∙ ap (written (fields_at shape v)) (sym (text_of state is sound range))))
  ]

  -- the bytes are again those of states
  pub put_held : (state : State) → text ≡ written (fields_at shape v) state → IsShape shape
      → InRange (fields_at shape v) state → AreHeld shape nodes after
  put_held state is sound range = record {
    room = length-after ∙ held.room;
    whole = λ u inside. held_by state is sound range u inside (cases_lt u v);
  }

  seen_by : (state : State) → text ≡ written (fields_at shape v) state → IsShape shape
      → InRange (fields_at shape v) state → (u : ℕ) → u < nodes → (u < v) ⊎ (v ≤ u)
      → state_at shape after u ≡ state_of (set (states_in shape nodes bytes) v state) u
  seen_by state is sound range u inside (inl less) =
      ap (read (fields_at shape u)) (before u less)
      ∙ (sym (state_among shape nodes bytes u inside)
      ∙ sym (get_or-set_other (states_in shape nodes bytes) v u state (zero_state 0)
      (λ e. absurd (omega (arith, e, less)))))
  seen_by state is sound range u inside (inr over) = elim (cases_lt v u) [
    | inl less ↦ ap (read (fields_at shape u)) (behind u less)
        ∙ (sym (state_among shape nodes bytes u inside)
        ∙ sym (get_or-set_other (states_in shape nodes bytes) v u state (zero_state 0)
        (λ e. absurd (omega (arith, e, less)))))
    | inr under ↦
        let e : v ≡ u = omega arith in
        subst (λ w. state_at shape after w
        ≡ state_of (set (states_in shape nodes bytes) v state) w) e
        (text_of state is sound range
        ∙ sym (get_or-set_same (states_in shape nodes bytes) v state (zero_state 0)
        (omega (arith, lt, length-states shape nodes bytes))))
  ]

  -- the state is that of the node, and the others are as before
  pub put_seen : (state : State) → text ≡ written (fields_at shape v) state → IsShape shape
      → InRange (fields_at shape v) state
      → states_in shape nodes after ≡ set (states_in shape nodes bytes) v state
  put_seen state is sound range =
      let old : List State = states_in shape nodes bytes in
      let many = length-states shape nodes after in
      ext_get_or (zero_state 0) (states_in shape nodes after) (set old v state)
      (many ∙ sym (length-set old v state ∙ length-states shape nodes bytes))
      (λ u inside.
      let below : u < nodes = omega (arith, inside, many) in
      state_among shape nodes after u below
      ∙ seen_by state is sound range u below (cases_lt u v))

-- ---- what is read

-- the states of bytes are in range
pub all_in_range : (shape : Shape) (nodes : ℕ) (bytes : List ℕ) → IsShape shape
    → AreOfShape shape (states_in shape nodes bytes)
all_in_range shape nodes bytes sound v lt =
    subst (InRange (fields_at shape v))
    (sym (state_among shape nodes bytes v (omega (arith, lt, length-states shape nodes bytes))))
    (read_is_in_range (fields_at shape v) (bytes_at shape bytes v) (fields_limited shape v sound))
