-- Noise: the words of ChaCha8 by key, stream and place, as bytes and as states.
use Rattle.std.specs.Prelude.{ℕ, ◌+◌, ◌*◌, List, map, take}
use Rattle.std.specs.List.{range_with_len, flat_map}
use Rattle.std.specs.Int.{w32, to_le_bytes, div_ceil}
use Rattle.rand_chacha.specs.ChaCha.{word_at, key_of}
use Rattle.sync_types.specs.States.{State}
use Rattle.state_codec.specs.Shapes.{Fields, bytes_in}
use Rattle.state_codec.specs.Reading.{read}

-- the words of a key of 32 bytes
unfoldable pub key_in : List ℕ → List ℕ
key_in key = key_of key

-- the word at a place of a stream: ChaCha of four double rounds
abbrev pub noise_word : List ℕ → (stream place : ℕ) → ℕ
noise_word key stream place = word_at 4 key stream place

-- so many words of a stream from a place on
abbrev pub noise_words : List ℕ → (stream first count : ℕ) → List ℕ
noise_words key stream first count =
    map (λ i. noise_word key stream (first + i)) (range_with_len 0 count)

-- words as bytes, the low byte of each first, cut to so many
abbrev pub bytes_of : List ℕ → (count : ℕ) → List ℕ
bytes_of words count = take count (flat_map (to_le_bytes w32) words)

-- so many bytes of a stream from a place on, for a key of 32 bytes
abbrev pub noise_bytes : (key : List ℕ) → (stream first count : ℕ) → List ℕ
noise_bytes key stream first count =
    bytes_of (noise_words (key_in key) stream first (div_ceil count 4)) count

-- how many words the noise of a state with these fields has
abbrev pub words_in : Fields → ℕ
words_in fields = div_ceil (bytes_in fields) 4

-- the state of noise of a turn: each turn of a stream has the words after those of the turn before
unfoldable pub noise_state : Fields → (key : List ℕ) → (stream turn : ℕ) → State
noise_state fields key stream turn =
    read fields (noise_bytes key stream (turn * words_in fields) (bytes_in fields))
