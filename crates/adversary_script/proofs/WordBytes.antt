-- The bytes of the words that a generator makes, by their places.
use Rattle.std.proofs.Common.{◌≡◌, ℕ, zero, suc, ◌+◌, ◌*◌, ◌/◌, ◌%◌, ◌^◌, ◌-◌, ◌<◌, ◌≤◌, ◌++◌, List}
use Rattle.std.proofs.Common.{[], ◌∷◌, length, map, take, drop, get_or, slice_index, refl, sym, ap}
use Rattle.std.proofs.Common.{◌∙◌, arith}
use Rattle.std.specs.Int.{w32, to_le_bytes, div_ceil}
use Rattle.std.specs.List.{flat_map, range_with_len}
use Rattle.std.proofs.lemmas.List.{get_or-take, get_or-drop, length-take, length-take-le}
use Rattle.std.proofs.lemmas.List.{length-drop, flat_map_more}
use Rattle.std.proofs.lemmas.List.FromFn.{fill_by_all, length-map-range_with_len}
use Rattle.std.proofs.lemmas.List.FromFn.{get_or-map-range_with_len, map-range_with_len_more}
use Rattle.std.proofs.Math.Nat.{mod-eq_of_lt}
use Rattle.std.proofs.Math.Seq.{take-append_seam}
use Rattle.rand_core.specs.Steps.{word_bytes, fill_via_u32}
use Rattle.rand_chacha.specs.ChaCha.{ChaCha, next_word}
use Rattle.adversary_script.specs.Noise.{key_in, noise_word, noise_words, noise_bytes}

-- the bytes of the next words of a generator, and where it stands after them
pub words_made : (g : ChaCha) (k : ℕ) → g.word_pos + k < 2 ^ 68
    → word_bytes (to_le_bytes w32) (next_word 4) k g ≡ (
      flat_map (to_le_bytes w32)
          (noise_words g.key g.stream g.word_pos k),
      record g { word_pos = g.word_pos + k },
    )
unfolding word_bytes
words_made g zero fits =
    let here : g.word_pos ≡ g.word_pos + zero = omega arith in
    ap (λ n. ([], record g { word_pos = n })) here
words_made g (suc k) fits =
    let before = words_made g k (omega arith) in
    let word : ℕ → ℕ = λ i. noise_word g.key g.stream (g.word_pos + i) in
    let next : suc k ≡ k + 1 = omega arith in
    let more : map word (range_with_len 0 (suc k)) ≡ map word (range_with_len 0 k) ++ word k ∷ [] =
    ap (λ n. map word (range_with_len 0 n)) next
    ∙ map-range_with_len_more word 0 k k (omega arith) in
    let place : (g.word_pos + k + 1) % 2 ^ 68 ≡ g.word_pos + suc k =
    mod-eq_of_lt (omega arith) ∙ omega arith in
    rw before
    (ap (λ n. (
      flat_map (to_le_bytes w32) (map word (range_with_len 0 k))
          ++ to_le_bytes w32 (word k),
      record g { word_pos = n },
    )) place
    ∙ ap (λ bytes. (bytes, record g { word_pos = g.word_pos + suc k }))
    (flat_map_more (to_le_bytes w32) [] (map word (range_with_len 0 k)) (word k)
    ∙ ap (flat_map (to_le_bytes w32)) (sym more)))

bytes_long : (words : List ℕ) → length (flat_map (to_le_bytes w32) words) ≡ 4 * length words
bytes_long [] = refl
bytes_long (word ∷ words) = let rest = bytes_long words in omega (arith, rest)

byte_at : (words : List ℕ) (i : ℕ) → i < 4 * length words
    → get_or (flat_map (to_le_bytes w32) words) i 0 ≡ slice_index
    (to_le_bytes w32 (slice_index words (i / 4))) (i % 4)
byte_at [] i lt = absurd (omega arith)
byte_at (word ∷ words) zero lt = refl
byte_at (word ∷ words) (suc zero) lt = refl
byte_at (word ∷ words) (suc (suc zero)) lt = refl
byte_at (word ∷ words) (suc (suc (suc zero))) lt = refl
byte_at (word ∷ words) (suc (suc (suc (suc i)))) lt =
    let whole : suc (suc (suc (suc i))) / 4 ≡ suc (i / 4) = omega arith in
    let part : suc (suc (suc (suc i))) % 4 ≡ i % 4 = omega arith in
    rw (whole, part) (byte_at words i (omega arith))

-- byte i of a stream from a place on
abbrev noise_byte : (key : List ℕ) (stream first i : ℕ) → ℕ
noise_byte key stream first i =
    slice_index (to_le_bytes w32 (noise_word (key_in key) stream (first + i / 4))) (i % 4)

enough : (count : ℕ) → count ≤ 4 * div_ceil count 4
enough count = omega arith

long_enough : (key : List ℕ) (stream first count : ℕ) → count ≤ length (flat_map (to_le_bytes w32)
    (noise_words (key_in key) stream first (div_ceil count 4)))
long_enough key stream first count =
    let words = noise_words (key_in key) stream first (div_ceil count 4) in
    let long = bytes_long words in
    let size = length-map-range_with_len (λ i. noise_word (key_in key) stream (first + i)) 0
    (div_ceil count 4) in
    let most = enough count in
    omega (arith, long, size, most)

pub noise_long : (key : List ℕ) (stream first count : ℕ)
    → length (noise_bytes key stream first count) ≡ count
noise_long key stream first count =
    length-take-le count _ (long_enough key stream first count)

noise_at : (key : List ℕ) (stream first count i : ℕ) → i < count
    → get_or (noise_bytes key stream first count) i 0 ≡ noise_byte key stream first i
noise_at key stream first count i lt =
    let word : ℕ → ℕ = λ i. noise_word (key_in key) stream (first + i) in
    let words : List ℕ = noise_words (key_in key) stream first (div_ceil count 4) in
    let size : length words ≡ div_ceil count 4 = length-map-range_with_len word 0
    (div_ceil count 4) in
    let most = enough count in
    get_or-take count (flat_map (to_le_bytes w32) words) i 0 lt
    ∙ byte_at words i (omega (arith, lt, size, most))
    ∙ ap (λ w. slice_index (to_le_bytes w32 w) (i % 4))
    (get_or-map-range_with_len word 0 (div_ceil count 4) (i / 4) (i / 4) 0 (omega (arith, lt, most))
    (omega arith))

-- the bytes from a word on, among those that were made
pub part : (key bytes : List ℕ) (stream first at count : ℕ)
    → take 256 bytes ≡ noise_bytes key stream first 256 → 4 * at + count ≤ 256
    → take count (take (264 - 4 * at) (drop (4 * at) bytes)) ≡ noise_bytes key stream (first + at)
    count
part key bytes stream first at count said fits =
    let rest : List ℕ = take (264 - 4 * at) (drop (4 * at) bytes) in
    let whole = sym (length-take 256 bytes)
    ∙ (ap (λ (l : List ℕ). length l) said ∙ noise_long key stream first 256) in
    let behind = length-drop (4 * at) bytes in
    let long = length-take (264 - 4 * at) (drop (4 * at) bytes) in
    let f : ℕ → ℕ = noise_byte key stream (first + at) in
    fill_by_all f (take count rest) count 0
    (length-take-le count rest (omega (arith, long, behind, whole, fits)))
    (λ k lt.
    let i : ℕ = 4 * at + k in
    let word : first + i / 4 ≡ first + at + k / 4 = omega arith in
    let byte : i % 4 ≡ k % 4 = omega arith in
    get_or-take count rest k 0 lt
    ∙ get_or-take (264 - 4 * at) (drop (4 * at) bytes) k 0 (omega (arith, lt, fits))
    ∙ get_or-drop (4 * at) bytes k 0
    ∙ sym (get_or-take 256 bytes i 0 (omega (arith, lt, fits)))
    ∙ ap (λ (l : List ℕ). get_or l i 0) said
    ∙ noise_at key stream first 256 i (omega (arith, lt, fits))
    ∙ ap (λ n. slice_index (to_le_bytes w32 (noise_word (key_in key) stream n)) (i % 4)) word
    ∙ ap (λ r. slice_index
    (to_le_bytes w32 (noise_word (key_in key) stream (first + at + k / 4))) r) byte)
    ∙ sym (fill_by_all f (noise_bytes key stream (first + at) count) count 0
    (noise_long key stream (first + at) count)
    (λ k lt. noise_at key stream (first + at) count k lt))

take_front : (xs ys : List ℕ) (n : ℕ) → length xs ≡ n → take n (xs ++ ys) ≡ xs
take_front xs ys n size = rw (← size) (take-append_seam xs ys)

-- the bytes that are made at once, with others after them, and the key of what made them
pub made : (g : ChaCha) (key bytes more : List ℕ) (stream place : ℕ) (new : ChaCha)
    → g ≡ record { key = key_in key; stream = stream; word_pos = place } → place + 64 < 2 ^ 68
    → ◌≡◌ {A = List ℕ × ChaCha} (bytes, new)
    (fill_via_u32 (next_word 4) 256 g)
    → (take 256 (bytes ++ more) ≡ noise_bytes key stream place 256) × (new.key ≡ key_in key)
made g key bytes more stream place new is fits filled =
    let at : ChaCha = record { key = key_in key; stream = stream; word_pos = place } in
    let end = filled ∙ ap (fill_via_u32 (next_word 4) 256) is
    ∙ ap (λ (p : List ℕ × ChaCha). (take 256 p.0, p.1)) (words_made at 64 fits) in
    let here : bytes ≡ noise_bytes key stream place 256 = ap (λ (p : List ℕ × ChaCha). p.0) end in
    let size : length bytes ≡ 256 = ap (λ (l : List ℕ). length l) here
    ∙ noise_long key stream place 256 in
    (take_front bytes more 256 size ∙ here, ap (λ (p : List ℕ × ChaCha). p.1.key) end)
