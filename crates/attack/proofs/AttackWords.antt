-- The text of an attack as lines of words.
use Rattle.std.proofs.Common.{length}
use Rattle.std.proofs.Common.{◌≡◌, ℕ, ◌<◌, Bool, true, false, List, [], ◌∷◌, ◌++◌, map}
use Rattle.std.proofs.Common.{All, replicate, Some, refl, sym, ap, subst, ◌∙◌, append_assoc, arith}
use Rattle.std.proofs.Common.{zero, suc}
use Rattle.std.specs.Prelude.{decimal, codes, nat_lt, if◌then◌else◌}
use Rattle.std.specs.Int.{w64, to_be_bytes, byte_at, bytes_high_first}
use Rattle.std.specs.List.{flat_map}
use Rattle.std.proofs.lemmas.Bool.{and_parts, lt-ltb}
use Rattle.std.proofs.lemmas.Bool.Decides.{nat_tests}
use Rattle.std.proofs.lemmas.List.{append-nil}
use Rattle.std.proofs.lemmas.List.Elements.{All-nil, All-cons, All-append, All-replicate}
use Rattle.hex.specs.Hex.{encode_lower, encode_with}
use Rattle.texts.specs.Words.{joined}
use Rattle.texts.proofs.LineWords.{IsWord, is_solid, all_weaker}
use Rattle.state_codec.specs.Shapes.{Fields, Shape, shape_nodes, fields_at, bytes_in}
use Rattle.state_codec.specs.Texts.{is_lower_digit, written_text}
use Rattle.state_codec.proofs.Digits.{text_is_taken}
use Rattle.state_codec.proofs.Lows.{fields_limited}
use Rattle.state_codec.proofs.Ranged.{read_is_in_range}
use Rattle.machines.specs.Machines.{Machine}
use Rattle.machine_runner.specs.Laws.{IsShapeOf}
use Rattle.adversary_script.specs.LieSteps.{state_of_digits}
use Rattle.adversary_script.specs.Steps.{key_of_digits}
use Rattle.adversary_script.specs.Writable.{IsKey}
use Rattle.texts.proofs.Printed.{IsPlain}
use Rattle.adversary_script.proofs.WrittenWords.{state_read, key_read, key_plain, key_long}
use Rattle.attack.specs.declared.candidates.Say.{Say}
use Rattle.attack.specs.declared.candidates.Say.TheVariants as say
use Rattle.attack.specs.declared.candidates.StartLine.{StartLine}
use Rattle.attack.specs.declared.candidates.LieLine.{LieLine}
use Rattle.attack.specs.AttackTexts.{drawn_bytes, drawn_digits, node_digits, spaced, key_text}
use Rattle.attack.specs.AttackTexts.{faulty_text, start_text, say_text, lie_front}
use Rattle.attack.specs.AttackTexts.{lie_text, rounds_text}
use Rattle.attack.specs.AttackScripts.{drawn_state, key_bytes}

-- ---- numbers

joined_numbers : (word : List ℕ) (ns : List ℕ)
    → joined (word ∷ map decimal ns) ≡ word ++ flat_map spaced ns
unfolding spaced
joined_numbers word [] = sym (append-nil word)
joined_numbers word (n ∷ ns) =
    ap (λ (more : List ℕ). word ++ 32 ∷ more) (joined_numbers (decimal n) ns)

-- ---- the first lines, and the last ones

pub head_lines : (faulty key rest : List ℕ)
    → faulty_text faulty ++ ((codes "\nseed " ++ (key ++ codes "\nstart noise\n")) ++ rest)
    ≡ joined (codes "script" ∷ codes "1" ∷ [])
    ++ 10 ∷ (joined (codes "faulty" ∷ map decimal faulty)
    ++ 10 ∷ (joined (codes "seed" ∷ key ∷ [])
    ++ 10 ∷ (joined (codes "start" ∷ codes "noise" ∷ []) ++ 10 ∷ rest)))
head_lines faulty key rest = rw (joined_numbers (codes "faulty") faulty) (simp append_assoc)

pub last_lines : (rounds first last : ℕ) → rounds_text rounds first last
    ≡ joined (codes "rounds" ∷ decimal rounds ∷ [])
    ++ 10 ∷ (joined (codes "show" ∷ decimal first ∷ decimal last ∷ []) ++ 10 ∷ codes "end\n")
unfolding spaced
last_lines rounds first last = simp append_assoc

-- ---- starts and lies

start_line_of : (front node word rest : List ℕ)
    → (front ++ (32 ∷ node ++ (32 ∷ word ++ 10 ∷ []))) ++ rest
    ≡ (front ++ 32 ∷ (node ++ 32 ∷ word)) ++ 10 ∷ rest
start_line_of front node word rest = simp append_assoc

-- the rounds and the sender of a lie before the rest of its line
told_of : (front first last sender to more rest : List ℕ)
    → (front ++ 32 ∷ (first ++ 32 ∷ (last ++ 32 ∷ (sender ++ 32 ∷ (to ++ more))))) ++ rest
    ≡ front ++ 32 ∷ (first ++ 32 ∷ (last ++ 32 ∷ (sender ++ 32 ∷ (to ++ (more ++ rest)))))
told_of front first last sender to more rest = simp append_assoc

heard_of : (from until says rest : List ℕ)
    → (((from ++ 32 ∷ (until ++ 32 ∷ [])) ++ (says ++ 10 ∷ [])) ++ rest)
    ≡ ((from ++ 32 ∷ (until ++ 32 ∷ says)) ++ 10 ∷ rest)
heard_of from until says rest = simp append_assoc

lie_line_of : (front first last sender to from until says rest : List ℕ)
    → ((front ++ 32 ∷ (first ++ 32 ∷ (last ++ 32 ∷ (sender ++ 32 ∷ (to
    ++ 32 ∷ (from ++ 32 ∷ (until ++ 32 ∷ []))))))) ++ (says ++ 10 ∷ [])) ++ rest
    ≡ (front ++ 32 ∷ (first ++ 32 ∷ (last ++ 32 ∷ (sender ++ 32 ∷ (to
    ++ 32 ∷ (from ++ 32 ∷ (until ++ 32 ∷ says))))))) ++ 10 ∷ rest
lie_line_of front first last sender to from until says rest =
    let hearers : List ℕ = 32 ∷ (from ++ 32 ∷ (until ++ 32 ∷ [])) in
    let line : List ℕ = says ++ 10 ∷ [] in
    let told : List ℕ → List ℕ =
    λ more. front ++ 32 ∷ (first ++ 32 ∷ (last ++ 32 ∷ (sender ++ 32 ∷ (to ++ more)))) in
    ap (λ (text : List ℕ). text ++ rest) (told_of front first last sender to hearers line)
    ∙ told_of front first last sender to (hearers ++ line) rest
    ∙ ap (λ (more : List ℕ). told (32 ∷ more)) (heard_of from until says rest)
    ∙ sym (told_of front first last sender to (32 ∷ (from ++ 32 ∷ (until ++ 32 ∷ says)))
    (10 ∷ rest))

module _ (machine : Machine) where
  abbrev pub start_words : StartLine → List (List ℕ)
  start_words start = decimal start.node ∷ node_digits machine start.node start.seed ∷ []

  pub start_is_line : (start : StartLine) (rest : List ℕ) → start_text machine start ++ rest
      ≡ joined (codes "start" ∷ codes "node" ∷ start_words start) ++ 10 ∷ rest
  unfolding start_text spaced
  start_is_line start rest =
      start_line_of (codes "start node") (decimal start.node)
      (node_digits machine start.node start.seed) rest

  abbrev pub say_words : (sender : ℕ) → Say → List (List ℕ)
  say_words sender say.Noise = codes "noise" ∷ []
  say_words sender (say.Copy node) = codes "copy" ∷ decimal node ∷ []
  say_words sender (say.Drawn seed) = codes "hex" ∷ node_digits machine sender seed ∷ []
  say_words sender (say.Shift by) = codes "shift" ∷ decimal by ∷ []

  -- the words of a lie that says that, after the first
  abbrev pub told_words : LieLine → Say → List (List ℕ)
  told_words lie says =
      decimal lie.first ∷ decimal lie.last ∷ decimal lie.sender ∷ codes "to"
      ∷ decimal lie.from ∷ decimal lie.to ∷ say_words lie.sender says

  told_is_line : (lie : LieLine) (says : Say) (rest : List ℕ)
      → (lie_front lie ++ (say_text machine lie.sender says ++ codes "\n")) ++ rest
      ≡ joined (codes "lie" ∷ told_words lie says) ++ 10 ∷ rest
  unfolding spaced
  told_is_line lie say.Noise rest =
      lie_line_of (codes "lie") (decimal lie.first) (decimal lie.last) (decimal lie.sender)
      (codes "to") (decimal lie.from) (decimal lie.to)
      (joined (say_words lie.sender say.Noise)) rest
  told_is_line lie (say.Copy node) rest =
      lie_line_of (codes "lie") (decimal lie.first) (decimal lie.last) (decimal lie.sender)
      (codes "to") (decimal lie.from) (decimal lie.to)
      (joined (say_words lie.sender (say.Copy node))) rest
  told_is_line lie (say.Drawn seed) rest =
      lie_line_of (codes "lie") (decimal lie.first) (decimal lie.last) (decimal lie.sender)
      (codes "to") (decimal lie.from) (decimal lie.to)
      (joined (say_words lie.sender (say.Drawn seed))) rest
  told_is_line lie (say.Shift by) rest =
      lie_line_of (codes "lie") (decimal lie.first) (decimal lie.last) (decimal lie.sender)
      (codes "to") (decimal lie.from) (decimal lie.to)
      (joined (say_words lie.sender (say.Shift by))) rest

  pub lie_is_line : (lie : LieLine) (rest : List ℕ) → lie_text machine lie ++ rest
      ≡ joined (codes "lie" ∷ told_words lie lie.says) ++ 10 ∷ rest
  unfolding lie_text
  lie_is_line lie rest = told_is_line lie lie.says rest

-- ---- hex digits

solid_lower : (c : ℕ) → is_lower_digit c ≡ true → is_solid c ≡ true
unfolding is_solid
solid_lower c h = grind (arith, nat_tests)

solid_above : (c : ℕ) → nat_lt 32 c ≡ true → is_solid c ≡ true
unfolding is_solid
solid_above c h = grind (arith, nat_tests)

digits_solid : (there : Bool) (fields : Fields) (seed : ℕ)
    → IsWord (if there then drawn_digits fields seed else [])
digits_solid true fields seed =
    all_weaker is_lower_digit is_solid solid_lower (drawn_digits fields seed)
    (and_parts _ _ (text_is_taken fields (drawn_state fields seed))).1
digits_solid false fields seed = refl

pub node_solid : (machine : Machine) (node seed : ℕ) → IsWord (node_digits machine node seed)
node_solid machine node seed =
    digits_solid (nat_lt node machine.nodes) (machine.fields node) seed

-- the digits of a node of a shape are those of its drawn state
module _ (machine : Machine) (shape : Shape) (shaped : IsShapeOf machine shape) (node seed : ℕ)
    (lt : node < shape_nodes shape) where
  pub digits_are : node_digits machine node seed
      ≡ written_text (fields_at shape node) (drawn_state (fields_at shape node) seed)
  digits_are =
      let nodes = shaped.nodes in
      let inside : node < machine.nodes = omega (arith, lt, nodes) in
      ap (λ (there : Bool). if there then drawn_digits (machine.fields node) seed else [])
      (lt-ltb node machine.nodes inside)
      ∙ ap (λ (own : Fields). drawn_digits own seed) (sym (shaped.fields node inside))

  pub state_is : state_of_digits (fields_at shape node) (node_digits machine node seed)
      ≡ Some (drawn_state (fields_at shape node) seed)
  state_is =
      let fields = fields_at shape node in
      let limited = fields_limited shape node shaped.sound in
      ap (state_of_digits fields) digits_are
      ∙ state_read fields (drawn_state fields seed) limited
      (read_is_in_range fields (drawn_bytes seed (bytes_in fields)) limited)

-- ---- the key

byte_small : (k n : ℕ) → byte_at k n < 256
byte_small zero n = omega arith
byte_small (suc k) n = omega arith

bytes_small : (k n : ℕ) → All (λ byte. byte < 256) (bytes_high_first k n)
bytes_small zero n = All-nil (λ byte. byte < 256)
bytes_small (suc k) n =
    All-cons (λ byte. byte < 256) (byte_at k n) (bytes_high_first k n) (byte_small k n)
    (bytes_small k n)

key_is_key : (key : ℕ) → IsKey (key_bytes key)
key_is_key key = record {
  size = refl;
  bytes = All-append (λ byte. byte < 256) (to_be_bytes w64 key) (replicate 24 0)
      (bytes_small 8 key) (All-replicate (λ byte. byte < 256) 24 0 (omega arith));
}

key_digits : (key : ℕ) → encode_lower (key_bytes key) ≡ key_text key
unfolding encode_with
key_digits key = refl

pub key_is : (key : ℕ) → key_of_digits (key_text key) ≡ Some (key_bytes key)
key_is key = ap key_of_digits (sym (key_digits key)) ∙ key_read (key_bytes key) (key_is_key key)

pub key_solid : (key : ℕ) → IsWord (key_text key)
key_solid key =
    subst IsWord (key_digits key)
    (all_weaker (nat_lt 32) is_solid solid_above (encode_lower (key_bytes key))
    (key_plain (key_bytes key) (key_is_key key)).above)

pub key_text_plain : (key : ℕ) → IsPlain (key_text key)
key_text_plain key = subst IsPlain (key_digits key) (key_plain (key_bytes key) (key_is_key key))

pub key_text_long : (key : ℕ) → length (key_text key) ≡ 64
key_text_long key =
    ap length (sym (key_digits key)) ∙ key_long (key_bytes key) (key_is_key key)
