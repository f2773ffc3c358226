-- States as hex digits.
use Rattle.std.specs.Prelude.{ℕ, ◌*◌, ◌==◌, ◌&&◌, ◌||◌, nat_le, Bool, List, [], length, Result, Ok}
use Rattle.std.specs.Prelude.{Err}
use Rattle.std.specs.List.{list_all}
use Rattle.sync_types.specs.States.{State}
use Rattle.hex.specs.Hex.{encode_lower, decode_of}
use Rattle.hex.specs.declared.error.FromHexError.{FromHexError}
use Rattle.state_codec.specs.Shapes.{Fields, bytes_in}
use Rattle.state_codec.specs.Writing.{written}
use Rattle.state_codec.specs.Reading.{read}

-- 0 to 9, or a to f
abbrev pub is_lower_digit : ℕ → Bool
is_lower_digit c = (nat_le 48 c && nat_le c 57) || (nat_le 97 c && nat_le c 102)

-- two digits for each byte of a state, and nothing else
abbrev pub is_state_text : Fields → List ℕ → Bool
is_state_text fields text = length text == 2 * bytes_in fields && list_all is_lower_digit text

-- the digits of a state
abbrev pub written_text : Fields → State → List ℕ
written_text fields state = encode_lower (written fields state)

-- the bytes of a text that was decoded, or none
abbrev pub bytes_or_none : Result (List ℕ) FromHexError → List ℕ
bytes_or_none (Ok bytes) = bytes
bytes_or_none (Err error) = []

-- the bytes that hex digits stand for
abbrev pub decoded : List ℕ → List ℕ
decoded text = bytes_or_none (decode_of text)

-- the state of digits
abbrev pub read_text : Fields → List ℕ → State
read_text fields text = read fields (decoded text)
