-- What a line says, as the code holds it: lists stand as the words that are still to be read.
use Rattle.std.specs.Prelude.{ℕ, List, [], ◌∷◌, Option, Some, None, if◌then◌else◌, codes}
use Rattle.std.specs.List.{list_all}
use Rattle.std.specs.Str.{bytes_eq}
use Rattle.std.specs.Option.{option_map}
use Rattle.texts.specs.Numbers.{number_of}
use Rattle.state_codec.specs.Texts.{is_lower_digit}
use Rattle.texts.specs.Shapes.{all_numbers}
use Rattle.run_checker.specs.Items.{Item, run_item, base_item, level_item, faulty_item}
use Rattle.run_checker.specs.Items.{start_item, lie_item, end_item, values_said, row_by}
use Rattle.run_checker.specs.Items.{era_by}
use Rattle.run_checker.specs.declared.said_lines.CertificateLine.{CertificateLine}
use Rattle.run_checker.specs.declared.said_lines.CertificateLine.TheVariants as said

-- a state that is put or told, if its word is of digits
abbrev pub start_by : (v : ℕ) → (digits : List ℕ) → Option Item
start_by v digits = if list_all is_lower_digit digits then Some (start_item v digits) else None

abbrev pub lie_by : (u v : ℕ) → (digits : List ℕ) → Option Item
lie_by u v digits = if list_all is_lower_digit digits then Some (lie_item u v digits) else None

-- the item that is said, if the words that are left say what they have to
abbrev pub item_seen : CertificateLine → Option Item
item_seen (said.Run version) = Some (run_item version)
item_seen (said.Base base) = Some (base_item base)
item_seen (said.Level k f c spares) = Some (level_item k f c spares)
item_seen (said.Faulty words) = option_map faulty_item (all_numbers words)
item_seen (said.Start v digits) = start_by v digits.now
item_seen (said.Row t words) = row_by (Some t) (values_said words)
item_seen (said.Lie u v digits) = lie_by u v digits.now
item_seen (said.Era t words) = era_by (Some t) (all_numbers words)
item_seen said.End = Some end_item

abbrev pub item_or_none : Option CertificateLine → Option Item
item_or_none None = None
item_or_none (Some s) = item_seen s

-- ---- parts of what is said

-- the one number of words
abbrev pub only_number : List (List ℕ) → Option ℕ
only_number (a ∷ []) = number_of a
only_number other = None

-- the spares that stand after a level
abbrev pub spares_in : List (List ℕ) → Option (Option ℕ)
spares_in [] = Some None
spares_in (key ∷ s ∷ []) =
    if bytes_eq key (codes "spare") then option_map Some (number_of s) else None
spares_in other = None

-- the one word
abbrev pub only_word : List (List ℕ) → Option (List ℕ)
only_word (word ∷ []) = Some word
only_word other = None
