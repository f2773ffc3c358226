-- What is written of a certificate is read, to its verdict.
use Rattle.std.proofs.Common.{◌≡◌, ℕ, ◌+◌, Bool, true, false, cond, List, [], ◌∷◌, ◌++◌, map}
use Rattle.std.proofs.Common.{Option, Some, None, refl, sym, ap, ◌∙◌}
use Rattle.std.specs.Prelude.{⊤}
use Rattle.texts.specs.Parts.{goes, ends, refuses}
use Rattle.sync_types.specs.States.{State}
use Rattle.run_checker.specs.NodeFields.{fields_of}
use Rattle.state_codec.specs.Texts.{read_text}
use Rattle.run_checker.specs.declared.Verdict.{Verdict}
use Rattle.run_checker.specs.Items.{Item, row_item}
use Rattle.run_checker.specs.Certificates.{Put, Lie, Era, Turn, start_of, lie_of, era_items}
use Rattle.run_checker.specs.Certificates.{turns_items}
use Rattle.run_checker.specs.Checking.{Known, Stage, putting, telling, Onward, refused}
use Rattle.run_checker.specs.Checking.{accepts, at_end, put_state, start_fits, first_row_fits}
use Rattle.run_checker.specs.Checking.{compared, moved, lie_fits, era_fits, renewed}
use Rattle.run_checker.specs.Checking.{next_row_fits, verdict_now}

-- what follows a step
abbrev pub following : Onward → List Item → Option Verdict
following next items = elim next [
  | goes s ↦ accepts s items
  | ends v ↦ at_end v items
  | refuses r ↦ None
]

-- a test that holds is passed
pub passes : (b : Bool) (s : Stage) (items : List Item) → b ≡ true
    → following (cond b (goes s) refused) items ≡ accepts s items
passes true s items e = refl
passes false s items e = absurd cc

-- ---- values, as they are tested one after the other

abbrev pub put_all : Known → List Put → Known
put_all k [] = k
put_all k (put ∷ puts) = put_all (put_state k put.node put.digits) puts

-- states are put from a place on, and then a row stands
abbrev pub PutsPass : Known → (unknown : List ℕ) → (from : ℕ) → List Put → List (Option ℕ) → Type 0
PutsPass k unknown from [] row = first_row_fits k unknown from k.at row ≡ true
PutsPass k unknown from (put ∷ puts) row =
    (start_fits k unknown from put.node put.digits ≡ true)
    × PutsPass (put_state k put.node put.digits) unknown (put.node + 1) puts row

abbrev pub lie_state : Known → Lie → State
lie_state k lie = read_text (fields_of k.plan lie.sender) lie.digits

abbrev pub LiesPass : Known → (told : List State) → List Lie → Type 0
LiesPass k told [] = ⊤
LiesPass k told (lie ∷ lies) =
    (lie_fits k told lie.sender lie.receiver lie.digits ≡ true)
    × LiesPass k (told ++ lie_state k lie ∷ []) lies

abbrev pub all_lies : Known → List State → List Lie → List State
all_lies k told [] = told
all_lies k told (lie ∷ lies) = all_lies k (told ++ lie_state k lie ∷ []) lies

-- what stands after the lies of a round
abbrev pub BehindPass : Known → (told : List State) → Option Era → List (Option ℕ) → Type 0
BehindPass k told None row = next_row_fits k told (k.at + 1) row ≡ true
BehindPass k told (Some era) row =
    (era_fits k told (k.at + 1) era.faulty ≡ true)
    × PutsPass (renewed k era.faulty told) k.stand.faulty 0 era.starts row

abbrev pub behind : Known → (told : List State) → Option Era → List (Option ℕ) → Known
behind k told None row = compared (moved k k.stand.faulty told) row
behind k told (Some era) row = compared (put_all (renewed k era.faulty told) era.starts) row

abbrev pub turned : Known → Turn → Known
turned k turn = behind k (all_lies k [] turn.lies) turn.era turn.row

abbrev pub TurnsPass : Known → List Turn → Type 0
TurnsPass k [] = ⊤
TurnsPass k (turn ∷ turns) =
    LiesPass k [] turn.lies × BehindPass k (all_lies k [] turn.lies) turn.era turn.row
    × TurnsPass (turned k turn) turns

abbrev pub followed : Known → List Turn → Verdict
followed k [] = verdict_now k
followed k (turn ∷ turns) = followed (turned k turn) turns

-- ---- the number of the configuration

pub at_put_all : (k : Known) (puts : List Put) → (put_all k puts).at ≡ k.at
at_put_all k [] = refl
at_put_all k (put ∷ puts) = at_put_all (put_state k put.node put.digits) puts

pub at_behind : (k : Known) (told : List State) (era : Option Era) (row : List (Option ℕ))
    → (behind k told era row).at ≡ k.at + 1
at_behind k told None row = refl
at_behind k told (Some era) row = at_put_all (renewed k era.faulty told) era.starts

-- ---- each section is passed

pub puts_read : (k : Known) (unknown : List ℕ) (from : ℕ) (puts : List Put) (row : List (Option ℕ))
    (rest : List Item)
    → PutsPass k unknown from puts row
    → accepts (putting k unknown from) (map start_of puts ++ (row_item k.at row ∷ rest))
    ≡ accepts (telling (compared (put_all k puts) row) []) rest
puts_read k unknown from [] row rest p =
    passes (first_row_fits k unknown from k.at row) (telling (compared k row) []) rest p
puts_read k unknown from (put ∷ puts) row rest p =
    passes (start_fits k unknown from put.node put.digits)
    (putting (put_state k put.node put.digits) unknown (put.node + 1)) _ p.0
    ∙ puts_read (put_state k put.node put.digits) unknown (put.node + 1) puts row rest p.1

pub lies_read : (k : Known) (told : List State) (lies : List Lie) (rest : List Item)
    → LiesPass k told lies
    → accepts (telling k told) (map lie_of lies ++ rest)
    ≡ accepts (telling k (all_lies k told lies)) rest
lies_read k told [] rest p = refl
lies_read k told (lie ∷ lies) rest p =
    passes (lie_fits k told lie.sender lie.receiver lie.digits)
    (telling k (told ++ lie_state k lie ∷ [])) _ p.0
    ∙ lies_read k (told ++ lie_state k lie ∷ []) lies rest p.1

pub behind_read : (k : Known) (told : List State) (era : Option Era) (row : List (Option ℕ))
    (rest : List Item)
    → BehindPass k told era row
    → accepts (telling k told) (era_items (k.at + 1) era ++ (row_item (k.at + 1) row ∷ rest))
    ≡ accepts (telling (behind k told era row) []) rest
behind_read k told None row rest p =
    passes (next_row_fits k told (k.at + 1) row)
    (telling (compared (moved k k.stand.faulty told) row) []) rest p
behind_read k told (Some era) row rest p =
    passes (era_fits k told (k.at + 1) era.faulty)
    (putting (renewed k era.faulty told) k.stand.faulty 0) _ p.0
    ∙ puts_read (renewed k era.faulty told) k.stand.faulty 0 era.starts row rest p.1

pub turns_pass : (k : Known) (turns : List Turn) → TurnsPass k turns
    → accepts (telling k []) (turns_items (k.at + 1) turns) ≡ Some (followed k turns)
turns_pass k [] p = refl
turns_pass k (turn ∷ turns) p =
    lies_read k [] turn.lies _ p.0
    ∙ behind_read k (all_lies k [] turn.lies) turn.era turn.row _ p.1
    ∙ ap (λ t. accepts (telling (turned k turn) []) (turns_items (t + 1) turns))
    (sym (at_behind k (all_lies k [] turn.lies) turn.era turn.row))
    ∙ turns_pass (turned k turn) turns p.2
