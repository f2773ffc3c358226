-- A row that is compared with what a configuration shows, word by word.
use Rattle.std.specs.Prelude.{ℕ, zero, suc, ◌+◌, ◌&&◌, List, [], ◌∷◌, map, not, nat_eq, Bool, true}
use Rattle.std.specs.Prelude.{Option, Some, None, if◌then◌else◌}
use Rattle.std.specs.Option.{is_some}
use Rattle.std.specs.List.{range_with_len}
use Rattle.sync_types.specs.States.{State}
use Rattle.sync_types.specs.FaultSets.{is_in}
use Rattle.construction.specs.Shown.{shown}
use Rattle.construction.specs.Steps.{state_of}
use Rattle.run_checker.specs.Items.{value_said}
use Rattle.run_checker.specs.Stated.{same_rows}
use Rattle.run_checker.specs.Checking.{same_marks}

module _ (depth : ℕ) (faulty : List ℕ) (config : List State) where
  -- what the word of node v has to say
  abbrev pub shown_at : ℕ → Option ℕ
  shown_at v = if is_in faulty v then None else Some (shown depth (state_of config v))

  -- whether a row of the m nodes from v on is what they show; None if it does not have a number for
  -- exactly the correct ones
  abbrev pub compared_from : (v m : ℕ) → List (Option ℕ) → Option Bool
  compared_from v m row =
      if same_marks (map is_some row) (map (λ v. not (is_in faulty v)) (range_with_len v m))
      then Some (same_rows row (map shown_at (range_with_len v m)))
      else None

  -- the same of all n nodes, if the words say a row
  abbrev pub row_compared : (n : ℕ) → Option (List (Option ℕ)) → Option Bool
  row_compared n None = None
  row_compared n (Some row) = compared_from 0 n row

-- whether a word says what its node shows; None if just one of the two has a number
abbrev pub value_compared : (said shown : Option ℕ) → Option Bool
value_compared None None = Some true
value_compared (Some a) (Some b) = Some (nat_eq a b)
value_compared said shown = None

abbrev pub word_compared : (said : Option (Option ℕ)) → (shown : Option ℕ) → Option Bool
word_compared None shown = None
word_compared (Some said) shown = value_compared said shown

abbrev pub behind_word : Option Bool → (Bool → Option Bool) → Option Bool
behind_word None behind = None
behind_word (Some same) behind = behind same

module _ (depth : ℕ) (faulty : List ℕ) (config : List State) where
  -- the words of the m nodes from v on, after words that were the same or not
  abbrev pub words_compared : (v m : ℕ) → (same : Bool) → List (List ℕ) → Option Bool
  words_compared v zero same [] = Some same
  words_compared v zero same (w ∷ ws) = None
  words_compared v (suc m) same [] = None
  words_compared v (suc m) same (w ∷ ws) =
      behind_word (word_compared (value_said w) (shown_at depth faulty config v))
      (λ now. words_compared (v + 1) m (same && now) ws)
