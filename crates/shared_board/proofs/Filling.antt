-- Columns of one more level.
use Rattle.std.proofs.Common.{◌≡◌, ℕ, ◌+◌, ◌<◌, List, [], length, map, set, sym, ap, ◌∙◌, subst}
use Rattle.std.proofs.Common.{⊎_elim, arith}
use Rattle.std.proofs.lemmas.Bool.{cases_lt}
use Rattle.std.proofs.lemmas.List.{map-set, get_or-set_other}
use Rattle.std.proofs.lemmas.Grind.{get_or-set_at}
use Rattle.sync_types.specs.declared.states.Reg.{Reg}
use Rattle.sync_types.specs.States.{State}
use Rattle.shared_board.specs.Boards.{AreFilled, registers_of, outputs_of}

pub filled_more : (states : List State) (columns : List (List Reg)) (shows : List (List ℕ)) (l : ℕ)
    (r : List Reg) (o : List ℕ) → l < length columns → l + 1 < length shows
    → r ≡ registers_of l states → o ≡ outputs_of l states → AreFilled states columns shows l
    → AreFilled states (set columns l r) (set shows (l + 1) o) (l + 1)
filled_more states columns shows l r o deep many is shown filled = record {
  numbers = get_or-set_other shows (l + 1) 0 o [] (λ (e : 0 ≡ l + 1). omega arith) ∙ filled.numbers;
  registers = λ j lt. ⊎_elim
      (λ less. get_or-set_other columns l j r [] (λ (e : j ≡ l). omega arith)
      ∙ filled.registers j less)
      (λ le. let e : j ≡ l = omega arith in
      get_or-set_at columns l j r [] e deep ∙ (is ∙ ap (λ k. registers_of k states) (sym e)))
      (cases_lt j l);
  outputs = λ j lt. ⊎_elim
      (λ less. get_or-set_other shows (l + 1) (j + 1) o [] (λ (e : j + 1 ≡ l + 1). omega arith)
      ∙ filled.outputs j less)
      (λ le. let e : j ≡ l = omega arith in
      get_or-set_at shows (l + 1) (j + 1) o [] (omega arith) many
      ∙ (shown ∙ ap (λ k. outputs_of k states) (sym e)))
      (cases_lt j l);
}

-- the same of columns that are held in some way
pub filled_set : {R S : Type 0} → (ri : R → List Reg) (si : S → List ℕ) (states : List State)
    (columns : List R) (shows : List S) (l : ℕ) (r : R) (o : S) → l < length (map ri columns)
    → l + 1 < length (map si shows) → ri r ≡ registers_of l states → si o ≡ outputs_of l states
    → AreFilled states (map ri columns) (map si shows) l
    → AreFilled states (map ri (set columns l r)) (map si (set shows (l + 1) o)) (l + 1)
filled_set ri si states columns shows l r o deep many is shown filled =
    subst (λ cs. AreFilled states cs (map si (set shows (l + 1) o)) (l + 1))
    (sym (map-set ri columns l r))
    (subst (λ os. AreFilled states (set (map ri columns) l (ri r)) os (l + 1))
    (sym (map-set si shows (l + 1) o))
    (filled_more states (map ri columns) (map si shows) l (ri r) (si o) deep many is shown filled))
