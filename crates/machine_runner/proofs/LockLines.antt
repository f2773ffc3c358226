-- The lines of the first locked configurations.
use Rattle.std.proofs.Common.{◌≡◌, ◌≢◌, ℕ, ◌+◌, Bool, cond, List, length, Option}
use Rattle.std.proofs.Common.{sym, ap, ◌∙◌}
use Rattle.std.specs.List.{flat_map, range_with_len}
use Rattle.std.proofs.lemmas.Bool.{eq-eqb, ne_eqb}
use Rattle.adversary_script.specs.Scripts.{Script}
use Rattle.machine_runner.specs.RunTexts.{locked_line, era_line, lock_lines}

module _ (script : Script) (lock_of_era : ℕ → Option ℕ) (version : ℕ)
    (is : version ≡ script.version) where
  abbrev pub all_eras : List ℕ
  all_eras = flat_map (era_line script lock_of_era) (range_with_len 0 (length script.eras + 1))

  -- for a script of version 1 there is one line
  pub one_line : version ≡ 1 → locked_line (lock_of_era 0) ≡ lock_lines script lock_of_era
  one_line first =
      ap (λ (b : Bool). cond b (locked_line (lock_of_era 0)) all_eras)
      (sym (eq-eqb script.version 1 (sym is ∙ first)))

  -- else there is one for each era
  pub many : (version ≢ 1) → all_eras ≡ lock_lines script lock_of_era
  many further =
      ap (λ (b : Bool). cond b (locked_line (lock_of_era 0)) all_eras)
      (sym (ne_eqb script.version 1 (λ one. further (is ∙ one))))
